use Rattle.std.proofs.Common.{rules, Ok, Err}
use Rattle.ipc_devices.specs.declared.fault.Fault.TheVariants.{OutOfSpec}
use Rattle.ipc_devices.specs.declared.fault.OutOfSpecKind.TheVariants.{InvalidFlatbufferMessage}
use Rattle.ipc_files.specs.Blocks.{opened_message}
use Rattle.ipc_files.proofs.BlockHeaders.{gives-message}
use Rattle.ipc_files.proofs.read.file.block.open_message.Goals as goal

pub returns-in-Err-clause-meaning : goal.returns-in-Err-clause-meaning
unfolding opened_message
returns-in-Err-clause-meaning c = gives-message c.args.metadata.now (Err (OutOfSpec (InvalidFlatbufferMessage c.in-Err.e))) (search rules)

pub returns-in_err-header-clause-meaning : goal.returns-in_err-header-clause-meaning
unfolding opened_message
returns-in_err-header-clause-meaning c = gives-message c.args.metadata.now c.from_residual.result (search rules)

pub returns-in_err-version-clause-meaning : goal.returns-in_err-version-clause-meaning
unfolding opened_message
returns-in_err-version-clause-meaning c = gives-message c.args.metadata.now c.from_residual-in_err-version.result (search rules)

pub returns-clause-meaning : goal.returns-clause-meaning
unfolding opened_message
returns-clause-meaning c = gives-message c.args.metadata.now (Ok (record { header = c.in_ok-header.header; version = c.in_ok-version.version })) (search rules)
