use Rattle.std.proofs.Common.{rules, Ok, Err}
use Rattle.ipc_devices.specs.declared.fault.Fault.TheVariants.{OutOfSpec}
use Rattle.ipc_devices.specs.declared.fault.OutOfSpecKind.TheVariants.{InvalidFlatbufferMessage}
use Rattle.ipc_readers.specs.Messages.{opened}
use Rattle.ipc_readers.proofs.Openings.{gives_message}
use Rattle.ipc_readers.proofs.read.message.open_message.Goals as goal

pub returns-in-Err-clause-message : goal.returns-in-Err-clause-message
unfolding opened
returns-in-Err-clause-message c = gives_message c.args.metadata.now (Err (OutOfSpec (InvalidFlatbufferMessage c.in-Err.e))) (search rules)

pub returns-in_err-header-clause-message : goal.returns-in_err-header-clause-message
unfolding opened
returns-in_err-header-clause-message c = gives_message c.args.metadata.now c.from_residual.result (search rules)

pub returns-in_err-body_length-clause-message : goal.returns-in_err-body_length-clause-message
unfolding opened
returns-in_err-body_length-clause-message c = gives_message c.args.metadata.now c.from_residual-in_err-body_length.result (search rules)

pub returns-clause-message : goal.returns-clause-message
unfolding opened
returns-clause-message c = gives_message c.args.metadata.now (Ok (record { header = c.in_ok-header.header; body_length = c.in_ok-body_length.body_length })) (search rules)

pub returns-clause-exact : goal.returns-clause-exact
unfolding opened
returns-clause-exact c = search rules
