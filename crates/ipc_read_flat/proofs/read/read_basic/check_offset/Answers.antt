use Rattle.std.proofs.Common.{rules, ◌≡◌}
use Rattle.ipc_devices.specs.Faults.{OwnFault}
use Rattle.ipc_model.specs.Entries.{IsSize}
use Rattle.ipc_read_flat.specs.Bodies.{entries}
use Rattle.ipc_read_flat.specs.Refusals.{TellsEntries}
use Rattle.ipc_read_flat.proofs.Fetches.{failing}
use Rattle.ipc_read_flat.proofs.Reasons.{offset_fetched}
use Rattle.ipc_read_flat.proofs.read.read_basic.check_offset.Goals as goal

pub returns-in_err-natural-clause-tells : goal.returns-in_err-natural-clause-tells
returns-in_err-natural-clause-tells g c =
    let fault = c.in_err-natural.field-0.0 in
    let denied : OwnFault fault (IsSize c.get.result.offset → ⊥) = search rules in
    failing c.from_residual.result fault (λ e. OwnFault e (TellsEntries g.R.Failures.device.is_memory (entries g.R.Failures.device c.args.body.now) e)) c.from_residual.ensures
    (offset_fetched g.R.Failures.device c.args.body.now c.args.index c.get.result c.requires.inside c.get.ensures fault c.in_err-natural.ensures.only denied)
