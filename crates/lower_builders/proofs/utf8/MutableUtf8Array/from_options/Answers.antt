use Rattle.std.proofs.Common.{arith, ◌<◌, length}
use Rattle.std.specs.Option.{option_copied}
use Rattle.std.proofs.lemmas.List.{get_or_default}
use Rattle.std.proofs.lemmas.Result.{err_from_is_err_and}
use Rattle.lower_builders.proofs.SlotRuns.{runs_miss}
use Rattle.lower_builders.proofs.utf8.MutableUtf8Array.from_options.Goals as goal

pub returns-in_err-push : goal.returns-in_err-push
returns-in_err-push g c =
    let xs = c.args.slots.now in
    let i = c.loop-slot.slot-index in
    let below : i < length xs = omega arith in
    let p = err_from_is_err_and c.from_residual-in_err-push.result c.from_residual-in_err-push.ensures.1 in
    rw (p.1, p.2) (runs_miss option_copied xs i _ c.loop-slot.array below (get_or_default xs i _ _ below) c.loop-slot.invariant g.O.Offset.limit c.in_err-push.field-0.0 c.in_err-push.ensures.1)
