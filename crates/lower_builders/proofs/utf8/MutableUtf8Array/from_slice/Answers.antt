use Rattle.std.proofs.Common.{arith, ℕ, ◌<◌, List, length, ◌∙◌}
use Rattle.std.specs.Prelude.{Some}
use Rattle.std.specs.Borrow.{Bor}
use Rattle.std.proofs.lemmas.List.{get_or_default}
use Rattle.std.proofs.lemmas.Result.{err_from_is_err_and}
use Rattle.lower_builders.proofs.SlotRuns.{runs_more, runs_miss}
use Rattle.lower_builders.proofs.utf8.MutableUtf8Array.from_slice.Goals as goal

pub returns-in_err-push : goal.returns-in_err-push
returns-in_err-push g c =
    let xs = c.args.values.now in
    let i = c.loop-value.value-index in
    let below : i < length xs = omega arith in
    let p = err_from_is_err_and c.from_residual-in_err-push.result c.from_residual-in_err-push.ensures.1 in
    rw (p.1, p.2) (runs_miss (λ (v : Bor (List ℕ)). Some v.now) xs i _ c.loop-value.array below (get_or_default xs i _ _ below) c.loop-value.invariant g.O.Offset.limit c.in_err-push.field-0.0 c.in_err-push.ensures.1)

pub loop-value-preserved : goal.loop-value-preserved
loop-value-preserved g c =
    let xs = c.args.values.now in
    let i = c.loop-value.value-index in
    let below : i < length xs = omega arith in
    c.in_ok-push.ensures ∙ runs_more (λ (v : Bor (List ℕ)). Some v.now) xs i _ c.loop-value.array below (get_or_default xs i _ _ below) c.loop-value.invariant
