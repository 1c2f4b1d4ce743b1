use Rattle.std.proofs.Common.{arith, ◌+◌, ◌<◌, Global, String, length, subst}
use Rattle.std.specs.Prelude.{Some, string_bytes}
use Rattle.std.proofs.lemmas.Result.{err_from_is_err_and}
use Rattle.lower_builders.specs.Growing.{CantReach}
use Rattle.lower_builders.specs.Bytes.{byte_count}
use Rattle.lower_builders.proofs.SlotRuns.{runs_miss}
use Rattle.lower_dictionary_builders.proofs.utf8.texts_of.Goals as goal

pub returns-in_err-push-clause-error : goal.returns-in_err-push-clause-error
returns-in_err-push-clause-error c =
    let xs = c.args.texts.now in
    let i = c.loop-text.text-index in
    let below : i < length xs = omega arith in
    let p = err_from_is_err_and c.from_residual-in_err-push.result c.from_residual-in_err-push.ensures.1 in
    let misses = subst (λ b. CantReach 2147483648 (byte_count c.loop-text.array + length b) c.in_err-push.field-0.0) c.as_str.ensures.value c.in_err-push.ensures.1 in
    rw (p.1, p.2) (runs_miss (λ (t : String Global). Some (string_bytes t)) xs i c.text-item.result c.loop-text.array below c.text-item.is c.loop-text.invariant 2147483648 c.in_err-push.field-0.0 misses)
