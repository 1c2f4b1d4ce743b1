use Rattle.std.proofs.Common.{arith, ◌≡◌, ◌+◌, ◌-◌, ◌<◌, ◌≤◌, [], ◌∷◌, ◌++◌, length, take, get_or, ap, ◌∙◌}
use Rattle.std.specs.Prelude.{sum}
use Rattle.std.proofs.lemmas.List.{get_or_default}
use Rattle.std.proofs.lemmas.Result.{err_from_is_err_and}
use Rattle.lower_builders.specs.Growing.{last_end_of, offsets_by_lengths}
use Rattle.lower_builders.proofs.OffsetPushes.{misses_more}
use Rattle.lower_builders.proofs.Lengths.{lengths_more, lengths_all}
use Rattle.lower_builders.proofs.offsets.Offsets.try_from_lengths.Goals as goal

pub returns-in_err-try_push_usize : goal.returns-in_err-try_push_usize
returns-in_err-try_push_usize g c =
    let ns = c.args.lengths.now in
    let i = c.loop-len.len-index in
    let x = get_or ns i 0 in
    let h : i < length ns = omega arith in
    let all = lengths_all ns i x h (get_or_default ns i 0 x h) in
    let same : last_end_of c.loop-len.offsets ≡ last_end_of (offsets_by_lengths (take i ns)) = ap last_end_of c.loop-len.invariant in
    let le : last_end_of c.loop-len.offsets + x ≤ sum ns = omega (arith, all, same) in
    let p = err_from_is_err_and c.from_residual-in_err-try_push_usize.result c.from_residual-in_err-try_push_usize.ensures.1 in
    rw (p.1, p.2) (misses_more g.O.Offset.limit (last_end_of c.loop-len.offsets + x) (sum ns) c.in_err-try_push_usize.field-0.0 le c.in_err-try_push_usize.ensures.1)

pub loop-len-preserved : goal.loop-len-preserved
loop-len-preserved g c =
    let ns = c.args.lengths.now in
    let i = c.loop-len.len-index in
    let x = get_or ns i 0 in
    let h : i < length ns = omega arith in
    c.in_ok-try_push_usize.ensures.0
    ∙ ap (λ os. os ++ (last_end_of os + x) ∷ []) c.loop-len.invariant
    ∙ lengths_more ns i x h (get_or_default ns i 0 x h)
