use Rattle.std.proofs.Common.{arith, ◌≡◌, ℕ, ◌+◌, replicate, ap, sym, subst, ◌∙◌}
use Rattle.lower.specs.Offsets.{AreOffsets}
use Rattle.lower_nulls.proofs.Replicas.{are_offsets, places_are}
use Rattle.lower_nulls.proofs.parts.zero_offsets.Goals as goal

pub unreachable-requires-in-Err : goal.unreachable-requires-in-Err
unreachable-requires-in-Err g c =
    let integer = g.O.Offset.integer in
    let z = c.in-Some-from_usize.zero in
    let is = c.in_ok-offsets.ensures ∙ c.in_ok-repeated.ensures in
    c.in-Err.ensures.exact (subst (λ xs. AreOffsets integer xs) (sym is) (are_offsets integer z c.in-Some-from_usize.ensures.0 c.in-Some.count (omega (arith, c.in-Some.ensures.1))))

pub returns : goal.returns
returns g c =
    let integer = g.O.Offset.integer in
    let z = c.in-Some-from_usize.zero in
    let count : c.in-Some.count ≡ c.args.len + 1 = omega (arith, c.in-Some.ensures.1) in
    places_are integer z c.in-Some-from_usize.ensures.0 (c.args.len + 1) c.in-Ok.offsets c.in_ok-offsets.offsets c.in-Ok.ensures.exact.0
    (c.in_ok-offsets.ensures ∙ c.in_ok-repeated.ensures ∙ ap (λ (k : ℕ). replicate k z) count)
