use Rattle.std.proofs.Common.{arith, ◌≡◌, ◌≤◌, length, false, subst}
use Rattle.std.proofs.lemmas.Grind.{common_steps}
use Rattle.std.specs.Prelude.{None, is_some}
use Rattle.std.specs.List.{All}
use Rattle.std.proofs.lemmas.List.{take_all}
use Rattle.lower_compute.proofs.Steps.{all_more_read, none_of}
use Rattle.lower_compute.proofs.bits.has_none.Goals as goal

pub loop-bitmap-preserved : goal.loop-bitmap-preserved
loop-bitmap-preserved c =
    let x = c.bitmap-item.result in
    let unset : is_some x ≡ false = grind (arith, common_steps) in
    all_more_read (λ b. b ≡ None) c.args.bitmaps.now c.loop-bitmap.bitmap-index x (omega (arith, c.loop-bitmap-test.true)) c.bitmap-item.is
    c.loop-bitmap.invariant (none_of x unset)

pub returns : goal.returns
returns c =
    let over : length c.args.bitmaps.now ≤ c.loop-bitmap.bitmap-index = omega (arith, c.loop-bitmap-test.false) in
    λ _. subst (All (λ b. b ≡ None)) (take_all c.loop-bitmap.bitmap-index c.args.bitmaps.now over) c.loop-bitmap.invariant
