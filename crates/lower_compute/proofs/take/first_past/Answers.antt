use Rattle.std.proofs.Common.{arith, ◌<◌, length, get_or, subst}
use Rattle.std.specs.List.{All}
use Rattle.std.proofs.lemmas.List.{get_or_default, take_all}
use Rattle.lower_compute.proofs.Steps.{all_more_read}
use Rattle.lower_compute.proofs.take.first_past.Goals as goal

pub loop-position-preserved : goal.loop-position-preserved
loop-position-preserved c =
    let is = c.args.indices.now in
    let k = c.loop-position.position in
    let h : k < length is = omega (arith, c.loop-position-test.true) in
    let x = get_or is k 0 in
    all_more_read (λ i. i < c.args.len) is k x h (get_or_default is k 0 x h) c.loop-position.invariant c.if-indices-position.false

pub returns : goal.returns
returns c =
    let is = c.args.indices.now in
    subst (All (λ i. i < c.args.len)) (take_all c.loop-position.position is (omega (arith, c.loop-position-test.false))) c.loop-position.invariant
