use Rattle.std.proofs.Common.{arith, refl, ℕ, map, ap, ◌∙◌}
use Rattle.std.proofs.lemmas.List.{take_all}
use Rattle.lower_arrays.specs.Dictionaries.{DictionarySeen}
use Rattle.lower_compute.proofs.Steps.{pushed}
use Rattle.lower_compute.proofs.dictionaries.at_start.Goals as goal

pub loop-array-preserved : goal.loop-array-preserved
loop-array-preserved c =
    let x = c.array-item.result in
    pushed {Z = ℕ × DictionarySeen} (λ p. (p.0, p.1.now)) (λ a. (0, a.now)) c.loop-array.all.items c.push.new.self.items (0, x) c.args.arrays.now c.loop-array.array-index x
    (omega (arith, c.loop-array-test.true)) c.array-item.is c.in_ok-push.ensures.items refl c.loop-array.invariant

pub returns : goal.returns
returns c =
    let arrays = c.args.arrays.now in
    c.loop-array.invariant ∙ ap (map {B = ℕ × DictionarySeen} (λ a. (0, a.now))) (take_all c.loop-array.array-index arrays (omega (arith, c.loop-array-test.false)))
