use Rattle.std.proofs.Common.{arith, rules, below_more}
use Rattle.lower_validation.proofs.keys.are_places.Goals as goal
use Rattle.lower_validation.proofs.keys.are_places.Goals.{then-not-is_place, else-not-is_place}

pub loop-index-preserved : goal.loop-index-preserved
loop-index-preserved g c =
    let few = c.loop-index.invariant.few in
    elim c.if-not-is_place.branch [
      | then-not-is_place w ↦
          let more = w.others-is in
          record { few = omega (arith, few, more); fit = (λ none. absurd (omega (arith, none, more)), λ fit. absurd (search rules)) }
      | else-not-is_place w ↦
          let same = w.others-is in
          record { few = omega (arith, few, same); fit = (λ none. below_more _ _ (c.loop-index.invariant.fit.0 (omega (arith, none, same))) (search rules), λ fit. search rules) }
    ]
