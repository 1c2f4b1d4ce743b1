use Rattle.std.proofs.Common.{rules, below_more}
use Rattle.lower_validation.proofs.keys.valid_keys_fit.Goals as goal
use Rattle.lower_validation.proofs.keys.valid_keys_fit.Goals.{else-is_valid-via-then-is_valid+else-not-is_place, else-is_valid-via-else-is_valid}

pub loop-index-preserved : goal.loop-index-preserved
loop-index-preserved g c =
    below_more _ _ c.loop-index.invariant
    (elim c.else-is_valid.branch [
      | else-is_valid-via-then-is_valid+else-not-is_place w ↦ λ h. search rules
      | else-is_valid-via-else-is_valid w ↦ λ h. absurd (search rules)
    ])
