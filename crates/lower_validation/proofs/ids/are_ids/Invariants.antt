use Rattle.std.proofs.Common.{◌≡◌, ℕ, pos, ◌<◌, get_or}
use Rattle.lower_validation.specs.Keys.{KeyFits}
use Rattle.lower_validation.specs.Ids.{place_among}
use Rattle.lower_validation.proofs.ids.are_ids.Given as goal

abbrev pub invariant-loop-index : goal.invariant-loop-index
invariant-loop-index l = record {
  range : (k : ℕ) → k < l.index → KeyFits (get_or l.ids k (pos 0)) 127;
  first : (k : ℕ) → k < l.index → place_among (get_or l.ids k (pos 0)) l.ids ≡ k;
}
