use Rattle.std.proofs.Common.{◌≡◌, ℕ, pos, ◌<◌, ◌≤◌, ◌↔◌, get_or, map}
use Rattle.lower_validation.specs.Keys.{KeyFits}
use Rattle.lower_validation.proofs.keys.are_places.Given as goal

abbrev pub invariant-loop-index : goal.invariant-loop-index
invariant-loop-index g l = record {
  few : l.others ≤ l.index;
  fit : l.others ≡ 0 ↔ ((k : ℕ) → k < l.index → KeyFits (get_or (map g.K.DictionaryKey.integer l.keys) k (pos 0)) l.len);
}
