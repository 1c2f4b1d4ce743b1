use Rattle.std.proofs.Common.{◌≡◌, ℕ, pos, ◌<◌, true, get_or, map}
use Rattle.lower_flat_arrays.specs.Validities.{is_valid}
use Rattle.lower_validation.specs.Keys.{KeyFits}
use Rattle.lower_validation.proofs.keys.valid_keys_fit.Given as goal

abbrev pub invariant-loop-index : goal.invariant-loop-index
invariant-loop-index g l =
    (k : ℕ) → k < l.index → is_valid l.keys.validity k ≡ true
    → KeyFits (get_or (map g.K.DictionaryKey.integer l.keys.values) k (pos 0)) l.len
