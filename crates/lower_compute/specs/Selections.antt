-- Selected slots of an array.
use Rattle.std.specs.Prelude.{ℕ, List, Bool, false, ◌&&◌, get_or, length}
use Rattle.std.specs.List.{filter, range_with_len}
use Rattle.lower_flat_arrays.specs.Validities.{is_valid}
use Rattle.lower_flat_arrays.specs.Booleans.{BooleanSeen}

-- The mask is true at i; a null is false.
abbrev pub is_true_at : BooleanSeen → ℕ → Bool
is_true_at mask i = is_valid mask.validity i && get_or mask.values i false

-- The indices at which the mask is true.
abbrev pub true_indices : BooleanSeen → List ℕ
true_indices mask = filter (is_true_at mask) (range_with_len 0 (length mask.values))
