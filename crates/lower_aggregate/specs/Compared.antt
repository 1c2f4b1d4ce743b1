-- Comparisons of slots with a value.
-- (Arrow columnar format, "Validity bitmaps".)
use Rattle.std.specs.Prelude.{List, Bool, map}
use Rattle.std.specs.declared.cmp.Ordering.{Ordering}
use Rattle.std.specs.Ordering.{is_eq, is_ne, is_lt, is_le, is_gt, is_ge}
use Rattle.lower.specs.TypeTrees.{plain, boolean}
use Rattle.lower_flat_arrays.specs.Validities.{Validity}
use Rattle.lower_flat_arrays.specs.Booleans.{BooleanSeen, boolean_seen}
use Rattle.lower_aggregate.specs.declared.comparison.operator.Operator.{Operator}
use Rattle.lower_aggregate.specs.declared.comparison.operator.Operator.TheVariants.{Eq, Neq, Lt, LtEq, Gt, GtEq}

-- The orders that pass.
abbrev pub passes : Operator → Ordering → Bool
passes Eq = is_eq
passes Neq = is_ne
passes Lt = is_lt
passes LtEq = is_le
passes Gt = is_gt
passes GtEq = is_ge

-- Booleans that say of each value whether its order with y passes the test, null by the validity.
abbrev pub compared : {A : Type 0} → (Ordering → Bool) → (A → A → Ordering) → List A → A → Validity → BooleanSeen
compared test cmp xs y v = boolean_seen (plain boolean) (map (λ x. test (cmp x y)) xs) v
