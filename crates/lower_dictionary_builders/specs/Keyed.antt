-- Slots whose values are in a dictionary, each value once.
-- (Arrow columnar format, "Dictionary-encoded Layout".)
use Rattle.std.specs.Prelude.{◌≡◌, ℕ, ℤ, ◌<◌, get_or, List, [], ◌∷◌, ◌++◌, Bool, Option, Some, None, length, map, fold, slice_get, if◌then◌else◌, Result, MatchResult}
use Rattle.std.specs.List.{list_any, range_with_len}
use Rattle.lower.specs.TypeTrees.{plain}
use Rattle.lower.specs.Physical.{integer}
use Rattle.lower.specs.declared.datatypes.IntegerType.{IntegerType}
use Rattle.lower_flat_arrays.specs.Validities.{Validity}
use Rattle.lower_flat_arrays.specs.Options.{options}
use Rattle.lower_flat_arrays.specs.Spans.{span, span_count}
use Rattle.lower_arrays.specs.Layouts.{Layout, level, Parts, texts}
use Rattle.lower_validation.specs.Keys.{place_of, KeyFits, KeysSeen}
use Rattle.lower_builders.specs.declared.error.BuildError.{BuildError}
use Rattle.lower_builders.specs.declared.error.BuildError.TheVariants.{Memory, KeyOverflow}

-- The values, and the one of a slot unless it is null or equals one of them.
abbrev pub with_value : {A : Type 0} → (A → A → Bool) → List A → Option A → List A
with_value same seen None = seen
with_value same seen (Some x) = if list_any (same x) seen then seen else seen ++ x ∷ []

-- The values of slots, each once, in the order of their first slots.
abbrev pub values_among : {A : Type 0} → (A → A → Bool) → List (Option A) → List A
values_among same slots = fold (with_value same) [] slots

-- The value that a key selects; none for a null key.
abbrev pub value_of : {A : Type 0} → List A → Option ℤ → Option A
value_of values None = None
value_of values (Some z) = slice_get values (place_of z)

-- A key is null or the index of one of n values.
abbrev pub Selects : ℕ → Option ℤ → Type 0
Selects n None = Unit {0}
Selects n (Some z) = KeyFits z n

-- The keys that a builder keeps select values, and the values are those of the slots.
pub record AreKeyed {A : Type 0} (same : A → A → Bool) (all : List A) (keys : List (Option ℤ)) : Type 0 where
  pub each : (i : ℕ) → i < length keys → Selects (length all) (get_or keys i None)
  pub values : values_among same (map (value_of all) keys) ≡ all

-- An array of keys of a type, with these slots.
pub record AreKeysOf (key : IntegerType) (slots : List (Option ℤ)) (a : KeysSeen) : Type 0 where
  pub key_is : a.key ≡ key
  pub type : a.type ≡ plain (integer key)
  pub slots_are : options a.validity a.integers ≡ slots

-- Why the last slot isn't appended: with it there are more values than keys, or memory is missing.
abbrev pub CantNumber : {A : Type 0} → (A → A → Bool) → ℕ → List (Option A) → BuildError → Type 0
CantNumber same count slots Memory = Unit {0}
CantNumber same count slots KeyOverflow = count < length (values_among same slots)
CantNumber same count slots _ = ⊥

-- The slot is appended, or the slots stay as they were.
abbrev pub PushesValue : {A T : Type 0} → (A → A → Bool) → ℕ → Result T BuildError → List (Option A) → Option A → List (Option A) → Type 0
PushesValue same count r before slot after =
    MatchResult r (λ _. after ≡ before ++ slot ∷ []) (λ e. (after ≡ before) × CantNumber same count (before ++ slot ∷ []) e)

-- The slots of a level of texts; none if it has other parts.
abbrev pub texts_along : Validity → Parts → List (Option (List ℕ))
texts_along v (texts p os xs) = options v (map (span os xs) (range_with_len 0 (span_count os)))
texts_along v _ = []

-- The slots of an array of texts; none if it is no such array.
abbrev pub texts_in : Layout → List (Option (List ℕ))
texts_in l = texts_along (level l).validity (level l).parts
