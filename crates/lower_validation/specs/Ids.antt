-- The type ids of a union's children, and of its slots.
-- (Arrow columnar format, "Union Layout".)
use Rattle.std.specs.Prelude.{◌≡◌, ◌≢◌, ℕ, ℤ, pos, ◌+◌, ◌<◌, List, [], ◌∷◌, Option, Some, None, cond, get_or, length}
use Rattle.std.specs.Ordering.{int_eq}
use Rattle.lower.specs.TypeTrees.{TypeTree, group, choice}
use Rattle.lower.specs.Physical.{logical}
use Rattle.lower.specs.declared.datatypes.UnionMode.{UnionMode}
use Rattle.lower.specs.declared.datatypes.UnionMode.TheVariants.{Dense, Sparse}
use Rattle.lower_validation.specs.Keys.{place_of, KeyFits}

-- The type ids of the children, if the type has any.
abbrev pub TypeIds : Type 0
TypeIds = Option (List ℤ)

-- The type ids of a union type that is no extension.
abbrev pub named_ids : TypeTree → TypeIds
named_ids (group (choice ids mode) fs) = ids
named_ids _ = None

-- The type ids of a union type, without its extensions.
abbrev pub union_ids : TypeTree → TypeIds
union_ids t = named_ids (logical t)

-- The mode of a union type that is no extension.
abbrev pub named_mode : TypeTree → UnionMode
named_mode (group (choice ids mode) fs) = mode
named_mode _ = Sparse

-- The mode of a union type, without its extensions.
abbrev pub union_mode : TypeTree → UnionMode
union_mode t = named_mode (logical t)

-- The index of the first z.
abbrev pub place_among : ℤ → List ℤ → ℕ
place_among z [] = 0
place_among z (x ∷ xs) = cond (int_eq x z) 0 (place_among z xs + 1)

-- The index of the child that a type id names: its index among the ids, or
-- the id itself if there are none.
abbrev pub child_number : TypeIds → ℤ → ℕ
child_number None z = place_of z
child_number (Some ids) z = place_among z ids

-- A type id names one of n children.
abbrev pub NamesChild : TypeIds → ℕ → ℤ → Type 0
NamesChild None n z = KeyFits z n
NamesChild (Some ids) n z = place_among z ids < n

-- Type ids for n children: distinct, from 0 to 126.
pub record AreIds (ids : List ℤ) (n : ℕ) : Type 0 where
  pub count : length ids ≡ n
  pub range : (i : ℕ) → i < length ids → KeyFits (get_or ids i (pos 0)) 127
  pub distinct : (i j : ℕ) → i < j → j < length ids → get_or ids i (pos 0) ≢ get_or ids j (pos 0)

-- The type ids, if there are any, are valid for n children.
abbrev pub IdsFit : TypeIds → ℕ → Type 0
IdsFit None n = Unit {0}
IdsFit (Some ids) n = AreIds ids n

-- The type id of each slot names one of n children.
pub record AreNamed (ids : TypeIds) (ts : List ℤ) (n : ℕ) : Type 0 where
  pub each : (i : ℕ) → i < length ts → NamesChild ids n (get_or ts i (pos 0))

-- A dense union has an offset for each slot, a sparse one none.
abbrev pub OffsetsGiven : UnionMode → Option (List ℤ) → ℕ → Type 0
OffsetsGiven Dense (Some os) n = length os ≡ n
OffsetsGiven Sparse None n = Unit {0}
OffsetsGiven _ _ n = ⊥
