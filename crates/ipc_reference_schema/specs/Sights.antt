-- What was read of a part of a schema message, with a limit on the number of fields.
-- (Arrow columnar format, "Schema message".)
use Rattle.std.specs.Prelude.{◌≡◌, ℕ, ◌+◌, ◌<◌, Bool, true, false, IfSome, IsSomeAnd, None, Option, Some}
use Rattle.ipc_model.specs.Schemas.{Read, ReadAll, ReadType, field_count, fields_count, inner_count}
use Rattle.ipc_reference_schema.specs.OtherTypes.{type_has_other, field_has_other, fields_have_other}
use Rattle.ipc_reference_schema.specs.declared.seen.Seen.{Seen}

-- How many fields a field has at all levels.
abbrev pub read_count : Read → ℕ
read_count x = field_count x.0

-- How many fields some fields have at all levels.
abbrev pub reads_count : ReadAll → ℕ
reads_count x = fields_count x.0

-- How many fields are below a type.
abbrev pub type_count : ReadType → ℕ
type_count x = inner_count x.0

-- A field has a type that the program doesn't know.
abbrev pub read_other : Read → Bool
read_other x = field_has_other x.0

-- One of these fields has a type that the program doesn't know.
abbrev pub reads_other : ReadAll → Bool
reads_other x = fields_have_other x.0

-- A type has another one in it that the program doesn't know.
abbrev pub type_other : ReadType → Bool
type_other x = type_has_other x.0

-- The value itself, or none if it has a type that the program doesn't know.
abbrev pub IsBare : {X Y : Type 0} → (X → Y) → (Y → Bool) → Option X → Y → Type 0
IsBare view other None y = other y ≡ true
IsBare view other (Some x) y = (other y ≡ false) × (y ≡ view x)

-- As many fields were counted as the value has.
abbrev pub IsSeen : {X Y : Type 0} → (X → Y) → (Y → Bool) → (Y → ℕ) → ℕ → Seen X → Y → Type 0
IsSeen view other count before s y = IsBare view other s.plain y × (before ≡ s.left + count y)

-- None: the bytes have no meaning, or more fields than the limit allows.
abbrev pub Sees : {X Y : Type 0} → (X → Y) → (Y → Bool) → (Y → ℕ) → ℕ → Option (Seen X) → Option Y → Type 0
Sees view other count before None meaning = IfSome meaning (λ y. before < count y)
Sees view other count before (Some s) meaning = IsSomeAnd meaning (IsSeen view other count before s)
