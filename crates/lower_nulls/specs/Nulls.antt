-- Arrays of null slots, and the types that have arrays.
-- (Arrow columnar format, "Physical Memory Layout".)
use Rattle.std.specs.Prelude.{◌≡◌, ℕ, ℤ, pos, ◌*◌, ◌^◌, ◌<◌, ◌≤◌, max, ◌∷◌, Some}
use Rattle.lower.specs.TypeTrees.{Plain, float16, float32, float64, fixed_binary, Single, fixed_list, entries, Group, structure, choice, TypeTree, plain, single, group, dictionary, extension, FieldTree, field, FieldTrees, no_fields, more_fields}
use Rattle.lower_arrays.specs.Layouts.{Layout, len_of, type_of}
use Rattle.lower_arrays.specs.Slots.{Slot, null_slot, variant_slot, slot_at}
use Rattle.lower_validation.specs.Fields.{field_type, field_count, IsPair}
use Rattle.lower_validation.specs.Ids.{TypeIds, IdsFit}
use Rattle.lower_validation.specs.Rules.{IsCount}
use Rattle.lower_nulls.specs.declared.error.NullError.{NullError}
use Rattle.lower_nulls.specs.declared.error.NullError.TheVariants.{Memory, DataType, Length}

-- The type id of a union's first child: the first of its ids, or 0 if it has none.
abbrev pub first_id : TypeIds → ℤ
first_id (Some (z ∷ zs)) = z
first_id _ = pos 0

abbrev mutual
  -- A null slot of a type. A union has no validity of its own: its null slot is one of its first
  -- child. ("Union Layout".)
  pub null_of : TypeTree → Slot
  null_of (plain p) = null_slot
  null_of (single s f) = null_slot
  null_of (group structure fs) = null_slot
  null_of (group (choice ids mode) fs) = variant_slot (first_id ids) (first_null fs)
  null_of (dictionary keys t ordered) = null_slot
  null_of (extension name t text) = null_of t

  -- A null slot of the first field.
  pub first_null : FieldTrees → Slot
  first_null no_fields = null_slot
  first_null (more_fields f fs) = field_null f

  -- A null slot of a field.
  pub field_null : FieldTree → Slot
  field_null (field name t nullable metadata) = null_of t

-- An array of n null slots of a type.
pub record AreNulls (t : TypeTree) (n : ℕ) (l : Layout) : Type 0 where
  pub type : type_of l ≡ t
  pub len : len_of l ≡ n
  pub each : (i : ℕ) → i < n → slot_at l i ≡ null_of t

-- A type without children has arrays: it is no float, and byte strings of one length aren't empty.
abbrev pub PlainFits : Plain → Type 0
PlainFits float16 = ⊥
PlainFits float32 = ⊥
PlainFits float64 = ⊥
PlainFits (fixed_binary size) = 0 < size
PlainFits _ = Unit {0}

-- Lists of one length aren't empty, and a map has pairs.
abbrev pub SingleFits : Single → TypeTree → Type 0
SingleFits (fixed_list size) t = 0 < size
SingleFits (entries sorted) t = IsPair t
SingleFits _ t = Unit {0}

-- A struct has a child, and a union 1 to 127 with distinct type ids.
abbrev pub GroupFits : Group → ℕ → Type 0
GroupFits structure n = 0 < n
GroupFits (choice ids mode) n = IsCount n × IdsFit ids n

abbrev mutual
  -- There are arrays of the type.
  pub HasArrays : TypeTree → Type 0
  HasArrays (plain p) = PlainFits p
  HasArrays (single s f) = SingleFits s (field_type f) × FieldHasArrays f
  HasArrays (group g fs) = GroupFits g (field_count fs) × AllHaveArrays fs
  HasArrays (dictionary keys t ordered) = HasArrays t
  HasArrays (extension name t text) = HasArrays t

  -- There are arrays of the field's type.
  pub FieldHasArrays : FieldTree → Type 0
  FieldHasArrays (field name t nullable metadata) = HasArrays t

  -- There are arrays of each field's type.
  pub AllHaveArrays : FieldTrees → Type 0
  AllHaveArrays no_fields = Unit {0}
  AllHaveArrays (more_fields f fs) = FieldHasArrays f × AllHaveArrays fs

-- How many bytes n byte strings of one length have.
abbrev pub plain_room : ℕ → Plain → ℕ
plain_room n (fixed_binary size) = n * size
plain_room n _ = 0

abbrev mutual
  -- The most bytes, or slots of a child, that n slots of a fixed size take, at any level. Null
  -- lists of any length, and null keys, have no values.
  pub most_room : ℕ → TypeTree → ℕ
  most_room n (plain p) = plain_room n p
  most_room n (single (fixed_list size) f) = max (n * size) (field_room (n * size) f)
  most_room n (single s f) = field_room 0 f
  most_room n (group g fs) = fields_room n fs
  most_room n (dictionary keys t ordered) = most_room 0 t
  most_room n (extension name t text) = most_room n t

  -- The same of n slots of a field.
  pub field_room : ℕ → FieldTree → ℕ
  field_room n (field name t nullable metadata) = most_room n t

  -- The same of n slots of each field.
  pub fields_room : ℕ → FieldTrees → ℕ
  fields_room n no_fields = 0
  fields_room n (more_fields f fs) = max (field_room n f) (fields_room n fs)

-- Why there is no array of n null slots of a type: memory is missing, no array has the type, or
-- slots of a fixed size take more than 64 bits can count.
abbrev pub NoNulls : TypeTree → ℕ → NullError → Type 0
NoNulls t n Memory = Unit {0}
NoNulls t n DataType = ¬ (HasArrays t)
NoNulls t n Length = 2 ^ 64 ≤ most_room n t

-- Why there is no array without slots.
abbrev pub NoEmpty : TypeTree → NullError → Type 0
NoEmpty t Memory = Unit {0}
NoEmpty t DataType = ¬ (HasArrays t)
NoEmpty t Length = ⊥
