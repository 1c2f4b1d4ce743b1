-- Which schemas can be written. The weight bounds the length of the schema's message, whatever its
-- encoding. For a file the footer's metadata weigh too.
-- (Arrow columnar format, "Schema message" and "Data Types"; the limits are this project's own.)
use Rattle.std.specs.Prelude.{◌≡◌, ℕ, ◌+◌, ◌*◌, ◌^◌, ◌<◌, ◌≤◌, List, [], ◌∷◌, length, Option, Some, None, AllPairs}
use Rattle.lower.specs.Counts.{fields_levels}
use Rattle.lower.specs.Normal.{norm, norm_fields}
use Rattle.lower.specs.TypeTrees.{Pairs, Plain, float16, float32, float64, time32, time64, timestamp, fixed_binary, decimal, decimal256, Single, fixed_list, entries, Group, structure, choice, TypeTree, plain, single, group, dictionary, extension, FieldTree, field, FieldTrees, no_fields, more_fields}
use Rattle.lower.specs.declared.datatypes.TimeUnit.TheVariants.{Second, Millisecond, Microsecond, Nanosecond}
use Rattle.ipc_base.specs.Fitting.{AllFit}
use Rattle.ipc_base.specs.IdTrees.{IdTrees}
use Rattle.ipc_model.specs.Batches.{Place, places}
use Rattle.ipc_model.specs.Columns.{IsUnionKind}

-- ---- types

-- A size that fits in 32 signed bits.
abbrev pub IsShort : ℕ → Type 0
IsShort n = n < 2 ^ 31

-- A type without children can be written: no float, and its sizes fit.
abbrev pub IsWritablePlain : Plain → Type 0
IsWritablePlain float16 = ⊥
IsWritablePlain float32 = ⊥
IsWritablePlain float64 = ⊥
IsWritablePlain (time32 Second) = Unit {0}
IsWritablePlain (time32 Millisecond) = Unit {0}
IsWritablePlain (time32 Microsecond) = ⊥
IsWritablePlain (time32 Nanosecond) = ⊥
IsWritablePlain (time64 Second) = ⊥
IsWritablePlain (time64 Millisecond) = ⊥
IsWritablePlain (time64 Microsecond) = Unit {0}
IsWritablePlain (time64 Nanosecond) = Unit {0}
IsWritablePlain (fixed_binary n) = (0 < n) × IsShort n
IsWritablePlain (decimal precision scale) = IsShort precision × IsShort scale
IsWritablePlain (decimal256 precision scale) = IsShort precision × IsShort scale
IsWritablePlain _ = Unit {0}

-- A type is a struct of two fields, not under an extension.
abbrev pub IsPairType : TypeTree → Type 0
IsPairType (group structure (more_fields key (more_fields value no_fields))) = Unit {0}
IsPairType _ = ⊥

-- The type of a field.
abbrev pub type_of : FieldTree → TypeTree
type_of (field name t nullable metadata) = t

-- A list of any form, or a map, can be written with this child.
abbrev pub IsWritableSingle : Single → FieldTree → Type 0
IsWritableSingle (fixed_list n) f = (0 < n) × IsShort n
IsWritableSingle (entries sorted) f = IsPairType (type_of f)
IsWritableSingle _ f = Unit {0}

-- How many fields there are.
abbrev pub field_number : FieldTrees → ℕ
field_number no_fields = 0
field_number (more_fields f fs) = 1 + field_number fs

-- A struct or a union can be written with these children.
abbrev pub IsWritableGroup : Group → FieldTrees → Type 0
IsWritableGroup structure fs = 1 ≤ field_number fs
IsWritableGroup (choice type_ids mode) fs = IsUnionKind type_ids (field_number fs)

-- A type can be the values of a dictionary: it is no dictionary itself.
abbrev pub IsPlainValue : TypeTree → Type 0
IsPlainValue (dictionary keys t ordered) = ⊥
IsPlainValue _ = Unit {0}

-- A type can be under an extension: it is neither a dictionary nor an extension.
abbrev pub IsPlainStorage : TypeTree → Type 0
IsPlainStorage (dictionary keys t ordered) = ⊥
IsPlainStorage (extension name t text) = ⊥
IsPlainStorage _ = Unit {0}

abbrev mutual
  -- A type can be written, at all levels.
  pub IsWritableType : TypeTree → Type 0
  IsWritableType (plain p) = IsWritablePlain p
  IsWritableType (single s f) = IsWritableSingle s f × IsWritableField f
  IsWritableType (group g fs) = IsWritableGroup g fs × AreWritable fs
  IsWritableType (dictionary keys t ordered) = IsPlainValue t × IsWritableType t
  IsWritableType (extension name t text) = IsPlainStorage t × IsWritableType t

  -- A field can be written, at all levels.
  pub IsWritableField : FieldTree → Type 0
  IsWritableField (field name t nullable metadata) = IsWritableType t

  -- All fields can be written, at all levels.
  pub AreWritable : FieldTrees → Type 0
  AreWritable no_fields = Unit {0}
  AreWritable (more_fields f fs) = IsWritableField f × AreWritable fs

-- ---- weight

-- The weight of pairs of metadata.
abbrev pub pairs_weight : Pairs → ℕ
pairs_weight [] = 0
pairs_weight (e ∷ es) = 64 + length e.0 + length e.1 + pairs_weight es

-- The weight of a text that may be absent.
abbrev pub text_weight : Option (List ℕ) → ℕ
text_weight None = 0
text_weight (Some text) = length text

-- The weight of a type without children: that of its time zone.
abbrev pub plain_weight : Plain → ℕ
plain_weight (timestamp unit zone) = text_weight zone
plain_weight _ = 0

-- The weight of a type with several children: that of a union's ids.
abbrev pub group_weight : Group → ℕ
group_weight structure = 0
group_weight (choice None mode) = 0
group_weight (choice (Some type_ids) mode) = 8 * length type_ids

abbrev mutual
  -- The weight of a type, with its children.
  pub type_weight : TypeTree → ℕ
  type_weight (plain p) = plain_weight p
  type_weight (single s f) = field_weight f
  type_weight (group g fs) = group_weight g + fields_weight fs
  type_weight (dictionary keys t ordered) = type_weight t
  type_weight (extension name t text) = type_weight t

  -- The weight of a field, with its name, its type and its metadata.
  pub field_weight : FieldTree → ℕ
  field_weight (field name t nullable metadata) = 512 + length name + type_weight t + pairs_weight metadata

  -- The weight of some fields.
  pub fields_weight : FieldTrees → ℕ
  fields_weight no_fields = 0
  fields_weight (more_fields f fs) = field_weight f + fields_weight fs

-- The weight of a schema, in its normal form. It bounds the length of the schema's
-- message, however that is encoded.
abbrev pub weight : FieldTrees → Pairs → ℕ
weight fs metadata = 1024 + fields_weight (norm_fields fs) + pairs_weight metadata

-- The weight of a file's schema, with the pairs of its footer.
abbrev pub file_weight : FieldTrees → Pairs → Pairs → ℕ
file_weight fs metadata pairs = weight fs metadata + pairs_weight pairs

-- ---- schemas

-- The largest number of dictionary fields.

abbrev pub most_places : ℕ
most_places = 65536

-- If two dictionary fields have one id, they have one type of values, in its normal
-- form, with the same ids in it.
pub record SameUnderId (p q : Place) : Type 0 where
  pub type : p.id ≡ q.id → norm p.type ≡ norm q.type
  pub nested : p.id ≡ q.id → p.ids ≡ q.ids

-- A schema with these ids can be written.
pub record IsWritable (fs : FieldTrees) (metadata : Pairs) (is : IdTrees) : Type 0 where
  pub fits : AllFit fs is
  pub types : AreWritable fs
  pub levels : fields_levels fs ≤ 64
  pub few_places : length (places fs is) ≤ most_places
  pub values : AllPairs SameUnderId (places fs is)
  pub light : weight fs metadata ≤ 2 ^ 30

-- A schema with these ids can be written to a file whose footer has these pairs.
pub record IsWritableFile (fs : FieldTrees) (metadata : Pairs) (is : IdTrees) (pairs : Pairs) : Type 0 where
  pub schema : IsWritable fs metadata is
  pub light : file_weight fs metadata pairs ≤ 2 ^ 30
