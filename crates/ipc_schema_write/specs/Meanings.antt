-- What the tables of a schema to be written mean, wherever they are in a message.
-- (Arrow columnar format, "Schema message" and "Extension Types"; Schema.fbs.)
use Rattle.std.specs.Prelude.{◌≡◌, ℕ, ℤ, ◌≤◌, All, true, false, List, [], ◌∷◌, map, Option, Some, None, string_bytes}
use Rattle.std.specs.Cmp.Lexicographic.{slice_cmp}
use Rattle.std.specs.Ordering.{nat_cmp}
use Rattle.std.specs.declared.cmp.Ordering.TheVariants.{Less}
use Rattle.lower.specs.Counts.{field_levels}
use Rattle.lower.specs.Normal.{data_key, name_key, norm_field, with_pair}
use Rattle.lower.specs.TypeTrees.{Pairs, Plain, Single, Group, TypeTree, plain, single, group, dictionary, extension, FieldTree, FieldTrees, no_fields, more_fields}
use Rattle.ipc_base.specs.IdTrees.{IdTree, IdTrees, no_ids, more_ids}
use Rattle.ipc_table_bytes.specs.Sizes.{size_of}
use Rattle.ipc_table_views.specs.Spot.{Spot}
use Rattle.ipc_tables.specs.Reads.{IsType, IsField}
use Rattle.ipc_tables.specs.Schemas.{field_part}
use Rattle.ipc_tables.specs.Slots.{kept32, kept64}
use Rattle.ipc_tables.specs.Types.{type_tag}
use Rattle.ipc_tables.specs.declared.schema.DictionaryEncoding.{DictionaryEncoding}
use Rattle.ipc_tables.specs.Weights.{field_weight as table_weight, type_weight as type_table_weight}
use Rattle.ipc_tables.specs.declared.schema.Field.{Field}
use Rattle.ipc_tables.specs.declared.schema.KeyValue.{KeyValue}
use Rattle.ipc_tables.specs.declared.types.FieldType.{FieldType}
use Rattle.ipc_tables.specs.declared.types.Int.{Int}
use Rattle.lower.specs.declared.datatypes.IntegerType.{IntegerType}
use Rattle.ipc_model.specs.Entries.{IsIndex}
use Rattle.ipc_model.specs.Schemas.{Encoding, field_at, field_count, group_at, is_group_tag, integer_of, is_single_tag, plain_at, single_at}
use Rattle.ipc_model.specs.Writable.{field_weight, group_weight, pairs_weight, plain_weight}

-- ---- pairs

-- The pairs that some tables have.
abbrev pub pairs_in : List KeyValue → Pairs
pairs_in ps = map (λ p. (string_bytes p.key, string_bytes p.value)) ps

-- Each key of the pairs is above k.
abbrev pub Above : List ℕ → Pairs → Type 0
Above k [] = Unit {0}
Above k (e ∷ es) = (slice_cmp nat_cmp k e.0 ≡ Less) × Above k es

-- The keys ascend.
abbrev pub Ascend : Pairs → Type 0
Ascend [] = Unit {0}
Ascend (e ∷ es) = Above e.0 es × Ascend es

-- Some pairs, and then others that are read one after the other.
abbrev pub put_pairs : Pairs → Pairs → Pairs
put_pairs [] es = es
put_pairs (p ∷ ps) es = put_pairs ps (with_pair p.0 p.1 es)

-- The pairs of an extension with this name and text, in the order in which they are written.
abbrev pub extension_pairs : Option (List ℕ × Option (List ℕ)) → Pairs
extension_pairs None = []
extension_pairs (Some (name, None)) = (name_key, name) ∷ []
extension_pairs (Some (name, Some text)) = (data_key, text) ∷ (name_key, name) ∷ []

-- The tables mean these pairs.
pub record ArePairsOf (ps : List KeyValue) (es : Pairs) : Type 0 where
  pub means : put_pairs (pairs_in ps) [] ≡ es
  pub weighs : pairs_weight (pairs_in ps) ≡ pairs_weight es

-- ---- types

-- The table means a type without children.
pub record IsPlainTable (y : FieldType) (p : Plain) : Type 0 where
  pub not_single : is_single_tag (type_tag y) ≡ false
  pub not_group : is_group_tag (type_tag y) ≡ false
  pub reads : (s : Spot) → IsType s y → plain_at (type_tag y) s ≡ Some p
  pub weighs : type_table_weight y ≡ plain_weight p

-- The table means a type of one child.
pub record IsSingleTable (y : FieldType) (k : Single) : Type 0 where
  pub is_single : is_single_tag (type_tag y) ≡ true
  pub reads : (s : Spot) → IsType s y → single_at (type_tag y) s ≡ Some k
  pub weighs : type_table_weight y ≡ 0

-- The table means a type of several children.
pub record IsGroupTable (y : FieldType) (g : Group) : Type 0 where
  pub not_single : is_single_tag (type_tag y) ≡ false
  pub is_group : is_group_tag (type_tag y) ≡ true
  pub reads : (s : Spot) → IsType s y → group_at (type_tag y) s ≡ Some g
  pub weighs : type_table_weight y ≡ group_weight g

-- The table means the type, apart from its children. That of a dictionary is its values', and
-- an extension is in the metadata.
abbrev pub IsTypeTable : FieldType → TypeTree → Type 0
IsTypeTable y (plain p) = IsPlainTable y p
IsTypeTable y (single k f) = IsSingleTable y k
IsTypeTable y (group g fs) = IsGroupTable y g
IsTypeTable y (dictionary keys t ordered) = IsTypeTable y t
IsTypeTable y (extension name t text) = IsTypeTable y t

-- The type ids of a union, if it has any, are from 0 to 126.
abbrev pub AreShortIds : Option (List ℤ) → Type 0
AreShortIds None = Unit {0}
AreShortIds (Some type_ids) = All (λ x. IsIndex x 127) type_ids

-- ---- dictionaries

-- The dictionary encoding of a dictionary type with an id.
abbrev pub encoding_of : TypeTree → Option ℤ → Option Encoding
encoding_of (dictionary keys t ordered) (Some id) = Some (record { keys = keys; id = id; ordered = ordered })
encoding_of _ _ = None

-- The table means the integer type.
abbrev pub IsKeysTable : Int → IntegerType → Type 0
IsKeysTable i keys = integer_of (kept32 i.bit_width) i.is_signed ≡ Some keys

-- The table means the dictionary encoding.
pub record IsSameEncoding (d : DictionaryEncoding) (e : Encoding) : Type 0 where
  pub id_kept : kept64 d.id ≡ e.id
  pub keys : IsKeysTable d.index_type e.keys
  pub ordered : d.is_ordered ≡ e.ordered

-- The table means the dictionary encoding, if there is one.
abbrev pub IsEncodingTable : Option DictionaryEncoding → Option Encoding → Type 0
IsEncodingTable None None = Unit {0}
IsEncodingTable (Some d) (Some e) = IsSameEncoding d e
IsEncodingTable _ _ = ⊥

-- ---- fields

-- The table means the normal form of the field with its ids, and weighs as much. It
-- has no more fields than bytes.
pub record IsFieldTable (f : Field) (x : FieldTree) (i : IdTree) : Type 0 where
  pub reads : (n : ℕ) (t : Spot) → field_levels x ≤ n → IsField n t f → field_at n t ≡ Some (norm_field x, i)
  pub weighs : table_weight f ≡ field_weight (norm_field x)
  pub counts : field_count x ≤ size_of (field_part f)

-- Each table means the field at the same index.
abbrev pub AreFieldTables : List Field → FieldTrees → IdTrees → Type 0
AreFieldTables [] no_fields no_ids = Unit {0}
AreFieldTables (f ∷ fs) (more_fields x xs) (more_ids i is) = IsFieldTable f x i × AreFieldTables fs xs is
AreFieldTables _ _ _ = ⊥
