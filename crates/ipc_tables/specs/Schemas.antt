-- The tables of Schema.fbs for a schema and its fields: what each field of a table must have.
use Rattle.std.specs.Prelude.{ℕ, Bool, List, [], ◌∷◌, Option, Some, None, option_map, map, string_bytes}
use Rattle.ipc_table_bytes.specs.Pads.{le}
use Rattle.ipc_table_bytes.specs.Tree.{Part, Slots, no_slots, number, offset, table, tables, text}
use Rattle.ipc_table_views.specs.declared.schema.Endianness.{Endianness}
use Rattle.ipc_table_views.specs.declared.schema.Endianness.TheVariants.{Little, Big}
use Rattle.ipc_table_views.specs.declared.schema.MetadataVersion.{MetadataVersion}
use Rattle.ipc_table_views.specs.declared.schema.MetadataVersion.TheVariants.{V1, V2, V3, V4, V5}
use Rattle.ipc_tables.specs.declared.schema.DictionaryEncoding.{DictionaryEncoding}
use Rattle.ipc_tables.specs.declared.schema.DictionaryKind.{DictionaryKind}
use Rattle.ipc_tables.specs.declared.schema.DictionaryKind.TheVariants.{DenseArray}
use Rattle.ipc_tables.specs.declared.schema.Feature.{Feature}
use Rattle.ipc_tables.specs.declared.schema.Feature.TheVariants.{CompressedBody, DictionaryReplacement, Unused}
use Rattle.ipc_tables.specs.declared.schema.Field.{Field}
use Rattle.ipc_tables.specs.declared.schema.Field.TheOpen.{Field-F}
use Rattle.ipc_tables.specs.declared.schema.Field.TheFolds.{fold-Field}
use Rattle.ipc_tables.specs.declared.schema.Field.TheViews.{out-Field}
use Rattle.ipc_tables.specs.declared.schema.KeyValue.{KeyValue}
use Rattle.ipc_tables.specs.declared.schema.Schema.{Schema}
use Rattle.ipc_tables.specs.declared.types.FieldType.{FieldType}
use Rattle.ipc_tables.specs.Elements.{elements_of}
use Rattle.ipc_tables.specs.Slots.{bit, bits64, optional, parts_of}
use Rattle.ipc_tables.specs.Types.{int_slots, type_slots, type_tag}

-- The number of a version in MetadataVersion.
abbrev pub version_number : MetadataVersion → ℕ
version_number V1 = 0
version_number V2 = 1
version_number V3 = 2
version_number V4 = 3
version_number V5 = 4

-- The number of a byte order in Endianness.
abbrev pub endianness_number : Endianness → ℕ
endianness_number Little = 0
endianness_number Big = 1

-- KeyValue: key, value.
abbrev pub pair_part : KeyValue → Part
pair_part p = table (offset (text (string_bytes p.key)) (offset (text (string_bytes p.value)) no_slots))

-- The vector of some pairs.
abbrev pub pairs_vector : List KeyValue → Part
pairs_vector ps = tables (parts_of (map pair_part ps))

-- The vector of some pairs; none if there is no pair.
abbrev pub pairs_part : List KeyValue → Option Part
pairs_part [] = None
pairs_part (p ∷ ps) = Some (pairs_vector (p ∷ ps))

-- The number of a kind in DictionaryKind.
abbrev pub kind_number : DictionaryKind → ℕ
kind_number DenseArray = 0

-- The number of a feature in Feature.
abbrev pub feature_number : Feature → ℕ
feature_number Unused = 0
feature_number DictionaryReplacement = 1
feature_number CompressedBody = 2

-- The bytes of a feature.
abbrev pub feature_bytes : Feature → List ℕ
feature_bytes f = le 8 (feature_number f)

-- The vector of some features.
abbrev pub features_part : List Feature → Part
features_part fs = elements_of 8 8 feature_bytes fs

-- DictionaryEncoding: id, indexType, isOrdered, dictionaryKind.
abbrev pub dictionary_slots : DictionaryEncoding → Slots
dictionary_slots d = number 8 (bits64 d.id) (offset (table (int_slots d.index_type)) (number 1 (bit d.is_ordered) (number 2 (kind_number d.dictionary_kind) no_slots)))

-- Field: name, nullable, type (tag and table), dictionary, children, custom_metadata.
abbrev pub slots_of_field : List ℕ → Bool → FieldType → Option DictionaryEncoding → List Part → List KeyValue → Slots
slots_of_field name nullable type_ dictionary children pairs =
    offset (text name) (number 1 (bit nullable) (number 1 (type_tag type_) (offset (table (type_slots type_))
    (optional (option_map (λ d. table (dictionary_slots d)) dictionary)
    (offset (tables (parts_of children)) (optional (pairs_part pairs) no_slots))))))

-- The table of a field whose children are these parts.
abbrev pub field_slots : Field → List Part → Slots
field_slots f children =
    slots_of_field (string_bytes (out-Field f).name) (out-Field f).nullable (out-Field f).type_ (out-Field f).dictionary children (out-Field f).custom_metadata.items

-- One level of a field, given the parts of its children.
abbrev pub field_step : Field-F Part → Part
field_step f = table (slots_of_field (string_bytes f.name) f.nullable f.type_ f.dictionary f.children.items f.custom_metadata.items)

-- The table of a field.
unfoldable pub field_part : Field → Part
field_part = fold-Field Part field_step

-- Schema: endianness, fields, custom_metadata, features.
abbrev pub schema_slots : Schema → Slots
schema_slots s =
    number 2 (endianness_number s.endianness) (offset (tables (parts_of (map field_part s.fields.items)))
    (optional (pairs_part s.custom_metadata.items) (optional (option_map (λ v. features_part v.items) s.features) no_slots)))
