-- The message of a schema is no longer than the schema's weight.
use Rattle.std.proofs.Common.{◌≡◌, ℕ, ℤ, ◌+◌, ◌*◌, ◌≤◌, Bool, List, [], ◌∷◌, length, map, Option, None, Some, Result, Ok, Err, IfOk, refl, ap, subst, arith, String, Vec, Global}
use Rattle.std.specs.Prelude.{option_map, string_bytes}
use Rattle.ipc_devices.specs.declared.fault.Fault.{Fault}
use Rattle.ipc_table_bytes.specs.Encodes.{Encodes}
use Rattle.ipc_table_bytes.specs.Holds.{count_parts, count_slots}
use Rattle.ipc_table_bytes.specs.Readers.{optional, parts_of}
use Rattle.ipc_table_bytes.specs.Sizes.{message_size, parts_size, size_of, slots_size}
use Rattle.ipc_table_bytes.specs.Tree.{Part, Slots, absent, no_slots, number, offset, table, tables, text}
use Rattle.ipc_table_bytes.proofs.ReaderLaws.{count-map}
use Rattle.ipc_tables.specs.declared.message.Message.{Message}
use Rattle.ipc_tables.specs.declared.message.MessageHeader.TheVariants.{Schema as a_schema}
use Rattle.ipc_tables.specs.declared.schema.DictionaryEncoding.{DictionaryEncoding}
use Rattle.ipc_tables.specs.declared.schema.Feature.{Feature}
use Rattle.ipc_tables.specs.declared.schema.Field.{Field}
use Rattle.ipc_tables.specs.declared.schema.Field.TheOpen.{Field-F}
use Rattle.ipc_tables.specs.declared.schema.Field.TheFolds.{fold-roll-Field, ind-Field}
use Rattle.ipc_tables.specs.declared.schema.Field.TheViews.{roll-Field}
use Rattle.ipc_tables.specs.declared.schema.KeyValue.{KeyValue}
use Rattle.ipc_tables.specs.declared.schema.Schema.{Schema}
use Rattle.ipc_tables.specs.declared.types.FieldType.{FieldType}
use Rattle.ipc_tables.specs.declared.types.FieldType.TheVariants.{Null, Int, FloatingPoint, Binary, Utf8, Bool as a_bool, Decimal, Date, Time, Timestamp, Interval, List as a_list, Struct, Union, FixedSizeBinary, FixedSizeList, Map, Duration, LargeBinary, LargeUtf8, LargeList}
use Rattle.ipc_tables.specs.Messages.{header_slots, message_slots}
use Rattle.ipc_tables.specs.Schemas.{dictionary_slots, feature_bytes, features_part, field_part, field_step, pair_part, pairs_part, pairs_vector, slots_of_field}
use Rattle.ipc_tables.specs.Types.{id_bytes, ids_part, time_unit_number, type_slots, union_mode_number}
use Rattle.ipc_tables.specs.Weights.{features_weight, field_weight, ids_weight, pairs_weight, schema_weight, total, type_weight, weight_step, zone_weight}
use Rattle.ipc_tables.specs.ElementLaws.{length-feature, length-id}
use Rattle.ipc_tables.proofs.Lengths.{length-elements}

abbrev optional_size : Option Part → ℕ
optional_size None = 0
optional_size (Some x) = size_of x

count-optional : (x : Option Part) (rest : Slots) → count_slots (optional x rest) ≡ count_slots rest + 1
count-optional None rest = refl
count-optional (Some x) rest = refl

size-optional : (x : Option Part) (rest : Slots) → slots_size (optional x rest) ≡ optional_size x + slots_size rest
size-optional None rest = omega arith
size-optional (Some x) rest = refl

-- a text is at most 12 bytes longer than its own
text-size : (s : List ℕ) → size_of (text s) ≤ length s + 12
text-size s = omega arith

zone-size : (unit : ℕ) (zone : Option (String Global)) → size_of (table (number 2 unit (optional (option_map (λ s. text (string_bytes s)) zone) no_slots))) ≤ 48 + zone_weight zone
zone-size unit None = omega arith
zone-size unit (Some zone) = omega (arith, text-size (string_bytes zone))

ids-size : (mode : ℕ) (ids : Option (Vec ℤ Global)) → size_of (table (number 2 mode (optional (option_map (λ v. ids_part v.items) ids) no_slots))) ≤ 48 + ids_weight ids
ids-size mode None = omega arith
ids-size mode (Some ids) = omega (arith, length-elements id_bytes 4 length-id ids.items)

type-size : (y : FieldType) → size_of (table (type_slots y)) ≤ 48 + type_weight y
type-size Null = omega arith
type-size (Int t) = omega arith
type-size (FloatingPoint t) = omega arith
type-size Binary = omega arith
type-size Utf8 = omega arith
type-size a_bool = omega arith
type-size (Decimal t) = omega arith
type-size (Date t) = omega arith
type-size (Time t) = omega arith
type-size (Timestamp t) = zone-size (time_unit_number t.unit) t.timezone
type-size (Interval t) = omega arith
type-size a_list = omega arith
type-size Struct = omega arith
type-size (Union u) = ids-size (union_mode_number u.mode) u.type_ids
type-size (FixedSizeBinary t) = omega arith
type-size (FixedSizeList t) = omega arith
type-size (Map t) = omega arith
type-size (Duration t) = omega arith
type-size LargeBinary = omega arith
type-size LargeUtf8 = omega arith
type-size LargeList = omega arith

dictionary-size : (d : Option DictionaryEncoding) → optional_size (option_map (λ d. table (dictionary_slots d)) d) ≤ 88
dictionary-size None = omega arith
dictionary-size (Some d) = omega arith

pair-sizes : (ps : List KeyValue) → parts_size (parts_of (map pair_part ps)) + 4 * length ps ≤ pairs_weight ps
pair-sizes [] = omega arith
pair-sizes (p ∷ ps) = omega (arith, text-size (string_bytes p.key), text-size (string_bytes p.value), pair-sizes ps)

pairs-size : (ps : List KeyValue) → optional_size (pairs_part ps) ≤ 8 + pairs_weight ps
pairs-size [] = omega arith
pairs-size (p ∷ ps) = omega (arith, count-map pair_part (p ∷ ps), pair-sizes (p ∷ ps))

count-parts-of : (xs : List Part) → count_parts (parts_of xs) ≡ length xs
count-parts-of [] = refl
count-parts-of (x ∷ xs) = omega (arith, count-parts-of xs)

-- a field's table, with an offset that leads to it
field-size : (name : List ℕ) (nullable : Bool) (y : FieldType) (d : Option DictionaryEncoding) (children : List Part) (ps : List KeyValue)
    → size_of (table (slots_of_field name nullable y d children ps)) + 4 ≤ 512 + length name + type_weight y + pairs_weight ps + (parts_size (parts_of children) + 4 * length children)
field-size name nullable y d children ps =
    let kids = offset (tables (parts_of children)) (optional (pairs_part ps) no_slots) in
    let dictionary = option_map (λ d. table (dictionary_slots d)) d in
    omega (
      arith,
      text-size name,
      type-size y,
      dictionary-size d,
      pairs-size ps,
      count-optional dictionary kids,
      count-optional (pairs_part ps) no_slots,
      size-optional dictionary kids,
      size-optional (pairs_part ps) no_slots,
      count-parts-of children,
    )

part-roll : (x : Field-F Field) → field_part (roll-Field x) ≡ table (slots_of_field (string_bytes x.name) x.nullable x.type_ x.dictionary (map field_part x.children.items) x.custom_metadata.items)
unfolding field_part
part-roll x = fold-roll-Field Part field_step x

weight-roll : (x : Field-F Field) → field_weight (roll-Field x) ≡ 512 + length (string_bytes x.name) + type_weight x.type_ + pairs_weight x.custom_metadata.items + total (map field_weight x.children.items)
unfolding field_weight
weight-roll x = fold-roll-Field ℕ weight_step x

abbrev IsWithinWeight : Field → Type 0
IsWithinWeight f = size_of (field_part f) + 4 ≤ field_weight f

abbrev AreWithinWeight : List Field → Type 0
AreWithinWeight fs = parts_size (parts_of (map field_part fs)) + 4 * length fs ≤ total (map field_weight fs)

within-weight : (fs : List ((f : Field) × IsWithinWeight f)) → AreWithinWeight (map (λ e. e.0) fs)
within-weight [] = omega arith
within-weight (e ∷ fs) = omega (arith, e.1, within-weight fs)

length-map-part : (fs : List Field) → length (map field_part fs) ≡ length fs
length-map-part [] = refl
length-map-part (f ∷ fs) = omega (arith, length-map-part fs)

-- y is x with a proof for each child.
pub field-weighs : (f : Field) → IsWithinWeight f
field-weighs = ind-Field IsWithinWeight (λ x y is.
    let kids = subst (λ z. AreWithinWeight z.children.items) is (within-weight y.children.items) in
    omega (
      arith,
      ap size_of (part-roll x),
      weight-roll x,
      length-map-part x.children.items,
      kids,
      field-size (string_bytes x.name) x.nullable x.type_ x.dictionary (map field_part x.children.items) x.custom_metadata.items,
    ))

fields-weigh : (fs : List Field) → AreWithinWeight fs
fields-weigh [] = omega arith
fields-weigh (f ∷ fs) = omega (arith, field-weighs f, fields-weigh fs)

features-size : (features : Option (Vec Feature Global)) → optional_size (option_map (λ v. features_part v.items) features) ≤ 16 + features_weight features
features-size None = omega arith
features-size (Some features) = omega (arith, length-elements feature_bytes 8 length-feature features.items)

-- the message of a schema
pub schema-weighs : (m : Message) (s : Schema) → m.header ≡ a_schema s → m.custom_metadata ≡ None → message_size (message_slots m) ≤ schema_weight s
schema-weighs m s e bare =
    let fields = s.fields.items in
    let ps = s.custom_metadata.items in
    let features = option_map (λ v. features_part v.items) s.features in
    let alone : optional (option_map (λ v. pairs_vector v.items) m.custom_metadata) no_slots ≡ absent no_slots = ap (λ o. optional (option_map (λ v. pairs_vector v.items) o) no_slots) bare in
    omega (
      arith,
      ap count_slots alone,
      ap slots_size alone,
      ap (λ h. size_of (table (header_slots h))) e,
      count-map field_part fields,
      fields-weigh fields,
      pairs-size ps,
      count-optional (pairs_part ps) (optional features no_slots),
      size-optional (pairs_part ps) (optional features no_slots),
      count-optional features no_slots,
      size-optional features no_slots,
      features-size s.features,
    )

pub weight-from : {A : Type 0} (result : Result (Vec ℕ A) Fault) (m : Message) (s : Schema) → m.header ≡ a_schema s → m.custom_metadata ≡ None → Encodes result (message_slots m) → IfOk result (λ bytes. length bytes.items ≤ schema_weight s)
weight-from (Ok bytes) m s e bare is = omega (arith, is.size, schema-weighs m s e bare)
weight-from (Err fault) m s e bare is = tt
