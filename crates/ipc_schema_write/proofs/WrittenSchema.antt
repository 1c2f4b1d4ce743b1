-- The table of a schema, and its message, mean the schema and are no longer than its weight.
use Rattle.std.proofs.Common.{◌≡◌, ℕ, ◌+◌, ◌≤◌, true, nat_le, List, length, map, None, Some, Result, Ok, Err, Vec, Global, refl, ap, ◌∙◌, arith, inl, inr}
use Rattle.std.proofs.lemmas.Bool.Decides.{nat_tests}
use Rattle.std.specs.Prelude.{option_map, pos}
use Rattle.lower.specs.Counts.{fields_levels}
use Rattle.lower.specs.Normal.{norm, norm_field, norm_fields}
use Rattle.lower_types.specs.declared.Endianness.{Endianness}
use Rattle.lower.specs.TypeTrees.{Pairs, TypeTree, plain, single, group, dictionary, extension, FieldTree, field, FieldTrees, no_fields, more_fields}
use Rattle.ipc_base.specs.IdTrees.{IdTrees}
use Rattle.ipc_devices.specs.declared.fault.ArgFault.TheVariants.{FieldsShape, NotWritable}
use Rattle.ipc_devices.specs.declared.fault.Fault.{Fault}
use Rattle.ipc_devices.specs.declared.fault.Fault.TheVariants.{Argument, Memory}
use Rattle.ipc_table_bytes.specs.Encodes.{Encodes}
use Rattle.ipc_table_bytes.specs.Holds.{HoldsPart, spot}
use Rattle.ipc_table_bytes.specs.Readers.{optional, parts_of}
use Rattle.ipc_table_bytes.specs.Sizes.{parts_size, size_of}
use Rattle.ipc_table_bytes.specs.Tree.{no_slots, table}
use Rattle.ipc_table_views.specs.SchemaSlots.{schema_custom_metadata, schema_fields}
use Rattle.ipc_table_views.specs.declared.schema.MetadataVersion.TheVariants.{V5}
use Rattle.ipc_tables.specs.Messages.{message_slots}
use Rattle.ipc_tables.specs.Schemas.{features_part, field_part, pairs_part, schema_slots}
use Rattle.ipc_tables.specs.Weights.{features_weight}
use Rattle.ipc_tables.specs.declared.message.MessageHeader.TheVariants.{Schema as a_schema}
use Rattle.ipc_tables.specs.declared.schema.Schema.{Schema as SchemaTable}
use Rattle.ipc_tables.proofs.SchemaLaws.{IsSchema-holds}
use Rattle.ipc_tables.proofs.WeightLaws.{schema-weighs}
use Rattle.ipc_model.specs.Schemas.{field_at, field_count, fields_count, fields_from, given, inner_count, made, most_levels, order_of, pairs_at, present, schema_at, schema_with}
use Rattle.ipc_model.specs.Writable.{IsWritable, weight}
use Rattle.ipc_schema_write.specs.Meanings.{AreFieldTables, ArePairsOf}
use Rattle.ipc_schema_write.specs.WriterAnswers.{AreWritableWith, IsSchemaTable, RefusesFields, RefusesSchema, WritesSchema, max_weight, written_as}
use Rattle.ipc_schema_write.proofs.FieldTables.{fields-count, fields-weigh, given-both, optional-more}
use Rattle.ipc_schema_write.proofs.Pairs.{tables-weigh}
use Rattle.ipc_schema_write.proofs.SchemaReads.{message-reads}
use Rattle.ipc_schema_write.proofs.TableReads.{fields-go, pairs-read, stand-from}
use Rattle.ipc_schema_write.proofs.WrittenHeads.{head-written, message-eighth}

-- ---- what can be written

-- fields that can be written, of a weight that can
pub writable : (fs : FieldTrees) (es : Pairs) (is : IdTrees) → AreWritableWith fs is → weight fs es ≤ max_weight → IsWritable fs es is
writable fs es is w light = record { fits = w.fits; types = w.types; levels = w.levels; few_places = w.few_places; values = w.values; light = light }

fields-writable : (fs : FieldTrees) (es : Pairs) (is : IdTrees) → IsWritable fs es is → AreWritableWith fs is
fields-writable fs es is w = record { fits = w.fits; types = w.types; levels = w.levels; few_places = w.few_places; values = w.values }

-- what refuses the fields refuses the schema
pub refuses-schema : (e : Fault) (fs : FieldTrees) (es : Pairs) (is : IdTrees) → RefusesFields fs is e → RefusesSchema e fs es is
refuses-schema Memory fs es is h = tt
refuses-schema (Argument FieldsShape) fs es is h = h
refuses-schema (Argument NotWritable) fs es is h = (h.0, λ w. h.1 (fields-writable fs es is w))
refuses-schema _ fs es is h = absurd h

-- ---- a schema

mutual
  count-norm : (t : TypeTree) → inner_count (norm t) ≡ inner_count t
  count-norm (plain p) = refl
  count-norm (single k f) = field_count-norm f
  count-norm (group g fs) = fields_count-norm fs
  count-norm (dictionary keys t ordered) = count-norm t
  count-norm (extension name t text) = count-norm t

  field_count-norm : (f : FieldTree) → field_count (norm_field f) ≡ field_count f
  field_count-norm (field name t nullable es) = ap (λ n. 1 + n) (count-norm t)

  fields_count-norm : (fs : FieldTrees) → fields_count (norm_fields fs) ≡ fields_count fs
  fields_count-norm no_fields = refl
  fields_count-norm (more_fields f fs) = rw (field_count-norm f, fields_count-norm fs) refl

schema-size : (s : SchemaTable) → parts_size (parts_of (map field_part s.fields.items)) ≤ size_of (table (schema_slots s))
schema-size s =
    let features = optional (option_map (λ v. features_part v.items) s.features) no_slots in
    omega (arith, optional-more (pairs_part s.custom_metadata.items) features)

test-le : (a b : ℕ) → a ≤ b → nat_le a b ≡ true
test-le a b h = grind (arith, nat_tests)

module _ (s : SchemaTable) (fs : FieldTrees) (es : Pairs) (is : IdTrees) (order : Endianness) (ordered : order_of s.endianness ≡ order) (plain_features : s.features ≡ None) (fields : AreFieldTables s.fields.items fs is) (pairs : ArePairsOf s.custom_metadata.items es) (deep : fields_levels fs ≤ 64) where
  schema-reads : (m : List ℕ) (p : ℕ) → HoldsPart m p (table (schema_slots s)) → size_of (table (schema_slots s)) ≤ length m → schema_at (spot m p) ≡ Some (written_as order fs es is)
  unfolding schema_at
  schema-reads m p held inside =
      let t = spot m p in
      let is_schema = IsSchema-holds 64 m p s held in
      let (v, led, below) = is_schema.fields in
      let counted = below.count in
      let all = ap (λ c. fields_from (λ s. field_at most_levels s) v 0 c) counted ∙ fields-go 64 v 0 s.fields.items fs is fields deep (stand-from 64 v s.fields.items below) in
      let read = pairs-read (schema_custom_metadata t) s.custom_metadata.items is_schema.pairs ∙ ap Some pairs.means in
      let size = schema-size s in
      let count = fields-count s.fields.items fs is fields in
      let same = fields_count-norm fs in
      let few = test-le (fields_count (norm_fields fs)) (length m) (omega (arith, size, count, same, inside)) in
      rw is_schema.endianness
      (given-both (made (schema_custom_metadata t)) pairs_at (λ es. given (present (schema_fields t)) (λ fields. given (fields_from (λ s. field_at most_levels s) fields 0 fields.count) (λ all. schema_with (length m) (order_of s.endianness) es all))) es read
      ∙ rw (led, all, few, ordered) refl)

  pub table-written : IsSchemaTable order s fs es is
  table-written = record {
    reads = schema-reads;
    weighs =
        let total_is = fields-weigh s.fields.items fs is fields in
        let pairs_is = tables-weigh s.custom_metadata.items ∙ pairs.weighs in
        omega (arith, total_is, pairs_is, ap features_weight plain_features);
    bare = plain_features;
  }

-- the bytes of the message of a schema
pub bytes-written : (order : Endianness) (r : Result (Vec ℕ Global) Fault) (s : SchemaTable) (fs : FieldTrees) (es : Pairs) (is : IdTrees) → IsWritable fs es is → IsSchemaTable order s fs es is
    → Encodes r (message_slots (record { version = V5; header = a_schema s; body_length = pos 0; custom_metadata = None })) → WritesSchema order r fs es is
bytes-written order (Ok bytes) s fs es is w t encoded =
    let size = encoded.size in
    let weighs = schema-weighs (record { version = V5; header = a_schema s; body_length = pos 0; custom_metadata = None }) s refl refl in
    let small = t.weighs in
    let inside : size_of (table (schema_slots s)) ≤ length bytes.items = omega (arith, size) in
    let read = message-reads bytes.items _ _ (schema_slots s) (written_as order fs es is) (λ p held. t.reads bytes.items p held inside) encoded.holds in
    let whole = message-eighth (message_slots (record { version = V5; header = a_schema s; body_length = pos 0; custom_metadata = None })) in (
      w,
      read,
      omega (arith, size, weighs, small),
      head-written bytes.items (schema_slots s) _ (written_as order fs es is) read encoded.holds,
      omega (arith, size, whole),
      record { message = record { version = V5; header = a_schema s; body_length = pos 0; custom_metadata = None }; version = refl; bare = refl; encoding = encoded },
      record { table = s; bare = t.bare; encoding = encoded },
    )
bytes-written order (Err e) s fs es is w t (inl memory) = rw memory tt
bytes-written order (Err e) s fs es is w t (inr (large, long)) = absurd (
    let weighs = schema-weighs (record { version = V5; header = a_schema s; body_length = pos 0; custom_metadata = None }) s refl refl in
    let small = t.weighs in
    let light = w.light in
    omega (arith, weighs, small, light, long))
