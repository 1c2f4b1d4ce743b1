-- The tables of a schema that are built read as the schema.
use Rattle.std.proofs.Common.{◌≡◌, ℕ, zero, suc, List, [], ◌∷◌, map, Option, None, Some, Ok, refl, subst, Vec, Global}
use Rattle.std.specs.Prelude.{option_map, string_bytes}
use Rattle.ipc_table_views.specs.Enumerations.{endianness_of}
use Rattle.ipc_table_views.specs.Spot.{Spot, Vector}
use Rattle.ipc_table_views.specs.Tables.{slot_at, target_at, vector_slot}
use Rattle.ipc_table_bytes.specs.Holds.{HoldsPart, spot}
use Rattle.ipc_table_bytes.specs.Readers.{HoldsOptional, HoldsTables, optional, parts_of}
use Rattle.ipc_table_bytes.specs.Tree.{Part, no_slots, offset, table, tables, text}
use Rattle.ipc_table_bytes.proofs.ReaderLaws.{absent-read, number-read, optional-read, table-read, tables-read, text-read, union-read}
use Rattle.ipc_tables.specs.declared.schema.DictionaryEncoding.{DictionaryEncoding}
use Rattle.ipc_tables.specs.declared.schema.Field.{Field}
use Rattle.ipc_tables.specs.declared.schema.Field.TheViews.{out-Field}
use Rattle.ipc_tables.specs.declared.schema.KeyValue.{KeyValue}
use Rattle.ipc_tables.specs.declared.schema.Schema.{Schema}
use Rattle.ipc_tables.specs.Reads.{AreOptionalPairs, AreTables, ArePairTables, IsDictionaryTable, IsEncodedBy, IsField, IsFieldHead, IsPairTable, IsSchema}
use Rattle.ipc_tables.specs.Schemas.{dictionary_slots, endianness_number, features_part, field_part, field_slots, pair_part, pairs_part, pairs_vector, schema_slots}
use Rattle.ipc_tables.specs.Types.{int_slots, type_slots, type_tag}
use Rattle.ipc_tables.proofs.BuiltLists.{field_part-out}
use Rattle.ipc_tables.proofs.Numbers.{long-read, flag-read, unit-read, endianness-back}
use Rattle.ipc_tables.proofs.TypeLaws.{IsInt-holds, IsType-holds, tag-low}

-- the tables of a vector, each of which reads as its value
AreTables-from : {V : Type 0} (v : Vector) (part_of : V → Part) (IsValue : Spot → V → Type 0) (values : List V)
    → ((t : ℕ) (x : V) → HoldsPart v.message t (part_of x) → IsValue (spot v.message t) x) → HoldsTables v part_of values → AreTables v IsValue values
AreTables-from v part_of IsValue values law h = record {
  count = h.count;
  each = λ k x e. let r = h.each k x e in (spot v.message r.0, r.1, law r.0 x r.2);
}

IsPair-holds : (m : List ℕ) (t : ℕ) (p : KeyValue) → HoldsPart m t (pair_part p) → IsPairTable (spot m t) p
IsPair-holds m t p (v, size, e, f, ((q0, t0, e0, f0, g0, h0), ((q1, t1, e1, f1, g1, h1), past))) =
    (text-read m t 0 q0 t0 (string_bytes p.key) e0 f0 h0, text-read m t 1 q1 t1 (string_bytes p.value) e1 f1 h1)

-- the vector of some pairs
pairs-read : (m : List ℕ) (p i q t : ℕ) (ps : List KeyValue) → slot_at m p i ≡ Ok (Some q) → target_at m q ≡ Ok t → HoldsPart m t (pairs_vector ps)
    → (v : Vector) × (vector_slot 4 m p i ≡ Ok (Some v)) × AreTables v IsPairTable ps
pairs-read m p i q t ps e f h =
    let r = tables-read pair_part (λ y. (offset (text (string_bytes y.key)) (offset (text (string_bytes y.value)) no_slots), refl)) m p i q t ps e f h in
    (r.0, r.1, AreTables-from r.0 pair_part IsPairTable ps (λ k y. IsPair-holds r.0.message k y) r.3)

pub ArePairs-holds : (m : List ℕ) (p i : ℕ) (ps : List KeyValue) → HoldsOptional m p i (pairs_part ps) → ArePairTables (vector_slot 4 m p i) ps
ArePairs-holds m p i [] e = absent-read m p i _ e
ArePairs-holds m p i (x ∷ ps) (q, t, e, f, h) = pairs-read m p i q t (x ∷ ps) e f h

pub AreOptionalPairs-holds : (m : List ℕ) (p i : ℕ) (ps : Option (Vec KeyValue Global)) → HoldsOptional m p i (option_map (λ v. pairs_vector v.items) ps) → AreOptionalPairs (vector_slot 4 m p i) ps
AreOptionalPairs-holds m p i None e = absent-read m p i _ e
AreOptionalPairs-holds m p i (Some ps) (q, t, e, f, h) = pairs-read m p i q t ps.items e f h

IsEncodedBy-holds : (m : List ℕ) (t : ℕ) (d : DictionaryEncoding) → HoldsPart m t (table (dictionary_slots d)) → IsEncodedBy (spot m t) d
IsEncodedBy-holds m t d (v, size, e, f, ((q0, e0, f0, g0), ((q1, t1, e1, f1, g1, h1), ((q2, e2, f2, g2), rest)))) = record {
  id = long-read m t 0 q0 d.id e0 f0;
  index_type = (spot m t1, table-read m t 1 q1 t1 (int_slots d.index_type) e1 f1 h1, IsInt-holds m t1 d.index_type h1);
  ordered = flag-read m t 2 q2 d.is_ordered e2 f2;
}

IsDictionary-holds : (m : List ℕ) (p : ℕ) (d : Option DictionaryEncoding) → HoldsOptional m p 4 (option_map (λ d. table (dictionary_slots d)) d) → IsDictionaryTable (spot m p) d
IsDictionary-holds m p None e = absent-read m p 4 _ e
IsDictionary-holds m p (Some d) (q, t, e, f, h) = (spot m t, table-read m p 4 q t (dictionary_slots d) e f h, IsEncodedBy-holds m t d h)

-- A field's table, with children that the message has.
pub IsFieldHead-holds : (m : List ℕ) (p : ℕ) (f : Field) (kids : List Part) → HoldsPart m p (table (field_slots f kids))
    → IsFieldHead (spot m p) f × ((q : ℕ) × (t : ℕ) × (slot_at m p 5 ≡ Ok (Some q)) × (target_at m q ≡ Ok t) × HoldsPart m t (tables (parts_of kids)))
IsFieldHead-holds m p f kids (v, size, a, b, ((q0, t0, e0, f0, g0, h0), ((q1, e1, f1, g1), ((q2, e2, f2, g2), ((q3, t3, e3, f3, g3, h3), rest))))) =
    let o = out-Field f in
    let dictionary = optional-read m p size 4 (option_map (λ d. table (dictionary_slots d)) o.dictionary) (offset (tables (parts_of kids)) (optional (pairs_part o.custom_metadata.items) no_slots)) rest in
    let children = dictionary.1.0 in
    let pairs = optional-read m p size 6 (pairs_part o.custom_metadata.items) no_slots dictionary.1.1 in (
      record {
        named = text-read m p 0 q0 t0 (string_bytes o.name) e0 f0 h0;
        nullable = flag-read m p 1 q1 o.nullable e1 f1;
        typed = (
          spot m t3,
          union-read 21 m p 2 (type_tag o.type_) (spot m t3) (number-read 1 0 m p 2 q2 (type_tag o.type_) e2 f2) (tag-low o.type_).0 (tag-low o.type_).1
              (table-read m p 3 q3 t3 (type_slots o.type_) e3 f3 h3),
          IsType-holds m t3 o.type_ h3,
        );
        dictionary = IsDictionary-holds m p o.dictionary dictionary.0;
        pairs = ArePairs-holds m p 6 o.custom_metadata.items pairs.0;
      },
      (children.0, children.1, children.2, children.3, children.5),
    )

-- A field reads unchanged, down to any level.
pub IsField-holds : (levels : ℕ) (m : List ℕ) (p : ℕ) (f : Field) → HoldsPart m p (field_part f) → IsField levels (spot m p) f
IsField-holds zero m p f h = tt
IsField-holds (suc levels) m p f h =
    let kids = (out-Field f).children.items in
    let r = IsFieldHead-holds m p f (map field_part kids) (subst (HoldsPart m p) (field_part-out f) h) in
    let c = tables-read field_part (λ g. (field_slots g (map field_part (out-Field g).children.items), field_part-out g)) m p 5 r.1.0 r.1.1 kids r.1.2 r.1.3 r.1.4 in
    (r.0, (c.0, c.1, AreTables-from c.0 field_part (IsField levels) kids (λ t g. IsField-holds levels c.0.message t g) c.3))

pub IsSchema-holds : (levels : ℕ) (m : List ℕ) (p : ℕ) (s : Schema) → HoldsPart m p (table (schema_slots s)) → IsSchema levels (spot m p) s
IsSchema-holds levels m p s (v, size, a, b, ((q0, e0, f0, g0), ((q1, t1, e1, f1, g1, h1), rest))) =
    let fields = s.fields.items in
    let c = tables-read field_part (λ g. (field_slots g (map field_part (out-Field g).children.items), field_part-out g)) m p 1 q1 t1 fields e1 f1 h1 in
    let pairs = optional-read m p size 2 (pairs_part s.custom_metadata.items) (optional (option_map (λ v. features_part v.items) s.features) no_slots) rest in
    record {
      endianness = unit-read endianness_number endianness_of endianness-back 0 m p 0 q0 s.endianness e0 f0;
      fields = (c.0, c.1, AreTables-from c.0 field_part (IsField levels) fields (λ t g. IsField-holds levels c.0.message t g) c.3);
      pairs = ArePairs-holds m p 2 s.custom_metadata.items pairs.0;
    }
