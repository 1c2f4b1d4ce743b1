-- The table of a field means the field, weighs as much, and has no more fields in it than bytes.
use Rattle.std.proofs.Common.{◌≡◌, ℕ, zero, suc, ℤ, ◌+◌, ◌≤◌, ◌<◌, Bool, true, List, [], ◌∷◌, ◌++◌, append_assoc, append-nil, drop, get_or, length, map, Option, Some, None, Ok, refl, ap, sym, subst, ◌∙◌, arith}
use Rattle.std.proofs.lemmas.List.{drop_more, drop_all}
use Rattle.std.specs.Prelude.{is_some, string_bytes}
use Rattle.std.specs.Option.{option_map}
use Rattle.lower.specs.Counts.{children, is_dictionary, levels}
use Rattle.lower.specs.Normal.{name_key, data_key, extension_of_values, norm, norm_field, norm_fields, norm_pairs, put_extension, put_text, with_pair, without}
use Rattle.lower.specs.TypeTrees.{Pairs, TypeTree, plain, single, group, dictionary, extension, FieldTree, field, FieldTrees, no_fields, more_fields}
use Rattle.lower.specs.TypeViews.{field_view, fields_view}
use Rattle.lower.specs.declared.datatypes.Field.{Field as Column}
use Rattle.ipc_base.specs.Fitting.{AllFit, Fits}
use Rattle.ipc_base.specs.IdTrees.{ids, IdTrees, no_ids, more_ids, all_ids_view, ids_view}
use Rattle.ipc_base.specs.declared.ipc.IpcField.{IpcField}
use Rattle.ipc_table_bytes.specs.Readers.{optional, parts_of}
use Rattle.ipc_table_bytes.specs.Sizes.{parts_size, size_of, slots_size}
use Rattle.ipc_table_bytes.specs.Tree.{Part, Slots, no_slots, offset, table, tables}
use Rattle.ipc_table_views.specs.SchemaSlots.{dictionary_encoding_id, field_custom_metadata, field_dictionary, field_name, field_nullable, field_type}
use Rattle.ipc_table_views.specs.Spot.{Spot}
use Rattle.ipc_tables.specs.Reads.{IsDictionaryTable, IsField}
use Rattle.ipc_tables.specs.Schemas.{dictionary_slots, field_part, pairs_part}
use Rattle.ipc_tables.specs.Types.{type_tag}
use Rattle.ipc_tables.specs.Weights.{field_weight as table_weight, pairs_weight as tables_weight, total, type_weight as type_table_weight, weight_step}
use Rattle.ipc_tables.specs.declared.schema.DictionaryEncoding.{DictionaryEncoding}
use Rattle.ipc_tables.specs.declared.schema.Field.{Field}
use Rattle.ipc_tables.specs.declared.schema.Field.TheFolds.{fold_out-Field}
use Rattle.ipc_tables.specs.declared.schema.Field.TheOpen.{Field-F}
use Rattle.ipc_tables.specs.declared.schema.Field.TheViews.{out-Field, out-roll-Field, roll-Field}
use Rattle.ipc_tables.specs.declared.types.FieldType.{FieldType}
use Rattle.ipc_tables.proofs.BuiltLists.{field_part-out}
use Rattle.ipc_model.specs.Schemas.{Encoding, Read, encoded, encoding_at, field_at, field_from, field_with, fields_count, given, id_of, inner_count, integer_at, made, optional_encoding, pairs_at, present, type_of_field, value_under, with_extension}
use Rattle.ipc_model.specs.Writable.{AreWritable, IsPlainStorage, IsPlainValue, IsWritableField, IsWritableType, fields_weight, pairs_weight, type_weight}
use Rattle.ipc_schema_write.specs.Meanings.{AreFieldTables, ArePairsOf, IsEncodingTable, IsFieldTable, IsTypeTable, encoding_of}
use Rattle.ipc_schema_write.proofs.Pairs.{no_data, no_name, tables-weigh, under-none, under-other, under-with}
use Rattle.ipc_schema_write.proofs.TableReads.{pairs-read, stored, type-reads}

-- ---- extensions and dictionaries

-- the name of an extension, and its text
named : (name : List ℕ) (text : Option (List ℕ)) (es : Pairs) → value_under name_key (with_pair name_key name (put_text text es)) ≡ Some name
named name text es = under-with name_key name (put_text text es)

texted : (name : List ℕ) (text : Option (List ℕ)) (es : Pairs) → value_under data_key es ≡ None → value_under data_key (with_pair name_key name (put_text text es)) ≡ text
texted name None es none = under-other data_key name_key name es refl ∙ none
texted name (Some text) es none = under-other data_key name_key name (with_pair data_key text es) refl ∙ under-with data_key text es

-- A type that is neither a dictionary nor an extension is in its table unchanged.
bare : (t : TypeTree) → IsPlainStorage t → stored t ≡ t
bare (plain p) h = refl
bare (single k f) h = refl
bare (group g fs) h = refl
bare (dictionary keys t ordered) h = absurd h
bare (extension name t text) h = absurd h

without-extension : (es : Pairs) (t : TypeTree) → value_under name_key es ≡ None → with_extension es t ≡ t
without-extension es t none = rw none refl

-- the pairs of a field's normal form say the extension of its values
values-read : (t : TypeTree) (es : Pairs) → IsPlainValue t → IsWritableType t
    → with_extension (put_extension (extension_of_values t) (without name_key (without data_key es))) (norm (stored t)) ≡ norm t
values-read (plain p) es v w = without-extension (without name_key (without data_key es)) (plain p) (under-none name_key (without name_key (without data_key es)) (no_name es))
values-read (single k f) es v w = without-extension (without name_key (without data_key es)) (norm (single k f)) (under-none name_key (without name_key (without data_key es)) (no_name es))
values-read (group g fs) es v w = without-extension (without name_key (without data_key es)) (norm (group g fs)) (under-none name_key (without name_key (without data_key es)) (no_name es))
values-read (dictionary keys t ordered) es v w = absurd v
values-read (extension name t text) es v w =
    let base = without name_key (without data_key es) in
    rw (named name text base, texted name text base (under-none data_key base (no_data es)), bare t w.0) refl

-- what a field's type is read as, and its id
pub type-whole : (t : TypeTree) (id : Option ℤ) (es : Pairs) → IsWritableType t → is_some id ≡ is_dictionary t
    → (encoded (encoding_of t id) (with_extension (norm_pairs t es) (norm (stored t))) ≡ norm t) × (id_of (encoding_of t id) ≡ id)
type-whole (plain p) None es w fit = (values-read (plain p) es tt w, refl)
type-whole (plain p) (Some id) es w fit = cc
type-whole (single k f) None es w fit = (values-read (single k f) es tt w, refl)
type-whole (single k f) (Some id) es w fit = cc
type-whole (group g fs) None es w fit = (values-read (group g fs) es tt w, refl)
type-whole (group g fs) (Some id) es w fit = cc
type-whole (dictionary keys t ordered) None es w fit = cc
type-whole (dictionary keys t ordered) (Some id) es w fit = (ap (λ u. dictionary keys u ordered) (values-read t es w.0 w.1), refl)
type-whole (extension name t text) None es w fit = (values-read (extension name t text) es tt w, refl)
type-whole (extension name t text) (Some id) es w fit = absurd (not-dictionary t w.0 fit)
  where
    not-dictionary : (t : TypeTree) → IsPlainStorage t → true ≡ is_dictionary t → ⊥
    not-dictionary (plain p) h e = cc
    not-dictionary (single k f) h e = cc
    not-dictionary (group g fs) h e = cc
    not-dictionary (dictionary keys t ordered) h e = h
    not-dictionary (extension name t text) h e = h

encoding-read : (t : Spot) (d : Option DictionaryEncoding) (e : Option Encoding) → IsDictionaryTable t d → IsEncodingTable d e → given (made (field_dictionary t)) optional_encoding ≡ Some e
unfolding encoding_at integer_at
encoding-read t None None is same = rw is refl
encoding-read t None (Some e) is same = absurd same
encoding-read t (Some d) None is same = absurd same
encoding-read t (Some d) (Some e) (s, led, by) same =
    let (i, led_to, held) = by.index_type in
    let id : dictionary_encoding_id s ≡ Ok e.id = by.id ∙ ap (λ z. Ok z) (same.id_kept) in
    rw (led, id, led_to, held.0, held.1, same.keys, by.ordered, same.ordered) refl

-- ---- a field

pub given-both : {A B C : Type 0} (o : Option A) (f : A → Option B) (g : B → Option C) (y : B) → given o f ≡ Some y → given o (λ x. given (f x) g) ≡ g y
given-both None f g y e = cc
given-both (Some x) f g y e = ap (λ o. given o g) e

-- What a field's table means, by its parts.
slots-read : (read : Spot → Option Read) (t : Spot) (name : List ℕ) (nullable : Bool) (es : Pairs) (e : Option Encoding) (type_ : ℕ × Spot)
    → present (field_name t) ≡ Some name → made (field_nullable t) ≡ Some nullable → given (made (field_custom_metadata t)) pairs_at ≡ Some es
    → given (made (field_dictionary t)) optional_encoding ≡ Some e → present (field_type t) ≡ Some type_
    → field_from read t ≡ option_map (field_with name nullable es e) (type_of_field read t type_)
unfolding field_from
slots-read read t name nullable es e type_ n nulls pairs encoded_as typed =
    rw (n, nulls)
    (given-both (made (field_custom_metadata t)) pairs_at (λ es. given (made (field_dictionary t)) (λ d. given (optional_encoding d) (λ e. given (present (field_type t)) (λ type_. option_map (field_with name nullable es e) (type_of_field read t type_))))) es pairs
    ∙ given-both (made (field_dictionary t)) optional_encoding (λ e. given (present (field_type t)) (λ type_. option_map (field_with name nullable es e) (type_of_field read t type_))) e encoded_as
    ∙ ap (λ o. given o (λ type_. option_map (field_with name nullable es e) (type_of_field read t type_))) typed)

pub fields-weigh : (fs : List Field) (xs : FieldTrees) (is : IdTrees) → AreFieldTables fs xs is → total (map table_weight fs) ≡ fields_weight (norm_fields xs)
fields-weigh [] no_fields no_ids h = refl
fields-weigh [] no_fields (more_ids i is) h = absurd h
fields-weigh [] (more_fields x xs) is h = absurd h
fields-weigh (f ∷ fs) no_fields is h = absurd h
fields-weigh (f ∷ fs) (more_fields x xs) no_ids h = absurd h
fields-weigh (f ∷ fs) (more_fields x xs) (more_ids i is) h = omega (arith, h.0.weighs, fields-weigh fs xs is h.1)

pub fields-count : (fs : List Field) (xs : FieldTrees) (is : IdTrees) → AreFieldTables fs xs is → fields_count xs ≤ parts_size (parts_of (map field_part fs))
fields-count [] no_fields no_ids h = omega arith
fields-count [] no_fields (more_ids i is) h = absurd h
fields-count [] (more_fields x xs) is h = absurd h
fields-count (f ∷ fs) no_fields is h = absurd h
fields-count (f ∷ fs) (more_fields x xs) no_ids h = absurd h
fields-count (f ∷ fs) (more_fields x xs) (more_ids i is) h = omega (arith, h.0.counts, fields-count fs xs is h.1)

type-weighs : (y : FieldType) (t : TypeTree) (fs : List Field) (is : IdTrees) → IsTypeTable y t → AreFieldTables fs (children t) is → type_table_weight y + total (map table_weight fs) ≡ type_weight (norm t)
type-weighs y (plain p) fs is h kids = omega (arith, h.weighs, fields-weigh fs no_fields is kids)
type-weighs y (single k f) fs is h kids = omega (arith, h.weighs, fields-weigh fs (more_fields f no_fields) is kids)
type-weighs y (group g xs) fs is h kids = omega (arith, h.weighs, fields-weigh fs xs is kids)
type-weighs y (dictionary keys t ordered) fs is h kids = type-weighs y t fs is h kids
type-weighs y (extension name t text) fs is h kids = type-weighs y t fs is h kids

type-counts : (t : TypeTree) → inner_count t ≡ fields_count (children t)
type-counts (plain p) = refl
type-counts (single k f) = omega arith
type-counts (group g xs) = refl
type-counts (dictionary keys t ordered) = type-counts t
type-counts (extension name t text) = type-counts t

pub weight_out : (f : Field) → table_weight f ≡ 512 + length (string_bytes (out-Field f).name) + type_table_weight (out-Field f).type_ + tables_weight (out-Field f).custom_metadata.items + total (map table_weight (out-Field f).children.items)
unfolding table_weight
weight_out f = fold_out-Field ℕ weight_step f

pub optional-more : (x : Option Part) (rest : Slots) → slots_size rest ≤ slots_size (optional x rest)
optional-more None rest = omega arith
optional-more (Some x) rest = omega arith

-- a field's table takes more bytes than those of its children
field-size : (f : Field) → 1 + parts_size (parts_of (map field_part (out-Field f).children.items)) ≤ size_of (field_part f)
field-size f =
    let o = out-Field f in
    let kids = map field_part o.children.items in
    let rest = offset (tables (parts_of kids)) (optional (pairs_part o.custom_metadata.items) no_slots) in
    omega (arith, ap size_of (field_part-out f), optional-more (option_map (λ d. table (dictionary_slots d)) o.dictionary) rest)

module _ (f : Field) (name : List ℕ) (x : TypeTree) (nullable : Bool) (es : Pairs) (id : Option ℤ) (is : IdTrees)
    (name_is : string_bytes (out-Field f).name ≡ name) (nullable_is : (out-Field f).nullable ≡ nullable) (typed : IsTypeTable (out-Field f).type_ x)
    (kids : AreFieldTables (out-Field f).children.items (children x) is) (keyed : IsEncodingTable (out-Field f).dictionary (encoding_of x id))
    (pairs : ArePairsOf (out-Field f).custom_metadata.items (norm_pairs x es)) (writable : IsWritableType x) (fit : is_some id ≡ is_dictionary x) where
  reads : (n : ℕ) (t : Spot) → 1 + levels x ≤ n → IsField n t f → field_at n t ≡ Some (norm_field (field name x nullable es), ids id is)
  unfolding field_at
  reads zero t deep held = absurd (omega (arith, deep))
  reads (suc n) t deep (head, (v, led, below)) =
      let o = out-Field f in
      let (s, tagged, held) = head.typed in
      let whole = type-whole x id es writable fit in
      let type_is = type-reads n t s v o.children.items o.type_ is led held below x typed kids (omega (arith, deep)) writable in
      slots-read (λ s. field_at n s) t name nullable (norm_pairs x es) (encoding_of x id) (type_tag o.type_, s)
      (ap present head.named ∙ ap Some name_is) (ap made head.nullable ∙ ap Some nullable_is)
      (pairs-read (field_custom_metadata t) o.custom_metadata.items head.pairs ∙ ap Some pairs.means)
      (encoding-read t o.dictionary (encoding_of x id) head.dictionary keyed) (ap present tagged)
      ∙ ap (option_map (field_with name nullable (norm_pairs x es) (encoding_of x id))) type_is
      ∙ rw (whole.0, whole.1) refl

  pub field-table : IsFieldTable f (field name x nullable es) (ids id is)
  field-table = record {
    reads = reads;
    weighs =
        let o = out-Field f in
        let out = weight_out f in
        let typed_weight = type-weighs o.type_ x o.children.items is typed kids in
        let pairs_weight_is : tables_weight o.custom_metadata.items ≡ pairs_weight (norm_pairs x es) = tables-weigh o.custom_metadata.items ∙ pairs.weighs in
        let name_long = ap length name_is in
        omega (arith, out, typed_weight, pairs_weight_is, name_long);
    counts =
        let o = out-Field f in
        let size = field-size f in
        let below = fields-count o.children.items (children x) is kids in
        let count = type-counts x in
        omega (arith, size, below, count);
  }

-- The same of a table that was built.
pub table-made : (f : Field-F Field) (name : List ℕ) (x : TypeTree) (nullable : Bool) (es : Pairs) (id : Option ℤ) (is : IdTrees)
    → string_bytes f.name ≡ name → f.nullable ≡ nullable → IsTypeTable f.type_ x → AreFieldTables f.children.items (children x) is → IsEncodingTable f.dictionary (encoding_of x id)
    → ArePairsOf f.custom_metadata.items (norm_pairs x es) → IsWritableType x → is_some id ≡ is_dictionary x → IsFieldTable (roll-Field f) (field name x nullable es) (ids id is)
table-made f name x nullable es id is n b typed kids keyed pairs w fit =
    let out = out-roll-Field f in
    field-table (roll-Field f) name x nullable es id is (ap (λ (o : Field-F Field). string_bytes o.name) out ∙ n) (ap (λ (o : Field-F Field). o.nullable) out ∙ b)
    (subst (λ (o : Field-F Field). IsTypeTable o.type_ x) (sym out) typed) (subst (λ (o : Field-F Field). AreFieldTables o.children.items (children x) is) (sym out) kids)
    (subst (λ (o : Field-F Field). IsEncodingTable o.dictionary (encoding_of x id)) (sym out) keyed) (subst (λ (o : Field-F Field). ArePairsOf o.custom_metadata.items (norm_pairs x es)) (sym out) pairs) w fit

-- ---- fields one after another

-- what is left of the fields and of their ids
pub record IsLeft (all : List Field) (fs : List Column) (is : List IpcField) (i : ℕ) : Type 0 where
  pub so_far : (ts : List Field) → AreFieldTables ts (fields_view (drop i fs)) (all_ids_view (drop i is)) → AreFieldTables (all ++ ts) (fields_view fs) (all_ids_view is)
  pub writable : AreWritable (fields_view (drop i fs))
  pub fit : AllFit (fields_view (drop i fs)) (all_ids_view (drop i is))

fit-inside : (x : FieldTree) (xs : FieldTrees) (is : List IpcField) (i : ℕ) → AllFit (more_fields x xs) (all_ids_view (drop i is)) → i < length is
fit-inside x xs [] zero h = absurd h
fit-inside x xs [] (suc i) h = absurd h
fit-inside x xs (j ∷ is) zero h = omega arith
fit-inside x xs (j ∷ is) (suc i) h = omega (arith, fit-inside x xs is i h)

-- the next field
module _ (all : List Field) (fs : List Column) (is : List IpcField) (i : ℕ) (x : Column) (inside : i < length fs) (x_is : x ≡ get_or fs i x) (left : IsLeft all fs is i) where
  next-field : drop i fs ≡ x ∷ drop (i + 1) fs
  next-field = drop_more fs i x inside ∙ ap (λ y. y ∷ drop (i + 1) fs) (sym x_is)

  fits : AllFit (more_fields (field_view x) (fields_view (drop (i + 1) fs))) (all_ids_view (drop i is))
  fits = subst (λ (ys : List Column). AllFit (fields_view ys) (all_ids_view (drop i is))) next-field left.fit

  pub next-inside : i < length is
  next-inside = fit-inside (field_view x) (fields_view (drop (i + 1) fs)) is i fits

  pub next-writable : IsWritableField (field_view x)
  next-writable = (subst (λ (ys : List Column). AreWritable (fields_view ys)) next-field left.writable).0

  module _ (d : IpcField) (d_is : d ≡ get_or is i d) where
    next-ids : drop i is ≡ d ∷ drop (i + 1) is
    next-ids = drop_more is i d next-inside ∙ ap (λ y. y ∷ drop (i + 1) is) (sym d_is)

    both : Fits (field_view x) (ids_view d) × AllFit (fields_view (drop (i + 1) fs)) (all_ids_view (drop (i + 1) is))
    both = subst (λ (js : List IpcField). AllFit (more_fields (field_view x) (fields_view (drop (i + 1) fs))) (all_ids_view js)) next-ids fits

    pub next-fits : Fits (field_view x) (ids_view d)
    next-fits = both.0

    pub one-more : (f : Field) → IsFieldTable f (field_view x) (ids_view d) → IsLeft (all ++ f ∷ []) fs is (i + 1)
    one-more f h = record {
      so_far = λ ts rest.
          let here = subst (λ (ys : List Column). AreFieldTables (f ∷ ts) (fields_view ys) (all_ids_view (drop i is))) (sym next-field)
          (subst (λ (js : List IpcField). AreFieldTables (f ∷ ts) (more_fields (field_view x) (fields_view (drop (i + 1) fs))) (all_ids_view js)) (sym next-ids) (h, rest)) in
          subst (λ (ys : List Field). AreFieldTables ys (fields_view fs) (all_ids_view is)) (sym (append_assoc all (f ∷ []) ts)) (left.so_far (f ∷ ts) here);
      writable = (subst (λ (ys : List Column). AreWritable (fields_view ys)) next-field left.writable).1;
      fit = both.1;
    }

none-fit : (is : List IpcField) → AllFit no_fields (all_ids_view is) → is ≡ []
none-fit [] h = refl
none-fit (i ∷ is) h = absurd h

-- no field is left
pub all-done : (all : List Field) (fs : List Column) (is : List IpcField) (i : ℕ) → length fs ≤ i → IsLeft all fs is i → AreFieldTables all (fields_view fs) (all_ids_view is)
all-done all fs is i past left =
    let no_more : drop i fs ≡ [] = drop_all i fs past in
    let none = none-fit (drop i is) (subst (λ (ys : List Column). AllFit (fields_view ys) (all_ids_view (drop i is))) no_more left.fit) in
    subst (λ (ys : List Field). AreFieldTables ys (fields_view fs) (all_ids_view is)) (append-nil all)
    (left.so_far [] (subst (λ (ys : List Column). AreFieldTables [] (fields_view ys) (all_ids_view (drop i is))) (sym no_more) (subst (λ (js : List IpcField). AreFieldTables [] no_fields (all_ids_view js)) (sym none) tt)))
