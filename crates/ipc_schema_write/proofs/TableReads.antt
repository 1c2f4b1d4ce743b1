-- The tables of fields to be written mean the fields.
use Rattle.std.proofs.Common.{◌≡◌, ℕ, suc, ◌+◌, ◌≤◌, false, cond, List, [], ◌∷◌, length, nat_eq, Option, Some, None, Result, Ok, refl, ap, sym, ◌∙◌, arith}
use Rattle.std.proofs.lemmas.Bool.Decides.{nat_tests}
use Rattle.std.specs.Prelude.{slice_get, string_bytes}
use Rattle.std.specs.Option.{option_map}
use Rattle.lower.specs.Counts.{children, fields_levels, field_levels, levels}
use Rattle.lower.specs.Normal.{norm, norm_field, norm_fields, with_pair}
use Rattle.lower.specs.TypeTrees.{Pairs, Single, Group, structure, choice, TypeTree, plain, single, group, dictionary, extension, FieldTree, FieldTrees, no_fields, more_fields}
use Rattle.ipc_base.specs.IdTrees.{IdTrees, no_ids, more_ids}
use Rattle.ipc_devices.specs.declared.fault.TableFault.{TableFault}
use Rattle.ipc_table_views.specs.SchemaSlots.{field_children}
use Rattle.ipc_table_views.specs.Spot.{Spot, Vector}
use Rattle.ipc_table_views.specs.Tables.{table_in}
use Rattle.ipc_tables.specs.Reads.{AreTables, ArePairTables, IsField, IsPairTable, IsType}
use Rattle.ipc_tables.specs.Types.{type_tag}
use Rattle.ipc_tables.specs.declared.schema.Field.{Field}
use Rattle.ipc_tables.specs.declared.schema.KeyValue.{KeyValue}
use Rattle.ipc_tables.specs.declared.types.FieldType.{FieldType}
use Rattle.ipc_model.specs.Schemas.{field_at, fields_from, first_field, given, made, pairs_at, pairs_from, single_with, some_fields, type_of_field}
use Rattle.ipc_model.specs.Writable.{IsWritableType, IsWritableGroup, field_number}
use Rattle.ipc_schema_write.specs.Meanings.{AreFieldTables, IsTypeTable, pairs_in, put_pairs}

-- ---- pairs

pairs-go : (v : Vector) (k : ℕ) (ps : List KeyValue) (es : Pairs)
    → ((j : ℕ) (x : KeyValue) → slice_get ps j ≡ Some x → (t : Spot) × (table_in v (k + j) ≡ Ok t) × IsPairTable t x)
    → pairs_from v k (length ps) es ≡ Some (put_pairs (pairs_in ps) es)
pairs-go v k [] es each = refl
pairs-go v k (p ∷ ps) es each =
    let (t, led, (key, value)) = each 0 p refl in
    let here : k + 0 ≡ k = omega arith in
    let at_k : table_in v k ≡ Ok t = ap (table_in v) (sym here) ∙ led in
    let rest = pairs-go v (k + 1) ps (with_pair (string_bytes p.key) (string_bytes p.value) es) (λ j x e.
    let r = each (suc j) x e in
    let same : k + suc j ≡ (k + 1) + j = omega arith in
    (r.0, ap (table_in v) (sym same) ∙ r.1, r.2)) in
    rw (at_k, key, value) rest

-- A vector of pairs; none if there is no pair.
pub pairs-read : (r : Result (Option Vector) TableFault) (ps : List KeyValue) → ArePairTables r ps → given (made r) pairs_at ≡ Some (put_pairs (pairs_in ps) [])
unfolding pairs_at
pairs-read r [] is = rw is refl
pairs-read r (p ∷ ps) (v, is, tables) =
    let counted : v.count ≡ length (p ∷ ps) = tables.count in
    rw is (ap (λ c. pairs_from v 0 c []) counted ∙ pairs-go v 0 (p ∷ ps) [] (λ j x e.
    let each = tables.each j x e in
    let same : 0 + j ≡ j = omega arith in
    (each.0, ap (table_in v) same ∙ each.1, each.2)))

-- ---- fields of a vector

-- the tables of a vector from one on
abbrev pub Stand : ℕ → Vector → ℕ → List Field → Type 0
Stand n v k fs = (j : ℕ) (x : Field) → slice_get fs j ≡ Some x → (t : Spot) × (table_in v (k + j) ≡ Ok t) × IsField n t x

pub stand-from : (n : ℕ) (v : Vector) (fs : List Field) → AreTables v (IsField n) fs → Stand n v 0 fs
stand-from n v fs tables = λ j x e.
    let each = tables.each j x e in
    let same : 0 + j ≡ j = omega arith in
    (each.0, ap (table_in v) same ∙ each.1, each.2)

pub fields-go : (n : ℕ) (v : Vector) (k : ℕ) (fs : List Field) (xs : FieldTrees) (is : IdTrees) → AreFieldTables fs xs is → fields_levels xs ≤ n → Stand n v k fs
    → fields_from (λ s. field_at n s) v k (length fs) ≡ Some (norm_fields xs, is)
fields-go n v k [] no_fields no_ids h deep each = refl
fields-go n v k [] no_fields (more_ids i is) h deep each = absurd h
fields-go n v k [] (more_fields x xs) is h deep each = absurd h
fields-go n v k (f ∷ fs) no_fields is h deep each = absurd h
fields-go n v k (f ∷ fs) (more_fields x xs) no_ids h deep each = absurd h
fields-go n v k (f ∷ fs) (more_fields x xs) (more_ids i is) (one, all) deep each =
    let (t, led, stands) = each 0 f refl in
    let here : k + 0 ≡ k = omega arith in
    let at_k : table_in v k ≡ Ok t = ap (table_in v) (sym here) ∙ led in
    let first = one.reads n t (omega (arith, deep)) stands in
    let rest = fields-go n v (k + 1) fs xs is all (omega (arith, deep)) (λ j y e.
    let r = each (suc j) y e in
    let same : k + suc j ≡ (k + 1) + j = omega arith in
    (r.0, ap (table_in v) (sym same) ∙ r.1, r.2)) in
    rw (at_k, first, rest) refl

pub fields-number : (fs : List Field) (xs : FieldTrees) (is : IdTrees) → AreFieldTables fs xs is → length fs ≡ field_number xs
fields-number [] no_fields no_ids h = refl
fields-number [] no_fields (more_ids i is) h = absurd h
fields-number [] (more_fields x xs) is h = absurd h
fields-number (f ∷ fs) no_fields is h = absurd h
fields-number (f ∷ fs) (more_fields x xs) no_ids h = absurd h
fields-number (f ∷ fs) (more_fields x xs) (more_ids i is) h = omega (arith, fields-number fs xs is h.1)

-- ---- types

-- the type without its dictionary and its extension
abbrev pub stored : TypeTree → TypeTree
stored (plain p) = plain p
stored (single k f) = single k f
stored (group g fs) = group g fs
stored (dictionary keys t ordered) = stored t
stored (extension name t text) = stored t

only-child : (k : Single) (n : ℕ) (v : Vector) (fs : List Field) (x : FieldTree) (is : IdTrees) → AreFieldTables fs (more_fields x no_fields) is → field_levels x ≤ n → AreTables v (IsField n) fs
    → option_map (single_with k) (first_field (λ s. field_at n s) v) ≡ Some (single k (norm_field x), is)
only-child k n v [] x is h deep tables = absurd h
only-child k n v (f ∷ []) x (more_ids i no_ids) h deep tables =
    let (t, led, stands) = tables.each 0 f refl in
    let counted : v.count ≡ 1 = tables.count in
    ap (λ c. option_map (single_with k) (cond (nat_eq c 0) None (given (made (table_in v 0)) (λ s. field_at n s)))) counted
    ∙ ap (λ r. option_map (single_with k) (given (made r) (λ s. field_at n s))) led
    ∙ ap (option_map (single_with k)) (h.0.reads n t deep stands)
only-child k n v (f ∷ []) x (more_ids i (more_ids j is)) h deep tables = absurd h.1
only-child k n v (f ∷ []) x no_ids h deep tables = absurd h
only-child k n v (f ∷ g ∷ fs) x (more_ids i is) h deep tables = absurd h.1
only-child k n v (f ∷ g ∷ fs) x no_ids h deep tables = absurd h

some-children : (n : ℕ) (v : Vector) (fs : List Field) (xs : FieldTrees) (is : IdTrees) → AreFieldTables fs xs is → fields_levels xs ≤ n → AreTables v (IsField n) fs → 1 ≤ field_number xs
    → some_fields (λ s. field_at n s) v ≡ Some (norm_fields xs, is)
some-children n v fs xs is h deep tables some =
    let counted : v.count ≡ length fs = tables.count in
    let number = fields-number fs xs is h in
    let all : fields_from (λ s. field_at n s) v 0 v.count ≡ Some (norm_fields xs, is) =
    ap (λ c. fields_from (λ s. field_at n s) v 0 c) counted ∙ fields-go n v 0 fs xs is h deep (stand-from n v fs tables) in
    let there : nat_eq v.count 0 ≡ false = grind (arith, nat_tests) in
    ap (λ b. cond b None (fields_from (λ s. field_at n s) v 0 v.count)) there ∙ all

group-some : (g : Group) (xs : FieldTrees) → IsWritableGroup g xs → 1 ≤ field_number xs
group-some structure xs h = h
group-some (choice type_ids mode) xs h = h.some

no-child : (fs : List Field) (is : IdTrees) → AreFieldTables fs no_fields is → is ≡ no_ids
no-child [] no_ids h = refl
no-child [] (more_ids i is) h = absurd h
no-child (f ∷ fs) is h = absurd h

-- what the table of a type means, with the tables of the children
module _ (n : ℕ) (t s : Spot) (v : Vector) (fs : List Field) (y : FieldType) (is : IdTrees) (led : field_children t ≡ Ok (Some v)) (held : IsType s y) (tables : AreTables v (IsField n) fs) where
  pub type-reads : (x : TypeTree) → IsTypeTable y x → AreFieldTables fs (children x) is → levels x ≤ n → IsWritableType x → type_of_field (λ s. field_at n s) t (type_tag y, s) ≡ Some (norm (stored x), is)
  type-reads (plain p) h kids deep w =
      let none : is ≡ no_ids = no-child fs is kids in
      rw (h.not_single, h.not_group, h.reads s held) (ap (λ i. Some (plain p, i)) (sym none))
  type-reads (single k f) h kids deep w =
      rw (h.is_single, h.reads s held, led) (only-child k n v fs f is kids deep tables)
  type-reads (group g xs) h kids deep w =
      let all = some-children n v fs xs is kids deep tables (group-some g xs w.0) in
      rw (h.not_single, h.is_group, h.reads s held, led, all) refl
  type-reads (dictionary keys x ordered) h kids deep w = type-reads x h kids deep w.1
  type-reads (extension name x text) h kids deep w = type-reads x h kids deep w.1
