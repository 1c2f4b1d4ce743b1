-- What a field's table means, by the parts that were read of it.
use Rattle.std.proofs.Common.{◌≡◌, ℕ, suc, ◌+◌, ◌-◌, ◌<◌, Bool, true, false, cond, nat_eq, List, Option, Some, None, Result, Ok, refl, ap, sym, ◌∙◌, arith}
use Rattle.std.specs.Prelude.{IfSome}
use Rattle.std.specs.Option.{option_map}
use Rattle.lower.specs.TypeTrees.{Pairs, TypeTree, Single, single, Group, group, FieldTree, field}
use Rattle.ipc_devices.specs.declared.fault.Fault.{Fault}
use Rattle.ipc_devices.specs.declared.fault.Fault.TheVariants as faults
use Rattle.ipc_devices.specs.declared.fault.SchemaFault.TheVariants.{NotASchema}
use Rattle.ipc_devices.specs.declared.fault.TableFault.{TableFault}
use Rattle.ipc_table_views.specs.Spot.{Spot, Vector}
use Rattle.ipc_table_views.specs.SchemaSlots.{field_name, field_nullable, field_type, field_dictionary, field_custom_metadata}
use Rattle.ipc_table_views.specs.Tables.{map_ok, table_in}
use Rattle.ipc_model.specs.Schemas.{Encoding, Read, ReadAll, ReadType, made, present, given, encoded, extended, with_extension, optional_encoding, pairs_at, field_at, field_count, field_from, field_with, fields_count, fields_from, first_field, group_with, inner_count, single_with, type_of_field}
use Rattle.ipc_schema.specs.Reading.{RefusesWith, in_schema}
use Rattle.ipc_schema.specs.Views.{Child, below_count, below_number, child_number, with_one_id}
use Rattle.ipc_model.proofs.FieldLists.{one-field}
use Rattle.ipc_model.proofs.Given.{given-some, if-some, if-some-at, map-some}
use Rattle.ipc_schema.proofs.FieldLists.{given-given}
use Rattle.ipc_schema.proofs.Steps.{in_schema-ok}

-- ---- refusals

pub refuses-weaker : (e : Fault) (P Q : Type 0) → (P → Q) → RefusesWith e P → RefusesWith e Q
refuses-weaker faults.Memory P Q f h = tt
refuses-weaker (faults.Schema NotASchema) P Q f h = absurd h
refuses-weaker (faults.Schema e) P Q f h = f h
refuses-weaker _ P Q f h = absurd h

-- ---- slots

pub slot-made : {A : Type 0} (r s : Result A TableFault) (x : A) → r ≡ s → Ok x ≡ in_schema r → made s ≡ Some x
slot-made r s x same e = ap made (sym same ∙ in_schema-ok r x e)

pub slot-present : {A B : Type 0} (f : A → B) (r : Result (Option A) TableFault) (s : Result (Option B) TableFault) (o : Option A) (x : A)
    → map_ok (option_map f) r ≡ s → Ok o ≡ in_schema r → o ≡ Some x → present s ≡ Some (f x)
slot-present f r s o x same e is = ap present (sym same ∙ ap (map_ok (option_map f)) (in_schema-ok r o e)) ∙ ap (λ o. present (Ok (option_map f o))) is

pub present-read : {A : Type 0} (r s : Result (Option A) TableFault) (o : Option A) (x : A) → r ≡ s → Ok o ≡ in_schema r → o ≡ Some x → present s ≡ Some x
present-read r s o x same e is = ap present (sym same ∙ in_schema-ok r o e) ∙ ap (λ o. present (Ok o)) is

-- ---- a field

module _ (read : Spot → Option Read) (t : Spot) (name : List ℕ) (nullable : Bool) (es : Pairs) (enc : Option Encoding) (type_ : ℕ × Spot)
    (named : present (field_name t) ≡ Some name) (nulls : made (field_nullable t) ≡ Some nullable)
    (pairs : given (made (field_custom_metadata t)) pairs_at ≡ Some es) (dictionary : given (made (field_dictionary t)) optional_encoding ≡ Some enc)
    (typed : present (field_type t) ≡ Some type_) where
  with-pairs : (f : Pairs → Option Read) → given (made (field_custom_metadata t)) (λ v. given (pairs_at v) f) ≡ f es
  with-pairs f = sym (given-given (made (field_custom_metadata t)) pairs_at f) ∙ ap (λ o. given o f) pairs

  with-dictionary : (f : Option Encoding → Option Read) → given (made (field_dictionary t)) (λ d. given (optional_encoding d) f) ≡ f enc
  with-dictionary f = sym (given-given (made (field_dictionary t)) optional_encoding f) ∙ ap (λ o. given o f) dictionary

  after-dictionary : Pairs → Option Encoding → Option Read
  after-dictionary es e = given (present (field_type t)) (λ type_. option_map (field_with name nullable es e) (type_of_field read t type_))

  after-pairs : Pairs → Option Read
  after-pairs es = given (made (field_dictionary t)) (λ d. given (optional_encoding d) (λ e. given (present (field_type t)) (λ type_. option_map (field_with name nullable es e) (type_of_field read t type_))))

  pub field-is : field_from read t ≡ option_map (field_with name nullable es enc) (type_of_field read t type_)
  unfolding field_from after-pairs after-dictionary
  field-is =
      rw (named, nulls) (with-pairs (λ es. after-pairs es) ∙ with-dictionary (λ e. after-dictionary es e) ∙ ap (λ o. given o (λ type_. option_map (field_with name nullable es enc) (type_of_field read t type_))) typed)

-- A dictionary encoding without a meaning.
pub no-dictionary : (read : Spot → Option Read) (t : Spot) (name : List ℕ) (nullable : Bool) (es : Pairs) → present (field_name t) ≡ Some name → made (field_nullable t) ≡ Some nullable
    → given (made (field_custom_metadata t)) pairs_at ≡ Some es → given (made (field_dictionary t)) optional_encoding ≡ None → field_from read t ≡ None
unfolding field_from
no-dictionary read t name nullable es named nulls pairs none = rw (named, nulls)
    (sym (given-given (made (field_custom_metadata t)) pairs_at (λ es. after es)) ∙ ap (λ o. given o (λ es. after es)) pairs
    ∙ sym (given-given (made (field_dictionary t)) optional_encoding (λ e. last es e)) ∙ ap (λ o. given o (λ e. last es e)) none)
  where
    last : Pairs → Option Encoding → Option Read
    last es e = given (present (field_type t)) (λ type_. option_map (field_with name nullable es e) (type_of_field read t type_))

    after : Pairs → Option Read
    after es = given (made (field_dictionary t)) (λ d. given (optional_encoding d) (λ e. last es e))

pub level-down : (levels : ℕ) (t : Spot) → 0 < levels → field_at levels t ≡ field_from (λ s. field_at (levels - 1) s) t
unfolding field_at
level-down levels t some =
    let one : levels ≡ suc (levels - 1) = omega (arith, some) in
    ap (λ n. field_at n t) one

-- the fields below are those of the type
count-extended : (name : Option (List ℕ)) (text : Option (List ℕ)) (t : TypeTree) → inner_count (extended name text t) ≡ inner_count t
count-extended None text t = refl
count-extended (Some n) text t = refl

count-encoded : (enc : Option Encoding) (t : TypeTree) → inner_count (encoded enc t) ≡ inner_count t
count-encoded None t = refl
count-encoded (Some e) t = refl

pub below-with : (name : List ℕ) (nullable : Bool) (es : Pairs) (enc : Option Encoding) (y : ReadType) → below_number (field_with name nullable es enc y) ≡ inner_count y.0
below-with name nullable es enc y = count-encoded enc (with_extension es y.0) ∙ count-extended _ _ y.0

-- a field, and those below it
pub one-and-below : (f : FieldTree) → field_count f ≡ 1 + below_count f
one-and-below (field name t nullable es) = refl

pub mapped-within : (name : List ℕ) (nullable : Bool) (es : Pairs) (enc : Option Encoding) (o : Option ReadType) (most before : ℕ)
    → IfSome o (λ y. most < before + inner_count y.0) → IfSome (option_map (field_with name nullable es enc) o) (λ y. most < before + below_number y)
mapped-within name nullable es enc None most before h = tt
mapped-within name nullable es enc (Some y) most before h = omega (arith, h, below-with name nullable es enc y)

-- ---- types with children

pub one-child : (o : Option Vector) (f : Vector → Option Read) (s : Single) (c : Child) → option_map with_one_id (given o f) ≡ Some c → given o (λ v. option_map (single_with s) (f v)) ≡ Some (single s c.0, c.1)
one-child None f s c e = cc
one-child (Some v) f s c e = at (f v) e
  where
    at : (r : Option Read) → option_map with_one_id r ≡ Some c → option_map (single_with s) r ≡ Some (single s c.0, c.1)
    at None e = cc
    at (Some x) e = let same : with_one_id x ≡ c = cc in ap (λ (c : Child). Some (single s c.0, c.1)) same

pub several : (o : Option Vector) (f : Vector → Option ReadAll) (g : Group) (all : ReadAll) → given o f ≡ Some all → given o (λ v. option_map (group_with g) (f v)) ≡ Some (group g all.0, all.1)
several None f g all e = cc
several (Some v) f g all e = rw e refl

-- ---- the fields of a vector

not-none : (b : Bool) (o : Option Read) (x : Read) → cond b None o ≡ Some x → o ≡ Some x
not-none true o x e = cc
not-none false o x e = e

-- The table of the first field: it is opened, or there is none, or no visit is left.
pub no-first : (o : Option Vector) (read : Spot → Option Read) (v : Vector) (most visits : ℕ) → o ≡ Some v → IfSome (made (table_in v 0)) (λ _. most < visits + 1)
    → IfSome (option_map with_one_id (given o (first_field read))) (λ y. most < visits + child_number y)
no-first o read v most visits there none = if-some (option_map with_one_id (given o (first_field read))) (λ y. most < visits + child_number y) (λ y e.
    let (x, x_is, y_is) = map-some with_one_id (given o (first_field read)) y e in
    let first : first_field read v ≡ Some x = sym (ap (λ (p : Option Vector). given p (first_field read)) there) ∙ x_is in
    let (t, t_is, read_is) = given-some (made (table_in v 0)) read x (not-none (nat_eq v.count 0) (given (made (table_in v 0)) read) x first) in
    let here : most < visits + 1 = if-some-at (made (table_in v 0)) (λ _. most < visits + 1) t none t_is in
    let same : child_number y ≡ field_count x.0 = ap child_number y_is in
    let counted = one-and-below x.0 in
    omega (arith, here, same, counted))

-- The table at i, after the fields before it: it is opened, or there is none, or no visit is left.
pub no-table : (read : Spot → Option Read) (v : Vector) (i n : ℕ) (before : ReadAll) (most old visits : ℕ)
    → fields_from read v 0 i ≡ Some before → i < n → visits ≡ old + fields_count before.0
    → IfSome (made (table_in v i)) (λ _. most < visits + 1) → IfSome (fields_from read v 0 n) (λ all. most < old + fields_count all.0)
no-table read v i n before most old visits first inside taken none = if-some (fields_from read v 0 n) (λ all. most < old + fields_count all.0) (λ all e.
    let one = one-field read v 0 n i before all e first inside in
    let same : 0 + i ≡ i = omega arith in
    let led : made (table_in v i) ≡ Some one.table = ap (λ k. made (table_in v k)) (sym same) ∙ ap made one.led in
    let here : most < visits + 1 = if-some-at (made (table_in v i)) (λ _. most < visits + 1) one.table none led in
    let counted = one-and-below one.field.0 in
    let few = one.few in
    omega (arith, taken, here, counted, few))

pub too-many : (read : Spot → Option Read) (v : Vector) (i n : ℕ) (before : ReadAll) (t : Spot) (most old visits opened : ℕ)
    → fields_from read v 0 i ≡ Some before → table_in v i ≡ Ok t → i < n → visits ≡ old + fields_count before.0 → opened ≡ visits + 1
    → IfSome (read t) (λ y. most < opened + below_number y) → IfSome (fields_from read v 0 n) (λ all. most < old + fields_count all.0)
too-many read v i n before t most old visits opened first led inside taken one_more few = if-some (fields_from read v 0 n) (λ all. most < old + fields_count all.0) (λ all e.
    let one = one-field read v 0 n i before all e first inside in
    let same : 0 + i ≡ i = omega arith in
    let opens : Ok one.table ≡ Ok t = sym one.led ∙ ap (table_in v) same ∙ led in
    let table : one.table ≡ t = cc in
    let here = if-some-at (read t) (λ y. most < opened + below_number y) one.field few (ap read (sym table) ∙ one.is) in
    let counted = one-and-below one.field.0 in
    let all_few = one.few in
    omega (arith, taken, one_more, here, counted, all_few))
