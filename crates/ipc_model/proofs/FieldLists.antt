-- The fields of a vector, one after another.
use Rattle.std.proofs.Common.{◌≡◌, ℕ, zero, suc, ◌+◌, ◌<◌, ◌≤◌, Option, Some, Ok, refl, ap, sym, ◌∙◌, arith}
use Rattle.lower.specs.TypeTrees.{FieldTree, FieldTrees, no_fields, more_fields}
use Rattle.ipc_base.specs.IdTrees.{no_ids, more_ids}
use Rattle.ipc_table_views.specs.Spot.{Spot, Vector}
use Rattle.ipc_table_views.specs.Tables.{table_in}
use Rattle.ipc_model.proofs.Given.{given-some, map-some, made-some, some-same}
use Rattle.ipc_model.specs.FieldLists.{and_field, and_read}
use Rattle.ipc_model.specs.Schemas.{Read, ReadAll, made, field_count, fields_count, fields_from}

-- ---- one more field

pub count-and : (fs : FieldTrees) (f : FieldTree) → fields_count (and_field fs f) ≡ fields_count fs + field_count f
count-and no_fields f = omega arith
count-and (more_fields g gs) f = omega (arith, count-and gs f)

-- A field, and n after it.
pub fields-step : (read : Spot → Option Read) (v : Vector) (k n : ℕ) (t : Spot) (x : Read) (rest : ReadAll)
    → table_in v k ≡ Ok t → read t ≡ Some x → fields_from read v (k + 1) n ≡ Some rest
    → fields_from read v k (suc n) ≡ Some (more_fields x.0 rest.0, more_ids x.1 rest.1)
fields-step read v k n t x rest led is after = rw (led, is, after) refl

-- n fields from k on, and the one after them.
pub fields-more : (read : Spot → Option Read) (v : Vector) (k n : ℕ) (all : ReadAll) (t : Spot) (x : Read)
    → fields_from read v k n ≡ Some all → table_in v (k + n) ≡ Ok t → read t ≡ Some x → fields_from read v k (suc n) ≡ Some (and_read all x)
fields-more read v k zero all t x before led is =
    let same : k + 0 ≡ k = omega arith in
    let none : (no_fields, no_ids) ≡ all = cc in
    fields-step read v k zero t x (no_fields, no_ids) (ap (table_in v) (sym same) ∙ led) is refl
    ∙ ap (λ (a : ReadAll). Some (and_read a x)) none
fields-more read v k (suc n) all t x before led is =
    let (t0, t0_is, e1) = given-some (made (table_in v k)) _ all before in
    let (x0, x0_is, e2) = given-some (read t0) _ all e1 in
    let (rest, rest_is, all_is) = map-some _ (fields_from read v (k + 1) n) all e2 in
    let one : k + suc n ≡ (k + 1) + n = omega arith in
    let after = fields-more read v (k + 1) n rest t x rest_is (ap (table_in v) (sym one) ∙ led) is in
    fields-step read v k (suc n) t0 x0 (and_read rest x) (made-some _ t0 t0_is) x0_is after
    ∙ ap (λ (a : ReadAll). Some (and_read a x)) (sym all_is)

-- ---- one of all fields

-- If all fields mean something, each does; with those before it there are no more than all.
pub record OneField (read : Spot → Option Read) (v : Vector) (k : ℕ) (before all : FieldTrees) : Type 0 where
  pub table : Spot
  pub field : Read
  pub led : table_in v k ≡ Ok table
  pub is : read table ≡ Some field
  pub few : fields_count before + field_count field.0 ≤ fields_count all

pub one-field : (read : Spot → Option Read) (v : Vector) (k n i : ℕ) (before all : ReadAll)
    → fields_from read v k n ≡ Some all → fields_from read v k i ≡ Some before → i < n → OneField read v (k + i) before.0 all.0
one-field read v k zero i before all e f inside = absurd (omega (arith, inside))
one-field read v k (suc n) zero before all e f inside =
    let (t0, t0_is, e1) = given-some (made (table_in v k)) _ all e in
    let (x0, x0_is, e2) = given-some (read t0) _ all e1 in
    let (rest, rest_is, all_is) = map-some _ (fields_from read v (k + 1) n) all e2 in
    let none : (no_fields, no_ids) ≡ before = cc in
    let same : k ≡ k + 0 = omega arith in
    let led : table_in v (k + 0) ≡ Ok t0 = ap (table_in v) (sym same) ∙ made-some _ t0 t0_is in
    let zero_count : fields_count before.0 ≡ 0 = ap (λ (b : ReadAll). fields_count b.0) (sym none) in
    let all_count : fields_count all.0 ≡ field_count x0.0 + fields_count rest.0 = ap (λ (b : ReadAll). fields_count b.0) all_is in
    record { table = t0; field = x0; led = led; is = x0_is; few = omega (arith, zero_count, all_count) }
one-field read v k (suc n) (suc i) before all e f inside =
    let (t0, t0_is, e1) = given-some (made (table_in v k)) _ all e in
    let (x0, x0_is, e2) = given-some (read t0) _ all e1 in
    let (rest, rest_is, all_is) = map-some _ (fields_from read v (k + 1) n) all e2 in
    let (t1, t1_is, f1) = given-some (made (table_in v k)) _ before f in
    let (x1, x1_is, f2) = given-some (read t1) _ before f1 in
    let (some, some_is, before_is) = map-some _ (fields_from read v (k + 1) i) before f2 in
    let same_table : t0 ≡ t1 = some-same t0 t1 (sym t0_is ∙ t1_is) in
    let same_field : x0 ≡ x1 = some-same x0 x1 (sym x0_is ∙ ap read same_table ∙ x1_is) in
    let one = one-field read v (k + 1) n i some rest rest_is some_is (omega (arith, inside)) in
    let place : (k + 1) + i ≡ k + suc i = omega arith in
    let few = one.few in
    let all_count : fields_count all.0 ≡ field_count x0.0 + fields_count rest.0 = ap (λ (b : ReadAll). fields_count b.0) all_is in
    let before_count : fields_count before.0 ≡ field_count x0.0 + fields_count some.0 =
    ap (λ (b : ReadAll). fields_count b.0) before_is ∙ ap (λ (x : Read). field_count x.0 + fields_count some.0) (sym same_field) in
    record { table = one.table; field = one.field; led = ap (table_in v) (sym place) ∙ one.led; is = one.is; few = omega (arith, few, all_count, before_count) }
