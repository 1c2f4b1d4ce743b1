-- The fields of a vector, one after another.
use Rattle.std.proofs.Common.{◌≡◌, ℕ, ◌+◌, ◌<◌, Bool, true, false, ◌||◌, List, [], ◌∷◌, ◌++◌, Option, Some, None, Result, Ok, Err, refl, ap, sym, subst, ◌∙◌, arith}
use Rattle.std.specs.Prelude.{IfOk, IfSome, IsSomeAnd}
use Rattle.lower.specs.TypeTrees.{FieldTree, FieldTrees, no_fields, more_fields}
use Rattle.ipc_base.specs.IdTrees.{more_ids}
use Rattle.ipc_devices.specs.declared.fault.TableFault.{TableFault}
use Rattle.ipc_table_views.specs.Spot.{Spot, Vector}
use Rattle.ipc_table_views.specs.Tables.{table_in}
use Rattle.ipc_model.proofs.FieldLists.{count-and, one-field}
use Rattle.ipc_model.proofs.Given.{if-some, if-some-at}
use Rattle.ipc_model.specs.FieldLists.{and_field, and_read}
use Rattle.ipc_model.specs.Schemas.{Read, ReadAll, field_count, fields_count, fields_from}
use Rattle.ipc_reference_schema.specs.OtherTypes.{field_has_other, fields_have_other}
use Rattle.ipc_reference_schema.specs.PlainTypes.{field_view, fields_view}
use Rattle.ipc_reference_schema.specs.declared.types.PlainField.{PlainField}

-- ---- what holds of a value, if there is one

pub if-none : {A : Type 0} (o : Option A) (P : A → Type 0) → o ≡ None → IfSome o P
if-none o P e = subst (λ o. IfSome o P) (sym e) tt

pub if-ok : {A E : Type 0} (r : Result A E) (P Q : A → Type 0) → ((x : A) → P x → Q x) → IfOk r P → IfOk r Q
if-ok (Ok x) P Q f h = f x h
if-ok (Err e) P Q f h = tt

pub some-and : {A : Type 0} (o : Option A) (P : A → Type 0) → IsSomeAnd o P → (x : A) × (o ≡ Some x) × P x
some-and None P h = absurd h
some-and (Some x) P h = (x, refl, h)

-- ---- one more field

or-false : (a : Bool) → (a || false) ≡ a
or-false true = refl
or-false false = refl

or-or : (a b c : Bool) → (a || (b || c)) ≡ ((a || b) || c)
or-or true b c = refl
or-or false b c = refl

pub other-and : (fs : FieldTrees) (f : FieldTree) → fields_have_other (and_field fs f) ≡ (fields_have_other fs || field_has_other f)
other-and no_fields f = or-false (field_has_other f)
other-and (more_fields g gs) f = ap (λ b. field_has_other g || b) (other-and gs f) ∙ or-or (field_has_other g) (fields_have_other gs) (field_has_other f)

pub view-and : (fs : List PlainField) (f : PlainField) → fields_view (fs ++ f ∷ []) ≡ and_read (fields_view fs) (field_view f)
view-and [] f = refl
view-and (g ∷ gs) f = ap (λ (all : ReadAll). (more_fields (field_view g).0 all.0, more_ids (field_view g).1 all.1)) (view-and gs f)

-- ---- fields that mean nothing

-- An invalid table.
pub no-table : (read : Spot → Option Read) (v : Vector) (i n : ℕ) (before : ReadAll) (d : TableFault) (P : ReadAll → Type 0)
    → fields_from read v 0 i ≡ Some before → table_in v i ≡ Err d → i < n → IfSome (fields_from read v 0 n) P
no-table read v i n before d P first led inside = if-some (fields_from read v 0 n) P (λ all e.
    let one = one-field read v 0 n i before all e first inside in
    let same : 0 + i ≡ i = omega arith in
    let apart : Ok one.table ≡ Err d = sym one.led ∙ ap (table_in v) same ∙ led in
    cc)

-- a field that means nothing, or more fields than are left
pub too-many : (read : Spot → Option Read) (v : Vector) (i n : ℕ) (before : ReadAll) (t : Spot) (old left : ℕ)
    → fields_from read v 0 i ≡ Some before → table_in v i ≡ Ok t → i < n → old ≡ left + fields_count before.0
    → IfSome (read t) (λ y. left < field_count y.0) → IfSome (fields_from read v 0 n) (λ all. old < fields_count all.0)
too-many read v i n before t old left first led inside taken few = if-some (fields_from read v 0 n) (λ all. old < fields_count all.0) (λ all e.
    let one = one-field read v 0 n i before all e first inside in
    let same : 0 + i ≡ i = omega arith in
    let opened : Ok one.table ≡ Ok t = sym one.led ∙ ap (table_in v) same ∙ led in
    let table : one.table ≡ t = cc in
    let here = if-some-at (read t) (λ y. left < field_count y.0) one.field few (ap read (sym table) ∙ one.is) in
    let all_few = one.few in
    omega (arith, taken, here, all_few))

pub ruleset pushes = (count-and, other-and, view-and)
