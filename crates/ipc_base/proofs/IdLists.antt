-- Lists of ids next to lists of fields, by their lengths.
use Rattle.std.proofs.Common.{◌≡◌, ◌≢◌, ◌==◌, ◌&&◌, suc, List, [], ◌∷◌, length, get_or, Bool, true, false, refl, ap, ◌∙◌, arith}
use Rattle.std.proofs.lemmas.Bool.Decides.{nat_tests}
use Rattle.lower.specs.TypeTrees.{TypeTree, FieldTree, field}
use Rattle.std.specs.Prelude.{string_bytes}
use Rattle.lower.specs.TypeViews.{type_step, field_step, type_view, fields_view, field_view, pairs_of}
use Rattle.ipc_base.specs.IdTrees.{IdTree, ids, ids_step, ids_view, all_ids_view}
use Rattle.ipc_base.specs.Fitting.{field_fits, only_one, all_fit, is_none}
use Rattle.lower.specs.declared.datatypes.Field.{Field, fold_out-Field}
use Rattle.ipc_base.specs.declared.ipc.IpcField.{IpcField, out-IpcField, fold_out-IpcField}

and_false : (b : Bool) → (b && false) ≡ false
and_false true = refl
and_false false = refl

and_true : (b : Bool) → (b && true) ≡ b
and_true true = refl
and_true false = refl

pub is_none-length : (xs : List IpcField) → is_none (all_ids_view xs) ≡ (length xs == 0)
is_none-length [] = refl
is_none-length (x ∷ xs) = grind (arith, nat_tests)

pub all_fit-apart : (fs : List Field) (is : List IpcField) → length fs ≢ length is → all_fit (fields_view fs) (all_ids_view is) ≡ false
all_fit-apart [] [] h = absurd (h refl)
all_fit-apart [] (i ∷ is) h = refl
all_fit-apart (f ∷ fs) [] h = refl
all_fit-apart (f ∷ fs) (i ∷ is) h =
    ap (λ b. field_fits (field_view f) (ids_view i) && b) (all_fit-apart fs is (λ e. h (ap suc e))) ∙ and_false _

module _ (test : IdTree → Bool) where
  pub only_one-many : (is : List IpcField) → length is ≢ 1 → only_one test (all_ids_view is) ≡ false
  only_one-many [] h = refl
  only_one-many (i ∷ []) h = absurd (h refl)
  only_one-many (i ∷ j ∷ is) h = and_false _

  pub only_one-one : (is : List IpcField) (d : IpcField) → length is ≡ 1 → only_one test (all_ids_view is) ≡ test (ids_view (get_or is 0 d))
  only_one-one [] d h = absurd (omega (arith, h))
  only_one-one (i ∷ []) d h = and_true _
  only_one-one (i ∷ j ∷ is) d h = absurd (omega (arith, h))

pub view-field : (f : Field) → field_view f ≡ field (string_bytes f.name) (type_view f.data_type) f.is_nullable (pairs_of f.metadata.entries)
view-field = fold_out-Field TypeTree FieldTree type_step field_step

pub view-ids : (f : IpcField) → ids_view f ≡ ids (out-IpcField f).dictionary_id (all_ids_view (out-IpcField f).fields.items)
view-ids = fold_out-IpcField IdTree ids_step
