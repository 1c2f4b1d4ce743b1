-- Fields and ids in a `Vec`, with one more after them.
use Rattle.std.proofs.Common.{◌≡◌, List, [], ◌∷◌, ◌++◌, Option, Some, None, refl, ap}
use Rattle.lower.specs.TypeTrees.{more_fields}
use Rattle.lower.specs.TypeViews.{field_view, fields_view}
use Rattle.lower.specs.declared.datatypes.Field.{Field}
use Rattle.ipc_base.specs.declared.ipc.IpcField.{IpcField}
use Rattle.ipc_base.specs.IdTrees.{more_ids, ids_view, all_ids_view}
use Rattle.ipc_model.specs.FieldLists.{and_field, and_id}
use Rattle.ipc_model.specs.Schemas.{given}

pub given-given : {A B C : Type 0} (o : Option A) (f : A → Option B) (g : B → Option C) → given (given o f) g ≡ given o (λ x. given (f x) g)
given-given None f g = refl
given-given (Some x) f g = refl

pub view-push : (fs : List Field) (f : Field) → fields_view (fs ++ f ∷ []) ≡ and_field (fields_view fs) (field_view f)
view-push [] f = refl
view-push (g ∷ gs) f = ap (more_fields (field_view g)) (view-push gs f)

pub ids-push : (is : List IpcField) (i : IpcField) → all_ids_view (is ++ i ∷ []) ≡ and_id (all_ids_view is) (ids_view i)
ids-push [] i = refl
ids-push (j ∷ js) i = ap (more_ids (ids_view j)) (ids-push js i)
