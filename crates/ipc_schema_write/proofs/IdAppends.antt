-- Ids that are appended one by one.
use Rattle.std.proofs.Common.{◌≡◌, List, [], ◌∷◌, ◌++◌, refl, ap}
use Rattle.ipc_base.specs.IdTrees.{IdTrees, no_ids, more_ids, ids_view, all_ids_view}
use Rattle.ipc_base.specs.declared.ipc.IpcField.{IpcField}
use Rattle.ipc_schema_write.specs.DefaultIds.{append_ids}

pub append_ids-push : (xs : List IpcField) (x : IpcField) (rest : IdTrees) → append_ids (all_ids_view (xs ++ x ∷ [])) rest ≡ append_ids (all_ids_view xs) (more_ids (ids_view x) rest)
append_ids-push [] x rest = refl
append_ids-push (y ∷ xs) x rest = ap (more_ids (ids_view y)) (append_ids-push xs x rest)

pub append_ids-none : (is : IdTrees) → append_ids is no_ids ≡ is
append_ids-none no_ids = refl
append_ids-none (more_ids i is) = ap (more_ids i) (append_ids-none is)
