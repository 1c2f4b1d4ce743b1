-- What equal ids say of the fields that have them.
use Rattle.std.proofs.Common.{◌≡◌, ℤ, suc, List, [], ◌∷◌, length, Option, refl, ap}
use Rattle.ipc_base.specs.IdTrees.{IdTree, ids, IdTrees, no_ids, more_ids, all_ids_view}
use Rattle.ipc_base.specs.declared.ipc.IpcField.{IpcField}

abbrev first_of : IdTree → IdTrees → IdTree
first_of i no_ids = i
first_of i (more_ids x xs) = x

abbrev rest_of : IdTrees → IdTrees
rest_of no_ids = no_ids
rest_of (more_ids x xs) = xs

abbrev id_of : IdTree → Option ℤ
id_of (ids x xs) = x

abbrev children_of : IdTree → IdTrees
children_of (ids x xs) = xs

pub same_length : (a b : List IpcField) → all_ids_view a ≡ all_ids_view b → length a ≡ length b
same_length [] [] h = refl
same_length [] (y ∷ ys) h = absurd cc
same_length (x ∷ xs) [] h = absurd cc
same_length (x ∷ xs) (y ∷ ys) h = ap suc (same_length xs ys (ap rest_of h))

pub same_children : (x y : Option ℤ) (is js : IdTrees) → ids x is ≡ ids y js → is ≡ js
same_children x y is js h = ap children_of h

pub same_ids : (x y : Option ℤ) (is js : IdTrees) → x ≡ y → is ≡ js → ids x is ≡ ids y js
same_ids x y is js e f = cc
