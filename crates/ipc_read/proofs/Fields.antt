-- The fields of a schema, one by one.
use Rattle.std.specs.Prelude.{string_bytes}
use Rattle.std.proofs.Common.{arith, ◌≡◌, ℕ, zero, suc, ◌+◌, ◌<◌, List, [], ◌∷◌, length, get_or, refl, ap, ◌∙◌}
use Rattle.lower.specs.TypeTrees.{TypeTree, FieldTree, field}
use Rattle.lower.specs.TypeViews.{type_step, field_step, type_view, field_view, fields_view, pairs_of}
use Rattle.lower.specs.declared.datatypes.Field.{Field}
use Rattle.lower.specs.declared.datatypes.DataType.TheFolds.{fold_out-Field}
use Rattle.ipc_base.specs.IdTrees.{IdTrees}
use Rattle.ipc_model.specs.Batches.{field_type, type_at}
use Rattle.ipc_model.specs.Kinds.{count}
use Rattle.ipc_model.specs.TypeKinds.{other_ids, kinds_of}

pub field_count : (fs : List Field) (is : IdTrees) → count (kinds_of (fields_view fs) is) ≡ length fs
field_count [] is = refl
field_count (f ∷ fs) is = ap (λ n. 1 + n) (field_count fs (other_ids is)) ∙ omega arith

pub field_is : (f : Field) → field_view f ≡ field (string_bytes f.name) (type_view f.data_type) f.is_nullable (pairs_of f.metadata.entries)
field_is f = fold_out-Field TypeTree FieldTree type_step field_step f

pub type_is : (fs : List Field) (k : ℕ) (d : Field) → k < length fs → type_at (fields_view fs) k ≡ type_view (get_or fs k d).data_type
type_is [] k d h = absurd (omega (arith, h))
type_is (f ∷ fs) zero d h = ap field_type (field_is f)
type_is (f ∷ fs) (suc k) d h = type_is fs k d (omega (arith, h))
