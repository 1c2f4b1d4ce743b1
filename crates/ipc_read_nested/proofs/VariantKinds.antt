-- The kinds of types with children, variant by variant.
use Rattle.std.proofs.Common.{◌≡◌, ℕ, ℤ, Box, Global, String, Option, ap, ◌∙◌}
use denote.Hole.Carrier.{out}
use Rattle.lower.specs.TypeTrees.{TypeTree, FieldTree}
use Rattle.lower.specs.TypeViews.{type_step, field_step, type_view, field_view}
use Rattle.lower.specs.declared.datatypes.Field.{Field}
use Rattle.lower.specs.declared.datatypes.DataType.{DataType}
use Rattle.lower.specs.declared.datatypes.DataType.TheVariants as Types
use Rattle.lower.specs.declared.datatypes.DataType.TheViews.{out-DataType}
use Rattle.lower.specs.declared.datatypes.DataType.TheFolds.{fold_out-DataType}
use Rattle.ipc_base.specs.IdTrees.{IdTrees}
use Rattle.ipc_model.specs.Kinds.{offsets_32, offsets_64, list_kind, fixed_list_kind, extension_kind}
use Rattle.ipc_model.specs.TypeKinds.{first_ids, field_kind, kind_of}

pub list_kind_is : (d : DataType) (f : Box Field Global) (id : Option ℤ) (is : IdTrees) → d ≡ Types.List f
    → kind_of (type_view d) id is ≡ list_kind offsets_32 (field_kind (field_view f.value) (first_ids is))
unfolding out-DataType out
list_kind_is d f id is e = ap (λ (u : TypeTree). kind_of u id is) (ap type_view e ∙ fold_out-DataType TypeTree FieldTree type_step field_step (Types.List f))

pub large_list_kind_is : (d : DataType) (f : Box Field Global) (id : Option ℤ) (is : IdTrees) → d ≡ Types.LargeList f
    → kind_of (type_view d) id is ≡ list_kind offsets_64 (field_kind (field_view f.value) (first_ids is))
unfolding out-DataType out
large_list_kind_is d f id is e = ap (λ (u : TypeTree). kind_of u id is) (ap type_view e ∙ fold_out-DataType TypeTree FieldTree type_step field_step (Types.LargeList f))

pub fixed_list_kind_is : (d : DataType) (f : Box Field Global) (n : ℕ) (id : Option ℤ) (is : IdTrees) → d ≡ Types.FixedSizeList f n
    → kind_of (type_view d) id is ≡ fixed_list_kind n (field_kind (field_view f.value) (first_ids is))
unfolding out-DataType out
fixed_list_kind_is d f n id is e = ap (λ (u : TypeTree). kind_of u id is) (ap type_view e ∙ fold_out-DataType TypeTree FieldTree type_step field_step (Types.FixedSizeList f n))

pub extension_kind_is : (d : DataType) (name : String Global) (t : Box DataType Global) (text : Option (String Global)) (id : Option ℤ) (is : IdTrees) → d ≡ Types.Extension name t text
    → kind_of (type_view d) id is ≡ extension_kind (kind_of (type_view t.value) id is)
unfolding out-DataType out
extension_kind_is d name t text id is e = ap (λ (u : TypeTree). kind_of u id is) (ap type_view e ∙ fold_out-DataType TypeTree FieldTree type_step field_step (Types.Extension name t text))
