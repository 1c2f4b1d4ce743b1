-- Fields of the types of some columns.
use Rattle.std.proofs.Common.{◌≡◌, List, [], ◌∷◌, true, map, refl, ap, ◌∙◌}
use Rattle.lower.specs.TypeTrees.{FieldTree, field, FieldTrees, more_fields}
use Rattle.lower.specs.TypeViews.{field_view, fields_view}
use Rattle.lower.specs.TypeViews as views
use Rattle.lower.specs.declared.datatypes.Field.{Field}
use Rattle.lower_arrays.specs.AnyLayouts.{layout_of}
use Rattle.lower_arrays.specs.Layouts.{type_of}
use Rattle.lower_arrays.specs.declared.array.AnyArray.{AnyArray}
use Rattle.ipc_model.specs.Accepted.{fields_of}
use Rattle.ipc_chunks.specs.Chunks.{encoded_fields}

-- The field of a column.
abbrev pub encoded_field : AnyArray → FieldTree
encoded_field a = field [] (type_of (layout_of a)) true []

fields_are : (xs : List AnyArray) → views.fields_of (map encoded_field xs) ≡ encoded_fields (map layout_of xs)
fields_are [] = refl
fields_are (x ∷ xs) = ap (λ (fs : FieldTrees). more_fields (encoded_field x) fs) (fields_are xs)

pub fields_all : (fs : List Field) (xs : List AnyArray) → map field_view fs ≡ map encoded_field xs → fields_view fs ≡ encoded_fields (map layout_of xs)
fields_all fs xs e = ap views.fields_of e ∙ fields_are xs
