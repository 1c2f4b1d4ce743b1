-- What types with children mean.
use Rattle.std.proofs.Common.{◌≡◌, ℕ, ℤ, Bool, Option, Vec, Box, Global, ap, sym, ◌∙◌}
use Rattle.lower.specs.TypeTrees.{TypeTree, FieldTree, single, list, large_list, fixed_list, entries, group, structure, choice}
use Rattle.lower.specs.TypeViews.{type_step, field_step, type_view, field_view, fields_view, ids_of}
use Rattle.lower.specs.declared.datatypes.DataType.{List, FixedSizeList, LargeList, Struct, Union, Map, fold-roll-DataType}
use Rattle.lower.specs.declared.datatypes.DataType.TheVariants.{rolls-List, rolls-FixedSizeList, rolls-LargeList, rolls-Struct, rolls-Union, rolls-Map}
use Rattle.lower.specs.declared.datatypes.DataType.TheOpen.{DataType-F}
use Rattle.lower.specs.declared.datatypes.Field.{Field}
use Rattle.lower.specs.declared.datatypes.UnionMode.{UnionMode}

pub view-List : (child : Box Field Global) → type_view (List child) ≡ single list (field_view child.value)
view-List child = ap type_view (sym (rolls-List child)) ∙ fold-roll-DataType TypeTree FieldTree type_step field_step (DataType-F.List child)

pub view-LargeList : (child : Box Field Global) → type_view (LargeList child) ≡ single large_list (field_view child.value)
view-LargeList child = ap type_view (sym (rolls-LargeList child)) ∙ fold-roll-DataType TypeTree FieldTree type_step field_step (DataType-F.LargeList child)

pub view-FixedSizeList : (child : Box Field Global) (n : ℕ) → type_view (FixedSizeList child n) ≡ single (fixed_list n) (field_view child.value)
view-FixedSizeList child n = ap type_view (sym (rolls-FixedSizeList child n)) ∙ fold-roll-DataType TypeTree FieldTree type_step field_step (DataType-F.FixedSizeList child n)

pub view-Map : (child : Box Field Global) (sorted : Bool) → type_view (Map child sorted) ≡ single (entries sorted) (field_view child.value)
view-Map child sorted = ap type_view (sym (rolls-Map child sorted)) ∙ fold-roll-DataType TypeTree FieldTree type_step field_step (DataType-F.Map child sorted)

pub view-Struct : (fields : Vec Field Global) → type_view (Struct fields) ≡ group structure (fields_view fields.items)
view-Struct fields = ap type_view (sym (rolls-Struct fields)) ∙ fold-roll-DataType TypeTree FieldTree type_step field_step (DataType-F.Struct fields)

pub view-Union : (fields : Vec Field Global) (ids : Option (Vec ℤ Global)) (mode : UnionMode) → type_view (Union fields ids mode) ≡ group (choice (ids_of ids) mode) (fields_view fields.items)
view-Union fields ids mode = ap type_view (sym (rolls-Union fields ids mode)) ∙ fold-roll-DataType TypeTree FieldTree type_step field_step (DataType-F.Union fields ids mode)
