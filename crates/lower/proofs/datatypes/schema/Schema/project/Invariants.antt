use Rattle.std.proofs.Common.{◌<◌, length, map, take}
use Rattle.std.specs.List.{AllByRecursion}
use Rattle.lower.specs.TypeViews.{field_view}
use Rattle.lower.specs.Columns.{FieldsAt}
use Rattle.lower.proofs.datatypes.schema.Schema.project.Given as goal

abbrev pub invariant-loop-i : goal.invariant-loop-i
invariant-loop-i l =
    let columns = l.self.fields.items in
    FieldsAt (map field_view columns) (take l.i l.indices) (map field_view l.fields.items) × AllByRecursion (λ j. j < length columns) (take l.i l.indices)
