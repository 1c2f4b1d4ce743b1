use Rattle.std.proofs.Common.{◌≡◌, map, take}
use Rattle.lower.specs.TypeViews.{field_view}
use Rattle.ipc_projection.specs.Preparing.{selected}
use Rattle.ipc_projection.proofs.read.prepare.selected_fields.Given as goal

abbrev pub invariant-loop-column : goal.invariant-loop-column
invariant-loop-column l = map field_view l.chosen.items ≡ selected (map field_view l.fields) (take l.column-index l.projection)
