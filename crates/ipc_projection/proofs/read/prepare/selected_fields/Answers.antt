use Rattle.std.proofs.Common.{◌≡◌, ◌∷◌, ◌++◌, [], map, take, List, sym, subst, ◌+◌}
use Rattle.lower.specs.declared.datatypes.Field.{Field}
use Rattle.lower.specs.TypeViews.{field_view}
use Rattle.ipc_projection.specs.Preparing.{selected}
use Rattle.ipc_projection.proofs.Preparing.{selected_more, each_of}
use Rattle.ipc_projection.proofs.read.prepare.selected_fields.Goals as goal

pub loop-column-preserved : goal.loop-column-preserved
loop-column-preserved c =
    let i = c.loop-column.column-index in
    let pushed : c.push.new.self.items ≡ c.loop-column.chosen.items ++ c.in_ok-clone.field-0 ∷ [] = c.in_ok-push.ensures.items in
    subst (λ (ys : List Field). map field_view ys ≡ selected (map field_view c.args.fields.now) (take (i + 1) c.args.projection.now)) (sym pushed)
    (selected_more field_view c.args.fields.now c.args.projection.now c.loop-column.chosen.items i c.index-fields-column.result c.in_ok-clone.field-0
    c.loop-column-test.true (each_of _ c.args.projection.now c.requires i 0 c.loop-column-test.true) c.loop-column.invariant c.index-fields-column.is c.in_ok-clone.ensures)
