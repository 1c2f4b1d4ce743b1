use Rattle.std.proofs.Common.{arith, map}
use Rattle.ipc_tables.proofs.BuiltLists.{AreBuilt-next, field_part-from}
use Rattle.ipc_tables.specs.Schemas.{field_part}
use Rattle.ipc_tables.proofs.schema.+fields.Goals as goal

pub field_part-returns : goal.field_part-returns
field_part-returns t c =
    rw (field_part-from c.args.field.now c.deref.result.now c.deref.ensures.value)
    (c.in_ok-part.ensures (map field_part c.deref.result.now) (rw c.deref-2.ensures.value c.in_ok-children.ensures))

pub field_parts-loop-field-preserved : goal.field_parts-loop-field-preserved
field_parts-loop-field-preserved t c =
    rw c.in_ok-push.ensures
    (AreBuilt-next field_part c.loop-field.parts.items c.args.fields.now c.loop-field.field-index c.in_ok-field_part.field-0 c.field-item.result _ (omega arith) c.field-item.is c.loop-field.invariant c.in_ok-field_part.ensures)
