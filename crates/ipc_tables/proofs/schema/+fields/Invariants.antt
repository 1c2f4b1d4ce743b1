use Rattle.std.proofs.Common.{take, map}
use Rattle.ipc_tables.specs.Schemas.{field_part}
use Rattle.ipc_tables.specs.Slots.{AreBuilt}
use Rattle.ipc_tables.proofs.schema.+fields.Given as goal

abbrev pub invariant-field_parts-loop-field : goal.invariant-field_parts-loop-field
invariant-field_parts-loop-field l = AreBuilt l.parts.items (map field_part (take l.field-index l.fields))
