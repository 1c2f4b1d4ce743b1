use Rattle.std.proofs.Common.{take, map}
use Rattle.ipc_tables.specs.Schemas.{pair_part}
use Rattle.ipc_tables.specs.Slots.{AreBuilt}
use Rattle.ipc_tables.proofs.schema.pair_parts.Given as goal

abbrev pub invariant-loop-pair : goal.invariant-loop-pair
invariant-loop-pair l = AreBuilt l.parts.items (map pair_part (take l.pair-index l.pairs))
