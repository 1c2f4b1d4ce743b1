use Rattle.std.proofs.Common.{◌≡◌, map, take}
use Rattle.ipc_model.specs.Entries.{part_at}
use Rattle.ipc_reference.specs.PlainEntries.{part_view}
use Rattle.ipc_reference.proofs.record.parts.Given as goal

abbrev pub invariant-loop-index : goal.invariant-loop-index
invariant-loop-index l = map part_view l.parts.items ≡ map (part_at l.source l.base) (take l.index l.buffers)
