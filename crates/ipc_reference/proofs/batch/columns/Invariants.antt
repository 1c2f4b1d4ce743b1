use Rattle.std.proofs.Common.{◌≡◌, map, take}
use Rattle.ipc_model.specs.Batches.{slots_of_column}
use Rattle.ipc_reference.specs.PlainBatches.{columns_view}
use Rattle.ipc_reference.specs.PlainEntries.{entries_view}
use Rattle.ipc_reference.specs.PlainKinds.{kinds_view}
use Rattle.ipc_reference.proofs.batch.columns.Given as goal

abbrev pub invariant-loop-index : goal.invariant-loop-index
invariant-loop-index l =
    columns_view l.columns.items
    ≡ map (λ j. slots_of_column (entries_view l.entries) (kinds_view l.kinds) l.limit j) (take l.index-index l.chosen)
