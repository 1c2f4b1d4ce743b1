use Rattle.std.proofs.Common.{◌≡◌, drop}
use Rattle.ipc_model.specs.Batches.{all_read}
use Rattle.ipc_reference.specs.PlainEntries.{entries_view}
use Rattle.ipc_reference.specs.PlainKinds.{kinds_view}
use Rattle.ipc_reference.proofs.batch.all_read.Given as goal

abbrev pub invariant-loop-index : goal.invariant-loop-index
invariant-loop-index l =
    all_read (entries_view l.entries) (kinds_view l.kinds) l.limit l.rows (drop l.index-index l.chosen)
    ≡ all_read (entries_view l.entries) (kinds_view l.kinds) l.limit l.rows l.chosen
