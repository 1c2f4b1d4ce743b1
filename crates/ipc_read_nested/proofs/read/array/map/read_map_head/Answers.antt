use Rattle.std.proofs.Common.{◌+◌, subst}
use Rattle.ipc_model.specs.Kinds.{offsets_32}
use Rattle.ipc_model.specs.Entries.{rows}
use Rattle.ipc_model.specs.Columns.{Offsets}
use Rattle.ipc_read_flat.specs.Bodies.{entries}
use Rattle.ipc_read_nested.proofs.ListLevels.{lists_at}
use Rattle.ipc_read_nested.proofs.read.array.map.read_map_head.Goals as goal

pub returns-clause-memory : goal.returns-clause-memory
returns-clause-memory g c = λ k.
    let s = entries g.R.Failures.device c.args.body.now in
    let a = c.args.place.node in
    let b = c.args.place.buffer in
    let head = c.in_ok-head.ensures.memory k in
    let stored = c.in_ok-offsets.ensures.memory k in (
      (head.0, subst (Offsets s (b + 1) 4) head.1.0 stored.0),
      lists_at s offsets_32 a b c.in_ok-head.head.rows (rows s a c.args.limit) c.in_ok-offsets.offsets c.in_ok-head.head.validity c.last-last.result head.1.0 head.1.1 stored.1
          c.in_ok-offsets.ensures.count c.last-last.ensures.value,
    )
