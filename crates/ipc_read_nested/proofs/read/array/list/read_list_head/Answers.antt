use Rattle.std.proofs.Common.{rules, ◌≡◌, ◌+◌, true, false, subst}
use Rattle.ipc_model.specs.Kinds.{offsets_32, offsets_64}
use Rattle.ipc_model.specs.Entries.{rows}
use Rattle.ipc_model.specs.Columns.{Offsets}
use Rattle.ipc_read_flat.specs.Bodies.{entries}
use Rattle.ipc_read_nested.proofs.ListLevels.{lists_at}
use Rattle.ipc_read_nested.proofs.read.array.list.read_list_head.Goals as goal

pub returns-then-is_large-clause-memory : goal.returns-then-is_large-clause-memory
returns-then-is_large-clause-memory g c = λ k.
    let s = entries g.R.Failures.device c.args.body.now in
    let a = c.args.place.node in
    let b = c.args.place.buffer in
    let head = c.in_ok-head.ensures.memory k in
    let large : c.args.is_large ≡ true = search rules in
    let stored = c.in_ok-offsets.ensures.memory k in
    rw large (
      (head.0, subst (Offsets s (b + 1) 8) head.1.0 stored.0),
      lists_at s offsets_64 a b c.in_ok-head.head.rows (rows s a c.args.limit) c.in_ok-offsets.offsets c.in_ok-head.head.validity c.last-last.result head.1.0 head.1.1 stored.1
          c.in_ok-offsets.ensures.count c.last-last.ensures.value,
    )

pub returns-clause-memory : goal.returns-clause-memory
returns-clause-memory g c = λ k.
    let s = entries g.R.Failures.device c.args.body.now in
    let a = c.args.place.node in
    let b = c.args.place.buffer in
    let head = c.in_ok-head.ensures.memory k in
    let small : c.args.is_large ≡ false = search rules in
    let stored = c.in_ok-offsets-2.ensures.memory k in
    rw small (
      (head.0, subst (Offsets s (b + 1) 4) head.1.0 stored.0),
      lists_at s offsets_32 a b c.in_ok-head.head.rows (rows s a c.args.limit) c.in_ok-offsets-2.offsets c.in_ok-head.head.validity c.last-last-2.result head.1.0 head.1.1 stored.1
          c.in_ok-offsets-2.ensures.count c.last-last-2.ensures.value,
    )
