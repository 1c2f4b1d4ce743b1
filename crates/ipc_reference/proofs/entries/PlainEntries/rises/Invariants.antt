use Rattle.std.proofs.Common.{◌≡◌, ◌+◌, nat_le, true}
use Rattle.ipc_model.specs.Entries.{offset}
use Rattle.ipc_model.specs.Tests.{all_below}
use Rattle.ipc_reference.specs.PlainEntries.{entries_view}
use Rattle.ipc_reference.proofs.entries.PlainEntries.rises.Given as goal

abbrev pub invariant-loop-i : goal.invariant-loop-i
invariant-loop-i l =
    all_below l.i (λ i. nat_le (offset (entries_view l.self) l.b 4 i) (offset (entries_view l.self) l.b 4 (i + 1))) ≡ true
