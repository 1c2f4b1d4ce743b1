use Rattle.std.proofs.Common.{◌≡◌, true}
use Rattle.ipc_model.specs.Tests.{are_texts}
use Rattle.ipc_reference.specs.PlainEntries.{entries_view}
use Rattle.ipc_reference.proofs.entries.PlainEntries.are_texts.Given as goal

abbrev pub invariant-loop-i : goal.invariant-loop-i
invariant-loop-i l = are_texts (entries_view l.self) l.b 4 l.i ≡ true
