use Rattle.std.proofs.Common.{take}
use Rattle.ipc_file_write.specs.FileWriters.{seen}
use Rattle.ipc_calls.specs.FileCalls.{AreMade}
use Rattle.ipc_calls.proofs.files.run_calls.Given as goal

-- The calls so far are made.
abbrev pub invariant-loop-call : goal.invariant-loop-call
invariant-loop-call g l =
    AreMade g.W.Failures.device (seen l.fn.writer) (take l.call-index l.calls) l.answers.items (seen l.writer)
