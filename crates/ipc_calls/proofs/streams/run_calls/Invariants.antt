use Rattle.std.proofs.Common.{take}
use Rattle.ipc_write.specs.Writers.{seen}
use Rattle.ipc_calls.specs.StreamCalls.{AreMade}
use Rattle.ipc_calls.proofs.streams.run_calls.Given as goal

-- The calls so far are made.
abbrev pub invariant-loop-call : goal.invariant-loop-call
invariant-loop-call g l =
    AreMade g.W.Failures.device (seen l.fn.writer) (take l.call-index l.calls) l.answers.items (seen l.writer)
