use Rattle.std.proofs.Common.{◌≡◌, IsTrue, length, take}
use Rattle.ipc_sessions.specs.Sessions.{AddsInTurn, all_taken_of}
use Rattle.ipc_sessions.specs.Steps.{AreSessions}
use Rattle.ipc_sessions.proofs.sessions.run_sessions.Given as goal

-- The sessions so far were made, and ended their files.
abbrev pub invariant-loop-chunks : goal.invariant-loop-chunks
invariant-loop-chunks g l =
    AreSessions g.W.Failures.device l.fn.device (take l.chunks-index l.sessions) l.answers.items l.device
    × (length (take l.chunks-index l.sessions) ≡ length l.answers.items)
    × (IsTrue g.W.Failures.device.is_memory
    → AddsInTurn (length (take l.chunks-index l.sessions)) (g.W.Failures.device.memory l.fn.device).whole (g.W.Failures.device.memory l.device).whole (all_taken_of (take l.chunks-index l.sessions) l.answers.items))
