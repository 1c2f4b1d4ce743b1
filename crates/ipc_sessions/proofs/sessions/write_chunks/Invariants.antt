use Rattle.std.proofs.Common.{◌≡◌, ◌≤◌, length, take}
use Rattle.std.specs.Prelude.{vec_capacity, vec_len}
use Rattle.ipc_file_write.specs.FileWriters.{seen}
use Rattle.ipc_sessions.specs.Steps.{AreWritten}
use Rattle.ipc_sessions.proofs.sessions.write_chunks.Given as goal

-- The chunks so far were written, and there is room for all results.
abbrev pub invariant-loop-chunk : goal.invariant-loop-chunk
invariant-loop-chunk g l =
    AreWritten g.W.Failures.device (seen l.fn.writer) (take l.chunk-index l.chunks) l.answers.items (seen l.writer)
    × (vec_len l.answers ≡ l.chunk-index) × (length l.chunks ≤ vec_capacity l.answers)
