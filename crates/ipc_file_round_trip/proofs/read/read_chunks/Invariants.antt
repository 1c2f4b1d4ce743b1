use Rattle.std.proofs.Common.{◌≤◌, ◌-◌, ◌^◌, List, ◌++◌, vec_len}
use Rattle.ipc_file_readers.specs.Readers.{Answer, device_of}
use Rattle.ipc_file_readers.specs.Runs.{Calls}
use Rattle.ipc_file_round_trip.specs.Steps.{answers_of}
use Rattle.ipc_file_round_trip.proofs.read.read_chunks.Given as goal

-- Whatever calls return from now on comes after the chunks that were read.
abbrev pub invariant-loop-chunks : goal.invariant-loop-chunks
invariant-loop-chunks g l = record {
  monotone : g.R.Failures.device.failures (device_of l.fn.reader) ≤ g.R.Failures.device.failures (device_of l.reader);
  so_far : (rs : List Answer) → Calls g.R.Failures.device l.reader rs
      → Calls g.R.Failures.device l.fn.reader (answers_of l.chunks.items ++ rs);
}

abbrev pub decreases-loop-chunks : goal.decreases-loop-chunks
decreases-loop-chunks g l = 2 ^ 64 - vec_len l.chunks
