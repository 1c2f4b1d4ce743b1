use Rattle.std.proofs.Common.{◌≡◌, ◌≤◌, ◌-◌, ◌^◌, IsTrue, false, vec_len}
use Rattle.ipc_model.specs.Streams.{Meant, with_chunks}
use Rattle.ipc_readers.specs.Streams.{device_of, is_over, metadata_of, request_of}
use Rattle.ipc_round_trip.specs.Reading.{MeansAhead, chunks_seen}
use Rattle.ipc_round_trip.proofs.read.read_chunks.Given as goal

abbrev pub invariant-loop-chunks : goal.invariant-loop-chunks
invariant-loop-chunks g l = record {
  described : metadata_of l.reader ≡ metadata_of l.fn.reader;
  asked : request_of l.reader ≡ request_of l.fn.reader;
  monotone : g.R.Failures.device.failures (device_of l.fn.reader) ≤ g.R.Failures.device.failures (device_of l.reader);
  same : IsTrue g.R.Failures.device.is_memory → is_over l.fn.reader ≡ false
      → (is_over l.reader ≡ false)
      × ((m : Meant) → MeansAhead g.R.Failures.device l.fn.reader m → (n : Meant) × MeansAhead g.R.Failures.device l.reader n × (with_chunks (chunks_seen l.chunks.items) n ≡ m));
}

abbrev pub decreases-loop-chunks : goal.decreases-loop-chunks
decreases-loop-chunks g l = 2 ^ 64 - vec_len l.chunks
