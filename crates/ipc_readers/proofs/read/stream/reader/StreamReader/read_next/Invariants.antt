use Rattle.std.proofs.Common.{◌≡◌, ◌-◌}
use Rattle.ipc_model.specs.Streams.{most_dictionaries}
use Rattle.ipc_readers.proofs.Kept.{KeptTo}
use Rattle.ipc_readers.proofs.Loops.{GoesOn}
use Rattle.ipc_readers.specs.KeptValues.{values_of}
use Rattle.ipc_readers.specs.Streams.{begun_of, device_of, is_over, known_of, request_of}
use Rattle.ipc_readers.proofs.read.stream.reader.StreamReader.read_next.Given as goal

abbrev pub invariant-loop-chunk : goal.invariant-loop-chunk
invariant-loop-chunk g l = record {
  finished : is_over l.self ≡ is_over l.fn.self;
  on : GoesOn g.R.Reads.gives l.fn.self l.self;
  kept : KeptTo g.R.Reads.gives (request_of l.fn.self) (begun_of l.fn.self) (device_of l.fn.self) (begun_of l.self) (device_of l.self) (values_of l.fn.self) (values_of l.self);
}

abbrev pub decreases-loop-chunk : goal.decreases-loop-chunk
decreases-loop-chunk g l = most_dictionaries - (known_of l.self).count
