-- What the calls on whole streams do.
-- (Arrow columnar format, "IPC Streaming Format".)
use Rattle.std.specs.Prelude.{◌≡◌, ◌≤◌, false, IfErr, IfOk, IsTrue, List, Result, Vec}
use Rattle.std.specs.declared.alloc.Global.{Global}
use Rattle.lower.specs.TypeTrees.{FieldTrees, Pairs}
use Rattle.lower_types.specs.declared.Endianness.{Endianness}
use Rattle.lower_arrays.specs.declared.array.AnyArray.{AnyArray}
use Rattle.ipc_base.specs.IdTrees.{IdTrees}
use Rattle.ipc_devices.specs.Device.{Device, Rises}
use Rattle.ipc_devices.specs.Faults.{OnIo, OwnFault}
use Rattle.ipc_devices.specs.declared.fault.Fault.{Fault}
use Rattle.ipc_model.specs.WriterStates.{answered}
use Rattle.ipc_model.specs.Writers.{taken}
use Rattle.ipc_readers.specs.Refusals.{IsStreamFault}
use Rattle.ipc_readers.specs.Streams.{device_of, is_over, metadata_of, request_of}
use Rattle.ipc_readers.specs.declared.read.stream.reader.StreamReader.{StreamReader}
use Rattle.ipc_schema_write.specs.WriterAnswers.{written_head_as}
use Rattle.ipc_write.specs.Calls.{ended_as}
use Rattle.ipc_write.specs.declared.calls.StreamCall.{StreamCall}
use Rattle.ipc_round_trip.specs.Reading.{GivesAll, AheadCause}
use Rattle.ipc_round_trip.specs.RoundTrip.{ComesBack, RoundTripCause, RunsToStream}
use Rattle.ipc_round_trip.specs.declared.round_trip.RoundTrip.{RoundTrip}

-- Why `read_chunks` returns this error.
pub record ChunksCause {R : Type 0} (d : Device R) (a : StreamReader R) (e : Fault) : Type 0 where
  -- Reading from memory: the stream after reader a ends in a fault.
  pub refused : IsTrue d.is_memory → is_over a ≡ false → AheadCause d a e
  -- It is an error that a message of this stream can have.
  pub only : OwnFault e (IsStreamFault (request_of a) e)

-- The device counts its failures: the count never falls, and `Io` comes only if it rose.
pub record ChunksDevice {R X : Type 0} (d : Device R) (a : StreamReader R) (r : Result X Fault) (b : StreamReader R) : Type 0 where
  pub monotone : d.failures (device_of a) ≤ d.failures (device_of b)
  pub failed : OnIo r (Rises (d.failures (device_of a)) (d.failures (device_of b)))

-- `read_chunks`: all chunks of a stream were read, which took its reader from a to b.
pub record ReadsChunks {R : Type 0} (d : Device R) (a : StreamReader R) (r : Result (Vec (List AnyArray) Global) Fault) (b : StreamReader R) : Type 0 where
  -- Reading from memory, on `Ok`: these are the chunks that the bytes ahead mean.
  pub exact : IsTrue d.is_memory → is_over a ≡ false → IfOk r (λ chunks. GivesAll d a chunks.items b)
  -- Why there is an error.
  pub causes : IfErr r (ChunksCause d a)
  -- What is known of the device's failures.
  pub device : ChunksDevice d a r b
  -- The reader's metadata stay.
  pub state : metadata_of b ≡ metadata_of a

-- `round_trip`: what these calls of a stream writer wrote to memory was read back.
pub record MakesRoundTrip (order : Endianness) (fields : FieldTrees) (metadata : Pairs) (ids : IdTrees) (calls : List StreamCall) (r : Result RoundTrip Fault) : Type 0 where
  -- On `Ok` the stream has the schema and the chunks whose `write` returned `Ok`.
  pub exact : IfOk r (λ t. ComesBack t.stream (written_head_as order fields metadata ids) (taken (answered (ended_as calls t.answers.items))))
  -- Why there is an error.
  pub causes : IfErr r (RoundTripCause order fields metadata ids calls)
  -- The results are those of the calls, and the stream was finished.
  pub run : IfOk r (λ t. RunsToStream order fields metadata ids calls t.answers.items)
