-- What is read of a whole stream.
-- (Arrow columnar format, "IPC Streaming Format".)
use Rattle.std.specs.Prelude.{◌≡◌, ◌≢◌, ◌⊎◌, ℕ, ◌≤◌, List, [], map, Bool, true, false, IsTrue, Option, None, Some, Result, Ok, Err, IfErr}
use Rattle.ipc_devices.specs.Device.{Device, Rises}
use Rattle.ipc_devices.specs.Faults.{OnIo, OwnFault}
use Rattle.ipc_devices.specs.declared.fault.Fault.{Fault}
use Rattle.ipc_devices.specs.declared.fault.Fault.TheVariants.{Io, Memory}
use Rattle.lower_arrays.specs.declared.array.AnyArray.{AnyArray}
use Rattle.ipc_model.specs.Batches.{Chunk}
use Rattle.ipc_model.specs.Frame.{frame}
use Rattle.ipc_model.specs.Streams.{Head, Known, End, marked, waits, faulty, Meant, with_chunks}
use Rattle.ipc_model.specs.WholeStreams.{Stream, stream_of}
use Rattle.ipc_read.specs.Chunks.{chunk_seen}
use Rattle.ipc_readers.specs.ChosenStreams.{chosen_meaning}
use Rattle.ipc_readers.specs.Metadata.{GivesMetadata}
use Rattle.ipc_readers.specs.Refusals.{IsStreamFault}
use Rattle.ipc_readers.specs.Streams.{Knows, ahead, chosen_of, request_of, device_of, head_of, is_over, metadata_of}
use Rattle.ipc_readers.specs.declared.read.stream.reader.StreamReader.{StreamReader}
use Rattle.ipc_round_trip.specs.declared.read.WholeStream.{WholeStream}

-- The chunks that some lists of arrays are, in order.
abbrev pub chunks_seen : List (List AnyArray) → List Chunk
chunks_seen xs = map chunk_seen xs

-- The bytes ahead of a reader mean m, by the requested columns and the
-- dictionaries that the reader has.
pub record MeansAhead {R : Type 0} (d : Device R) (r : StreamReader R) (m : Meant) : Type 0 where
  pub known : Known
  pub knows : Knows r known
  pub means : chosen_meaning (request_of r) known (ahead d r) ≡ m

-- A stream ends by its mark, or it waits for more.
abbrev pub EndsAs : Bool → End → Type 0
EndsAs true e = e ≡ marked
EndsAs false (waits known begun) = Unit {0}
EndsAs false _ = ⊥

-- A stream without any more chunks ends, or waits.
abbrev pub EndsNow : Bool → Meant → Type 0
EndsNow over m = (m.chunks ≡ []) × EndsAs over m.end

-- Unless the error is one of allocation or of the device, the bytes ahead end in a fault.
abbrev pub AheadCause : {R : Type 0} → Device R → StreamReader R → Fault → Type 0
AheadCause d r e = OwnFault e ((m : Meant) → MeansAhead d r m → m.end ≡ faulty)

-- The chunks read so far and the meaning of the bytes ahead are together what they were before.
-- Without one more chunk the stream ends, or waits.
abbrev pub GivesPush : {R : Type 0} → Device R → StreamReader R → List (List AnyArray) → Result Bool Fault → StreamReader R → List (List AnyArray) → Type 0
GivesPush d a xs (Ok true) b ys = (is_over b ≡ false)
    × ((m : Meant) → MeansAhead d a m → (n : Meant) × MeansAhead d b n × (with_chunks (chunks_seen xs) m ≡ with_chunks (chunks_seen ys) n))
GivesPush d a xs (Ok false) b ys = (ys ≡ xs) × ((m : Meant) → MeansAhead d a m → EndsNow (is_over b) m)
GivesPush d a xs (Err e) b ys = AheadCause d a e

-- One call of `next` was made, and its chunk was appended to xs.
pub record PushesNext {R : Type 0} (d : Device R) (a : StreamReader R) (xs : List (List AnyArray)) (r : Result Bool Fault) (b : StreamReader R) (ys : List (List AnyArray)) : Type 0 where
  pub described : metadata_of b ≡ metadata_of a
  pub projected : chosen_of b ≡ chosen_of a
  pub only : IfErr r (λ e. OwnFault e (IsStreamFault (request_of a) e))
  pub push : IsTrue d.is_memory → is_over a ≡ false → GivesPush d a xs r b ys
  pub failed : OnIo r (Rises (d.failures (device_of a)) (d.failures (device_of b)))
  pub monotone : d.failures (device_of a) ≤ d.failures (device_of b)

-- All chunks were read, up to the end of the stream or to a wait.
pub record GivesAll {R : Type 0} (d : Device R) (a : StreamReader R) (xs : List (List AnyArray)) (b : StreamReader R) : Type 0 where
  pub chunks : (m : Meant) → MeansAhead d a m → m.chunks ≡ chunks_seen xs
  pub end : (m : Meant) → MeansAhead d a m → EndsAs (is_over b) m.end

-- ---- whole streams

-- All of a stream was read: its schema, all its chunks, and its end.
pub record IsWhole (bytes : List ℕ) (s : WholeStream) : Type 0 where
  pub meant : Meant
  pub stream : stream_of bytes ≡ Some (record { head = head_of s.metadata; meant = meant })
  pub chunks : meant.chunks ≡ chunks_seen s.chunks.items
  pub end : EndsAs s.is_finished meant.end

-- A stream can be read: it has a meaning, and doesn't end in a fault.
pub record IsReadable (bytes : List ℕ) : Type 0 where
  pub head : Head
  pub meant : Meant
  pub stream : stream_of bytes ≡ Some (record { head = head; meant = meant })
  pub sound : meant.end ≢ faulty

-- An allocation failed; or P holds of another error. A device's error never comes.
abbrev pub InMemoryCause : Fault → Type 0 → Type 0
InMemoryCause Memory P = Unit {0}
InMemoryCause (Io e) P = ⊥
InMemoryCause _ P = P

-- A message after the schema message of this stream can have this error, by the requested columns.
pub record MessagesCause (stream : Option Stream) (p : Option (List ℕ)) (e : Fault) : Type 0 where
  pub head : Head
  pub meant : Meant
  pub is : stream ≡ Some (record { head = head; meant = meant })
  pub kind : IsStreamFault (record { head = head; projection = p }) e

-- Why bytes can't be read as a stream: an error of the schema message, as its reader
-- returns it, or of a later message.
abbrev pub StreamCause : List ℕ → Option Stream → Option (List ℕ) → Fault → Type 0
StreamCause bytes stream p e = ((rest : List ℕ) × GivesMetadata bytes (frame bytes) (Err e) rest) ⊎ MessagesCause stream p e

-- All of a stream was read; or it can't be read, unless an allocation failed.
abbrev pub ReadsStream : List ℕ → Result WholeStream Fault → Type 0
ReadsStream bytes (Ok s) = IsWhole bytes s
ReadsStream bytes (Err e) = InMemoryCause e ((¬ (IsReadable bytes)) × StreamCause bytes (stream_of bytes) None e)
