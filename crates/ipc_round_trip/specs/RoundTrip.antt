-- What a stream writer wrote is what a stream reader reads.
-- (Arrow columnar format, "IPC Streaming Format".)
use Rattle.std.specs.Prelude.{◌≡◌, ℕ, ◌<◌, ◌⊎◌, List, [], Bool, true, false, Result, Vec, vec_len}
use Rattle.std.specs.declared.alloc.Global.{Global}
use Rattle.ipc_base.specs.IdTrees.{IdTrees}
use Rattle.ipc_devices.specs.Device as devices
use Rattle.ipc_devices.specs.declared.fault.Fault.{Fault}
use Rattle.ipc_devices.specs.declared.fault.Fault.TheVariants.{Io, Memory, State}
use Rattle.ipc_devices.specs.declared.fault.StateFault.TheVariants.{Failed, NotStarted}
use Rattle.lower.specs.TypeTrees.{FieldTrees, Pairs}
use Rattle.lower_types.specs.declared.Endianness.{Endianness}
use Rattle.ipc_model.specs.Batches.{Chunk}
use Rattle.ipc_model.specs.Streams.{Head, Known}
use Rattle.ipc_model.specs.WriterStates.{IsRun, new_writer}
use Rattle.ipc_model.specs.Writers.{IsFinished, IsStarted}
use Rattle.ipc_readers.specs.Streams.{head_of}
use Rattle.ipc_write.specs.Agreement.{Agrees, HasEnded}
use Rattle.ipc_write.specs.Calls.{AreMade, ended_as, state_seen, writer_in}
use Rattle.ipc_write.specs.Vectors.{vector_room, vectors}
use Rattle.ipc_write.specs.Writers.{WriterSeen}
use Rattle.ipc_write.specs.declared.calls.StreamCall.{StreamCall}
use Rattle.ipc_write.specs.declared.stream.WriterState.{WriterState}
use Rattle.ipc_write.specs.declared.stream.WriterState.TheVariants as writer
use Rattle.ipc_round_trip.specs.Reading.{IsReadable, IsWhole, chunks_seen}
use Rattle.ipc_round_trip.specs.declared.read.WholeStream.{WholeStream}

-- The stream that was read has this schema and these chunks, and has ended with its
-- mark (`over`) or waits for more.
pub record Reads (s : WholeStream) (head : Head) (chunks : List Chunk) (over : Bool) : Type 0 where
  pub schema : head_of s.metadata ≡ head
  pub same : chunks_seen s.chunks.items ≡ chunks
  pub ended : s.is_finished ≡ over

-- The stream that was read has this schema and these chunks, and has ended with its mark.
abbrev pub ComesBack : WholeStream → Head → List Chunk → Type 0
ComesBack s head chunks = Reads s head chunks true

-- A finished stream that was written is read as its schema and its chunks.
abbrev pub FinishedLaw : Type 0
FinishedLaw = (bytes : List ℕ) (head : Head) (chunks : List Chunk) (s : WholeStream) → IsFinished bytes head chunks → IsWhole bytes s
    → Reads s head chunks true

-- A finished stream that was written can be read.
abbrev pub ReadableLaw : Type 0
ReadableLaw = (bytes : List ℕ) (head : Head) (chunks : List Chunk) → HasEnded bytes head chunks → IsReadable bytes

-- A stream that was written and not finished can be read, whatever is known at its end.
abbrev pub OpenReadableLaw : Type 0
OpenReadableLaw = (bytes : List ℕ) (head : Head) (known : Known) (chunks : List Chunk) → IsStarted bytes head known chunks → IsReadable bytes

-- A stream that was written and not finished is read as its schema and its chunks, and waits.
abbrev pub OpenLaw : Type 0
OpenLaw = (bytes : List ℕ) (head : Head) (known : Known) (chunks : List Chunk) (s : WholeStream) → IsStarted bytes head known chunks → IsWhole bytes s
    → Reads s head chunks false

-- The bytes of a vector, as memory that is written to at its end.
abbrev pub vector : Vec ℕ Global → devices.Memory
vector v = record { whole = v.items; place = vec_len v }

-- The bytes are a finished stream of what a writer wrote, which began with empty memory.
pub record EndsStream (w : WriterSeen (Vec ℕ Global)) (bytes : List ℕ) : Type 0 where
  pub stream : (head : Head) (chunks : List Chunk) → Agrees vectors w [] head chunks → HasEnded bytes head chunks

-- ---- the calls

-- Calls of a new writer to empty memory, with this byte order, have these results and leave the
-- writer in this state. Each is made on the writer that the call before it left.
pub record RunsOverMemory (order : Endianness) (fields : FieldTrees) (metadata : Pairs) (ids : IdTrees) (calls : List StreamCall) (answers : List (Result Unit Fault)) (state : WriterState) : Type 0 where
  pub first : WriterSeen (Vec ℕ Global)
  pub last : WriterSeen (Vec ℕ Global)
  pub new : first.state ≡ writer.New
  pub order_is : first.order ≡ order
  pub empty : first.device.items ≡ []
  pub made : AreMade vectors fields metadata ids first calls answers last
  pub left : last.state ≡ state
  pub run : IsRun (writer_in order new_writer) (ended_as calls answers) (writer_in order (state_seen state))

-- The calls of a new stream writer leave a stream that is finished, or can be.
abbrev pub RunsToStream : Endianness → FieldTrees → Pairs → IdTrees → List StreamCall → List (Result Unit Fault) → Type 0
RunsToStream order fields metadata ids calls answers = RunsOverMemory order fields metadata ids calls answers writer.Started ⊎ RunsOverMemory order fields metadata ids calls answers writer.Finished

-- With some results the calls of a new stream writer leave a writer in this state, of which P
-- holds.
pub record MayLeave (order : Endianness) (fields : FieldTrees) (metadata : Pairs) (ids : IdTrees) (calls : List StreamCall) (state : WriterState) (P : WriterSeen (Vec ℕ Global) → Type 0) : Type 0 where
  pub answers : List (Result Unit Fault)
  pub runs : RunsOverMemory order fields metadata ids calls answers state
  pub holds : P runs.last

-- A started writer whose vector has no room for the eight bytes of the mark.
pub record HasNoRoomForMark (w : WriterSeen (Vec ℕ Global)) : Type 0 where
  pub started : w.state ≡ writer.Started
  pub full : vector_room w.device < 8

-- Why a stream isn't finished.
abbrev pub StreamEndCause : WriterSeen (Vec ℕ Global) → Fault → Type 0
StreamEndCause w (State NotStarted) = w.state ≡ writer.New
StreamEndCause w (State Failed) = w.state ≡ writer.Failed
StreamEndCause w (Io e) = HasNoRoomForMark w
StreamEndCause w _ = ⊥

-- Why a round trip is refused: an allocation failed, or the memory had no room for the
-- end-of-stream mark. Or the calls left a writer that isn't started or has failed. Reading
-- what was written is never refused.
abbrev pub RoundTripCause : Endianness → FieldTrees → Pairs → IdTrees → List StreamCall → Fault → Type 0
RoundTripCause order fs es is calls Memory = Unit {0}
RoundTripCause order fs es is calls (Io e) = MayLeave order fs es is calls writer.Started HasNoRoomForMark
RoundTripCause order fs es is calls (State NotStarted) = MayLeave order fs es is calls writer.New (λ w. Unit {0})
RoundTripCause order fs es is calls (State Failed) = MayLeave order fs es is calls writer.Failed (λ w. Unit {0})
RoundTripCause order fs es is calls _ = ⊥
