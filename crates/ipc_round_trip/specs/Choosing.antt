-- What is read of a stream by the requested columns.
-- (Arrow columnar format, "IPC Streaming Format".)
use Rattle.std.specs.Prelude.{◌≡◌, ◌≢◌, ℕ, List, map, true, false, Option, None, Some, Result, Ok, Err}
use Rattle.std.specs.Option.{option_map}
use Rattle.ipc_devices.specs.declared.fault.Fault.{Fault}
use Rattle.ipc_model.specs.BatchLaws.{pruned}
use Rattle.ipc_model.specs.Batches.{Chunk, IsProjection, kinds}
use Rattle.ipc_model.specs.Frame.{Frame, message, mark, waiting, broken, frame}
use Rattle.ipc_model.specs.Kinds.{count}
use Rattle.ipc_model.specs.Schemas.{head_of as head_at}
use Rattle.ipc_model.specs.Streams.{Head, Known, Meant, faulty, nothing_known}
use Rattle.ipc_model.specs.WholeStreams.{Stream}
use Rattle.ipc_model.specs.Writers.{IsFinished, IsStarted}
use Rattle.ipc_readers.specs.ChosenStreams.{chosen_meaning}
use Rattle.ipc_readers.specs.Streams.{head_of}
use Rattle.ipc_round_trip.specs.Reading.{StreamCause, EndsAs, InMemoryCause, chunks_seen}
use Rattle.ipc_round_trip.specs.RoundTrip.{Reads}
use Rattle.ipc_round_trip.specs.declared.read.WholeStream.{WholeStream}

-- What a stream means by the requested columns, from its first frame,
-- which must be a schema message.
abbrev pub chosen_from : Option (List ℕ) → Frame → Option Stream
chosen_from p (message m rest) =
    option_map (λ h. record { head = h; meant = chosen_meaning (record { head = h; projection = p }) nothing_known rest }) (head_at m)
chosen_from p (mark rest) = None
chosen_from p (waiting begun) = None
chosen_from p broken = None

-- What the bytes of a stream mean by the requested columns.
unfoldable pub chosen_stream_of : Option (List ℕ) → List ℕ → Option Stream
chosen_stream_of p bytes = chosen_from p (frame bytes)

-- All of a stream was read, by the requested columns: its schema, all its chunks, and its end.
pub record IsWholeBy (p : Option (List ℕ)) (bytes : List ℕ) (s : WholeStream) : Type 0 where
  pub meant : Meant
  pub stream : chosen_stream_of p bytes ≡ Some (record { head = head_of s.metadata; meant = meant })
  pub chunks : meant.chunks ≡ chunks_seen s.chunks.items
  pub end : EndsAs s.is_finished meant.end

-- A stream can be read by these columns: it has a meaning, and doesn't end in a fault.
pub record IsReadableBy (p : Option (List ℕ)) (bytes : List ℕ) : Type 0 where
  pub head : Head
  pub meant : Meant
  pub stream : chosen_stream_of p bytes ≡ Some (record { head = head; meant = meant })
  pub sound : meant.end ≢ faulty

-- The schema of a stream doesn't have these columns, or one of them is named twice.
pub record NamesOthers (js : List ℕ) (bytes : List ℕ) : Type 0 where
  pub head : Head
  pub meant : Meant
  pub stream : chosen_stream_of (Some js) bytes ≡ Some (record { head = head; meant = meant })
  pub others : ¬ IsProjection (Some js) (count (kinds head.schema))

-- All of a stream was read, of these columns; or its schema doesn't have the columns; or it can't
-- be read, unless an allocation failed.
abbrev pub ReadsColumns : List ℕ → List ℕ → Result (Option WholeStream) Fault → Type 0
ReadsColumns js bytes (Ok None) = NamesOthers js bytes
ReadsColumns js bytes (Ok (Some s)) = IsWholeBy (Some js) bytes s
ReadsColumns js bytes (Err e) = InMemoryCause e ((¬ (IsReadableBy (Some js) bytes)) × StreamCause bytes (chosen_stream_of (Some js) bytes) (Some js) e)

-- A finished stream that was written is read, by a projection to columns that exist, as the chosen
-- columns of its chunks, in the requested order.
abbrev pub ChosenFinishedLaw : Type 0
ChosenFinishedLaw = (p : Option (List ℕ)) (bytes : List ℕ) (head : Head) (chunks : List Chunk) (s : WholeStream)
    → IsProjection p (count (kinds head.schema)) → IsFinished bytes head chunks → IsWholeBy p bytes s → Reads s head (map (pruned p None) chunks) true

-- A finished stream that was written can be read by a projection to columns that exist.
abbrev pub ChosenReadableLaw : Type 0
ChosenReadableLaw = (p : Option (List ℕ)) (bytes : List ℕ) (head : Head) (chunks : List Chunk) → IsProjection p (count (kinds head.schema))
    → IsFinished bytes head chunks → IsReadableBy p bytes

-- A stream that was written and not finished can be read by a projection to columns that
-- exist, whatever is known at its end.
abbrev pub ChosenOpenReadableLaw : Type 0
ChosenOpenReadableLaw = (p : Option (List ℕ)) (bytes : List ℕ) (head : Head) (known : Known) (chunks : List Chunk) → IsProjection p (count (kinds head.schema))
    → IsStarted bytes head known chunks → IsReadableBy p bytes

-- A stream that was written and not finished is read by a projection as the chosen
-- columns of its chunks, and waits.
abbrev pub ChosenOpenLaw : Type 0
ChosenOpenLaw = (p : Option (List ℕ)) (bytes : List ℕ) (head : Head) (known : Known) (chunks : List Chunk) (s : WholeStream)
    → IsProjection p (count (kinds head.schema)) → IsStarted bytes head known chunks → IsWholeBy p bytes s → Reads s head (map (pruned p None) chunks) false
