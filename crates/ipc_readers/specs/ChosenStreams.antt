-- What a stream means by a projection: of each record the requested columns, in this order. Columns
-- that aren't requested needn't be well formed.
-- (Arrow columnar format, "IPC Streaming Format", "RecordBatch message".)
use Rattle.std.specs.Prelude.{◌≡◌, ◌≢◌, ℕ, zero, suc, ◌==◌, nat_lt, if◌then◌else◌, List, [], map, length, take, drop, Option, None, Some}
use Rattle.ipc_model.specs.BatchLaws.{pruned}
use Rattle.ipc_model.specs.Batches.{IsProjection, extra_of, kinds, record_meaning}
use Rattle.ipc_model.specs.Frame.{Frame, message, mark, waiting, broken, frame}
use Rattle.ipc_model.specs.Kinds.{count}
use Rattle.ipc_model.specs.Streams.{Header, header_of, Head, Known, Item, Meant, marked, waits, faulty, done, whole, with_chunk, dictionary_item, from_item, meaning}

-- A schema message with its version, and the requested columns: all without a projection.
pub record Request : Type 0 where
  pub head : Head
  pub projection : Option (List ℕ)

-- A record message, of which the chosen columns are read.
abbrev pub chosen_record : Request → Known → Header → List ℕ → Item
chosen_record h s m rest =
    with_chunk (record_meaning h.head.schema (extra_of h.head.version) s.dictionaries (whole (take m.body rest)) m.table h.projection None) s
    (drop m.body rest)

-- A message with its whole body: of a record (tag 3) the chosen columns, of a dictionary (tag 2)
-- what it means without a projection; anything else is a fault.
unfoldable pub chosen_body : Request → Known → Header → List ℕ → Item
chosen_body h s m rest =
    if nat_lt (length rest) m.body then done faulty
    else if m.tag == 3 then chosen_record h s m rest
    else if m.tag == 2 then dictionary_item h.head s m rest
    else done faulty

-- A message whose header could be read; else a fault.
abbrev pub chosen_message : Request → Known → Option Header → List ℕ → Item
chosen_message h s None rest = done faulty
chosen_message h s (Some m) rest = chosen_body h s m rest

-- What comes first by a projection, by the first frame.
abbrev pub chosen_frame : Request → Known → Frame → Item
chosen_frame h s (message m rest) = chosen_message h s (header_of m) rest
chosen_frame h s (mark rest) = done marked
chosen_frame h s (waiting bytes) = done (waits s bytes)
chosen_frame h s broken = done faulty

-- What comes first in some bytes: of a record the chosen columns, of any other message what
-- it means without a projection.
unfoldable pub chosen_item : Request → Known → List ℕ → Item
chosen_item h s bytes = chosen_frame h s (frame bytes)

-- What the first k messages of a stream mean by a projection.
unfoldable pub chosen_within : Request → ℕ → Known → List ℕ → Meant
chosen_within h zero s bytes = record { chunks = []; end = faulty }
chosen_within h (suc k) s bytes = from_item (chosen_within h k) (chosen_item h s bytes)

-- What a stream means by a projection. Each message has at least one byte, so there
-- are no more messages than bytes.
unfoldable pub chosen_meaning : Request → Known → List ℕ → Meant
chosen_meaning h s bytes = chosen_within h (suc (length bytes)) s bytes

-- Theorem: without a projection it is what the stream means.
abbrev pub WholeLaw : Type 0
WholeLaw = (h : Head) (s : Known) (bytes : List ℕ) → chosen_meaning (record { head = h; projection = None }) s bytes ≡ meaning h s bytes

-- Theorem: if a stream doesn't end in a fault, by a projection to columns that exist it means the
-- chosen columns of each chunk, and ends in the same way.
abbrev pub PrunedLaw : Type 0
PrunedLaw = (h : Head) (projection : Option (List ℕ)) (s : Known) (bytes : List ℕ) → IsProjection projection (count (kinds h.schema))
    → (meaning h s bytes).end ≢ faulty
    → chosen_meaning (record { head = h; projection = projection }) s bytes
    ≡ record { chunks = map (pruned projection None) (meaning h s bytes).chunks; end = (meaning h s bytes).end }
