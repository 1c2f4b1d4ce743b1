-- What the bytes of a stream mean after its schema.
-- (Arrow columnar format, "IPC Streaming Format".)
use Rattle.std.specs.Prelude.{◌≡◌, ℕ, zero, suc, ℤ, pos, ◌+◌, ◌==◌, nat_lt, if◌then◌else◌, List, [], ◌++◌, length, take, drop, Option, None, Some, option_to_list, Result, Ok, Err}
use Rattle.ipc_devices.specs.declared.fault.TableFault.{TableFault}
use Rattle.ipc_table_views.specs.MessageSlots.{message_header, message_body_length}
use Rattle.ipc_table_views.specs.Spot.{Spot}
use Rattle.ipc_table_views.specs.Tables.{root_at}
use Rattle.ipc_model.specs.Batches.{Schema, Body, Chunk, record_meaning, dictionary_meaning, extra_of}
use Rattle.ipc_model.specs.Entries.{Dictionaries}
use Rattle.ipc_model.specs.Frame.{Frame, message, mark, waiting, broken, frame}
use Rattle.ipc_table_views.specs.declared.schema.MetadataVersion.{MetadataVersion}

-- ---- messages

-- What the metadata of a message say: the tag and the table of its
-- header, and the length of its body.
pub record Header : Type 0 where
  pub tag : ℕ
  pub table : Spot
  pub body : ℕ

-- A message's header and body length; none if one is absent, invalid or negative.
abbrev pub both_slots : Result (Option (ℕ × Spot)) TableFault → Result ℤ TableFault → Option Header
both_slots (Ok (Some u)) (Ok (pos n)) = Some (record { tag = u.0; table = u.1; body = n })
both_slots _ _ = None

-- What a message's table says of its header and its body.
abbrev pub header_at : Result Spot TableFault → Option Header
header_at (Ok t) = both_slots (message_header t) (message_body_length t)
header_at (Err e) = None

-- What the metadata of a message say of its header and its body.
unfoldable pub header_of : List ℕ → Option Header
header_of metadata = header_at (root_at metadata)

-- ---- one message of a stream

-- What a schema message says: the schema, and the version of the metadata.
pub record Head : Type 0 where
  pub schema : Schema
  pub version : MetadataVersion

-- What is known before a message: the dictionaries so far, and how many dictionary
-- messages came since the last record.
pub record Known : Type 0 where
  pub dictionaries : Dictionaries
  pub count : ℕ

-- What is known after the schema: no dictionary.
abbrev pub nothing_known : Known
nothing_known = record { dictionaries = []; count = 0 }

-- How a stream ends: by its mark, by waiting with a partial prefix, or by a fault. Only a prefix
-- waits: a stream that is cut in metadata or in a body is faulty.
pub data End : Type 0 where
  marked : End
  waits : Known → List ℕ → End
  faulty : End

-- What comes first in some bytes: a message, with the chunk of a record, what is known after it,
-- and the bytes after it; or the end.
pub data Item : Type 0 where
  more : Option Chunk → Known → List ℕ → Item
  done : End → Item

-- A body that is all of some bytes.
abbrev pub whole : List ℕ → Body
whole bytes = record { source = bytes; base = 0; size = length bytes }

-- A record message with this chunk; a fault without one.
abbrev pub with_chunk : Option Chunk → Known → List ℕ → Item
with_chunk None s rest = done faulty
with_chunk (Some c) s rest = more (Some c) (record { dictionaries = s.dictionaries; count = 0 }) rest

-- A dictionary message after which these dictionaries are known; a fault without them.
abbrev pub with_dictionaries : Option Dictionaries → Known → List ℕ → Item
with_dictionaries None s rest = done faulty
with_dictionaries (Some ds) s rest = more None (record { dictionaries = ds; count = s.count + 1 }) rest

-- A message whose header is a record batch.
abbrev pub record_item : Head → Known → Header → List ℕ → Item
record_item h s m rest =
    with_chunk (record_meaning h.schema (extra_of h.version) s.dictionaries (whole (take m.body rest)) m.table None None) s
    (drop m.body rest)

-- The largest number of dictionary messages between two records.
abbrev pub most_dictionaries : ℕ
most_dictionaries = 65536

-- A message whose header is a dictionary batch.
abbrev pub dictionary_item : Head → Known → Header → List ℕ → Item
dictionary_item h s m rest =
    if nat_lt s.count most_dictionaries
    then with_dictionaries (dictionary_meaning h.schema (extra_of h.version) s.dictionaries (whole (take m.body rest)) m.table) s
    (drop m.body rest)
    else done faulty

-- A message with its whole body. The tag 3 is that of a record batch, 2 that of a dictionary
-- batch; anything else is a fault.
unfoldable pub body_item : Head → Known → Header → List ℕ → Item
body_item h s m rest =
    if nat_lt (length rest) m.body then done faulty
    else if m.tag == 3 then record_item h s m rest
    else if m.tag == 2 then dictionary_item h s m rest
    else done faulty

-- A message whose header could be read; else a fault.
abbrev pub message_item : Head → Known → Option Header → List ℕ → Item
message_item h s None rest = done faulty
message_item h s (Some m) rest = body_item h s m rest

-- What comes first, by the first frame.
abbrev pub frame_item : Head → Known → Frame → Item
frame_item h s (message m rest) = message_item h s (header_of m) rest
frame_item h s (mark rest) = done marked
frame_item h s (waiting bytes) = done (waits s bytes)
frame_item h s broken = done faulty

-- What comes first in some bytes.
unfoldable pub item : Head → Known → List ℕ → Item
item h s bytes = frame_item h s (frame bytes)

-- ---- all messages

-- What a stream means: its chunks, and its end.
pub record Meant : Type 0 where
  pub chunks : List Chunk
  pub end : End

-- A stream with chunks before its own.
abbrev pub with_chunks : List Chunk → Meant → Meant
with_chunks cs m = record { chunks = cs ++ m.chunks; end = m.end }

-- A stream from its first message and the meaning of the rest.
abbrev pub from_item : (Known → List ℕ → Meant) → Item → Meant
from_item rest_means (more c t rest) = with_chunks (option_to_list c) (rest_means t rest)
from_item rest_means (done e) = record { chunks = []; end = e }

-- What the first k messages of a stream mean.
unfoldable pub meant_within : Head → ℕ → Known → List ℕ → Meant
meant_within h zero s bytes = record { chunks = []; end = faulty }
meant_within h (suc k) s bytes = from_item (meant_within h k) (item h s bytes)

-- What a stream means. Each message has at least one byte, so there
-- are no more messages than bytes.
unfoldable pub meaning : Head → Known → List ℕ → Meant
meaning h s bytes = meant_within h (suc (length bytes)) s bytes

-- ---- theorems

-- The meaning of a stream is that of its first message and of the bytes after it.
abbrev pub FrontLaw : Type 0
FrontLaw = (h : Head) (s : Known) (bytes : List ℕ) → meaning h s bytes ≡ from_item (meaning h) (item h s bytes)

-- Bytes that are added to a waiting stream are read as if they had been there from the start.
abbrev pub ResumeLaw : Type 0
ResumeLaw = (h : Head) (s : Known) (bytes : List ℕ) (t : Known) (begun added : List ℕ) → (meaning h s bytes).end
    ≡ waits t begun
    → meaning h s (bytes ++ added) ≡ with_chunks (meaning h s bytes).chunks (meaning h t (begun ++ added))
