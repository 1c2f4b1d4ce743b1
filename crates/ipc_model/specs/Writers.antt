-- What a stream writer has written. The chunks that a list of calls wrote are those of the writes
-- that returned Ok. A started stream waits for more, a finished one ends with the mark.
-- (Arrow columnar format, "IPC Streaming Format".)
use Rattle.std.specs.Prelude.{◌≡◌, ℕ, ◌^◌, ◌<◌, List, [], ◌∷◌, ◌++◌, length, Bool, true, false, Some}
use Rattle.ipc_model.specs.Batches.{Chunk}
use Rattle.ipc_model.specs.Schemas.{head_of}
use Rattle.ipc_model.specs.Streams.{Head, Known, nothing_known, marked, waits}
use Rattle.ipc_model.specs.WholeStreams.{stream_of}
use Rattle.ipc_model.specs.WrittenLaws.{prefix, BeginsWithRecord}

-- ---- calls

-- A call of a stream writer: `start`, `write` of a chunk, or `finish`.

pub data Call : Type 0 where
  start_call : Call
  write_call : Chunk → Call
  finish_call : Call

-- The chunks that a call adds if it returns Ok.
abbrev pub added_by : Call → List Chunk
added_by start_call = []
added_by (write_call c) = c ∷ []
added_by finish_call = []

-- The chunks that were written: those of the writes that returned Ok.
abbrev pub taken : List (Call × Bool) → List Chunk
taken [] = []
taken ((call, true) ∷ rest) = added_by call ++ taken rest
taken ((call, false) ∷ rest) = taken rest

-- ---- bytes

-- The bytes of a started stream: it has these chunks, and waits for more.
pub record IsStarted (bytes : List ℕ) (head : Head) (known : Known) (cs : List Chunk) : Type 0 where
  pub stream : stream_of bytes ≡ Some (record { head = head; meant = record { chunks = cs; end = waits known [] } })

-- The bytes of a finished stream: it has these chunks, and ends with the mark.
pub record IsFinished (bytes : List ℕ) (head : Head) (cs : List Chunk) : Type 0 where
  pub stream : stream_of bytes ≡ Some (record { head = head; meant = record { chunks = cs; end = marked } })

-- A schema message with its prefix is a started stream without chunks.
abbrev pub StartLaw : Type 0
StartLaw = (metadata : List ℕ) (head : Head) → 0 < length metadata → length metadata < 2 ^ 31 → head_of metadata ≡ Some head
    → IsStarted (prefix (length metadata) ++ metadata) head nothing_known []

-- What is known after a record: the same dictionaries, and no dictionary message since.
abbrev pub after_record : Known → Known
after_record known = record { dictionaries = known.dictionaries; count = 0 }

-- A record message that is appended to a started stream adds its chunk.
abbrev pub WriteLaw : Type 0
WriteLaw = (bytes : List ℕ) (head : Head) (known : Known) (cs : List Chunk) (metadata body : List ℕ) (c : Chunk)
    → IsStarted bytes head known cs → BeginsWithRecord head known metadata body c
    → IsStarted (bytes ++ (prefix (length metadata) ++ (metadata ++ body))) head (after_record known) (cs ++ c ∷ [])

-- The end-of-stream mark finishes a started stream.
abbrev pub FinishLaw : Type 0
FinishLaw = (bytes : List ℕ) (head : Head) (known : Known) (cs : List Chunk) → IsStarted bytes head known cs
    → IsFinished (bytes ++ prefix 0) head cs
