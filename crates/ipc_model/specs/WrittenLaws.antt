-- Theorems: what messages mean that were written.
-- (Arrow columnar format, "Encapsulated message format".)
use Rattle.std.specs.Prelude.{◌≡◌, ℕ, ◌^◌, ◌<◌, List, ◌∷◌, ◌++◌, length, None, Some}
use Rattle.std.specs.Int.{w32, to_le_bytes}
use Rattle.ipc_model.specs.Batches.{Chunk, record_meaning, extra_of}
use Rattle.ipc_model.specs.Frame.{message, mark, frame}
use Rattle.ipc_model.specs.Streams.{Head, Known, Header, header_of, whole, more, item}

-- The continuation marker and a length, which precede the metadata of a message.
abbrev pub prefix : ℕ → List ℕ
prefix n = 255 ∷ 255 ∷ 255 ∷ 255 ∷ to_le_bytes w32 n

-- The first frame of a message that was written is this message.
abbrev pub WrittenFrameLaw : Type 0
WrittenFrameLaw = (metadata rest : List ℕ) → 0 < length metadata → length metadata < 2 ^ 31
    → frame (prefix (length metadata) ++ (metadata ++ rest)) ≡ message metadata rest

-- The first frame of a mark that was written is a mark.
abbrev pub WrittenMarkLaw : Type 0
WrittenMarkLaw = (rest : List ℕ) → frame (prefix 0 ++ rest) ≡ mark rest

-- A record message has this chunk: its header is that of a record, its body is as long as the
-- header says, and the batch means the chunk.
pub record BeginsWithRecord (h : Head) (s : Known) (metadata body : List ℕ) (c : Chunk) : Type 0 where
  pub some : 0 < length metadata
  pub short : length metadata < 2 ^ 31
  pub header : Header
  pub headed : header_of metadata ≡ Some header
  pub tag : header.tag ≡ 3
  pub long : header.body ≡ length body
  pub means : record_meaning h.schema (extra_of h.version) s.dictionaries (whole body) header.table None None ≡ Some c

-- A record that was written is read as its chunk, and the bytes after it are read next.
abbrev pub WrittenRecordLaw : Type 0
WrittenRecordLaw = (h : Head) (s : Known) (metadata body rest : List ℕ) (c : Chunk) → BeginsWithRecord h s metadata body c
    → item h s (prefix (length metadata) ++ (metadata ++ (body ++ rest)))
    ≡ more (Some c) (record { dictionaries = s.dictionaries; count = 0 }) rest
