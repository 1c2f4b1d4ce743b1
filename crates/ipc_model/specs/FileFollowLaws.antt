-- Theorems: bytes after the end of a file don't change what its blocks mean.
-- (Arrow columnar format, "IPC File Format".)
use Rattle.std.specs.Prelude.{◌≡◌, ℕ, ◌≤◌, List, [], ◌++◌, map, Option, None, Some}
use Rattle.ipc_table_views.specs.declared.file.Block.{Block}
use Rattle.ipc_model.specs.Batches.{Chunk}
use Rattle.ipc_model.specs.Entries.{Dictionaries, Limit}
use Rattle.ipc_model.specs.Files.{FileMetadata, file_dictionaries, file_chunk, dictionaries_after, chunks_at}

-- The same schema and blocks for a file of another size.
abbrev pub resized : FileMetadata → ℕ → FileMetadata
resized m size = record { schema = m.schema; pairs = m.pairs; dictionaries = m.dictionaries; blocks = m.blocks; size = size }

-- The dictionary blocks of a file mean these dictionaries, and its record blocks these chunks.
-- `seen b` are the bytes that are read for block b.
pub record BlocksMean (m : FileMetadata) (seen : Block → List ℕ) (known : Dictionaries) (cs : List Chunk) : Type 0 where
  pub dictionaries : dictionaries_after m seen [] m.dictionaries ≡ Some known
  pub chunks : chunks_at m known seen None None m.blocks ≡ map Some cs

-- For each block the same bytes are read, perhaps with more after them.
pub record SeesMore (seen then : Block → List ℕ) : Type 0 where
  pub added : Block → List ℕ
  pub behind : (b : Block) → then b ≡ seen b ++ added b

-- Blocks keep their meaning if more bytes are read for each, and if the file grows.
abbrev pub BlocksFollowLaw : Type 0
BlocksFollowLaw = (m : FileMetadata) (size : ℕ) (seen then : Block → List ℕ) (known : Dictionaries) (cs : List Chunk)
    → SeesMore seen then → m.size ≤ size
    → BlocksMean m seen known cs → BlocksMean (resized m size) then known cs

-- What one file's dictionaries and chunks mean, those of the other mean too.
pub record FollowsFile (m : FileMetadata) (size : ℕ) (before after : List ℕ) : Type 0 where
  pub dictionaries : (known : Dictionaries) → file_dictionaries m before ≡ Some known
      → file_dictionaries (resized m size) after ≡ Some known
  pub chunk : (known : Dictionaries) (projection : Option (List ℕ)) (limit : Limit) (i : ℕ) (c : Chunk)
      → file_chunk m known before projection limit i ≡ Some c
      → file_chunk (resized m size) known after projection limit i ≡ Some c

-- Bytes after a file change none of its dictionaries, and no chunk by any projection and limit.
abbrev pub FileFollowLaw : Type 0
FileFollowLaw = (m : FileMetadata) (size : ℕ) (bytes added : List ℕ) → m.size ≤ size → FollowsFile m size bytes (bytes ++ added)
