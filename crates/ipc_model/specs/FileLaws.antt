-- Theorem: two files that agree where a block is read have the same chunk there.
-- (Arrow columnar format, "IPC File Format".)
use Rattle.std.specs.Prelude.{◌≡◌, ℕ, List, Option, Some}
use Rattle.ipc_table_views.specs.declared.file.Block.{Block}
use Rattle.ipc_model.specs.BatchLaws.{Agree}
use Rattle.ipc_model.specs.Batches.{kinds, Lists, lists_of, chosen}
use Rattle.ipc_model.specs.Entries.{Dictionaries, Limit}
use Rattle.ipc_model.specs.Files.{FileMetadata, Placed, placed, metadata_at, BlockHeader, block_header, body_at, chunk_at}
use Rattle.ipc_model.specs.Kinds.{count}

-- Two files agree for a block and the chosen columns. The block's message has equal
-- metadata in both, or is in neither. The byte ranges of the chosen columns' buffers are
-- equal, as far as the files reach.
pub record FilesAgree (m : FileMetadata) (b : Block) (projection : Option (List ℕ)) (xs ys : List ℕ) : Type 0 where
  pub metadata : (p : Placed) → placed b ≡ Some p → metadata_at xs p ≡ metadata_at ys p
  pub ranges : (p : Placed) (metadata : List ℕ) (h : BlockHeader) (lists : Lists) → placed b ≡ Some p
      → metadata_at xs p ≡ Some metadata
      → block_header metadata ≡ Some h → lists_of h.table ≡ Some lists
      → Agree lists.buffers h.extra (kinds m.schema) (body_at m xs p) (body_at m ys p)
      (chosen projection (count (kinds m.schema)))

-- Files that agree for a block and the chosen columns have the same chunk there, or both have none.
abbrev pub FileAgreeLaw : Type 0
FileAgreeLaw = (m : FileMetadata) (known : Dictionaries) (b : Block) (projection : Option (List ℕ)) (limit : Limit)
    (xs ys : List ℕ)
    → FilesAgree m b projection xs ys → chunk_at m known xs b projection limit
    ≡ chunk_at m known ys b projection limit
