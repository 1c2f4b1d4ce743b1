-- What the bytes of a file mean: its footer, its dictionaries, and the chunk of each block.
-- (Arrow columnar format, "IPC File Format"; File.fbs.)
use Rattle.std.specs.Prelude.{◌≡◌, ℕ, ℤ, pos, ◌+◌, ◌-◌, ◌^◌, nat_lt, nat_eq, ◌&&◌, if◌then◌else◌, List, [], ◌∷◌, length, map, take, drop, slice_get, Option, None, Some}
use Rattle.std.specs.Option.{option_and_then}
use Rattle.std.specs.Str.{bytes_eq}
use Rattle.std.specs.Int.{w32, from_le_bytes}
use Rattle.lower.specs.TypeTrees.{Pairs}
use Rattle.ipc_table_views.specs.FileSlots.{footer_schema, footer_dictionaries, footer_record_batches, footer_custom_metadata}
use Rattle.ipc_table_views.specs.MessageSlots.{message_header, message_version}
use Rattle.ipc_table_views.specs.Spot.{Spot}
use Rattle.ipc_table_views.specs.Tables.{root_at}
use Rattle.ipc_table_views.specs.declared.file.Block.{Block}
use Rattle.ipc_model.specs.Batches.{Schema, extra_of, Body, Chunk, record_meaning, dictionary_meaning}
use Rattle.ipc_model.specs.Entries.{Dictionaries, Limit}
use Rattle.ipc_model.specs.Frame.{Frame, message, mark, waiting, broken, frame}
use Rattle.ipc_model.specs.Schemas.{made, present, given, pairs_at, schema_at}

-- ---- the footer

-- The schema and the blocks of a file, its own pairs of metadata, and the length of the file.
pub record FileMetadata : Type 0 where
  pub schema : Schema
  pub pairs : Pairs
  pub dictionaries : List Block
  pub blocks : List Block
  pub size : ℕ

-- The magic bytes `ARROW1`.
abbrev pub magic : List ℕ
magic = 65 ∷ 82 ∷ 82 ∷ 79 ∷ 87 ∷ 49 ∷ []

-- The last n bytes.
abbrev pub last : ℕ → List ℕ → List ℕ
last n bytes = drop (length bytes - n) bytes

-- The blocks of a list that may be absent.
abbrev pub or_no_blocks : Option (List Block) → List Block
or_no_blocks None = []
or_no_blocks (Some bs) = bs

-- What a footer means for a file of so many bytes, if its schema, its
-- blocks and its pairs are valid.
unfoldable pub footer_at : ℕ → Spot → Option FileMetadata
footer_at size t =
    given (present (footer_record_batches t))
    (λ blocks. given (present (footer_schema t)) (λ s. given (schema_at s) (λ schema.
    given (made (footer_dictionaries t)) (λ ds. given (made (footer_custom_metadata t)) (λ v. given (pairs_at v)
    (λ pairs. Some (record { schema = schema; pairs = pairs; dictionaries = or_no_blocks ds; blocks = blocks; size = size })))))))

-- The footer of n bytes, which ends 10 bytes before the end of the file. A length from 2 ^ 31 on
-- is negative as a signed number.
abbrev pub footer_of_length : List ℕ → ℕ → Option FileMetadata
footer_of_length bytes n =
    if nat_lt n (2 ^ 31)
    then (if nat_lt (length bytes) (n + 10) then None else given (made (root_at (take n (last (n + 10) bytes))))
    (footer_at (length bytes)))
    else None

-- The metadata in the footer of a file, if it is valid. A file begins and ends with `ARROW1`, and
-- before the last `ARROW1` is the length of the footer.
unfoldable pub metadata_of : List ℕ → Option FileMetadata
metadata_of bytes =
    if nat_lt (length bytes) 10 then None
    else if bytes_eq (take 6 bytes) magic
    && bytes_eq (last 6 bytes) magic then footer_of_length bytes (from_le_bytes w32 (take 4 (last 10 bytes)))
    else None

-- ---- a block

-- The metadata of the first message, if there is one with a length above 0.
abbrev pub front_metadata : Frame → Option (List ℕ)
front_metadata (message m rest) = Some m
front_metadata (mark rest) = None
front_metadata (waiting begun) = None
front_metadata broken = None

-- The offsets of a block's message and of its body; neither number of the block is negative.
pub record Placed : Type 0 where
  pub message : ℕ
  pub body : ℕ

-- The offsets that a block's two numbers give: the body is after the metadata.
abbrev pub placed_at : ℤ → ℤ → Option Placed
placed_at (pos o) (pos m) = Some (record { message = o; body = o + m })
placed_at _ _ = None

-- The offsets of a block's message and of its body, if neither number is negative.
abbrev pub placed : Block → Option Placed
placed b = placed_at b.offset b.meta_data_length

-- The metadata of a block's message.
abbrev pub metadata_at : List ℕ → Placed → Option (List ℕ)
metadata_at source p = front_metadata (frame (drop p.message source))

-- The header of a message in a file: its tag, its table, and how many buffers precede a union's own
-- in the version of the message.
pub record BlockHeader : Type 0 where
  pub tag : ℕ
  pub table : Spot
  pub extra : ℕ

-- The header that the metadata of a message have.
unfoldable pub block_header : List ℕ → Option BlockHeader
block_header metadata =
    given (made (root_at metadata)) (λ t. given (present (message_header t)) (λ u. given (made (message_version t))
    (λ version. Some (record { tag = u.0; table = u.1; extra = extra_of version }))))

-- The body of a block is counted from `offset + metaDataLength` on, in the whole file. The body
-- lengths of the block and of the message aren't used.
abbrev pub body_at : FileMetadata → List ℕ → Placed → Body
body_at m source p = record { source = source; base = p.body; size = m.size }

-- The chunk of a message whose header is a record batch.
abbrev pub record_with : FileMetadata → Dictionaries → Body → Option (List ℕ) → Limit → BlockHeader → Option Chunk
record_with m known body projection limit h = if nat_eq h.tag 3 then record_meaning m.schema h.extra known body h.table projection limit else None

-- The chunk of a record block, read from these bytes of the file.
unfoldable pub chunk_at : FileMetadata → Dictionaries → List ℕ → Block → Option (List ℕ) → Limit → Option Chunk
chunk_at m known source b projection limit =
    given (placed b) (λ p. given (metadata_at source p)
    (λ metadata. given (block_header metadata) (record_with m known (body_at m source p) projection limit)))

-- The dictionaries after a message whose header is a dictionary batch.
abbrev pub dictionaries_with : FileMetadata → Dictionaries → Body → BlockHeader → Option Dictionaries
dictionaries_with m known body h = if nat_eq h.tag 2 then dictionary_meaning m.schema h.extra known body h.table else None

-- The dictionaries after a dictionary block.
unfoldable pub dictionaries_at : FileMetadata → Dictionaries → List ℕ → Block → Option Dictionaries
dictionaries_at m known source b =
    given (placed b) (λ p. given (metadata_at source p)
    (λ metadata. given (block_header metadata) (dictionaries_with m known (body_at m source p))))

-- ---- the blocks of a file

-- The dictionaries after some dictionary blocks, in the order of the footer. `seen b` are the
-- bytes that are read for block b.
abbrev pub dictionaries_after : FileMetadata → (Block → List ℕ) → Dictionaries → List Block → Option Dictionaries
dictionaries_after m seen known [] = Some known
dictionaries_after m seen known (b ∷ bs) = given (dictionaries_at m known (seen b) b)
    (λ after. dictionaries_after m seen after bs)

-- All bytes of the file are read for each block.
abbrev pub all_of : List ℕ → Block → List ℕ
all_of bytes b = bytes

-- The dictionaries of a file: those after all its dictionary blocks.
abbrev pub file_dictionaries : FileMetadata → List ℕ → Option Dictionaries
file_dictionaries m bytes = dictionaries_after m (all_of bytes) [] m.dictionaries

-- The chunk of each of some record blocks, if it has one.
abbrev pub chunks_at : FileMetadata → Dictionaries → (Block → List ℕ) → Option (List ℕ) → Limit → List Block
    → List (Option Chunk)
chunks_at m known seen projection limit bs = map (λ b. chunk_at m known (seen b) b projection limit) bs

-- The chunk of record block i of a file.
abbrev pub file_chunk : FileMetadata → Dictionaries → List ℕ → Option (List ℕ) → Limit → ℕ → Option Chunk
file_chunk m known bytes projection limit i = option_and_then (λ b. chunk_at m known bytes b projection limit)
    (slice_get m.blocks i)

-- A file has this metadata in its footer, these dictionaries and these chunks.
pub record MeansFile (bytes : List ℕ) (m : FileMetadata) (known : Dictionaries) (cs : List Chunk) : Type 0 where
  pub metadata : metadata_of bytes ≡ Some m
  pub dictionaries : file_dictionaries m bytes ≡ Some known
  pub chunks : chunks_at m known (all_of bytes) None None m.blocks ≡ map Some cs
