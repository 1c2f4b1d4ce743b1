-- Theorems: a message at a block of a file means there what it means alone.
-- (Arrow columnar format, "IPC File Format"; File.fbs, Block.)
use Rattle.std.specs.Prelude.{◌≡◌, ℕ, ℤ, pos, ◌≤◌, List, ◌∷◌, ◌++◌, length, Option, None, Some, Ok}
use Rattle.ipc_table_views.specs.MessageSlots.{message_version}
use Rattle.ipc_table_views.specs.Spot.{Spot}
use Rattle.ipc_table_views.specs.Tables.{root_at}
use Rattle.ipc_table_views.specs.declared.file.Block.{Block}
use Rattle.ipc_table_views.specs.declared.schema.MetadataVersion.{MetadataVersion}
use Rattle.ipc_model.specs.Batches.{Schema, Body, Chunk, extra_of, record_meaning, dictionary_meaning}
use Rattle.ipc_model.specs.Entries.{Dictionary, Dictionaries, Limit}
use Rattle.ipc_model.specs.Files.{FileMetadata, chunk_at, dictionaries_at}
use Rattle.ipc_model.specs.Streams.{Head, Known, whole}
use Rattle.ipc_model.specs.WrittenLaws.{prefix, BeginsWithRecord}
use Rattle.ipc_stream_lemmas.specs.Messages.{message_bytes, IsWrittenDictionary}

-- ---- bodies in a source

-- A body begins with these bytes, and its size allows for them.
pub record BodyStands (y : Body) (bytes : List ℕ) : Type 0 where
  pub before : List ℕ
  pub behind : List ℕ
  pub source_is : y.source ≡ before ++ (bytes ++ behind)
  pub base_is : y.base ≡ length before
  pub room : length bytes ≤ y.size

-- A record batch with these bytes as its body means the same wherever the bytes are.
abbrev pub PlacedRecordLaw : Type 0
PlacedRecordLaw = (schema : Schema) (extra : ℕ) (known : Dictionaries) (y : Body) (bytes : List ℕ) (t : Spot) (projection : Option (List ℕ)) (limit : Limit) (c : Chunk)
    → BodyStands y bytes
    → record_meaning schema extra known (whole bytes) t projection limit ≡ Some c → record_meaning schema extra known y t projection limit ≡ Some c

-- A dictionary batch with these bytes as its body means the same wherever the bytes are.
abbrev pub PlacedDictionaryLaw : Type 0
PlacedDictionaryLaw = (schema : Schema) (extra : ℕ) (known after : Dictionaries) (y : Body) (bytes : List ℕ) (t : Spot) → BodyStands y bytes
    → dictionary_meaning schema extra known (whole bytes) t ≡ Some after → dictionary_meaning schema extra known y t ≡ Some after

-- ---- blocks

-- A message is at a block: its prefix and its metadata are as long as the block says, and
-- the file has room for its body.
pub record StandsAt (m : FileMetadata) (source : List ℕ) (b : Block) (metadata body : List ℕ) : Type 0 where
  pub before : List ℕ
  pub behind : List ℕ
  pub source_is : source ≡ before ++ (message_bytes metadata body ++ behind)
  pub offset_is : b.offset ≡ pos (length before)
  pub metadata_is : b.meta_data_length ≡ pos (length (prefix (length metadata) ++ metadata))
  pub room : length body ≤ m.size

-- A message has a version by which a union has so many extra buffers.
pub record IsOfVersion (metadata : List ℕ) (extra : ℕ) : Type 0 where
  pub root : Spot
  pub root_is : root_at metadata ≡ Ok root
  pub version : MetadataVersion
  pub version_is : message_version root ≡ Ok version
  pub extra_is : extra_of version ≡ extra

-- A record message that was written at a block has its chunk there.
abbrev pub BlockRecordLaw : Type 0
BlockRecordLaw = (m : FileMetadata) (h : Head) (s : Known) (source : List ℕ) (b : Block) (metadata body : List ℕ) (c : Chunk) → m.schema ≡ h.schema
    → StandsAt m source b metadata body → BeginsWithRecord h s metadata body c → IsOfVersion metadata (extra_of h.version)
    → chunk_at m s.dictionaries source b None None ≡ Some c

-- A dictionary message that was written at a block sets the values of its id there.
abbrev pub BlockDictionaryLaw : Type 0
BlockDictionaryLaw = (m : FileMetadata) (h : Head) (s : Known) (source : List ℕ) (b : Block) (metadata body : List ℕ) (id : ℤ) (d : Dictionary) → m.schema ≡ h.schema
    → StandsAt m source b metadata body → IsWrittenDictionary h s metadata body id d → IsOfVersion metadata (extra_of h.version)
    → dictionaries_at m s.dictionaries source b ≡ Some ((id, d) ∷ s.dictionaries)
