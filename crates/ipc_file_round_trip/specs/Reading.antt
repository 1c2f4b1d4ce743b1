-- What is read of a whole file.
-- (Arrow columnar format, "IPC File Format".)
use Rattle.std.specs.Prelude.{◌≡◌, ℕ, List, [], ◌∷◌, map, length, Option, None, Some, MatchOption, slice_get, Result, Ok, Err}
use Rattle.std.specs.Option.{option_map}
use Rattle.lower_arrays.specs.declared.array.AnyArray.{AnyArray}
use Rattle.ipc_base.specs.Chunks.{row_count}
use Rattle.ipc_devices.specs.Faults.{OwnFault}
use Rattle.ipc_devices.specs.declared.fault.Fault.{Fault}
use Rattle.ipc_table_views.specs.declared.file.Block.{Block}
use Rattle.ipc_model.specs.BatchLaws.{pruned}
use Rattle.ipc_model.specs.Batches.{Chunk, IsProjection, chosen, kinds}
use Rattle.ipc_model.specs.Entries.{Dictionaries, Limit}
use Rattle.ipc_model.specs.Files.{FileMetadata as Meaning, all_of, chunk_at, chunks_at, file_dictionaries, metadata_of}
use Rattle.ipc_model.specs.Kinds.{count}
use Rattle.ipc_model.specs.Schemas.{given}
use Rattle.ipc_read.specs.Chunks.{chunk_seen}
use Rattle.ipc_files.specs.Batches.{RecordReason}
use Rattle.ipc_files.specs.Dictionaries.{DictionariesReason}
use Rattle.ipc_files.specs.Files.{FileReason}
use Rattle.ipc_files.specs.Footers.{file_seen}
use Rattle.ipc_file_readers.specs.Readers.{less}
use Rattle.ipc_file_readers.specs.Rows.{first_of, joined}
use Rattle.ipc_file_round_trip.specs.declared.read.WholeFile.{WholeFile}

-- ---- what a file means, from its first record block to its last

-- How many rows a chunk has.
abbrev pub rows_of : Chunk → ℕ
rows_of c = row_count (λ x. length x.slots) c

-- The chunks of some blocks, by the requested columns and one row limit: each has at most the
-- rows that those before it leave.
abbrev pub chunks_by : Meaning → Dictionaries → List ℕ → Option (List ℕ) → Limit → List Block → Option (List Chunk)
chunks_by m ds source p limit [] = Some []
chunks_by m ds source p limit (b ∷ bs) =
    given (chunk_at m ds source b p limit) (λ c. option_map (λ cs. c ∷ cs) (chunks_by m ds source p (less limit (rows_of c)) bs))

-- The dictionaries of a file with these record blocks; without a record block they aren't read.
abbrev pub dictionaries_for : List Block → Meaning → List ℕ → Option Dictionaries
dictionaries_for [] m source = Some []
dictionaries_for (b ∷ bs) m source = file_dictionaries m source

-- The chunks of a file, by the requested columns and one row limit.
abbrev pub file_chunks : Meaning → List ℕ → Option (List ℕ) → Limit → Option (List Chunk)
file_chunks m source p limit = given (dictionaries_for m.blocks m source) (λ ds. chunks_by m ds source p limit m.blocks)

-- All of a file: its metadata, and its chunks.
pub record FileMeant : Type 0 where
  pub metadata : Meaning
  pub chunks : List Chunk

-- What a file means by a projection and one row limit: its metadata, and its chunks.
unfoldable pub file_by : Option (List ℕ) → Limit → List ℕ → Option FileMeant
file_by p limit bytes =
    given (metadata_of bytes) (λ m. option_map (λ cs. record { metadata = m; chunks = cs }) (file_chunks m bytes p limit))

-- The chosen columns of some chunks. One row limit holds for all chunks together: each has at most
-- the rows that those before it leave.
abbrev pub all_pruned : Option (List ℕ) → Limit → List Chunk → List Chunk
all_pruned p limit [] = []
all_pruned p limit (c ∷ cs) = pruned p limit c ∷ all_pruned p (less limit (rows_of (pruned p limit c))) cs

-- ---- why it isn't read

-- Why the chunks of some blocks aren't read: the first block that has none, by what
-- those before it leave of the limit.
abbrev pub BlocksCause : Meaning → Dictionaries → List ℕ → Option (List ℕ) → Limit → List Block → Fault → Type 0
BlocksCause m ds source p limit [] e = ⊥
BlocksCause m ds source p limit (b ∷ bs) e =
    MatchOption (chunk_at m ds source b p limit) (RecordReason m (chosen p (count (kinds m.schema))) source (Some b) e)
    (λ c. BlocksCause m ds source p (less limit (rows_of c)) bs e)

-- Why the chunks of a file aren't read: its dictionaries or one of its blocks have no meaning.
abbrev pub FileChunksCause : Meaning → List ℕ → Option (List ℕ) → Limit → Fault → Type 0
FileChunksCause m source p limit e =
    MatchOption (dictionaries_for m.blocks m source) (DictionariesReason m source [] m.dictionaries e) (λ ds. BlocksCause m ds source p limit m.blocks e)

-- Why a file isn't read: its metadata or its chunks have no meaning.
abbrev pub ReadingCause : Option (List ℕ) → Limit → List ℕ → Fault → Type 0
ReadingCause p limit bytes e = MatchOption (metadata_of bytes) (FileReason 0 bytes e) (λ m. FileChunksCause m bytes p limit e)

-- ---- what was read

-- The chunks that some lists of arrays are, in order.
abbrev pub chunks_seen : List (List AnyArray) → List Chunk
chunks_seen xs = map chunk_seen xs

-- The chunks of a file that was read.
abbrev pub chunks_of : WholeFile → List Chunk
chunks_of f = chunks_seen f.chunks.items

-- A file that was read: its metadata, and its chunks.
abbrev pub file_read : WholeFile → FileMeant
file_read f = record { metadata = file_seen f.metadata; chunks = chunks_of f }

-- If the file has a meaning, the joined rows of these chunks are the first
-- rows of the requested columns.
pub record HasFirstRows (m : Meaning) (source : List ℕ) (p : Option (List ℕ)) (limit : Limit) (gs : List Chunk) : Type 0 where
  pub rows : (ds : Dictionaries) (cs : List Chunk) → file_dictionaries m source ≡ Some ds → chunks_at m ds (all_of source) None None m.blocks ≡ map Some cs
      → (q j : ℕ) → slice_get (chosen p (count (kinds m.schema))) q ≡ Some j → joined gs q ≡ first_of limit (joined cs j)

-- `HasFirstRows` holds of what was read, if anything was.
abbrev pub HaveFirstRows : Option (List ℕ) → Limit → List ℕ → Option WholeFile → Type 0
HaveFirstRows p limit bytes None = Unit {0}
HaveFirstRows p limit bytes (Some f) = HasFirstRows (file_seen f.metadata) bytes p limit (chunks_of f)

-- All of a file was read, by columns that it has, each requested once.
pub record IsReadBy (p : Option (List ℕ)) (limit : Limit) (bytes : List ℕ) (f : WholeFile) : Type 0 where
  pub asked : IsProjection p (count (kinds (file_seen f.metadata).schema))
  pub means : file_by p limit bytes ≡ Some (file_read f)

-- A file's schema doesn't have these columns, or one of them is named twice.
pub record NamesOthers (p : Option (List ℕ)) (bytes : List ℕ) : Type 0 where
  pub metadata : Meaning
  pub there : metadata_of bytes ≡ Some metadata
  pub others : ¬ IsProjection p (count (kinds metadata.schema))

-- A file can't be read, and the requested columns are ones that it has.
pub record IsUnreadable (p : Option (List ℕ)) (limit : Limit) (bytes : List ℕ) : Type 0 where
  pub asked : (m : Meaning) → metadata_of bytes ≡ Some m → IsProjection p (count (kinds m.schema))
  pub none : file_by p limit bytes ≡ None

-- All of a file was read, of these columns and up to the limit, or its schema doesn't have the
-- columns. An error says that it can't be read, or that an allocation or the device failed.
abbrev pub ReadsColumns : Option (List ℕ) → Limit → List ℕ → Result (Option WholeFile) Fault → Type 0
ReadsColumns p limit bytes (Ok None) = NamesOthers p bytes
ReadsColumns p limit bytes (Ok (Some f)) = IsReadBy p limit bytes f
ReadsColumns p limit bytes (Err e) = OwnFault e (IsUnreadable p limit bytes)
