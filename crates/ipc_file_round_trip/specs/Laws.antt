-- Theorems on files that are read.
-- (Arrow columnar format, "IPC File Format".)
use Rattle.std.specs.Prelude.{◌≡◌, ℕ, true, List, drop, Option, None, Some, slice_get, Result}
use Rattle.lower.specs.TypeTrees.{FieldTrees, Pairs}
use Rattle.lower_arrays.specs.declared.array.AnyArray.{AnyArray}
use Rattle.lower_types.specs.declared.Endianness.{Endianness}
use Rattle.ipc_base.specs.IdTrees.{IdTrees}
use Rattle.ipc_devices.specs.declared.fault.Fault.{Fault}
use Rattle.ipc_table_views.specs.declared.file.Block.{Block}
use Rattle.ipc_model.specs.BatchLaws.{pruned}
use Rattle.ipc_model.specs.Batches.{Chunk, IsProjection, kinds}
use Rattle.ipc_model.specs.Entries.{Dictionaries, Limit}
use Rattle.ipc_model.specs.FileLaws.{FilesAgree}
use Rattle.ipc_model.specs.Files.{FileMetadata as Meaning, file_chunk, file_dictionaries}
use Rattle.ipc_model.specs.Kinds.{count}
use Rattle.ipc_stream_lemmas.specs.Agreement.{AreAlike}
use Rattle.ipc_schema_write.specs.WriterAnswers.{written_head_as}
use Rattle.ipc_read.specs.Chunks.{chunk_seen}
use Rattle.ipc_files.specs.Footers.{GivesPart}
use Rattle.ipc_file_lemmas.specs.FileBytes.{IsFile}
use Rattle.ipc_file_write.specs.Calls.{IsWrittenFile}
use Rattle.ipc_round_trip.specs.Reading.{IsReadable, IsWhole}
use Rattle.ipc_round_trip.specs.RoundTrip.{Reads}
use Rattle.ipc_round_trip.specs.declared.read.WholeStream.{WholeStream}
use Rattle.ipc_file_round_trip.specs.Reading.{all_pruned, file_by, file_chunks, file_read}
use Rattle.ipc_file_round_trip.specs.RoundTrip.{ComesBack}
use Rattle.ipc_file_round_trip.specs.declared.read.WholeFile.{WholeFile}

-- ---- files that are read back

-- A whole file is read as its metadata and its chunks.
abbrev pub WholeFileLaw : Type 0
WholeFileLaw = (bytes : List ℕ) (m : Meaning) (cs : List Chunk) → IsFile bytes m cs → file_by None None bytes ≡ Some (record { metadata = m; chunks = cs })

-- With a projection and a row limit, a whole file is read as the first rows of the chosen columns.
abbrev pub ChosenLaw : Type 0
ChosenLaw = (p : Option (List ℕ)) (limit : Limit) (bytes : List ℕ) (m : Meaning) (cs : List Chunk) → IsProjection p (count (kinds m.schema)) → IsFile bytes m cs
    → file_by p limit bytes ≡ Some (record { metadata = m; chunks = all_pruned p limit cs })

-- A file that was written is read as the schema, pairs and chunks that were written.
abbrev pub WrittenLaw : Type 0
WrittenLaw = (bytes : List ℕ) (order : Endianness) (fields : FieldTrees) (metadata : Pairs) (ids : IdTrees) (pairs : Pairs) (cs : List Chunk) (f : WholeFile)
    → IsWrittenFile bytes order fields metadata ids pairs cs → file_by None None bytes ≡ Some (file_read f) → ComesBack f order fields metadata ids pairs cs

-- The batch at block i is this chunk; by a projection and a row limit it is the
-- first rows of the chosen columns.
pub record HasBatch (m : Meaning) (known : Dictionaries) (bytes : List ℕ) (i : ℕ) (c : Chunk) : Type 0 where
  pub whole : file_chunk m known bytes None None i ≡ Some c
  pub chosen : (p : Option (List ℕ)) (limit : Limit) → IsProjection p (count (kinds m.schema)) → file_chunk m known bytes p limit i ≡ Some (pruned p limit c)

-- With the dictionaries of the file, the batch at each block is its chunk.
abbrev pub BatchesLaw : Type 0
BatchesLaw = (bytes : List ℕ) (m : Meaning) (cs : List Chunk) (known : Dictionaries) (i : ℕ) (c : Chunk)
    → IsFile bytes m cs → AreAlike (file_dictionaries m bytes) (Some known) → slice_get cs i ≡ Some c → HasBatch m known bytes i c

-- Without its first eight bytes, a file that was written is read as a stream of
-- the same chunks, which has ended.
abbrev pub StreamLaw : Type 0
StreamLaw = (bytes : List ℕ) (order : Endianness) (fields : FieldTrees) (metadata : Pairs) (ids : IdTrees) (pairs : Pairs) (cs : List Chunk) (s : WholeStream)
    → IsWrittenFile bytes order fields metadata ids pairs cs → IsWhole (drop 8 bytes) s → Reads s (written_head_as order fields metadata ids) cs true

-- Without its first eight bytes, a file that was written can be read as a stream.
abbrev pub ReadableStreamLaw : Type 0
ReadableStreamLaw = (bytes : List ℕ) (order : Endianness) (fields : FieldTrees) (metadata : Pairs) (ids : IdTrees) (pairs : Pairs) (cs : List Chunk)
    → IsWrittenFile bytes order fields metadata ids pairs cs → IsReadable (drop 8 bytes)

-- ---- files that agree

-- Two files agree at block i for the requested columns.
pub record AgreeAtBlock (m : Meaning) (p : Option (List ℕ)) (xs ys : List ℕ) (i : ℕ) : Type 0 where
  pub agree : (b : Block) → slice_get m.blocks i ≡ Some b → FilesAgree m b p xs ys

-- Two files that agree at a block have the same chunk there, or both have none.
abbrev pub AgreeingChunksLaw : Type 0
AgreeingChunksLaw = (m : Meaning) (known : Dictionaries) (p : Option (List ℕ)) (limit : Limit) (xs ys : List ℕ) (i : ℕ) → AgreeAtBlock m p xs ys i
    → file_chunk m known xs p limit i ≡ file_chunk m known ys p limit i

-- What a reader returns for a block of one file is right for the other, if the two agree there.
abbrev pub AgreeingAnswersLaw : Type 0
AgreeingAnswersLaw = (m : Meaning) (known : Dictionaries) (p : Option (List ℕ)) (limit : Limit) (xs ys : List ℕ) (i : ℕ) (r : Result (List AnyArray) Fault) → AgreeAtBlock m p xs ys i
    → GivesPart chunk_seen r (file_chunk m known xs p limit i) → GivesPart chunk_seen r (file_chunk m known ys p limit i)

-- Two files that agree at all blocks, and have the same dictionaries, have the same chunks.
abbrev pub AgreeingFilesLaw : Type 0
AgreeingFilesLaw = (m : Meaning) (p : Option (List ℕ)) (limit : Limit) (xs ys : List ℕ) → file_dictionaries m xs ≡ file_dictionaries m ys
    → ((i : ℕ) → AgreeAtBlock m p xs ys i) → file_chunks m xs p limit ≡ file_chunks m ys p limit
