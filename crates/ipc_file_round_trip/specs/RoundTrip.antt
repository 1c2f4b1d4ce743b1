-- What a file writer wrote is what a file reader reads.
-- (Arrow columnar format, "IPC File Format"; the limits are this project's own.)
use Rattle.std.specs.Prelude.{◌≡◌, ℕ, List, length, None, Some}
use Rattle.lower.specs.TypeTrees.{FieldTrees, Pairs}
use Rattle.lower_types.specs.declared.Endianness.{Endianness}
use Rattle.ipc_base.specs.IdTrees.{IdTrees}
use Rattle.ipc_model.specs.Batches.{Chunk}
use Rattle.ipc_schema_write.specs.WriterAnswers.{written_as}
use Rattle.ipc_files.specs.Footers.{file_seen}
use Rattle.ipc_file_write.specs.Calls.{IsWrittenFile}
use Rattle.ipc_file_round_trip.specs.Reading.{chunks_of, file_by, file_read}
use Rattle.ipc_file_round_trip.specs.declared.read.WholeFile.{WholeFile}

-- The file that was read has the normal form of this schema with its ids, in this byte order, and
-- these pairs. It has one block for each of these chunks, and reads as them.
pub record ComesBack (f : WholeFile) (order : Endianness) (fields : FieldTrees) (metadata : Pairs) (ids : IdTrees) (pairs : Pairs) (cs : List Chunk) : Type 0 where
  pub schema : (file_seen f.metadata).schema ≡ written_as order fields metadata ids
  pub pairs_are : (file_seen f.metadata).pairs ≡ pairs
  pub records : length (file_seen f.metadata).blocks ≡ length cs
  pub chunks : chunks_of f ≡ cs

-- What was read is all that the bytes of a file that was written mean: the same schema, pairs and
-- chunks, and its size and its blocks.
pub record ReadsWritten (f : WholeFile) (order : Endianness) (fields : FieldTrees) (metadata : Pairs) (ids : IdTrees) (pairs : Pairs) (cs : List Chunk) : Type 0 where
  pub bytes : List ℕ
  pub written : IsWrittenFile bytes order fields metadata ids pairs cs
  pub read : file_by None None bytes ≡ Some (file_read f)
