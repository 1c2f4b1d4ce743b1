-- What the public calls that read files do, in one record for each call.
-- (Arrow columnar format, "IPC File Format".)
use Rattle.std.specs.Prelude.{◌≡◌, ◌⊎◌, ℕ, ℤ, ◌+◌, ◌≤◌, List, [], map, length, slice_get, Option, None, Some, Result, Err, IfOk, IfErr, OnOk, IsOk, IsTrue}
use Rattle.std.specs.Option.{option_and_then}
use Rattle.std.specs.HashMap.{HashMap}
use Rattle.std.specs.declared.sync.Arc.{Arc}
use Rattle.lower.specs.TypeViews.{fields_view, pairs_of, schema_view}
use Rattle.lower_arrays.specs.AnyLayouts.{layout_of}
use Rattle.lower_arrays.specs.declared.array.AnyArray.{AnyArray}
use Rattle.ipc_base.specs.Fitting.{AllFit}
use Rattle.ipc_base.specs.IdTrees.{all_ids_view, ipc_schema_view}
use Rattle.ipc_devices.specs.Acts.{ReadsDevice}
use Rattle.ipc_devices.specs.Device.{Device}
use Rattle.ipc_devices.specs.Faults.{OwnFault}
use Rattle.ipc_devices.specs.declared.fault.Fault.{Fault}
use Rattle.ipc_devices.specs.declared.fault.Fault.TheVariants.{OutOfSpec}
use Rattle.ipc_devices.specs.declared.fault.OutOfSpecKind.TheVariants.{NegativeFooterLength}
use Rattle.ipc_model.specs.Batches.{chosen, kinds}
use Rattle.ipc_model.specs.Entries.{Dictionaries, Limit}
use Rattle.ipc_model.specs.Files.{FileMetadata as Meaning, file_chunk, file_dictionaries, metadata_of, placed}
use Rattle.ipc_model.specs.ReadChunks.{HaveMeaning}
use Rattle.ipc_read_flat.specs.Bodies.{array_under, known_dictionaries}
use Rattle.ipc_read.specs.Chunks.{chunk_seen}
use Rattle.ipc_files.specs.Batches.{BlockGiven, HoldBatch, IsRecordFault, RecordReason, block_metadata, needed_bytes}
use Rattle.ipc_files.specs.Dictionaries.{DictionariesReason, GivesKnown, HoldListed, IsDictionaryBlockFault, ValuesTaken}
use Rattle.ipc_files.specs.Files.{FileFault, FileReason, FooterGiven, metadata_from}
use Rattle.ipc_files.specs.Footers.{GivesPart, file_seen}
use Rattle.ipc_files.specs.declared.read.file.metadata.FileMetadata.{FileMetadata}

-- ---- the metadata of a file

-- What an error of `read_file_metadata` means.
pub record FileCause {R : Type 0} (d : Device R) (a : R) (e : Fault) : Type 0 where
  -- It is one of a file's head, its tail or its footer.
  pub kind : OwnFault e (FileFault e)
  -- Reading from memory, what it says of the file is true of it.
  pub reason : IsTrue d.is_memory → OwnFault e (FileReason (d.memory a).place (d.memory a).whole e)

-- How much `read_file_metadata` reads.
pub record MetadataBounds {R X : Type 0} (d : Device R) (a : R) (r : Result X Fault) (b : R) : Type 0 where
  -- If it is Ok: the head, the tail, and the footer whose length the tail states.
  pub given : OnOk r (FooterGiven d.is_memory (d.memory a).whole (d.given a) (d.given b))
  -- Also on an error: the head and the tail, or these and the footer.
  pub taken : (d.given b ≤ d.given a + 16) ⊎ FooterGiven d.is_memory (d.memory a).whole (d.given a) (d.given b)

-- `read_file_metadata`: it took the device from a to b, and returned r.
pub record ReadsMetadata {R : Type 0} (d : Device R) (a : R) (r : Result FileMetadata Fault) (b : R) : Type 0 where
  -- Reading from memory, it is Ok exactly if a file with metadata begins at the position.
  pub exact : IsTrue d.is_memory → GivesPart file_seen r (metadata_from (d.memory a).place (d.memory a).whole)
  -- If the file begins where the memory begins, these are the metadata of its bytes.
  pub from_start : IsTrue d.is_memory → (d.memory a).place ≡ 0 → GivesPart file_seen r (metadata_of (d.memory a).whole)
  -- What an error means.
  pub causes : IfErr r (FileCause d a)
  -- What became of the device.
  pub device : ReadsDevice d a r b
  -- How many bytes are read.
  pub bounds : MetadataBounds d a r b
  -- The dictionary ids have the shape of the fields.
  pub fits : IfOk r (λ m. AllFit (fields_view m.schema.fields.items) (all_ids_view m.ipc_schema.fields.items))

-- `FileMetadata::clone`: each part of the copy is as in the original. (The blocks of the dictionary
-- batches are a clause of their own.)
pub record CopiesMetadata (a b : FileMetadata) : Type 0 where
  -- the names and types of the columns
  pub schema : schema_view b.schema ≡ schema_view a.schema
  -- the dictionary ids and the byte order
  pub ids : ipc_schema_view b.ipc_schema ≡ ipc_schema_view a.ipc_schema
  -- the blocks of the record batches
  pub blocks : b.blocks.items ≡ a.blocks.items
  -- the size of the file
  pub size : b.size ≡ a.size
  -- the file's own pairs of texts
  pub pairs : pairs_of b.custom_metadata.entries ≡ pairs_of a.custom_metadata.entries

-- ---- the dictionaries of a file

-- What an error of `read_file_dictionaries` means.
pub record DictionariesCause {R : Type 0} (d : Device R) (file : Meaning) (a : R) (e : Fault) : Type 0 where
  -- It is one of a dictionary block.
  pub kind : OwnFault e (IsDictionaryBlockFault e)
  -- Reading from memory, it is the error of the first block that is refused.
  pub reason : IsTrue d.is_memory → OwnFault e (DictionariesReason file (d.memory a).whole [] file.dictionaries e)

-- How much `read_file_dictionaries` reads and retains.
pub record DictionariesBounds {R Z S : Type 0} (d : Device R) (file : Meaning) (a : R) (r : Result (HashMap ℤ (Arc AnyArray Z) S) Fault) (b : R) : Type 0 where
  -- At most what the blocks need is read, or those up to the refused one.
  pub given : ValuesTaken d.is_memory file (d.memory a).whole r (d.given a) (d.given b)
  -- Each array retains at most the encoded length of its block's buffers.
  pub held : IfOk r (λ known. HoldListed d.is_memory file (d.memory a).whole (λ id. array_under known id))

-- `read_file_dictionaries`: it took the device from a to b, and returned r.
pub record ReadsDictionaries {R Z S : Type 0} (d : Device R) (file : Meaning) (a : R) (r : Result (HashMap ℤ (Arc AnyArray Z) S) Fault) (b : R) : Type 0 where
  -- Reading from memory, it is Ok exactly if each block is valid, and returns their values.
  pub exact : IsTrue d.is_memory → GivesKnown (λ known. known_dictionaries known) r (file_dictionaries file (d.memory a).whole)
  -- What an error means.
  pub causes : IfErr r (DictionariesCause d file a)
  -- Without dictionary blocks it is Ok.
  pub none : file.dictionaries ≡ [] → IsOk r
  -- What became of the device.
  pub device : ReadsDevice d a r b
  -- How many bytes are read and retained.
  pub bounds : DictionariesBounds d file a r b

-- ---- the record batch at a block

-- What `read_batch` is asked for.
pub record BlockRequest : Type 0 where
  -- what the metadata of the file say
  pub file : Meaning
  -- the dictionaries of the file
  pub known : Dictionaries
  -- the indexes of the requested columns; all columns without it
  pub projection : Option (List ℕ)
  -- the indexes of the columns that are read
  pub columns : List ℕ
  -- the most rows of each column; all rows without it
  pub limit : Limit
  -- the index of the block
  pub index : ℕ

-- The request of a call of `read_batch`, by its arguments.
abbrev pub block_request : {Z S : Type 0} → FileMetadata → HashMap ℤ (Arc AnyArray Z) S → Option (List ℕ) → Limit → ℕ → BlockRequest
block_request m dictionaries projection limit index = record {
  file = file_seen m;
  known = known_dictionaries dictionaries;
  projection = projection;
  columns = chosen projection (length m.schema.fields.items);
  limit = limit;
  index = index;
}

-- What an error of `read_batch` means.
pub record BatchCause {R : Type 0} (d : Device R) (q : BlockRequest) (a : R) (e : Fault) : Type 0 where
  -- It is one of a block, of its message, or of a record batch of these columns.
  pub kind : OwnFault e (IsRecordFault (kinds q.file.schema) q.columns e)
  -- Reading from memory, what it says of the block is true of it.
  pub reason : IsTrue d.is_memory → OwnFault e (RecordReason q.file q.columns (d.memory a).whole (slice_get q.file.blocks q.index) e)

-- How much `read_batch` reads and returns, where the scratch has these bytes after it.
pub record BatchBounds {R : Type 0} (d : Device R) (q : BlockRequest) (a : R) (scratch : List ℕ) (r : Result (List AnyArray) Fault) (b : R) : Type 0 where
  -- There is one array for each column that is read.
  pub many : IfOk r (λ xs. length xs ≡ length q.columns)
  -- Reading from memory, the scratch has the metadata of the block's message.
  pub message : IsTrue d.is_memory → OnOk r (block_metadata (d.memory a).whole (slice_get q.file.blocks q.index) ≡ Some scratch)
  -- At most the message, its prefix and the encoded length of the columns' buffers is read.
  pub given : BlockGiven d.is_memory (needed_bytes (kinds q.file.schema) q.columns) (d.memory a).whole (slice_get q.file.blocks q.index) scratch r (d.given a) (d.given b)
  -- The arrays retain at most that length, plus one offset for each empty offset buffer.
  pub held : IfOk r (λ xs. HoldBatch q.file.size (kinds q.file.schema) q.columns scratch xs)

-- `read_batch`: it took the device from a to b, left these bytes in the scratch, and returned r.
pub record ReadsBatch {R : Type 0} (d : Device R) (q : BlockRequest) (a : R) (scratch : List ℕ) (r : Result (List AnyArray) Fault) (b : R) : Type 0 where
  -- Reading from memory, it is Ok exactly if the block has a meaning, and returns that.
  pub exact : IsTrue d.is_memory → GivesPart chunk_seen r (file_chunk q.file q.known (d.memory a).whole q.projection q.limit q.index)
  -- What an error means.
  pub causes : IfErr r (BatchCause d q a)
  -- A negative number in the block is reported as `NegativeFooterLength`.
  pub numbers : option_and_then placed (slice_get q.file.blocks q.index) ≡ None → r ≡ Err (OutOfSpec NegativeFooterLength)
  -- What became of the device.
  pub device : ReadsDevice d a r b
  -- How many bytes are read and retained, and how many arrays are returned.
  pub bounds : BatchBounds d q a scratch r b
  -- Reading from memory, the arrays have the values that are known of their dictionaries.
  pub values : IsTrue d.is_memory → IfOk r (λ xs. HaveMeaning q.known q.file.schema.ids q.columns (chunk_seen xs) (map layout_of xs))
