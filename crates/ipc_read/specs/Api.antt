-- What the public calls that read batches do, in one record for each call.
-- (Arrow columnar format, "RecordBatch message", "Dictionary messages".)
use Rattle.std.specs.Prelude.{◌≡◌, ℕ, ℤ, ◌+◌, ◌≤◌, List, map, length, Option, Result, IfOk, IfErr, OnOk, OnErr, IsTrue}
use Rattle.std.specs.HashMap.{HashMap, IsUnchanged}
use Rattle.std.specs.declared.sync.Arc.{Arc}
use Rattle.lower.specs.declared.datatypes.Field.{Field}
use Rattle.lower_arrays.specs.AnyLayouts.{layout_of}
use Rattle.lower_arrays.specs.declared.array.AnyArray.{AnyArray}
use Rattle.ipc_base.specs.declared.ipc.IpcSchema.{IpcSchema}
use Rattle.ipc_devices.specs.Acts.{ReadsDevice}
use Rattle.ipc_devices.specs.Device.{Device}
use Rattle.ipc_devices.specs.Faults.{OwnFault}
use Rattle.ipc_devices.specs.declared.fault.Fault.{Fault}
use Rattle.ipc_table_views.specs.Spot.{Spot}
use Rattle.ipc_table_views.specs.declared.schema.MetadataVersion.{MetadataVersion}
use Rattle.ipc_model.specs.Batches.{Schema, Body, kinds, lists_of, chosen, extra_of}
use Rattle.ipc_model.specs.Entries.{Dictionaries, Limit}
use Rattle.ipc_model.specs.ReadChunks.{HaveMeaning}
use Rattle.ipc_read_flat.specs.Bodies.{array_under, known_dictionaries}
use Rattle.ipc_read.specs.Chunks.{GivesBatch, batch_schema, chunk_seen}
use Rattle.ipc_read.specs.DictionaryBatches.{BlamesDictionary, GivesDictionary, IsDictionaryFault, PutsCases, PutsValues, TellsOfValues, TellsValues, values_listed}
use Rattle.ipc_read.specs.HeldChunks.{HoldChosen, HoldsValues}
use Rattle.ipc_read.specs.Refusals.{IsFaultOfBatch, TellsBatch, TellsColumns}
use Rattle.ipc_read.specs.Sizes.{chosen_listed}

-- A body at an offset of a device, whose buffers may have so many bytes together.
abbrev pub body_on : {R : Type 0} → Device R → R → (base size : ℕ) → Body
body_on d a base size = record { source = (d.memory a).whole; base = base; size = size }

-- ---- record batches

-- What `read_record_batch` is asked for.
pub record BatchRequest : Type 0 where
  -- the fields, their dictionary ids and the byte order of the body
  pub schema : Schema
  -- how many buffers come before a union's own, by the version of the message
  pub extra : ℕ
  -- the dictionaries that were read before
  pub known : Dictionaries
  -- the offset of the body on the device, in bytes
  pub base : ℕ
  -- how many bytes the buffers may have together
  pub size : ℕ
  -- the table of the batch
  pub table : Spot
  -- the indexes of the requested columns; all columns without it
  pub projection : Option (List ℕ)
  -- the indexes of the columns that are read
  pub columns : List ℕ
  -- the most rows of each column; all rows without it
  pub limit : Limit

-- The request of a call of `read_record_batch`, by its arguments.
abbrev pub batch_request : {Z S : Type 0} → List Field → IpcSchema → HashMap ℤ (Arc AnyArray Z) S → MetadataVersion → (base size : ℕ) → Spot → Option (List ℕ) → Limit → BatchRequest
batch_request fields ids dictionaries version base size t projection limit = record {
  schema = batch_schema fields ids;
  extra = extra_of version;
  known = known_dictionaries dictionaries;
  base = base;
  size = size;
  table = t;
  projection = projection;
  columns = chosen projection (length fields);
  limit = limit;
}

-- What an error of `read_record_batch` means.
pub record RecordBatchCause {R : Type 0} (d : Device R) (q : BatchRequest) (a : R) (e : Fault) : Type 0 where
  -- It is one of the lists, of a chosen column, or of columns with unequal lengths.
  pub kind : OwnFault e (IsFaultOfBatch (kinds q.schema) q.columns e)
  -- What it says of the batch's table is true of it.
  pub lists : TellsBatch q.schema q.extra q.table q.size e
  -- What it says of the nodes, the buffers and the dictionaries is true of them.
  pub entries : TellsColumns d.is_memory q.schema.order q.extra q.known (body_on d a q.base q.size) q.table e

-- How much `read_record_batch` reads and returns.
pub record RecordBatchBounds {R : Type 0} (d : Device R) (q : BatchRequest) (a : R) (r : Result (List AnyArray) Fault) (b : R) : Type 0 where
  -- There is one array for each column that is read.
  pub many : IfOk r (λ xs. length xs ≡ length q.columns)
  -- At most the encoded length of the chosen columns' buffers is read from the device.
  pub given : d.given b ≤ d.given a + chosen_listed (lists_of q.table) q.extra (kinds q.schema) q.columns
  -- The arrays retain at most that length, plus one offset for each empty offset buffer.
  pub held : IfOk r (λ xs. HoldChosen q.size (lists_of q.table) q.extra (kinds q.schema) q.columns xs)

-- `read_record_batch`: it took the device from a to b, and returned r.
pub record ReadsRecordBatch {R : Type 0} (d : Device R) (q : BatchRequest) (a : R) (r : Result (List AnyArray) Fault) (b : R) : Type 0 where
  -- Reading from memory, it is Ok exactly if the batch has a meaning, and returns that.
  pub exact : IsTrue d.is_memory → GivesBatch q.schema q.extra q.known (body_on d a q.base q.size) q.table q.projection q.limit r
  -- What an error means.
  pub causes : IfErr r (RecordBatchCause d q a)
  -- What became of the device.
  pub device : ReadsDevice d a r b
  -- How many bytes are read and retained, and how many arrays are returned.
  pub bounds : RecordBatchBounds d q a r b
  -- Reading from memory, the arrays have the values that are known of their dictionaries.
  pub values : IsTrue d.is_memory → IfOk r (λ xs. HaveMeaning q.known q.schema.ids q.columns (chunk_seen xs) (map layout_of xs))

-- ---- dictionary batches

-- What `read_dictionary` is asked for.
pub record DictionaryRequest : Type 0 where
  -- the fields, their dictionary ids and the byte order of the body
  pub schema : Schema
  -- how many buffers come before a union's own, by the version of the message
  pub extra : ℕ
  -- the offset of the body on the device, in bytes
  pub base : ℕ
  -- how many bytes the buffers may have together
  pub size : ℕ
  -- the table of the dictionary batch
  pub table : Spot

-- The request of a call of `read_dictionary`, by its arguments.
abbrev pub dictionary_request : List Field → IpcSchema → MetadataVersion → (base size : ℕ) → Spot → DictionaryRequest
dictionary_request fields ids version base size t =
    record { schema = batch_schema fields ids; extra = extra_of version; base = base; size = size; table = t }

-- What an error of `read_dictionary` means, where these dictionaries were known before.
pub record DictionaryCause {R : Type 0} (d : Device R) (q : DictionaryRequest) (known : Dictionaries) (a : R) (e : Fault) : Type 0 where
  -- It is one of a dictionary batch.
  pub kind : OwnFault e (IsDictionaryFault e)
  -- It is one of this batch: of its head, of its id, or of values of its field's type.
  pub field : OwnFault e (BlamesDictionary q.schema q.table e)
  -- What it says of the table of the values is true of it.
  pub lists : TellsValues q.schema q.extra q.table q.size e
  -- What it says of the nodes, the buffers and the dictionaries is true of them.
  pub entries : TellsOfValues d.is_memory q.schema q.extra known (body_on d a q.base q.size) q.table e

-- How much `read_dictionary` reads and retains.
pub record DictionaryBounds {R Z S : Type 0} (d : Device R) (q : DictionaryRequest) (a : R) (before : HashMap ℤ (Arc AnyArray Z) S) (r : Result (Unit {0}) Fault) (b : R) (after : HashMap ℤ (Arc AnyArray Z) S) : Type 0 where
  -- At most the encoded length of the values' buffers is read from the device.
  pub given : d.given b ≤ d.given a + values_listed q.schema q.extra q.table
  -- The array retains at most that length, plus one offset for each empty offset buffer.
  pub held : OnOk r (HoldsValues q.size q.schema q.extra q.table (λ id. array_under before id) (λ id. array_under after id))

-- What becomes of the dictionaries in `read_dictionary`.
pub record DictionaryState {R Z S : Type 0} (d : Device R) (q : DictionaryRequest) (before : HashMap ℤ (Arc AnyArray Z) S) (r : Result (Unit {0}) Fault) (after : HashMap ℤ (Arc AnyArray Z) S) : Type 0 where
  -- If it is Ok, the values are set under the id, and those under other ids stay.
  pub put : OnOk r (PutsValues d.is_memory q.schema q.table (known_dictionaries before) (known_dictionaries after))
  -- Reading from memory, lists are List with 32-bit offsets, and LargeList with 64-bit offsets.
  pub cases : OnOk r (IsTrue d.is_memory → PutsCases q.table (λ id. array_under after id))
  -- After an error they are as they were.
  pub kept : OnErr r (IsUnchanged before after)

-- `read_dictionary`: it took the device from a to b and the dictionaries from `before` to `after`,
-- and returned r.
pub record ReadsDictionary {R Z S : Type 0} (d : Device R) (q : DictionaryRequest) (a : R) (before : HashMap ℤ (Arc AnyArray Z) S) (r : Result (Unit {0}) Fault) (b : R) (after : HashMap ℤ (Arc AnyArray Z) S) : Type 0 where
  -- Reading from memory, it is Ok exactly if the batch has a meaning, whose values are then known.
  pub exact : IsTrue d.is_memory
      → GivesDictionary q.schema q.extra (known_dictionaries before) (body_on d a q.base q.size) q.table r (known_dictionaries after)
  -- What an error means.
  pub causes : IfErr r (DictionaryCause d q (known_dictionaries before) a)
  -- What became of the device.
  pub device : ReadsDevice d a r b
  -- How many bytes are read and retained.
  pub bounds : DictionaryBounds d q a before r b after
  -- What became of the dictionaries.
  pub state : DictionaryState d q before r after
