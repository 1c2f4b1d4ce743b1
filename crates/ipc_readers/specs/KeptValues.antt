-- The values of dictionaries that a stream reader retains.
-- (Arrow columnar format, "IPC Streaming Format" and "Dictionary messages".)
use Rattle.std.specs.Prelude.{◌≡◌, ◌⊎◌, ℕ, ℤ, ◌+◌, ◌≤◌, List, [], ◌++◌, length, Option, None, Some, Result, Ok}
use Rattle.lower_arrays.specs.Held.{held}
use Rattle.lower_arrays.specs.Layouts.{Layout}
use Rattle.lower_arrays.specs.declared.array.AnyArray.{AnyArray}
use Rattle.ipc_devices.specs.Gives.{Stop, going, Gives}
use Rattle.ipc_devices.specs.declared.fault.Fault.{Fault}
use Rattle.ipc_read_flat.specs.Bodies.{array_under}
use Rattle.ipc_table_views.specs.Spot.{Spot}
use Rattle.ipc_model.specs.Batches.{extra_of}
use Rattle.ipc_model.specs.Frame.{frame, message}
use Rattle.ipc_model.specs.Streams.{Header, header_of}
use Rattle.ipc_read.specs.DictionaryBatches.{dictionary_head, values_listed}
use Rattle.ipc_read.specs.HeldChunks.{HoldsValues, values_empty}
use Rattle.ipc_readers.specs.ChosenStreams.{Request}
use Rattle.ipc_readers.specs.declared.read.stream.reader.Batches.{Batches}
use Rattle.ipc_readers.specs.declared.read.stream.reader.Found.{Found}
use Rattle.ipc_readers.specs.declared.read.stream.reader.Found.TheVariants as fronts
use Rattle.ipc_readers.specs.declared.read.stream.reader.StreamReader.{StreamReader}

-- The arrays of the values that are known, by their ids.
abbrev pub values_in : Batches → Option ℤ → Layout
values_in b id = array_under b.dictionaries id

-- The arrays of dictionary values that a reader retains, by id.
abbrev pub values_of : {R : Type 0} → StreamReader R → Option ℤ → Layout
values_of r id = values_in r.batches id

-- Each id has the array that it had.
abbrev pub KeepsArrays : (before after : Option ℤ → Layout) → Type 0
KeepsArrays before after = (id : ℤ) → after (Some id) ≡ before (Some id)

-- ---- one message

-- A dictionary message set the array under its id. It retains at most the encoded length of
-- its buffers and at most the length of the body, plus one offset for each empty buffer of
-- offsets. The other arrays stay.
abbrev pub PutsMessage : Request → Header → (before after : Option ℤ → Layout) → Type 0
PutsMessage h m before after = (m.tag ≡ 2) × HoldsValues m.body h.head.schema (extra_of h.head.version) m.table before after

-- What a batch changes of the arrays of dictionary values: a dictionary sets the one under its
-- id; anything else changes none.
abbrev pub KeptOfBatch : Request → Header → Result (Option (List AnyArray)) Fault → (before after : Option ℤ → Layout) → Type 0
KeptOfBatch h m (Ok None) before after = PutsMessage h m before after
KeptOfBatch h m _ before after = KeepsArrays before after

-- What the body of a message changes of the arrays of dictionary values: a dictionary sets the one
-- under its id; anything else changes none.
abbrev pub KeptOfBody : {S : Type 0} → Gives S → Request → Header → (a : S) → Result (Option (List AnyArray)) Fault → (b : S) → (before after : Option ℤ → Layout) → Type 0
KeptOfBody gives h m a (Ok None) b before after = (body : List ℕ) × (length body ≡ m.body) × gives a body going b × PutsMessage h m before after
KeptOfBody gives h m a _ b before after = KeepsArrays before after

-- The bytes are a message with this header and its whole body, whatever follows them.
pub record IsFramed (bytes : List ℕ) (m : Header) : Type 0 where
  pub metadata : List ℕ
  pub body : List ℕ
  pub framed : (ys : List ℕ) → frame (bytes ++ ys) ≡ message metadata (body ++ ys)
  pub header : header_of metadata ≡ Some m
  pub whole : length body ≡ m.body

-- After the partial prefix p, the rest of a dictionary message was read, and its values were set.
pub record PutsGiven {S : Type 0} (gives : Gives S) (h : Request) (p : List ℕ) (a b : S) (before after : Option ℤ → Layout) : Type 0 where
  pub bytes : List ℕ
  pub gave : gives a bytes going b
  pub header : Header
  pub is : IsFramed (p ++ bytes) header
  pub puts : PutsMessage h header before after

-- After the partial prefix p, a message was read. After a dictionary there is no partial prefix;
-- after anything else no array changed.
abbrev pub KeptOfItem : {S : Type 0} → Gives S → Request → (p : List ℕ) → (a : S) → Result Found Fault → (q : List ℕ) → (b : S) → (before after : Option ℤ → Layout) → Type 0
KeptOfItem gives h p a (Ok fronts.Dictionary) q b before after = (q ≡ []) × PutsGiven gives h p a b before after
KeptOfItem gives h p a _ q b before after = KeepsArrays before after

-- ---- a call of `next`

-- These bytes contain a whole dictionary message of this id. n bytes are at most the
-- encoded length of its values' buffers, and at most the length of its body, plus one
-- offset for each empty buffer of offsets.
pub record IsHeldBy (h : Request) (bytes : List ℕ) (id : ℤ) (n : ℕ) : Type 0 where
  pub front : List ℕ
  pub mid : List ℕ
  pub behind : List ℕ
  pub among : bytes ≡ front ++ (mid ++ behind)
  pub header : Header
  pub is : IsFramed mid header
  pub tag : header.tag ≡ 2
  pub values : Spot
  pub head : dictionary_head header.table ≡ Some (id, values)
  pub own_buffers : n ≤ values_listed h.head.schema (extra_of h.head.version) header.table + values_empty h.head.schema (extra_of h.head.version) header.table
  pub all_buffers : n ≤ header.body + values_empty h.head.schema (extra_of h.head.version) header.table

-- After the partial prefix p, these bytes were read. The array under each id is the one that it
-- had, or retains at most what a dictionary message of the id among these bytes allows.
pub record KeepsValues {S : Type 0} (gives : Gives S) (h : Request) (p : List ℕ) (a b : S) (before after : Option ℤ → Layout) : Type 0 where
  pub bytes : List ℕ
  pub stop : Stop
  pub gave : gives a bytes stop b
  pub each : (id : ℤ) → (after (Some id) ≡ before (Some id)) ⊎ IsHeldBy h (p ++ bytes) id (held (after (Some id)))
