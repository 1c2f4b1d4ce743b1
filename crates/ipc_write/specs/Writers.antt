-- What the calls of a stream writer do.
-- (Arrow columnar format, "IPC Streaming Format".)
use Rattle.std.specs.Prelude.{◌≡◌, ◌⊎◌, ℕ, ◌≤◌, false, if◌then◌else◌, IsTrue, List, [], ◌∷◌, ◌++◌, Vec, length, map, Option, Some, None, IfSome, IsSomeAnd, Result, Ok, Err, OnOk}
use Rattle.std.specs.List.{AllByRecursion, AllZip}
use Rattle.std.specs.Borrow.{Bor}
use Rattle.std.specs.declared.alloc.Global.{Global}
use Rattle.ipc_base.specs.Chunks.{row_count}
use Rattle.ipc_base.specs.IdTrees.{IdTrees, all_ids_view}
use Rattle.ipc_base.specs.declared.ipc.IpcField.{IpcField}
use Rattle.ipc_chunks.specs.Messages.{AreMessages, Message, RefusesSome}
use Rattle.ipc_devices.specs.Device.{Device, IsAnswered, WritesOver}
use Rattle.ipc_devices.specs.Faults.{IfIo, OnIo, OnRefused, OwnFault}
use Rattle.ipc_devices.specs.declared.fault.Fault.{Fault}
use Rattle.ipc_devices.specs.declared.fault.Fault.TheVariants.{Argument, Io, Memory as NoMemory, State}
use Rattle.ipc_devices.specs.declared.fault.ArgFault.TheVariants.{ColumnCount, ColumnType, FieldsDiffer, FieldsShape, SharedDictionary, TooLarge, TooLong}
use Rattle.ipc_devices.specs.declared.fault.StateFault.{StateFault}
use Rattle.ipc_devices.specs.declared.fault.StateFault.TheVariants as faults
use Rattle.ipc_encode.specs.Encoding.{RefusesBatch, levels_of}
use Rattle.ipc_encode.specs.declared.batches.BatchKind.TheVariants.{Record}
use Rattle.ipc_encode.specs.declared.common.WriteOptions.{WriteOptions}
use Rattle.lower.specs.Normal.{norm}
use Rattle.lower.specs.TypeTrees.{FieldTrees, Pairs, TypeTree}
use Rattle.lower.specs.TypeViews.{type_view}
use Rattle.lower.specs.declared.datatypes.DataType.{DataType}
use Rattle.ipc_schema_write.specs.DefaultIds.{default_all}
use Rattle.ipc_model.specs.Accepted.{AreShared, IsSayable, body_length, types_of}
use Rattle.ipc_model.specs.Offers.{FilledPlace, IsAcceptedChunk, offer_of, values_of}
use Rattle.ipc_model.specs.Schemas.{head_of}
use Rattle.ipc_model.specs.Streams.{Head}
use Rattle.ipc_model.specs.Writable.{IsWritable}
use Rattle.ipc_schema_write.specs.WriterAnswers.{RefusesSchema}
use Rattle.lower_types.specs.declared.Endianness.{Endianness}
use Rattle.lower_types.specs.declared.Endianness.TheVariants.{Big, Little}
use Rattle.lower_arrays.specs.AnyLayouts.{layout_of}
use Rattle.lower_arrays.specs.Layouts.{layouts, len_of, type_of}
use Rattle.lower_arrays.specs.Slots.{AreArrays}
use Rattle.lower_arrays.specs.declared.array.AnyArray.{AnyArray}
use Rattle.ipc_plan.specs.Sending.{WritesSome}
use Rattle.ipc_tables.specs.Written.{IsWritten}
use Rattle.ipc_tracker.specs.Listings.{ListsAll, RefusesAll, remembering_all}
use Rattle.ipc_tracker.specs.Trackers.{IsSameMemory, Remembered, remembered}
use Rattle.ipc_write.specs.Framing.{message_bytes, message_len}
use Rattle.ipc_chunks.specs.Lengths.{HaveLengths}
use Rattle.ipc_write.specs.Meaning.{normal_types}
use Rattle.ipc_write.specs.Messages.{messages_bytes}
use Rattle.ipc_write.specs.Sending.{FailsOrIsFull, OnSent}
use Rattle.ipc_write.specs.declared.stream.writer.StreamWriter.{StreamWriter}
use Rattle.ipc_write.specs.declared.stream.WriterState.{WriterState}
use Rattle.ipc_write.specs.declared.stream.WriterState.TheVariants.{New, Started, Finished, Failed}

-- ---- what contracts know of a writer

-- What contracts know of a stream writer: its device, its state, its byte order, and the types of
-- the columns that it accepts, in their normal form. Then the ids that it was started with, and the
-- dictionaries that it remembers.
pub record WriterSeen (W : Type 0) : Type 0 where
  pub device : W
  pub state : WriterState
  pub order : Endianness
  pub types : List TypeTree
  pub ids : IdTrees
  pub dictionaries : Remembered

-- The byte order that the options choose.
abbrev pub order_of : WriteOptions → Endianness
order_of options = if options.big_endian then Big else Little

-- A type in its normal form.
abbrev pub normal_view : DataType → TypeTree
normal_view t = norm (type_view t)

-- What contracts know of a stream writer.
abbrev pub seen : {W : Type 0} → StreamWriter W → WriterSeen W
seen w = record {
  device = w.writer;
  state = w.state;
  order = w.order;
  types = map normal_view w.types.items;
  ids = all_ids_view w.ipc_fields.items;
  dictionaries = remembered w.dictionary_tracker;
}

-- ---- types

-- A column has this type, in its normal form.
abbrev pub HasType : AnyArray → TypeTree → Type 0
HasType a t = norm (type_of (layout_of a)) ≡ t

-- The columns have these types, one each.
abbrev pub HaveTypes : List AnyArray → List TypeTree → Type 0
HaveTypes columns types = AllZip HasType columns types

-- By each error, why columns don't have these types.
abbrev pub RefusesTypes : List AnyArray → List TypeTree → Fault → Type 0
RefusesTypes columns types (Argument ColumnCount) = ¬ (length columns ≡ length types)
RefusesTypes columns types (Argument ColumnType) = ¬ HaveTypes columns types
RefusesTypes columns types _ = ⊥

-- ---- calls

-- The error of a state in which a writer accepts no chunk and no end.
abbrev pub fault_unless_started : WriterState → Option StateFault
fault_unless_started New = Some faults.NotStarted
fault_unless_started Started = None
fault_unless_started Finished = Some faults.Finished
fault_unless_started Failed = Some faults.Failed

-- The error of a state in which a writer accepts no schema.
abbrev pub fault_unless_new : WriterState → Option StateFault
fault_unless_new New = None
fault_unless_new Started = Some faults.AlreadyStarted
fault_unless_new Finished = Some faults.Finished
fault_unless_new Failed = Some faults.Failed

-- The error of a state in which a writer isn't flushed.
abbrev pub fault_if_failed : WriterState → Option StateFault
fault_if_failed Failed = Some faults.Failed
fault_if_failed _ = None

-- A state refuses with its own error.
abbrev pub RefusesState : Option StateFault → Fault → Type 0
RefusesState own (State e) = own ≡ Some e
RefusesState own _ = ⊥

-- The state is checked first: if it has an error, a call returns this error, whatever
-- its arguments, and does nothing.
abbrev pub StateComesFirst : {W : Type 0} → Option StateFault → WriterSeen W → Result Unit Fault → WriterSeen W → Type 0
StateComesFirst own a r b = IfSome own (λ e. (r ≡ Err (State e)) × (b ≡ a))

-- Nothing was sent, and the writer is unchanged.
pub record Kept {W : Type 0} (a b : WriterSeen W) : Type 0 where
  pub device : b.device ≡ a.device
  pub state : b.state ≡ a.state
  pub types : b.types ≡ a.types
  pub ids : b.ids ≡ a.ids
  pub dictionaries : IsSameMemory a.dictionaries b.dictionaries

-- What a call that sends these bytes does to its device, and what a refused call leaves. If it
-- returns Ok, no call of the device failed. If it returns `Io`, that is the device's own error.
pub record SendStep {W : Type 0} (d : Device W) (a : WriterSeen W) (r : Result Unit Fault) (b : WriterSeen W) (bytes : List ℕ) (count : ℕ) : Type 0 where
  pub monotone : d.failures a.device ≤ d.failures b.device
  pub order : b.order ≡ a.order
  pub io : OnIo r ((b.state ≡ Failed) × FailsOrIsFull d.grows (d.failures a.device) (d.failures b.device) (d.room a.device) count)
  pub answered : IfIo r (IsAnswered d)
  pub refused : OnRefused r (Kept a b)
  pub done : OnOk r (d.failures b.device ≡ d.failures a.device)
  pub all_sent : IsTrue d.is_memory → OnOk r (WritesOver (d.memory a.device) (d.memory b.device) bytes)
  pub some_sent : IsTrue d.is_memory → WritesSome (d.memory a.device) (d.memory b.device) bytes
  pub names : d.names b.device ≡ d.names a.device

-- The state in which a call that sends leaves the writer.
abbrev pub LeavesState : Result Unit Fault → WriterState → WriterState → Type 0
LeavesState (Ok x) s s' = s' ≡ s
LeavesState (Err (Io e)) s s' = s' ≡ Failed
LeavesState (Err _) s s' = s' ≡ s

-- The state in which a flush leaves the writer. A finished one stays so.
abbrev pub LeavesFlushed : Result Unit Fault → WriterState → WriterState → Type 0
LeavesFlushed r Finished s' = s' ≡ Finished
LeavesFlushed r s s' = LeavesState r s s'

-- If a call sends anything, it sends the messages of these columns. They are those of the
-- dictionaries that are new or differ from those remembered, inner before outer, and that of the
-- columns. The dictionaries that were sent are remembered then.
pub record SendsStep {W : Type 0} (d : Device W) (a : WriterSeen W) (r : Result Unit Fault) (b : WriterSeen W) (columns : List AnyArray) : Type 0 where
  pub list : List FilledPlace
  pub dictionaries : List Message
  pub own : Message
  pub lists : OnSent r (ListsAll a.dictionaries false (map layout_of columns) a.ids list)
  pub are : OnSent r (AreMessages a.order (map layout_of columns) list dictionaries own)
  pub remembers : OnOk r (IsSameMemory (remembering_all list a.dictionaries) b.dictionaries)
  pub step : SendStep d a r b (messages_bytes (dictionaries ++ own ∷ [])) (length (messages_bytes (dictionaries ++ own ∷ [])))

-- A call that sends a schema message. If anything was sent, the metadata are those of a stream with
-- this head, without a body, and laid out as messages are written.
pub record SendsSchema {W : Type 0} (d : Device W) (a : WriterSeen W) (r : Result Unit Fault) (b : WriterSeen W) (head : Head) : Type 0 where
  pub metadata : List ℕ
  pub is : OnSent r (head_of metadata ≡ Some head)
  pub written : OnSent r (IsWritten metadata)
  pub step : SendStep d a r b (message_bytes metadata []) (message_len metadata [])

-- The columns are arrays of the types that a writer accepts.
pub record FitTypes {W : Type 0} (w : WriterSeen W) (columns : List AnyArray) : Type 0 where
  pub have : HaveTypes columns w.types
  pub arrays : AreArrays (layouts (map layout_of columns))

-- Why a writer refuses a chunk with these ids before it sends anything.
abbrev pub RefusesChunk : {W : Type 0} → WriterSeen W → List AnyArray → Option IdTrees → Fault → Type 0
RefusesChunk w columns ids (State e) = fault_unless_started w.state ≡ Some e
RefusesChunk w columns ids (Argument FieldsDiffer) = IsSomeAnd ids (λ given. ¬ (given ≡ w.ids))
RefusesChunk w columns ids (Argument ColumnCount) = RefusesTypes columns w.types (Argument ColumnCount)
RefusesChunk w columns ids (Argument ColumnType) = RefusesTypes columns w.types (Argument ColumnType)
RefusesChunk w columns ids (Argument (SharedDictionary j)) = FitTypes w columns × RefusesAll w.dictionaries false (map layout_of columns) w.ids (Argument (SharedDictionary j))
RefusesChunk w columns ids (Argument FieldsShape) = FitTypes w columns × RefusesAll w.dictionaries false (map layout_of columns) w.ids (Argument FieldsShape)
RefusesChunk w columns ids (Argument TooLong) =
    FitTypes w columns
    × (RefusesSome (values_of (layouts (map layout_of columns)) w.ids) (Argument TooLong)
    ⊎ RefusesBatch Record (row_count len_of (map layout_of columns)) (levels_of (map layout_of columns)) (Argument TooLong))
RefusesChunk w columns ids (Argument TooLarge) =
    FitTypes w columns
    × (RefusesSome (values_of (layouts (map layout_of columns)) w.ids) (Argument TooLarge)
    ⊎ RefusesBatch Record (row_count len_of (map layout_of columns)) (levels_of (map layout_of columns)) (Argument TooLarge))
RefusesChunk w columns ids NoMemory = Unit {0}
RefusesChunk w columns ids _ = ⊥

-- Why a writer refuses a chunk, or its device fails.
abbrev pub RefusesWrite : {W : Type 0} → WriterSeen W → List AnyArray → Option IdTrees → Fault → Type 0
RefusesWrite w columns ids (Io e) = Unit {0}
RefusesWrite w columns ids e = RefusesChunk w columns ids e

-- A started writer may write the columns, apart from their lengths. No ids are passed, or those of
-- the start; the types are those that it accepts, and `list` has the dictionaries to write. The
-- lengths of all dictionaries fit in their messages.
pub record MayList {W : Type 0} (w : WriterSeen W) (columns : List AnyArray) (ids : Option IdTrees) (list : List FilledPlace) : Type 0 where
  pub was : w.state ≡ Started
  pub ids_same : IfSome ids (λ given. given ≡ w.ids)
  pub fits : FitTypes w columns
  pub lists : ListsAll w.dictionaries false (map layout_of columns) w.ids list
  pub lengths : HaveLengths (values_of (layouts (map layout_of columns)) w.ids)

-- A chunk was written.
pub record TakesChunk {W : Type 0} (a b : WriterSeen W) (columns : List AnyArray) (ids : Option IdTrees) : Type 0 where
  pub was : a.state ≡ Started
  pub is : b.state ≡ Started
  pub types : b.types ≡ a.types
  pub ids_stay : b.ids ≡ a.ids
  pub ids_same : IfSome ids (λ given. given ≡ a.ids)
  pub fits : HaveTypes columns a.types

-- A writer that was started with fields like these accepts the columns with these ids: there are
-- none, or those of the start, and the columns are an accepted chunk.
pub record MayBeWritten {W : Type 0} (w : WriterSeen W) (fields : FieldTrees) (columns : List AnyArray) (ids : Option IdTrees) : Type 0 where
  pub started : w.state ≡ Started
  pub same_ids : IfSome ids (λ given. given ≡ w.ids)
  pub accepted : IsAcceptedChunk fields w.ids (map layout_of columns)

-- By each error of `write`, the condition that isn't met.
abbrev pub MissesWrite : {W : Type 0} → WriterSeen W → FieldTrees → List AnyArray → Option IdTrees → Fault → Type 0
MissesWrite w fs columns ids (State e) = ¬ (w.state ≡ Started)
MissesWrite w fs columns ids (Argument FieldsDiffer) = ¬ IfSome ids (λ given. given ≡ w.ids)
MissesWrite w fs columns ids (Argument ColumnCount) = ¬ (length (offer_of (map layout_of columns) w.ids).columns ≡ length (types_of fs))
MissesWrite w fs columns ids (Argument ColumnType) = ¬ (map (λ c. norm c.type) (offer_of (map layout_of columns) w.ids).columns ≡ map norm (types_of fs))
MissesWrite w fs columns ids (Argument (SharedDictionary j)) = ¬ AreShared (offer_of (map layout_of columns) w.ids).dictionaries
MissesWrite w fs columns ids (Argument TooLong) = ¬ AllByRecursion IsSayable (offer_of (map layout_of columns) w.ids).nodes
MissesWrite w fs columns ids (Argument TooLarge) = ¬ AllByRecursion (λ lengths. IsSayable (body_length lengths)) (offer_of (map layout_of columns) w.ids).bodies
MissesWrite w fs columns ids NoMemory = Unit {0}
MissesWrite w fs columns ids (Io e) = Unit {0}
MissesWrite w fs columns ids _ = ⊥

-- `write` returns Ok exactly if the writer accepts the columns, unless an allocation or the device
-- fails. An error names a condition that isn't met.
abbrev pub AnswersWrite : {W : Type 0} → WriterSeen W → FieldTrees → List AnyArray → Option IdTrees → Result Unit Fault → Type 0
AnswersWrite w fs columns ids (Ok x) = MayBeWritten w fs columns ids
AnswersWrite w fs columns ids (Err e) = MissesWrite w fs columns ids e × OwnFault e (¬ MayBeWritten w fs columns ids)

-- `AnswersWrite` holds for each schema that can be written with the writer's ids, and whose types
-- are those that the writer accepts.
pub record WritesExactly {W : Type 0} (w : WriterSeen W) (columns : List AnyArray) (ids : Option IdTrees) (r : Result Unit Fault) : Type 0 where
  pub exact : (fields : FieldTrees) (metadata : Pairs) → IsWritable fields metadata w.ids → normal_types fields ≡ w.types → AnswersWrite w fields columns ids r

-- The ids that are passed, if there are any.
abbrev pub seen_ids : Option (Bor (List IpcField)) → Option IdTrees
seen_ids None = None
seen_ids (Some given) = Some (all_ids_view given.now)

-- Why a writer refuses the end.
abbrev pub RefusesFinish : WriterState → Fault → Type 0
RefusesFinish s (State e) = fault_unless_started s ≡ Some e
RefusesFinish s (Io e) = Unit {0}
RefusesFinish s _ = ⊥

-- Why a writer isn't flushed.
abbrev pub RefusesFlush : WriterState → Fault → Type 0
RefusesFlush s (State e) = fault_if_failed s ≡ Some e
RefusesFlush s (Io e) = Unit {0}
RefusesFlush s _ = ⊥

-- All but the device and the state of a writer stays.
abbrev pub flushed_from : {W : Type 0} → WriterSeen W → W → WriterState → WriterSeen W
flushed_from a device state = record { device = device; state = state; order = a.order; types = a.types; ids = a.ids; dictionaries = a.dictionaries }

-- The ids that are passed, or else the default ids of the fields.
abbrev pub chosen_ids : Option (Vec IpcField Global) → FieldTrees → IdTrees
chosen_ids None fs = default_all 0 fs
chosen_ids (Some given) fs = all_ids_view given.items

-- A writer was started.
pub record StartsWith {W : Type 0} (a b : WriterSeen W) (fields : FieldTrees) (metadata : Pairs) (ids : IdTrees) : Type 0 where
  pub was : a.state ≡ New
  pub is : b.state ≡ Started
  pub types : b.types ≡ normal_types fields
  pub ids_are : b.ids ≡ ids
  pub writable : IsWritable fields metadata ids
  pub dictionaries : IsSameMemory a.dictionaries b.dictionaries

-- Why a writer refuses a schema with these ids.
abbrev pub RefusesStart : WriterState → FieldTrees → Pairs → IdTrees → Fault → Type 0
RefusesStart s fs es is (State e) = fault_unless_new s ≡ Some e
RefusesStart s fs es is (Argument e) = RefusesSchema (Argument e) fs es is
RefusesStart s fs es is NoMemory = Unit {0}
RefusesStart s fs es is (Io e) = Unit {0}
RefusesStart s fs es is _ = ⊥
