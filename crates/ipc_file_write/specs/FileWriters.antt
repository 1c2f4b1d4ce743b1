-- What the calls of a file writer do, and what its bytes mean.
-- (Arrow columnar format, "IPC File Format".)
use Rattle.std.specs.Prelude.{◌≡◌, ℕ, ◌+◌, ◌-◌, ◌%◌, ◌<◌, ◌≤◌, ◌^◌, max, Bool, true, false, IsTrue, List, [], ◌++◌, length, take, replicate, Option, Some, None, IfSome, Result, Ok, Err, OnOk}
use Rattle.lower.specs.TypeTrees.{Pairs, FieldTrees}
use Rattle.lower.specs.TypeViews.{fields_view, pairs_of}
use Rattle.lower_types.specs.declared.Endianness.{Endianness}
use Rattle.ipc_base.specs.Fitting.{AllFit}
use Rattle.ipc_base.specs.IdTrees.{IdTrees, all_ids_view}
use Rattle.ipc_devices.specs.Device.{Device, IsAnswered, Memory, WritesOver, before}
use Rattle.ipc_devices.specs.Faults.{IfIo, OnIo, OnRefused, OwnFault}
use Rattle.ipc_devices.specs.declared.fault.ArgFault.TheVariants.{FieldsShape, NotWritable, TooLarge}
use Rattle.ipc_devices.specs.declared.fault.Fault.{Fault}
use Rattle.ipc_devices.specs.declared.fault.Fault.TheVariants.{Argument, Io, Memory as NoMemory, State}
use Rattle.ipc_devices.specs.declared.fault.StateFault.{StateFault}
use Rattle.ipc_devices.specs.declared.fault.StateFault.TheVariants as faults
use Rattle.ipc_table_views.specs.declared.file.Block.{Block}
use Rattle.ipc_model.specs.Batches.{Chunk}
use Rattle.ipc_model.specs.Files.{magic}
use Rattle.ipc_model.specs.Schemas.{head_of}
use Rattle.ipc_model.specs.Streams.{Head}
use Rattle.ipc_model.specs.Writable.{IsWritable, IsWritableFile, file_weight}
use Rattle.ipc_model.specs.WrittenLaws.{prefix}
use Rattle.ipc_plan.specs.Sending.{WritesSome}
use Rattle.ipc_stream_lemmas.specs.Messages.{message_bytes}
use Rattle.ipc_stream_lemmas.specs.Remembered.{Remembered, nothing_remembered}
use Rattle.ipc_schema_write.specs.WriterAnswers.{RefusesSchema, byte_order, max_weight, written_head_as}
use Rattle.ipc_encode.specs.declared.common.EncodedData.{EncodedData}
use Rattle.ipc_tracker.specs.Trackers.{remembered}
use Rattle.ipc_tables.specs.Written.{IsWritten}
use Rattle.ipc_write.specs.Sending.{FailsOrIsFull, OnSent}
use Rattle.ipc_write.specs.Writers.{chosen_ids, fault_unless_new, fault_unless_started}
use Rattle.ipc_write.specs.declared.stream.WriterState.{WriterState}
use Rattle.ipc_write.specs.declared.stream.WriterState.TheVariants.{New, Started, Finished, Failed}
use Rattle.ipc_footer_write.specs.Footers.{AreFew, RefusesFooter, WritesFooter, file_written, tail_of}
use Rattle.ipc_file_lemmas.specs.Appending.{HaveNegative, greatest_end}
use Rattle.ipc_file_lemmas.specs.FileBytes.{EndsStreamBehind, HoldsFile, HasStreamBehind, IsFile, file_head}
use Rattle.ipc_file_write.specs.declared.file.FileWriter.{FileWriter}
use Rattle.ipc_file_write.specs.declared.sending.Ending.{Ending}
use Rattle.ipc_file_write.specs.declared.writer.Starting.{Starting}

-- ---- what contracts know of a writer

-- What contracts know of a file writer: its device, its state, its byte order, its schema, the ids
-- that were chosen and those that it was started with. Then the pairs of its footer, the
-- dictionaries that it remembers, the blocks of its file, and the offset of the next message.
-- `size` is the length of a file that is appended to: the finished file has at least as many bytes.
pub record FileSeen (W : Type 0) : Type 0 where
  pub device : W
  pub state : WriterState
  pub order : Endianness
  pub fields : FieldTrees
  pub metadata : Pairs
  pub chosen : IdTrees
  pub ids : IdTrees
  pub pairs : Pairs
  pub remembers : Remembered
  pub dictionaries : List Block
  pub blocks : List Block
  pub place : ℕ
  pub size : ℕ

-- What contracts know of a file writer.
abbrev pub seen : {W : Type 0} → FileWriter W → FileSeen W
seen w = record {
  device = w.writer;
  state = w.state;
  order = byte_order w.is_little_endian;
  fields = fields_view w.schema.fields.items;
  metadata = pairs_of w.schema.metadata.entries;
  chosen = chosen_ids w.given (fields_view w.schema.fields.items);
  ids = all_ids_view w.ipc_fields.items;
  pairs = pairs_of w.custom_metadata.entries;
  remembers = remembered w.dictionary_tracker;
  dictionaries = w.dictionary_blocks.items;
  blocks = w.record_blocks.items;
  place = w.block_offsets;
  size = w.size;
}

-- The scratch memory that callers may pass from one writer to another.
abbrev pub scratches_of : {W : Type 0} → FileWriter W → EncodedData
scratches_of w = w.encoded_message

-- A writer of a file of this schema, with these ids, byte order and pairs.
pub record IsFileOf {W : Type 0} (w : FileSeen W) (fields : FieldTrees) (metadata : Pairs) (ids : IdTrees) (order : Endianness) (pairs : Pairs) : Type 0 where
  pub fields_are : w.fields ≡ fields
  pub metadata_are : w.metadata ≡ metadata
  pub chosen_are : w.chosen ≡ ids
  pub order_is : w.order ≡ order
  pub pairs_are : w.pairs ≡ pairs

-- The schema and the version of the stream that a file contains.
abbrev pub head_of_file : {W : Type 0} → FileSeen W → Head
head_of_file w = written_head_as w.order w.fields w.metadata w.ids

-- Both writers remember the same dictionaries.
abbrev pub RemembersSame : {V W : Type 0} → FileSeen V → FileSeen W → Type 0
RemembersSame a b = (id : _) → b.remembers id ≡ a.remembers id

-- ---- the bytes of a writer

-- Nothing was written yet.
pub record IsFresh {W : Type 0} (w : FileSeen W) (bytes : List ℕ) (cs : List Chunk) : Type 0 where
  pub none : bytes ≡ []
  pub no_chunks : cs ≡ []
  pub nothing : (id : _) → w.remembers id ≡ nothing_remembered id
  pub no_dictionaries : w.dictionaries ≡ []
  pub no_blocks : w.blocks ≡ []

-- A file that has no footer yet, with these chunks. If `is_stream`, it is a stream of the
-- same without its first eight bytes, and nothing is after its last block. The next
-- message comes after all blocks.
pub record IsOpenFile {W : Type 0} (is_stream : Bool) (w : FileSeen W) (bytes : List ℕ) (cs : List Chunk) : Type 0 where
  pub writable : IsWritable w.fields w.metadata w.ids
  pub light : file_weight w.fields w.metadata w.pairs ≤ max_weight
  pub begun : take 6 bytes ≡ magic
  pub long : 8 ≤ length bytes
  pub file : HoldsFile (head_of_file w).schema w.size bytes w.dictionaries w.blocks w.remembers cs
  pub stream : IsTrue is_stream → HasStreamBehind bytes (head_of_file w) w.remembers cs
  pub place : w.place ≡ length bytes
  pub natural : HaveNegative (w.dictionaries ++ w.blocks) → ⊥
  pub reached : 0 < length w.blocks → w.place ≤ max 8 (greatest_end (w.dictionaries ++ w.blocks))
  pub last : IsTrue is_stream → greatest_end (w.dictionaries ++ w.blocks) ≤ w.place

-- A whole file of a schema in its normal form, with these ids, byte order, pairs and chunks. If
-- `is_stream`, it is a stream of the same without its first eight bytes. The bytes before its
-- end-of-stream mark can be appended to.
pub record IsWholeFile {W : Type 0} (is_stream : Bool) (w : FileSeen W) (bytes : List ℕ) (cs : List Chunk) : Type 0 where
  pub file : IsFile bytes (file_written w.order w.fields w.metadata w.ids w.pairs w.dictionaries w.blocks (length bytes)) cs
  pub stream : IsTrue is_stream → EndsStreamBehind bytes (head_of_file w) cs
  pub front : List ℕ
  pub behind : List ℕ
  pub bytes_are : bytes ≡ front ++ behind
  pub open_front : IsOpenFile is_stream w front cs
  pub long : w.size ≤ length bytes

-- What the bytes of a writer are in each state. If a device failed, the chunks that were
-- written are still at their blocks.
abbrev pub FileIs : {W : Type 0} → Bool → WriterState → FileSeen W → List ℕ → List Chunk → Type 0
FileIs is_stream New w bytes cs = IsFresh w bytes cs
FileIs is_stream Started w bytes cs = IsOpenFile is_stream w bytes cs
FileIs is_stream Finished w bytes cs = IsWholeFile is_stream w bytes cs
FileIs is_stream Failed w bytes cs = HoldsFile (head_of_file w).schema w.size bytes w.dictionaries w.blocks w.remembers cs

-- The bytes before the offset of a memory: those that were there before the
-- writer, and those of its file.
pub record HoldsBytes {W : Type 0} (is_stream : Bool) (m : Memory) (w : FileSeen W) (base : List ℕ) (cs : List Chunk) : Type 0 where
  pub bytes : List ℕ
  pub held : before m ≡ base ++ bytes
  pub file : FileIs is_stream w.state w bytes cs

-- The device of a writer has the bytes `base`, and then a file of these
-- chunks, which is a stream too.
abbrev pub Agrees : {W : Type 0} → Device W → FileSeen W → List ℕ → List Chunk → Type 0
Agrees d w base cs = HoldsBytes true (d.memory w.device) w base cs

-- The device of a writer has the bytes `base`, and then a file of these chunks, which may be no
-- stream, since another program wrote its beginning.
abbrev pub AgreesAlone : {W : Type 0} → Device W → FileSeen W → List ℕ → List Chunk → Type 0
AgreesAlone d w base cs = HoldsBytes false (d.memory w.device) w base cs

-- The file has the chunks that it had, and is a stream if it was one.
pub record Remains {W : Type 0} (d : Device W) (a b : FileSeen W) : Type 0 where
  pub kept : IsTrue d.is_memory → (is_stream : Bool) (base : List ℕ) (cs : List Chunk) → HoldsBytes is_stream (d.memory a.device) a base cs
      → HoldsBytes is_stream (d.memory b.device) b base cs

-- A new writer that has written nothing, whatever bytes precede it, and doesn't append to a file.
pub record HasNothing {W : Type 0} (d : Device W) (w : FileSeen W) : Type 0 where
  pub agrees : Agrees d w (before (d.memory w.device)) []
  pub new_file : w.size ≡ 0

-- ---- calls

-- The state is checked first: if it has an error, a call returns this error, whatever
-- its arguments, and does nothing.
abbrev pub StateComesFirst : {W : Type 0} → Option StateFault → FileSeen W → Result Unit Fault → FileSeen W → Type 0
StateComesFirst own a r b = IfSome own (λ e. (r ≡ Err (State e)) × (b ≡ a))

-- Nothing was sent, and the writer is unchanged.
pub record Kept {W : Type 0} (a b : FileSeen W) : Type 0 where
  pub device : b.device ≡ a.device
  pub state : b.state ≡ a.state
  pub ids : b.ids ≡ a.ids
  pub pairs : b.pairs ≡ a.pairs
  pub remembers : RemembersSame a b
  pub dictionaries : b.dictionaries ≡ a.dictionaries
  pub blocks : b.blocks ≡ a.blocks
  pub place : b.place ≡ a.place

-- All but the device and the state of a writer stays.
abbrev pub flushed_file : {W : Type 0} → FileSeen W → W → WriterState → FileSeen W
flushed_file a device state = record {
  device = device;
  state = state;
  order = a.order;
  fields = a.fields;
  metadata = a.metadata;
  chosen = a.chosen;
  ids = a.ids;
  pairs = a.pairs;
  remembers = a.remembers;
  dictionaries = a.dictionaries;
  blocks = a.blocks;
  place = a.place;
  size = a.size;
}

-- Byte order, schema, chosen ids, pairs and size stay, whatever is sent.
pub record IsSameFile {W : Type 0} (a b : FileSeen W) : Type 0 where
  pub order : b.order ≡ a.order
  pub fields : b.fields ≡ a.fields
  pub metadata : b.metadata ≡ a.metadata
  pub chosen : b.chosen ≡ a.chosen
  pub pairs : b.pairs ≡ a.pairs
  pub size : b.size ≡ a.size

-- What a call that sends these bytes does to its device, and what a refused call leaves. If it
-- returns Ok, no call of the device failed. If it returns `Io`, that is the device's own error.
pub record FileStep {W : Type 0} (d : Device W) (a : FileSeen W) (r : Result Unit Fault) (b : FileSeen W) (bytes : List ℕ) : Type 0 where
  pub same : IsSameFile a b
  pub monotone : d.failures a.device ≤ d.failures b.device
  pub io : OnIo r ((b.state ≡ Failed) × FailsOrIsFull d.grows (d.failures a.device) (d.failures b.device) (d.room a.device) (length bytes))
  pub answered : IfIo r (IsAnswered d)
  pub refused : OnRefused r (Kept a b)
  pub done : OnOk r (d.failures b.device ≡ d.failures a.device)
  pub all_sent : IsTrue d.is_memory → OnOk r (WritesOver (d.memory a.device) (d.memory b.device) bytes)
  pub some_sent : IsTrue d.is_memory → WritesSome (d.memory a.device) (d.memory b.device) bytes
  pub names : d.names b.device ≡ d.names a.device

-- The beginning of a file: the magic bytes, padded to eight, and the schema message,
-- which has no body. The message begins a stream of what this writer writes, and is
-- laid out as messages are written.
pub record IsBeginning {W : Type 0} (w : FileSeen W) (bytes : List ℕ) : Type 0 where
  pub message : List ℕ
  pub some : 0 < length message
  pub short : length message < 2 ^ 31
  pub whole : length message % 8 ≡ 0
  pub headed : head_of message ≡ Some (written_head_as w.order w.fields w.metadata w.chosen)
  pub written : IsWritten message
  pub bytes_are : bytes ≡ file_head ++ message_bytes message []

-- The end of a file: the end-of-stream mark, zeros, the footer, and the footer's length
-- with the magic bytes. There are as many zeros as it takes to end no earlier than a
-- file that is appended to ended.
pub record IsEnding {W : Type 0} (w : FileSeen W) (bytes : List ℕ) : Type 0 where
  pub footer : List ℕ
  pub short : length footer < 2 ^ 31
  pub writes : WritesFooter w.order footer w.fields w.metadata w.ids w.pairs w.dictionaries w.blocks
  pub zeros : ℕ
  pub zeros_are : zeros ≡ w.size - w.place - (8 + length (footer ++ tail_of footer))
  pub bytes_are : bytes ≡ prefix 0 ++ (replicate zeros 0 ++ (footer ++ tail_of footer))

-- A call that sends the beginning of a file, if it sends anything. The next message comes after it.
pub record SendsBeginning {W : Type 0} (d : Device W) (a : FileSeen W) (r : Result Unit Fault) (b : FileSeen W) : Type 0 where
  pub bytes : List ℕ
  pub is : OnSent r (IsBeginning a bytes)
  pub place : OnOk r (b.place ≡ length bytes)
  pub step : FileStep d a r b bytes

-- A call that sends the end of a file, if it sends anything. If it returns Ok, the device keeps
-- nothing back.
pub record SendsEnding {W : Type 0} (d : Device W) (a : FileSeen W) (r : Result Unit Fault) (b : FileSeen W) : Type 0 where
  pub bytes : List ℕ
  pub is : OnSent r (IsEnding a bytes)
  pub step : FileStep d a r b bytes
  pub flushed : OnOk r (IsTrue (d.is_flushed b.device))

-- Why a writer refuses to start.
abbrev pub RefusesStart : {W : Type 0} → FileSeen W → Fault → Type 0
RefusesStart w (State e) = fault_unless_new w.state ≡ Some e
RefusesStart w (Argument e) = RefusesSchema (Argument e) w.fields w.metadata w.chosen
RefusesStart w NoMemory = Unit {0}
RefusesStart w _ = ⊥

-- A writer may start its file: it is new, and its schema can be written
-- with the chosen ids and its pairs.
pub record MayBeStarted {W : Type 0} (w : FileSeen W) : Type 0 where
  pub new : w.state ≡ New
  pub writable : IsWritableFile w.fields w.metadata w.chosen w.pairs

-- By each error of `start`, the condition that isn't met.
abbrev pub MissesStart : {W : Type 0} → FileSeen W → Fault → Type 0
MissesStart w (State e) = ¬ (w.state ≡ New)
MissesStart w (Argument FieldsShape) = ¬ AllFit w.fields w.chosen
MissesStart w (Argument NotWritable) = ¬ IsWritable w.fields w.metadata w.chosen
MissesStart w NoMemory = Unit {0}
MissesStart w (Io e) = Unit {0}
MissesStart w _ = ⊥

-- `start` returns Ok exactly if the file may be started, unless an allocation or the device fails.
-- An error names a condition that isn't met.
abbrev pub AnswersStart : {W : Type 0} → FileSeen W → Result Unit Fault → Type 0
AnswersStart w (Ok x) = MayBeStarted w
AnswersStart w (Err e) = MissesStart w e × OwnFault e (¬ MayBeStarted w)

-- P holds of the error, or it is the device's.
abbrev pub OrFails : (Fault → Type 0) → Fault → Type 0
OrFails P (Io e) = Unit {0}
OrFails P e = P e

-- A writer may start with these ids; what it sends then is the beginning of a file.
pub record MayStart {W : Type 0} (w : FileSeen W) (s : Starting) : Type 0 where
  pub was : w.state ≡ New
  pub ids : all_ids_view s.ipc_fields.items ≡ w.chosen
  pub writable : IsWritable w.fields w.metadata w.chosen
  pub light : file_weight w.fields w.metadata w.pairs ≤ max_weight
  pub begins : IsBeginning w s.bytes.items

-- A writer was started, with the blocks and the dictionaries that it had: none if it was new.
pub record StartsWith {W : Type 0} (a b : FileSeen W) : Type 0 where
  pub was : a.state ≡ New
  pub is : b.state ≡ Started
  pub ids : b.ids ≡ a.chosen
  pub writable : IsWritable a.fields a.metadata a.chosen
  pub light : file_weight a.fields a.metadata a.pairs ≤ max_weight
  pub pairs : b.pairs ≡ a.pairs
  pub remembers : RemembersSame a b
  pub dictionaries : b.dictionaries ≡ a.dictionaries
  pub blocks : b.blocks ≡ a.blocks

-- A file was finished, with the blocks and the pairs that its writer had.
pub record EndsWith {W : Type 0} (a b : FileSeen W) : Type 0 where
  pub was : a.state ≡ Started
  pub is : b.state ≡ Finished
  pub ids : b.ids ≡ a.ids
  pub pairs : b.pairs ≡ a.pairs
  pub dictionaries : b.dictionaries ≡ a.dictionaries
  pub blocks : b.blocks ≡ a.blocks

-- Why a writer refuses to finish the file.
abbrev pub RefusesFinish : {W : Type 0} → FileSeen W → Fault → Type 0
RefusesFinish w (State e) = fault_unless_started w.state ≡ Some e
RefusesFinish w (Argument e) = RefusesFooter (Argument e) w.fields w.metadata w.ids w.pairs w.dictionaries w.blocks
RefusesFinish w NoMemory = Unit {0}
RefusesFinish w _ = ⊥

-- A writer may finish its file: it is started, and its blocks fit in a footer.
pub record MayBeFinished {W : Type 0} (w : FileSeen W) : Type 0 where
  pub started : w.state ≡ Started
  pub few : AreFew w.dictionaries w.blocks

-- By each error of `finish`, the condition that isn't met.
abbrev pub MissesFinish : {W : Type 0} → FileSeen W → Fault → Type 0
MissesFinish w (State e) = ¬ (w.state ≡ Started)
MissesFinish w (Argument TooLarge) = ¬ AreFew w.dictionaries w.blocks
MissesFinish w NoMemory = Unit {0}
MissesFinish w (Io e) = Unit {0}
MissesFinish w _ = ⊥

-- `finish` returns Ok exactly if the file may be finished, unless an allocation or the device
-- fails. An error names a condition that isn't met.
abbrev pub AnswersFinish : {W : Type 0} → FileSeen W → Result Unit Fault → Type 0
AnswersFinish w (Ok x) = MayBeFinished w
AnswersFinish w (Err e) = MissesFinish w e × OwnFault e (¬ MayBeFinished w)

-- All bytes of the end of a file.
abbrev pub ending_bytes : Ending → List ℕ
ending_bytes e = prefix 0 ++ (replicate e.zeros 0 ++ e.bytes.items)

-- A writer may finish its file; what it sends then is the end of a file.
pub record MayFinish {W : Type 0} (w : FileSeen W) (e : Ending) : Type 0 where
  pub was : w.state ≡ Started
  pub ends : IsEnding w (ending_bytes e)

-- The file ends no earlier than one that is appended to ended, so no
-- byte of that is after its footer.
pub record ReachesEnd {W : Type 0} (d : Device W) (a b : FileSeen W) : Type 0 where
  pub reaches : IsTrue d.is_memory → a.place ≤ (d.memory a.device).place → a.size ≤ (d.memory b.device).place

-- The error of a state in which a writer accepts no pairs.
abbrev pub fault_if_over : WriterState → Option StateFault
fault_if_over New = None
fault_if_over Started = None
fault_if_over Finished = Some faults.Finished
fault_if_over Failed = Some faults.Failed

-- Why a writer refuses pairs.
abbrev pub TakesNoPairs : {W : Type 0} → FileSeen W → Pairs → Fault → Type 0
TakesNoPairs w pairs (State e) = fault_if_over w.state ≡ Some e
TakesNoPairs w pairs (Argument TooLarge) = file_weight w.fields w.metadata pairs ≤ max_weight → ⊥
TakesNoPairs w pairs _ = ⊥

-- The pairs replaced those that were there, and nothing else changed.
pub record TakesPairs {W : Type 0} (a b : FileSeen W) (pairs : Pairs) : Type 0 where
  pub open_state : fault_if_over a.state ≡ None
  pub light : file_weight a.fields a.metadata pairs ≤ max_weight
  pub are : b.pairs ≡ pairs
  pub device : b.device ≡ a.device
  pub state : b.state ≡ a.state
  pub order : b.order ≡ a.order
  pub fields : b.fields ≡ a.fields
  pub metadata : b.metadata ≡ a.metadata
  pub chosen : b.chosen ≡ a.chosen
  pub ids : b.ids ≡ a.ids
  pub remembers : RemembersSame a b
  pub dictionaries : b.dictionaries ≡ a.dictionaries
  pub blocks : b.blocks ≡ a.blocks
  pub place : b.place ≡ a.place
  pub size : b.size ≡ a.size
