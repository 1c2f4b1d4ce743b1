-- The calls of an append session: what its writes do, what its end leaves, and
-- on which writers they are made.
-- (Arrow columnar format, "IPC File Format".)
use Rattle.std.specs.Prelude.{◌≡◌, ◌⊎◌, ℕ, ◌-◌, ◌≤◌, Bool, IsTrue, true, List, [], ◌∷◌, ◌++◌, length, Some, None, Result, Ok, Err, IfErr, OnOk, Vec, vec_capacity}
use Rattle.std.specs.declared.alloc.Global.{Global}
use Rattle.lower.specs.TypeTrees.{FieldTrees, Pairs}
use Rattle.lower_types.specs.declared.Endianness.{Endianness}
use Rattle.lower_arrays.specs.declared.array.AnyArray.{AnyArray}
use Rattle.ipc_base.specs.Fitting.{AllFit}
use Rattle.ipc_base.specs.IdTrees.{IdTrees}
use Rattle.ipc_devices.specs.Device.{Device, Memory, memory_device}
use Rattle.ipc_devices.specs.Faults.{OwnFault}
use Rattle.ipc_devices.specs.declared.fault.ArgFault.TheVariants.{FieldsShape, NotWritable, TooLarge}
use Rattle.ipc_devices.specs.declared.fault.Fault.{Fault}
use Rattle.ipc_devices.specs.declared.fault.Fault.TheVariants.{Argument, Io, Memory as NoMemory, State}
use Rattle.ipc_devices.specs.declared.fault.StateFault.TheVariants as faults
use Rattle.ipc_devices.specs.declared.memory.MemFile.{MemFile}
use Rattle.ipc_model.specs.Batches.{Chunk}
use Rattle.ipc_model.specs.Files.{FileMetadata, metadata_of}
use Rattle.ipc_model.specs.Writable.{IsWritable, file_weight}
use Rattle.ipc_model.specs.WriterStates.{state_after}
use Rattle.ipc_model.specs.Writers.{write_call}
use Rattle.ipc_schema_write.specs.WriterAnswers.{max_weight, written_as}
use Rattle.ipc_write.specs.Calls.{outcome, state_seen}
use Rattle.ipc_write.specs.Meaning.{chunk_written}
use Rattle.ipc_write.specs.Vectors.{HasNoRoom, vectors}
use Rattle.ipc_write.specs.declared.stream.WriterState.TheVariants.{Failed, Started}
use Rattle.ipc_file_write.specs.AppendLaws.{NoMore, Onward}
use Rattle.ipc_file_write.specs.Appends.{DeviceFails, GoesOn, OpensFile}
use Rattle.ipc_file_write.specs.Api.{FinishesFile}
use Rattle.ipc_file_write.specs.FileWriters.{Agrees, FileSeen, HoldsBytes, IsBeginning, IsEnding, IsFileOf, IsSameFile, head_of_file}
use Rattle.ipc_file_write.specs.Writes.{NamesOne, WritesExactly}
use Rattle.ipc_file_write.specs.WrittenFiles.{HasTooMany}
use Rattle.ipc_sessions.specs.Sessions.{ResumeCause, MetadataCause, IsEndedFile, taken_of}

-- ---- what the calls do

-- Some writes appended exactly these chunks to the file, in order, and changed no byte
-- before the offset where they began. The writer has the same device.
pub record TakesChunks {W : Type 0} (d : Device W) (a b : FileSeen W) (cs : List Chunk) : Type 0 where
  pub same : IsSameFile a b
  pub was : b.state ≡ Started → a.state ≡ Started
  pub ids : b.state ≡ Started → b.ids ≡ a.ids
  pub onward : IsTrue d.is_memory → (d.memory a.device).place ≤ length (d.memory a.device).whole → Onward (d.memory a.device) (d.memory b.device)
  pub more : IsTrue d.is_memory → (size : ℕ) → NoMore (d.memory a.device) size → NoMore (d.memory b.device) size
  pub holds : IsTrue d.is_memory → (is_stream : Bool) (base : List ℕ) (before : List Chunk) → HoldsBytes is_stream (d.memory a.device) a base before
      → HoldsBytes is_stream (d.memory b.device) b base (before ++ cs)
  pub names : d.names b.device ≡ d.names a.device

-- A writer wrote these chunks, and then `finish` returned `end`: no byte before its offset changed.
-- If `end` is Ok, the device is a whole file with these chunks more. This needs that after the
-- offset there were no more bytes than the file to append to has there.
pub record Leaves {W : Type 0} (d : Device W) (a : FileSeen W) (device : W) (end : Result Unit Fault) (cs : List Chunk) : Type 0 where
  pub onward : IsTrue d.is_memory → (d.memory a.device).place ≤ length (d.memory a.device).whole → Onward (d.memory a.device) (d.memory device)
  pub ended : IsTrue d.is_memory → OnOk end ((is_stream : Bool) (before : List Chunk) → HoldsBytes is_stream (d.memory a.device) a [] before
      → (d.memory a.device).place ≤ length (d.memory a.device).whole → NoMore (d.memory a.device) a.size
      → IsEndedFile is_stream (d.memory device).whole (head_of_file a).schema a.pairs (before ++ cs))

-- ---- which calls are made

-- The result of `write` of these columns. It is Ok exactly if the writer accepts them, unless an
-- allocation or the device fails. If an error names a dictionary, that one is refused. The
-- writer is failed after an error of its device, and still started after a refusal. While it is
-- started, no call of its device failed.
pub record WritesNext {W : Type 0} (d : Device W) (a : FileSeen W) (columns : List AnyArray) (r : Result Unit Fault) (b : FileSeen W) : Type 0 where
  pub exact : WritesExactly a columns None r
  pub named : IfErr r (NamesOne a columns)
  pub state : state_seen b.state ≡ state_after (write_call (chunk_written columns)) (outcome r) (state_seen a.state)
  pub done : b.state ≡ Started → d.failures b.device ≡ d.failures a.device
  pub takes : TakesChunks d a b (taken_of (columns ∷ []) (r ∷ []))

-- Writes one after the other, each made on the writer that the one before it left.
abbrev pub AreWritten : {W : Type 0} → Device W → FileSeen W → List (List AnyArray) → List (Result Unit Fault) → FileSeen W → Type 0
AreWritten d a [] [] b = b ≡ a
AreWritten {W = W} d a (c ∷ cs) (r ∷ rs) b = (m : FileSeen W) × (WritesNext d a c r m × AreWritten d m cs rs b)
AreWritten d a _ _ b = ⊥

-- A session that creates a file in memory: its writer is started with empty memory, this schema,
-- these ids and these pairs, and each chunk is written.
pub record IsCreation (fields : FieldTrees) (metadata : Pairs) (ids : IdTrees) (order : Endianness) (pairs : Pairs) (chunks : List (List AnyArray)) (answers : List (Result Unit Fault)) : Type 0 where
  pub opened : FileSeen (Vec ℕ Global)
  pub started : opened.state ≡ Started
  pub file : IsFileOf opened fields metadata ids order pairs
  pub empty : Agrees vectors opened [] []
  pub last : FileSeen (Vec ℕ Global)
  pub writes : AreWritten vectors opened chunks answers last

-- With some results, such a session leaves a writer of which P holds.
pub record MayCreate (fields : FieldTrees) (metadata : Pairs) (ids : IdTrees) (order : Endianness) (pairs : Pairs) (chunks : List (List AnyArray)) (P : FileSeen (Vec ℕ Global) → Type 0) : Type 0 where
  pub answers : List (Result Unit Fault)
  pub creation : IsCreation fields metadata ids order pairs chunks answers
  pub holds : P creation.last

-- The vector of a new writer has no room for the beginning of its file.
pub record BeginsFull (fields : FieldTrees) (metadata : Pairs) (ids : IdTrees) (order : Endianness) (pairs : Pairs) : Type 0 where
  pub new : FileSeen (Vec ℕ Global)
  pub file : IsFileOf new fields metadata ids order pairs
  pub full : HasNoRoom new.device (IsBeginning new)

-- Why a file isn't created: an allocation failed, or the memory had no room for the beginning or
-- the end. The ids don't fit the schema, or it can't be written or is too heavy with the pairs. Or
-- the writes left a writer that has failed, or has too many blocks.
abbrev pub CreationCause : FieldTrees → Pairs → IdTrees → Endianness → Pairs → List (List AnyArray) → Fault → Type 0
CreationCause fs es is order ps chunks NoMemory = Unit {0}
CreationCause fs es is order ps chunks (Io e) = BeginsFull fs es is order ps ⊎ MayCreate fs es is order ps chunks (λ w. HasNoRoom w.device (IsEnding w))
CreationCause fs es is order ps chunks (Argument FieldsShape) = ¬ AllFit fs is
CreationCause fs es is order ps chunks (Argument NotWritable) = ¬ IsWritable fs es is
CreationCause fs es is order ps chunks (Argument TooLarge) = (¬ (file_weight fs es ps ≤ max_weight)) ⊎ MayCreate fs es is order ps chunks HasTooMany
CreationCause fs es is order ps chunks (State faults.Failed) = MayCreate fs es is order ps chunks (λ w. w.state ≡ Failed)
CreationCause fs es is order ps chunks _ = ⊥

-- The calls of a started writer: each chunk is written, and `finish` is called last and returns
-- `end`. `left` is the same device after that. If the end is Ok, no call of it failed, and it keeps
-- nothing back.
pub record EndsSession {W : Type 0} (d : Device W) (opened : FileSeen W) (chunks : List (List AnyArray)) (answers : List (Result Unit Fault)) (end : Result Unit Fault) (left : W) : Type 0 where
  pub last : FileSeen W
  pub writes : AreWritten d opened chunks answers last
  pub finished : FileSeen W
  pub ends : FinishesFile d last end finished
  pub left_is : left ≡ finished.device
  pub leaves : Leaves d opened left end (taken_of chunks answers)
  pub done : OnOk end (d.failures left ≡ d.failures opened.device)
  pub names : d.names left ≡ d.names opened.device
  pub flushed : OnOk end (IsTrue (d.is_flushed left))

-- A session by metadata that were read before: a writer appends to the file, with these calls. It
-- has the same device. If the end is Ok, no call of it failed.
pub record IsSession {W : Type 0} (d : Device W) (m : FileMetadata) (device : W) (chunks : List (List AnyArray)) (answers : List (Result Unit Fault)) (end : Result Unit Fault) (left : W) : Type 0 where
  pub opened : FileSeen W
  pub goes_on : GoesOn d m device opened
  pub calls : EndsSession d opened chunks answers end left
  pub done : OnOk end (d.failures left ≡ d.failures device)
  pub names : d.names left ≡ d.names device

-- A session on a file: its metadata are read, a writer appends to it by these, with these calls,
-- and `end` is the result of the last. `left` is the same device.
pub record IsSessionOn {W : Type 0} (d : Device W) (device : W) (chunks : List (List AnyArray)) (answers : List (Result Unit Fault)) (end : Result Unit Fault) (left : W) : Type 0 where
  pub read : W
  pub same : IsTrue d.is_memory → (d.memory read).whole ≡ (d.memory device).whole
  pub metadata : FileMetadata
  pub metadata_is : IsTrue d.is_memory → metadata_of (d.memory device).whole ≡ Some metadata
  pub session : IsSession d metadata read chunks answers end left
  pub done : OnOk end (d.failures left ≡ d.failures device)
  pub names : d.names left ≡ d.names device

-- A writer appends to the file that begins where this device begins, by the metadata that the file
-- has. No call of the device failed since these were read.
pub record ResumesFile {W : Type 0} (d : Device W) (device : W) (w : FileSeen W) : Type 0 where
  pub read : W
  pub same : IsTrue d.is_memory → (d.memory read).whole ≡ (d.memory device).whole
  pub metadata : FileMetadata
  pub metadata_is : IsTrue d.is_memory → metadata_of (d.memory device).whole ≡ Some metadata
  pub opens : OpensFile d metadata read w

-- The bytes and the offset of a file in memory.
abbrev pub in_memory : MemFile (Vec ℕ Global) → Memory
in_memory f = record { whole = f.inner.items; place = f.position }

-- How many bytes after its offset a file in memory has room for.
abbrev pub room_behind : MemFile (Vec ℕ Global) → ℕ
room_behind f = vec_capacity f.inner - f.position

-- bytes in memory as a device
abbrev pub memory_files : Device (MemFile (Vec ℕ Global))
memory_files = memory_device in_memory (λ f. f.given) room_behind

-- Sessions one after the other, each on the file that the one before it ended.
abbrev pub AreSessions : {W : Type 0} → (d : Device W) → W → List (Vec (List AnyArray) Global) → List (Vec (Result Unit Fault) Global) → W → Type 0
AreSessions d device [] [] left = left ≡ device
AreSessions {W = W} d device (cs ∷ rest) (rs ∷ answers) left =
    (next : W) × (IsSessionOn d device cs.items rs.items (Ok tt) next × AreSessions d next rest answers left)
AreSessions d device _ _ left = ⊥

-- A session began on the file and its end returned this error.
pub record EndsRefused {W : Type 0} (d : Device W) (device : W) (chunks : List (List AnyArray)) (e : Fault) : Type 0 where
  pub answers : List (Result Unit Fault)
  pub left : W
  pub session : IsSessionOn d device chunks answers (Err e) left

-- Why one append session is refused: the file has no metadata, can't be appended to,
-- or its end returned this error.
abbrev pub WholeSessionCause : {W : Type 0} → (d : Device W) → W → List (List AnyArray) → Fault → Type 0
WholeSessionCause d device chunks e =
    (MetadataCause d.is_memory (d.memory device).whole e ⊎ ResumeCause d.is_memory (d.memory device).whole e) ⊎ EndsRefused d device chunks e

-- One of some sessions stops, for this reason; each session before it ended its file.
pub record StopsInTurn {W : Type 0} (d : Device W) (device : W) (sessions : List (Vec (List AnyArray) Global)) (reason : W → List (List AnyArray) → Type 0) : Type 0 where
  pub done : List (Vec (List AnyArray) Global)
  pub refused : Vec (List AnyArray) Global
  pub rest : List (Vec (List AnyArray) Global)
  pub sessions_are : sessions ≡ done ++ refused ∷ rest
  pub answers : List (Vec (Result Unit Fault) Global)
  pub left : W
  pub made : AreSessions d device done answers left
  pub why : reason left refused.items

-- Why append sessions are refused: one of them is, on the file that those before it left.
abbrev pub InTurnCause : {W : Type 0} → (d : Device W) → W → List (Vec (List AnyArray) Global) → Fault → Type 0
InTurnCause d device sessions e =
    StopsInTurn d device sessions (λ left chunks. WholeSessionCause d left chunks e)

-- Why one append session returns a device's error: a call that reads its device failed,
-- or its end returned this error.
abbrev pub FailsWhole : {W : Type 0} → (d : Device W) → W → List (List AnyArray) → Fault → Type 0
FailsWhole d device chunks e = DeviceFails d.failures device ⊎ EndsRefused d device chunks e

-- Why append sessions return a device's error: one of them does, on the
-- file that those before it left.
abbrev pub FailsInTurn : {W : Type 0} → (d : Device W) → W → List (Vec (List AnyArray) Global) → Fault → Type 0
FailsInTurn d device sessions e =
    StopsInTurn d device sessions (λ left chunks. FailsWhole d left chunks e)

-- All sessions on a file in memory: the first created it, and each later one appended to it;
-- `bytes` are what the last one left.
pub record AreAllSessions (fields : FieldTrees) (metadata : Pairs) (ids : IdTrees) (order : Endianness) (pairs : Pairs) (first : List (List AnyArray)) (answers : List (Result Unit Fault))
    (later : List (Vec (List AnyArray) Global)) (others : List (Vec (Result Unit Fault) Global)) (bytes : List ℕ) : Type 0 where
  pub creation : IsCreation fields metadata ids order pairs first answers
  pub created : MemFile (Vec ℕ Global)
  pub file : IsEndedFile true created.inner.items (written_as order fields metadata ids) pairs (taken_of first answers)
  pub left : MemFile (Vec ℕ Global)
  pub sessions : AreSessions memory_files created later others left
  pub bytes_are : left.inner.items ≡ bytes

-- The first session created the file, and P holds of it.
pub record IsCreatedThen (fields : FieldTrees) (metadata : Pairs) (ids : IdTrees) (order : Endianness) (pairs : Pairs) (first : List (List AnyArray)) (P : MemFile (Vec ℕ Global) → Type 0) : Type 0 where
  pub answers : List (Result Unit Fault)
  pub creation : IsCreation fields metadata ids order pairs first answers
  pub created : MemFile (Vec ℕ Global)
  pub file : IsEndedFile true created.inner.items (written_as order fields metadata ids) pairs (taken_of first answers)
  pub refused : P created

-- Why a later session is refused, on the file that the first one created.
abbrev pub LaterCause : FieldTrees → Pairs → IdTrees → Endianness → Pairs → List (List AnyArray) → List (Vec (List AnyArray) Global) → Fault → Type 0
LaterCause fs es is order ps first later e =
    IsCreatedThen fs es is order ps first (λ created. InTurnCause memory_files created later e)

-- Why a later session returns a device's error, on the file that the first one created.
abbrev pub FailsLater : FieldTrees → Pairs → IdTrees → Endianness → Pairs → List (List AnyArray) → List (Vec (List AnyArray) Global) → Fault → Type 0
FailsLater fs es is order ps first later e =
    IsCreatedThen fs es is order ps first (λ created. FailsInTurn memory_files created later e)

-- Why sessions on a file in memory are refused: the file isn't created, or a later session is
-- refused. Nothing is claimed of errors of allocation and of the device.
abbrev pub SessionsCause : FieldTrees → Pairs → IdTrees → Endianness → Pairs → List (List AnyArray) → List (Vec (List AnyArray) Global) → Fault → Type 0
SessionsCause fs es is order ps first later e = OwnFault e (CreationCause fs es is order ps first e ⊎ LaterCause fs es is order ps first later e)

-- Why sessions on a file in memory return a device's error: the memory has no room for the file
-- that is created, or a later session returns one.
abbrev pub FailsSessions : FieldTrees → Pairs → IdTrees → Endianness → Pairs → List (List AnyArray) → List (Vec (List AnyArray) Global) → Fault → Type 0
FailsSessions fs es is order ps first later e = CreationCause fs es is order ps first e ⊎ FailsLater fs es is order ps first later e
