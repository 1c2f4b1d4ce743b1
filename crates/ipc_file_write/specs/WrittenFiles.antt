-- What the calls of a new file writer in memory leave, and why the file isn't finished.
-- (Arrow columnar format, "IPC File Format"; the limits are this project's own.)
use Rattle.std.specs.Prelude.{◌≡◌, ◌⊎◌, ℕ, ◌≤◌, List, [], Result, IfErr, IfOk, Vec}
use Rattle.std.specs.declared.alloc.Global.{Global}
use Rattle.lower.specs.TypeTrees.{FieldTrees, Pairs}
use Rattle.lower_types.specs.declared.Endianness.{Endianness}
use Rattle.ipc_base.specs.IdTrees.{IdTrees}
use Rattle.ipc_devices.specs.declared.fault.ArgFault.TheVariants.{TooLarge}
use Rattle.ipc_devices.specs.declared.fault.Fault.{Fault}
use Rattle.ipc_devices.specs.declared.fault.Fault.TheVariants.{Argument, Io, Memory, State}
use Rattle.ipc_devices.specs.declared.fault.StateFault.TheVariants as faults
use Rattle.ipc_model.specs.Writable.{file_weight}
use Rattle.ipc_model.specs.WriterStates.{IsRun, State as Stage, Writer, answered, new_writer}
use Rattle.ipc_model.specs.Writers.{taken}
use Rattle.ipc_schema_write.specs.WriterAnswers.{max_weight}
use Rattle.ipc_write.specs.Calls.{ended_as}
use Rattle.ipc_write.specs.Vectors.{HasNoRoom, vectors}
use Rattle.ipc_write.specs.declared.calls.StreamCall.{StreamCall}
use Rattle.ipc_write.specs.declared.stream.WriterState.TheVariants.{New, Started, Finished, Failed}
use Rattle.ipc_footer_write.specs.Footers.{AreFew}
use Rattle.ipc_file_write.specs.Calls.{AreMade, IsWrittenFile, writer_seen}
use Rattle.ipc_file_write.specs.FileWriters.{Agrees, FileSeen, IsEnding, IsFileOf}
use Rattle.ipc_file_write.specs.declared.calls.WrittenFile.{WrittenFile}

-- ---- the calls

-- A file writer in this state, with this byte order and the pairs that its footer will have.
abbrev pub writer_in : Endianness → Pairs → Stage → Writer
writer_in order pairs s = record { state = s; order = order; pairs = pairs }

-- Calls of a new writer to empty memory, each made on the writer that the call before
-- it left, have these results and leave the writer `last`. Its file has exactly the
-- chunks whose `write` returned Ok.
pub record Leave (order : Endianness) (fields : FieldTrees) (metadata : Pairs) (ids : IdTrees) (pairs : Pairs) (calls : List StreamCall) (answers : List (Result Unit Fault)) (last : FileSeen (Vec ℕ Global)) : Type 0 where
  pub first : FileSeen (Vec ℕ Global)
  pub new : first.state ≡ New
  pub file : IsFileOf first fields metadata ids order pairs
  pub empty : Agrees vectors first [] []
  pub made : AreMade vectors first calls answers last
  pub run : IsRun (writer_in order pairs new_writer) (ended_as calls answers) (writer_seen last)
  pub holds : Agrees vectors last [] (taken (answered (ended_as calls answers)))

-- The calls of a new file writer leave a file that is finished, or can be.
pub record RunsToFile (order : Endianness) (fields : FieldTrees) (metadata : Pairs) (ids : IdTrees) (pairs : Pairs) (calls : List StreamCall) (answers : List (Result Unit Fault)) : Type 0 where
  pub last : FileSeen (Vec ℕ Global)
  pub leave : Leave order fields metadata ids pairs calls answers last
  pub state : (last.state ≡ Started) ⊎ (last.state ≡ Finished)

-- With some results the calls of a new file writer leave a writer of which P holds.
pub record MayLeave (order : Endianness) (fields : FieldTrees) (metadata : Pairs) (ids : IdTrees) (pairs : Pairs) (calls : List StreamCall) (P : FileSeen (Vec ℕ Global) → Type 0) : Type 0 where
  pub answers : List (Result Unit Fault)
  pub last : FileSeen (Vec ℕ Global)
  pub leave : Leave order fields metadata ids pairs calls answers last
  pub holds : P last

-- ---- why a file isn't finished

-- A started writer whose file has more blocks than a footer may have.
pub record HasTooMany (w : FileSeen (Vec ℕ Global)) : Type 0 where
  pub started : w.state ≡ Started
  pub many : ¬ AreFew w.dictionaries w.blocks

-- Why a writer doesn't finish its file, if no earlier call did.
abbrev pub RefusesEnd : FileSeen (Vec ℕ Global) → Fault → Type 0
RefusesEnd w (State faults.NotStarted) = w.state ≡ New
RefusesEnd w (State faults.Failed) = w.state ≡ Failed
RefusesEnd w (Argument TooLarge) = HasTooMany w
RefusesEnd w (Io e) = HasNoRoom w.device (IsEnding w)
RefusesEnd w Memory = Unit {0}
RefusesEnd w _ = ⊥

-- Why a file isn't written: an allocation failed, or the memory had no room for the end. Or the
-- schema and the pairs are too heavy, or the calls left a writer that isn't started, has
-- failed, or has too many blocks.
abbrev pub RefusesWholeFile : Endianness → FieldTrees → Pairs → IdTrees → Pairs → List StreamCall → Fault → Type 0
RefusesWholeFile order fs es is ps calls Memory = Unit {0}
RefusesWholeFile order fs es is ps calls (Io e) = MayLeave order fs es is ps calls (λ w. HasNoRoom w.device (IsEnding w))
RefusesWholeFile order fs es is ps calls (Argument TooLarge) = (¬ (file_weight fs es ps ≤ max_weight)) ⊎ MayLeave order fs es is ps calls HasTooMany
RefusesWholeFile order fs es is ps calls (State faults.NotStarted) = MayLeave order fs es is ps calls (λ w. w.state ≡ New)
RefusesWholeFile order fs es is ps calls (State faults.Failed) = MayLeave order fs es is ps calls (λ w. w.state ≡ Failed)
RefusesWholeFile order fs es is ps calls _ = ⊥

-- ---- the call

-- `write_file`: these calls of a new writer of such a file in memory, and its end.
pub record WritesWholeFile (order : Endianness) (fields : FieldTrees) (metadata : Pairs) (ids : IdTrees) (pairs : Pairs) (calls : List StreamCall) (r : Result WrittenFile Fault) : Type 0 where
  -- What each error means.
  pub causes : IfErr r (RefusesWholeFile order fields metadata ids pairs calls)
  -- The calls had these results, and left a file that is finished or was finished then.
  pub state : IfOk r (λ f. RunsToFile order fields metadata ids pairs calls f.answers.items)
  -- The bytes are a whole file with exactly the chunks whose `write` returned Ok.
  pub content : IfOk r (λ f. IsWrittenFile f.bytes.items order fields metadata ids pairs (taken (answered (ended_as calls f.answers.items))))
