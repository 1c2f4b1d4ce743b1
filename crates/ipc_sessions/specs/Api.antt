-- What each call on files that are written in sessions does.
-- (Arrow columnar format, "IPC File Format".)
use Rattle.std.specs.Prelude.{◌≡◌, ◌++◌, true, IfErr, IfOk, IsTrue, List, length, OnOk, Result, Some, Vec}
use Rattle.std.specs.declared.alloc.Global.{Global}
use Rattle.lower.specs.TypeTrees.{FieldTrees, Pairs}
use Rattle.lower_types.specs.declared.Endianness.{Endianness}
use Rattle.lower_arrays.specs.declared.array.AnyArray.{AnyArray}
use Rattle.ipc_base.specs.IdTrees.{IdTrees}
use Rattle.ipc_devices.specs.Device.{Device, IsAnswered}
use Rattle.ipc_devices.specs.Faults.{IfIo, IsIo, OnIo, OwnFault}
use Rattle.ipc_devices.specs.declared.fault.Fault.{Fault}
use Rattle.ipc_model.specs.Files.{FileMetadata, metadata_of}
use Rattle.ipc_schema_write.specs.WriterAnswers.{written_as}
use Rattle.ipc_file_write.specs.Appends.{DeviceFails, RefusesFile}
use Rattle.ipc_file_write.specs.Calls.{IsWrittenFile}
use Rattle.ipc_file_write.specs.declared.calls.WrittenFile.{WrittenFile}
use Rattle.ipc_sessions.specs.Sessions.{AddsInTurn, GainsChunks, IsEndedFile, KeepsOld, OldFileCause, OpeningCause, all_taken_of, taken_of}
use Rattle.ipc_sessions.specs.Steps.{AreAllSessions, AreSessions, FailsInTurn, FailsSessions, IsCreation, IsSession, IsSessionOn, CreationCause, InTurnCause, SessionsCause}
use Rattle.ipc_sessions.specs.declared.created.WrittenSessions.{WrittenSessions}
use Rattle.ipc_sessions.specs.declared.sessions.Session.{Session}
use Rattle.ipc_sessions.specs.declared.sessions.Sessions.{Sessions}

-- ---- appending

-- Why `append_to_file` returns this error.
pub record AppendCause {W : Type 0} (d : Device W) (m : FileMetadata) (a : W) (e : Fault) : Type 0 where
  -- In memory, a file that can be appended to is refused only if an allocation fails.
  pub always : IsTrue d.is_memory → metadata_of (d.memory a).whole ≡ Some m → OldFileCause m (d.memory a).whole e
  -- The file can't be appended to, for the reason that the error names.
  pub only : RefusesFile d.is_memory m (d.memory a).whole e

-- `append_to_file`: chunks were appended to the file on device a, by its metadata m.
pub record AppendsToFile {W : Type 0} (d : Device W) (m : FileMetadata) (a : W) (chunks : List (List AnyArray)) (r : Result (Session W) Fault) : Type 0 where
  -- In memory, if the file was finished, it has the chunks more whose `write` returned `Ok`.
  pub exact : IsTrue d.is_memory → metadata_of (d.memory a).whole ≡ Some m → IfOk r (λ s. OnOk s.end (GainsChunks (d.memory a).whole (d.memory s.device).whole (taken_of chunks s.answers.items)))
  -- Why there is an error: nothing was written.
  pub causes : IfErr r (AppendCause d m a)
  -- `Io` is returned only if a call of the device failed.
  pub device : OnIo r (DeviceFails d.failures a)
  -- An `Io` is an error that the device returned.
  pub answered : IfIo r (IsAnswered d)
  -- Which calls were made of the file's writer.
  pub calls : IfOk r (λ s. IsSession d m a chunks s.answers.items s.end s.device)
  -- In memory the old metadata still give the old chunks, whatever the calls returned.
  pub state : IsTrue d.is_memory → metadata_of (d.memory a).whole ≡ Some m → IfOk r (λ s. KeepsOld m (d.memory a).whole (d.memory s.device).whole)

-- Why `append_session` returns this error.
pub record SessionCause {W : Type 0} (d : Device W) (a : W) (e : Fault) : Type 0 where
  -- In memory, a file that can be appended to is refused only if an allocation fails.
  pub always : IsTrue d.is_memory → (m : FileMetadata) → metadata_of (d.memory a).whole ≡ Some m → OldFileCause m (d.memory a).whole e
  -- The file has no metadata, or can't be appended to, for the reason that the error names.
  pub only : OpeningCause d.is_memory (d.memory a).whole e

-- `append_session`: chunks were appended to the file on device a, by the metadata that it has.
pub record AppendsSession {W : Type 0} (d : Device W) (a : W) (chunks : List (List AnyArray)) (r : Result (Session W) Fault) : Type 0 where
  -- In memory, if the file was finished, it has the chunks more whose `write` returned `Ok`.
  pub exact : IsTrue d.is_memory → IfOk r (λ s. OnOk s.end (GainsChunks (d.memory a).whole (d.memory s.device).whole (taken_of chunks s.answers.items)))
  -- Why there is an error: nothing was written.
  pub causes : IfErr r (SessionCause d a)
  -- `Io` is returned only if a call of the device failed.
  pub device : OnIo r (DeviceFails d.failures a)
  -- An `Io` is an error that the device returned.
  pub answered : IfIo r (IsAnswered d)
  -- Which calls were made of the file's writer.
  pub calls : IfOk r (λ s. IsSessionOn d a chunks s.answers.items s.end s.device)
  -- In memory the old metadata still give the old chunks, whatever the calls returned.
  pub state : IsTrue d.is_memory → IfOk r (λ s. (m : FileMetadata) → metadata_of (d.memory a).whole ≡ Some m → KeepsOld m (d.memory a).whole (d.memory s.device).whole)

-- `run_sessions`: sessions appended to the file on device a, one after the other.
pub record RunsSessions {W : Type 0} (d : Device W) (a : W) (sessions : List (Vec (List AnyArray) Global)) (r : Result (Sessions W) Fault) : Type 0 where
  -- In memory the file has the chunks more whose `write` returned `Ok`, in order.
  pub exact : IsTrue d.is_memory → IfOk r (λ left. AddsInTurn (length sessions) (d.memory a).whole (d.memory left.device).whole (all_taken_of sessions left.answers.items))
  -- Why there is an error: a session is refused, on the file that those before it left.
  pub causes : IfErr r (λ e. OwnFault e (InTurnCause d a sessions e))
  -- `Io` is returned only by a session whose device failed or whose memory couldn't grow.
  pub device : IfErr r (λ e. IsIo e → FailsInTurn d a sessions e)
  -- An `Io` is an error that the device returned.
  pub answered : IfIo r (IsAnswered d)
  -- Which sessions were made.
  pub calls : IfOk r (λ left. AreSessions d a sessions left.answers.items left.device)
  -- It is the same device.
  pub names : IfOk r (λ left. d.names left.device ≡ d.names a)

-- ---- files in memory

-- `create_file`: a file in memory was created, with this schema, these ids, this byte order, these
-- pairs and these chunks.
pub record CreatesFile (fields : FieldTrees) (metadata : Pairs) (ids : IdTrees) (order : Endianness) (pairs : Pairs) (chunks : List (List AnyArray)) (r : Result WrittenFile Fault) : Type 0 where
  -- On `Ok` the file has the schema, the pairs and the chunks whose `write` returned `Ok`.
  pub exact : IfOk r (λ f. IsEndedFile true f.bytes.items (written_as order fields metadata ids) pairs (taken_of chunks f.answers.items))
  -- Why there is an error.
  pub causes : IfErr r (CreationCause fields metadata ids order pairs chunks)
  -- Which calls were made of the file's writer.
  pub calls : IfOk r (λ f. IsCreation fields metadata ids order pairs chunks f.answers.items)

-- `write_sessions`: a file in memory was created with the first chunks, and later sessions appended
-- to it.
pub record WritesSessions (fields : FieldTrees) (metadata : Pairs) (ids : IdTrees) (order : Endianness) (pairs : Pairs) (first : List (List AnyArray)) (later : List (Vec (List AnyArray) Global))
    (r : Result WrittenSessions Fault) : Type 0 where
  -- On `Ok` the file has the schema, the pairs and the chunks whose `write` returned `Ok`.
  pub exact : IfOk r (λ f. IsWrittenFile f.bytes.items order fields metadata ids pairs (taken_of first f.first.items ++ all_taken_of later f.later.items))
  -- Why there is an error.
  pub causes : IfErr r (SessionsCause fields metadata ids order pairs first later)
  -- `Io` is returned only if the memory couldn't grow, in the first session or a later one.
  pub device : IfErr r (λ e. IsIo e → FailsSessions fields metadata ids order pairs first later e)
  -- Which calls were made of the writers.
  pub calls : IfOk r (λ f. AreAllSessions fields metadata ids order pairs first f.first.items later f.later.items f.bytes.items)
