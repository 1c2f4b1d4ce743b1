-- Why `ipconvert` ends with an error, for each form, whatever its devices are.
use Rattle.std.specs.Prelude.{◌⊎◌, ℕ, IsTrue, List, [], ◌≡◌, None, Some}
use Rattle.ipc_devices.specs.Faults.{OwnFault}
use Rattle.ipc_devices.specs.Gives.{Gives}
use Rattle.ipc_devices.specs.declared.fault.Fault.{Fault}
use Rattle.ipc_devices.specs.declared.fault.Fault.TheVariants.{Ended, OutOfSpec}
use Rattle.ipc_write.specs.Writers.{order_of}
use Rattle.ipc_convert.specs.Refusals.{CopyFileCause, CopyStreamCause, AppendedFileCause, HoldsOfGiven, AppendedStreamCause, AsFileCause, AsStreamCause}
use Rattle.ipc_devices.specs.Device.{Device}
use Rattle.ipc_programs.specs.declared.convert.forms.Target.TheVariants.{Stream, File as FileTarget}
use Rattle.ipc_programs.specs.ConvertRows.{big, little}
use Rattle.ipc_programs.specs.ConvertWords.{append, copy}
use Rattle.ipc_programs.specs.Refusals.{AskedCause}

-- The errors are those of the input if no path is named, and else of the file. They depend on the
-- target, with the pairs of a file, and on the byte order that was named. If the file couldn't be
-- opened, the only errors are those of a device or of allocation.
pub record RefusalRows {R F A O : Type 0} (gives : Gives R) (source : Device R) (contents : Device F) (kept : Device A) (d : Device O) (input : R) (file : F) (target : A) (out : O) (path : List ℕ) (e : Fault) : Type 0 where
  pub input_to_stream : AskedCause gives source contents kept d (copy None Stream little) input (Some file) None out e
      → HoldsOfGiven gives source input (λ bytes. CopyStreamCause AsStreamCause bytes e)
  pub input_to_file : AskedCause gives source contents kept d (copy None FileTarget big) input None None out e
      → HoldsOfGiven gives source input (λ bytes. CopyStreamCause (AsFileCause d out (order_of big) []) bytes e)
  pub path_to_stream : AskedCause gives source contents kept d (copy (Some path) Stream big) input (Some file) None out e
      → IsTrue contents.is_memory → (contents.memory file).place ≡ 0 → CopyFileCause (λ first schema pairs fault. AsStreamCause first schema fault) (contents.memory file).whole e
  pub path_to_file : AskedCause gives source contents kept d (copy (Some path) FileTarget little) input (Some file) None out e
      → IsTrue contents.is_memory → (contents.memory file).place ≡ 0
      → CopyFileCause (λ first schema pairs fault. AsFileCause d out (order_of little) pairs first schema fault) (contents.memory file).whole e
  pub append_to_path : AskedCause gives source contents kept d (append path) input None (Some target) out e
      → IsTrue kept.is_memory → (kept.memory target).place ≡ 0 → AppendedFileCause kept.is_memory (kept.memory target).whole e ⊎ AppendedStreamCause kept target gives source input e
  pub no_file_to_copy : ¬ OwnFault Ended (AskedCause gives source contents kept d (copy (Some path) Stream little) input None (Some target) out Ended)
  pub no_file_to_append : (kind : _) → ¬ OwnFault (OutOfSpec kind) (AskedCause gives source contents kept d (append path) input (Some file) None out (OutOfSpec kind))
