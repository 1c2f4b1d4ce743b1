-- What `ipconvert` has written, for each form, whatever its devices are.
use Rattle.std.specs.Prelude.{ℕ, List, [], None, Some}
use Rattle.ipc_devices.specs.Device.{Device, Memory}
use Rattle.ipc_devices.specs.Gives.{Gives}
use Rattle.ipc_model.specs.Streams.{marked}
use Rattle.ipc_write.specs.Writers.{order_of}
use Rattle.ipc_convert.specs.Copies.{CopiesFileOf, CopiesStream, WritesFile, WritesStream}
use Rattle.ipc_programs.specs.declared.convert.forms.Target.TheVariants.{Stream, File as FileTarget}
use Rattle.ipc_programs.specs.ConvertRows.{big, little}
use Rattle.ipc_programs.specs.ConvertWords.{append, copy}
use Rattle.ipc_programs.specs.Written.{Appended, CopiesAsAsked}

-- The copy is of the input if no path is named, and else of the file; by the target; in the byte
-- order that was named. If the file couldn't be opened, neither a copy nor an append succeeds.
pub record WrittenRows {R F : Type 0} (gives : Gives R) (d : Device F) (a b : R) (file : F) (old new : Memory) (path : List ℕ) : Type 0 where
  pub input_to_stream : CopiesAsAsked gives d (copy None Stream little) a b (Some file) old new → CopiesStream gives a b (WritesStream (order_of little) old new)
  pub input_to_file : CopiesAsAsked gives d (copy None FileTarget big) a b None old new
      → CopiesStream gives a b (λ schema cs end. WritesFile (order_of big) old new schema [] cs)
  pub path_to_stream : CopiesAsAsked gives d (copy (Some path) Stream big) a b (Some file) old new
      → CopiesFileOf d file (λ schema pairs cs. WritesStream (order_of big) old new schema cs marked)
  pub path_to_file : CopiesAsAsked gives d (copy (Some path) FileTarget little) a b (Some file) old new
      → CopiesFileOf d file (WritesFile (order_of little) old new)
  pub no_file_to_copy : ¬ CopiesAsAsked gives d (copy (Some path) Stream little) a b None old new
  pub no_file_to_append : ¬ Appended gives d (append path) a b None
