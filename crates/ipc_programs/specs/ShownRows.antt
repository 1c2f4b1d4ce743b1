-- Why `ipcat` ends with an error, and when its arguments are wrong, for each
-- form, whatever its devices are.
use Rattle.std.specs.Prelude.{◌≡◌, ◌⊎◌, ℕ, IsTrue, List, Option, None, Some}
use Rattle.ipc_devices.specs.Faults.{OwnFault}
use Rattle.ipc_devices.specs.Gives.{Gives}
use Rattle.ipc_devices.specs.declared.fault.Fault.{Fault}
use Rattle.ipc_devices.specs.declared.fault.Fault.TheVariants.{Ended, OutOfSpec}
use Rattle.ipc_round_trip.specs.Choosing.{IsReadableBy, NamesOthers as StreamNamesOthers, chosen_stream_of}
use Rattle.ipc_round_trip.specs.Reading.{StreamCause}
use Rattle.ipc_file_round_trip.specs.Reading.{IsUnreadable, NamesOthers, ReadingCause}
use Rattle.ipc_convert.specs.Refusals.{HoldsOfGiven}
use Rattle.ipc_devices.specs.Device.{Device}
use Rattle.ipc_programs.specs.CatRefusals.{AsksForOthers, HasTooMany, IsNoStream, ShowCause}
use Rattle.ipc_programs.specs.CatWords.{demo, file, stream}
use Rattle.ipc_programs.specs.Shown.{GivesReadable, IsReadableFile, Shows}

-- The example, and a file that couldn't be opened, have only errors of a device or of allocation.
-- The errors of a stream depend on the input and not on a file; those of a file on the bytes of its
-- device from offset 0 on. Both depend on the named columns, a file's also on its limit.
pub record ShownRows {R F : Type 0} (gives : Gives R) (source : Device R) (contents : Device F) (input : R) (device : F) (path : List ℕ) (asked : Option (List ℕ)) (limit : Option ℕ) (e : Fault) : Type 0 where
  pub example : ¬ OwnFault Ended (ShowCause gives source contents demo input (Some device) Ended)
  pub no_file : (kind : _) → ¬ OwnFault (OutOfSpec kind) (ShowCause gives source contents (file path asked limit) input None (OutOfSpec kind))
  pub of_a_stream : ShowCause gives source contents (stream asked) input (Some device) e → HoldsOfGiven gives source input (IsNoStream asked e)
  pub by_its_bytes : (bytes : List ℕ) → IsNoStream asked e bytes → ((¬ IsReadableBy asked bytes) × StreamCause bytes (chosen_stream_of asked bytes) asked e) ⊎ HasTooMany asked e bytes
  pub in_memory : ShowCause gives source contents (file path asked limit) input (Some device) e → IsTrue contents.is_memory → (contents.memory device).place ≡ 0
      → IsUnreadable asked limit (contents.memory device).whole × ReadingCause asked limit (contents.memory device).whole e

-- Arguments are wrong only by the columns that they name: for a stream by its schema, for
-- a file in memory by its footer.
pub record OtherRows {R F : Type 0} (gives : Gives R) (source : Device R) (contents : Device F) (input : R) (device : F) (path : List ℕ) (columns : List ℕ) (limit : Option ℕ) : Type 0 where
  pub example : ¬ AsksForOthers gives source contents demo input (Some device)
  pub all_of_a_stream : ¬ AsksForOthers gives source contents (stream None) input (Some device)
  pub all_of_a_file : ¬ AsksForOthers gives source contents (file path None limit) input (Some device)
  pub no_file : ¬ AsksForOthers gives source contents (file path (Some columns) limit) input None
  pub of_a_stream : AsksForOthers gives source contents (stream (Some columns)) input (Some device) → HoldsOfGiven gives source input (StreamNamesOthers columns)
  pub in_memory : AsksForOthers gives source contents (file path (Some columns) limit) input (Some device) → IsTrue contents.is_memory → (contents.memory device).place ≡ 0
      → NamesOthers (Some columns) (contents.memory device).whole

-- What was shown can be read by the requested columns: of a stream the bytes that were read, of a
-- file in memory its bytes from offset 0 on. A file that wasn't opened wasn't shown.
pub record ReadableRows {R F : Type 0} (gives : Gives R) (contents : Device F) (input : R) (device : F) (path : List ℕ) (asked : Option (List ℕ)) (limit : Option ℕ) : Type 0 where
  pub example : Shows gives contents demo input (Some device)
  pub of_a_stream : Shows gives contents (stream asked) input (Some device) → GivesReadable gives input asked
  pub in_memory : Shows gives contents (file path asked limit) input (Some device) → IsTrue contents.is_memory → (contents.memory device).place ≡ 0 → IsReadableFile asked limit (contents.memory device).whole
  pub no_file : ¬ Shows gives contents (file path asked limit) input None
