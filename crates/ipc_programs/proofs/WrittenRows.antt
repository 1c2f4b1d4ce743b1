-- Each case is computed.
use Rattle.std.specs.Prelude.{ℕ, List}
use Rattle.ipc_devices.specs.Device.{Device, Memory}
use Rattle.ipc_devices.specs.Gives.{Gives}
use Rattle.ipc_programs.specs.WrittenRows.{WrittenRows}

pub written_rows : {R F : Type 0} (gives : Gives R) (d : Device F) (a b : R) (file : F) (old new : Memory) (path : List ℕ)
    → WrittenRows gives d a b file old new path
written_rows gives d a b file old new path = record {
  input_to_stream = λ h. h;
  input_to_file = λ h. h;
  path_to_stream = λ h. h;
  path_to_file = λ h. h;
  no_file_to_copy = λ h. h;
  no_file_to_append = λ h. h;
}
