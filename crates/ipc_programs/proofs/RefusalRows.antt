-- Each case is computed.
use Rattle.ipc_devices.specs.Device.{Device}
use Rattle.std.specs.Prelude.{ℕ, List}
use Rattle.ipc_devices.specs.Gives.{Gives}
use Rattle.ipc_devices.specs.declared.fault.Fault.{Fault}
use Rattle.ipc_programs.specs.RefusalRows.{RefusalRows}

pub refusal_rows : {R F A O : Type 0} (gives : Gives R) (source : Device R) (contents : Device F) (kept : Device A) (d : Device O) (input : R) (file : F) (target : A) (out : O) (path : List ℕ) (e : Fault)
    → RefusalRows gives source contents kept d input file target out path e
refusal_rows gives source contents kept d input file target out path e = record {
  input_to_stream = λ h. h;
  input_to_file = λ h. h;
  path_to_stream = λ h. h;
  path_to_file = λ h. h;
  append_to_path = λ h. h;
  no_file_to_copy = λ h. h;
  no_file_to_append = λ kind h. h;
}
