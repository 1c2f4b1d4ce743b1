-- Each case is computed.
use Rattle.ipc_devices.specs.Device.{Device}
use Rattle.std.proofs.Common.{ℕ, List, Option}
use Rattle.ipc_devices.specs.Gives.{Gives}
use Rattle.ipc_devices.specs.declared.fault.Fault.{Fault}
use Rattle.ipc_programs.specs.ShownRows.{OtherRows, ReadableRows, ShownRows}

module _ {R F : Type 0} (gives : Gives R) (source : Device R) (contents : Device F) (input : R) (device : F) (path : List ℕ) where
  pub shown_rows : (asked : Option (List ℕ)) (limit : Option ℕ) (e : Fault) → ShownRows gives source contents input device path asked limit e
  shown_rows asked limit e = record {
    example = λ h. h;
    no_file = λ kind h. h;
    of_a_stream = λ h. h;
    by_its_bytes = λ bytes h. h;
    in_memory = λ h. h;
  }

  pub other_rows : (columns : List ℕ) (limit : Option ℕ) → OtherRows gives source contents input device path columns limit
  other_rows columns limit = record {
    example = λ h. h;
    all_of_a_stream = λ h. h;
    all_of_a_file = λ h. h;
    no_file = λ h. h;
    of_a_stream = λ h. h;
    in_memory = λ h. h;
  }

  pub readable_rows : (asked : Option (List ℕ)) (limit : Option ℕ) → ReadableRows gives contents input device path asked limit
  readable_rows asked limit = record {
    example = tt;
    of_a_stream = λ h. h;
    in_memory = λ h. h;
    no_file = λ h. h;
  }
