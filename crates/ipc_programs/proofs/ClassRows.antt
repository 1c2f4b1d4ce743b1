-- Each case is computed.
use Rattle.std.proofs.Common.{refl}
use Rattle.ipc_programs.specs.ClassRows.{ClassRows}

pub class_rows : ClassRows
class_rows = record {
  out_of_spec = λ kind. refl;
  ended = refl;
  not_yet_implemented = λ form. refl;
  bad_schema = λ fault. refl;
  bad_argument = λ fault. refl;
  bad_state = λ fault. refl;
  too_many_dictionaries = refl;
  input_or_output = λ error. refl;
  no_memory = refl;
  bad_array = λ error. refl;
}
