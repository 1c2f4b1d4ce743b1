-- The class of each kind of error.
use Rattle.std.specs.Prelude.{◌≡◌, codes}
use Rattle.ipc_devices.specs.declared.fault.ArgFault.{ArgFault}
use Rattle.ipc_devices.specs.declared.fault.Fault.TheVariants.{OutOfSpec, Ended, NotYetImplemented, Schema, Argument, State, TooManyDictionaries, Io, Memory, Lower}
use Rattle.ipc_devices.specs.declared.fault.Nyi.{Nyi}
use Rattle.ipc_devices.specs.declared.fault.OutOfSpecKind.{OutOfSpecKind}
use Rattle.ipc_devices.specs.declared.fault.SchemaFault.{SchemaFault}
use Rattle.ipc_devices.specs.declared.fault.StateFault.{StateFault}
use Rattle.ipc_programs.specs.Classes.{class}

-- A case for each kind of error, for all details that it can have: so no detail changes the class.
pub record ClassRows : Type 0 where
  pub out_of_spec : (kind : OutOfSpecKind) → class (OutOfSpec kind) ≡ codes "out of spec"
  pub ended : class Ended ≡ codes "input ended"
  pub not_yet_implemented : (form : Nyi) → class (NotYetImplemented form) ≡ codes "not yet implemented"
  pub bad_schema : (fault : SchemaFault) → class (Schema fault) ≡ codes "bad schema"
  pub bad_argument : (fault : ArgFault) → class (Argument fault) ≡ codes "bad argument"
  pub bad_state : (fault : StateFault) → class (State fault) ≡ codes "bad state"
  pub too_many_dictionaries : class TooManyDictionaries ≡ codes "too many dictionaries"
  pub input_or_output : (error : _) → class (Io error) ≡ codes "input or output failed"
  pub no_memory : class Memory ≡ codes "no memory"
  pub bad_array : (error : _) → class (Lower error) ≡ codes "bad array"
