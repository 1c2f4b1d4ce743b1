-- The classes of errors that the programs report.
use Rattle.std.specs.Prelude.{ℕ, List, codes}
use Rattle.ipc_devices.specs.declared.fault.Fault.{Fault}
use Rattle.ipc_devices.specs.declared.fault.Fault.TheVariants.{OutOfSpec, Ended, NotYetImplemented, Schema, Argument, State, TooManyDictionaries, Io, Memory, Lower}

-- The class of an error, as the programs print it.
abbrev pub class : Fault → List ℕ
class (OutOfSpec kind) = codes "out of spec"
class Ended = codes "input ended"
class (NotYetImplemented form) = codes "not yet implemented"
class (Schema fault) = codes "bad schema"
class (Argument fault) = codes "bad argument"
class (State fault) = codes "bad state"
class TooManyDictionaries = codes "too many dictionaries"
class (Io error) = codes "input or output failed"
class Memory = codes "no memory"
class (Lower error) = codes "bad array"
