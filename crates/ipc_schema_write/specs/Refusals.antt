-- What refuses a call.
use Rattle.std.specs.Prelude.{◌<◌, Result, Ok, Err}
use Rattle.lower.specs.TypeTrees.{FieldTrees}
use Rattle.ipc_devices.specs.declared.fault.Fault.{Fault}
use Rattle.ipc_devices.specs.declared.fault.Fault.TheVariants.{Argument, Memory}
use Rattle.ipc_devices.specs.declared.fault.ArgFault.TheVariants.{NotWritable, TooLarge}
use Rattle.ipc_model.specs.Writable.{most_places}
use Rattle.ipc_schema_write.specs.DefaultIds.{count_all}

-- A refusal is one of allocation, or of a count that its number can't hold.
abbrev pub RefusesCount : {X : Type 0} → Result X Fault → Type 0 → Type 0
RefusesCount (Ok x) P = Unit {0}
RefusesCount (Err Memory) P = Unit {0}
RefusesCount (Err (Argument TooLarge)) P = P
RefusesCount (Err _) P = ⊥

-- A refusal is one of allocation, or of more dictionary fields than can be written.
abbrev pub RefusesMany : FieldTrees → Fault → Type 0
RefusesMany fs Memory = Unit {0}
RefusesMany fs (Argument NotWritable) = most_places < count_all fs
RefusesMany fs _ = ⊥
