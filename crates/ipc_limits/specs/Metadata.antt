-- The result of reading the schema message of a stream within a limit on its cost.
-- (Arrow columnar format, "Schema message". The limit is this project's own.)
use Rattle.std.specs.Prelude.{ℕ, ◌<◌, ◌≤◌, List, length, Result, Ok, Err}
use Rattle.ipc_devices.specs.Faults.{OwnFault}
use Rattle.ipc_devices.specs.Gives.{AnswerStop, Gives, GaveTo}
use Rattle.ipc_devices.specs.declared.fault.Fault.{Fault}
use Rattle.ipc_devices.specs.declared.fault.Fault.TheVariants.{Argument}
use Rattle.ipc_devices.specs.declared.fault.ArgFault.TheVariants.{TooLarge}
use Rattle.ipc_model.specs.Frame.{Frame, message, frame}
use Rattle.ipc_readers.specs.declared.read.stream.metadata.StreamMetadata.{StreamMetadata}
use Rattle.ipc_readers.specs.Frames.{due}
use Rattle.ipc_readers.specs.Metadata.{GivesMetadata}
use Rattle.ipc_costs.specs.Costs.{schema_cost}

-- `TooLarge` is returned exactly for a whole message whose schema costs more than the limit.
abbrev pub JudgesCost : ℕ → Frame → Result StreamMetadata Fault → Type 0
JudgesCost limit (message m behind) (Ok x) = schema_cost m ≤ limit
JudgesCost limit (message m behind) (Err (Argument TooLarge)) = limit < schema_cost m
JudgesCost limit (message m behind) (Err e) = OwnFault e (schema_cost m ≤ limit)
JudgesCost limit _ (Err (Argument TooLarge)) = ⊥
JudgesCost limit _ r = Unit {0}

-- Any other result is that of reading without a limit.
abbrev pub AsUnlimited : (xs : List ℕ) → Frame → Result StreamMetadata Fault → (rest : List ℕ) → Type 0
AsUnlimited xs f (Err (Argument TooLarge)) rest = Unit {0}
AsUnlimited xs f r rest = GivesMetadata xs f r rest

-- Of any device at most one frame was read, and exactly that if the result is Ok or `TooLarge`.
abbrev pub MetadataGaveWithin : {S : Type 0} → Gives S → ℕ → S → Result StreamMetadata Fault → S → Type 0
MetadataGaveWithin gives limit a r b = GaveTo gives (AnswerStop r) (λ xs. length xs ≤ due xs)
    (λ all rest. JudgesCost limit (frame all) r × AsUnlimited all (frame all) r rest) a b
