-- What the public calls that read schemas do, in one record for each call. What they return is
-- `GivesMessage`.
-- (Arrow columnar format, "Schema message".)
use Rattle.std.specs.Prelude.{◌≡◌, ℕ, ◌+◌, List, length, Result, IfOk, IfErr}
use Rattle.lower.specs.TypeViews.{fields_view}
use Rattle.lower.specs.declared.datatypes.schema.Schema.{Schema}
use Rattle.ipc_base.specs.declared.ipc.IpcSchema.{IpcSchema}
use Rattle.ipc_devices.specs.declared.fault.Fault.{Fault}
use Rattle.ipc_model.specs.Schemas.{fields_count}
use Rattle.ipc_schema.specs.Reading.{CountsRefused, IsWithin, message_vector}

-- `deserialize_schema_counted`: the count of field tables that it opened rose from `old` to `new`.
pub record CountsVisits (message : List ℕ) (old : ℕ) (r : Result (Schema × IpcSchema) Fault) (new : ℕ) : Type 0 where
  -- If it is Ok, by the number of fields at all levels.
  pub counted : IfOk r (λ s. new ≡ old + fields_count (fields_view s.0.fields.items))
  -- By at most the number of bytes of the message.
  pub within : IsWithin old new (old + length message)
  -- If the error is due to one of the fields, by at least one.
  pub refused : IfErr r (λ e. CountsRefused e (message_vector message) old new)
