-- How many field tables are opened when a schema is read: `deserialize_schema_counted` counts them.
-- There is one for each field at all levels.
-- (Arrow columnar format, "Schema message"; Schema.fbs. The bound is this project's own.)
use Rattle.std.specs.Prelude.{◌≡◌, ℕ, ◌≤◌, Some, length}
use Rattle.ipc_table_views.specs.Spot.{Spot}
use Rattle.ipc_model.specs.Batches.{Schema}
use Rattle.ipc_model.specs.Schemas.{fields_count, schema_at}

-- The visits of a schema that is read. A visit is one opening of a field's table: one for each
-- field at all levels, each time again for a table that is shared.
abbrev pub visits : Schema → ℕ
visits schema = fields_count schema.fields

-- A schema takes at most as many visits as its message has bytes.
abbrev pub VisitLaw : Type 0
VisitLaw = (t : Spot) (schema : Schema) → schema_at t ≡ Some schema → visits schema ≤ length t.message
