use Rattle.std.proofs.Common.{◌+◌, ◌*◌, Some}
use Rattle.ipc_model.specs.Schemas.{field_at, fields_from}
use Rattle.ipc_reference_schema.specs.PlainTypes.{fields_view}
use Rattle.ipc_reference_schema.specs.Sights.{Sees, reads_count, reads_other}
use Rattle.ipc_reference_schema.proofs.field.+fields.Given as goal

abbrev pub decreases-field_at : goal.decreases-field_at
decreases-field_at l = 4 * l.levels

abbrev pub decreases-type_of_field : goal.decreases-type_of_field
decreases-type_of_field l = 4 * l.levels + 3

abbrev pub decreases-first_field : goal.decreases-first_field
decreases-first_field l = 4 * l.levels + 2

abbrev pub decreases-some_fields : goal.decreases-some_fields
decreases-some_fields l = 4 * l.levels + 2

abbrev pub decreases-fields_from : goal.decreases-fields_from
decreases-fields_from l = 4 * l.levels + 1

-- the fields so far mean what was read of them
abbrev pub invariant-fields_from-loop-i : goal.invariant-fields_from-loop-i
invariant-fields_from-loop-i l =
    Sees (λ v. fields_view v.items) reads_other reads_count l.fn.left (Some l.fields)
    (fields_from (λ s. field_at l.levels s) l.tables 0 l.i)
