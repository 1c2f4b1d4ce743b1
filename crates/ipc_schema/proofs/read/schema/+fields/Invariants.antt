use Rattle.std.proofs.Common.{◌≡◌, ◌+◌, ◌*◌, ◌≤◌, Some}
use Rattle.lower.specs.TypeViews.{fields_view}
use Rattle.ipc_base.specs.IdTrees.{all_ids_view}
use Rattle.ipc_model.specs.Schemas.{field_at, fields_count, fields_from}
use Rattle.ipc_schema.proofs.read.schema.+fields.Given as goal

abbrev pub decreases-deserialize_field : goal.decreases-deserialize_field
decreases-deserialize_field l = 4 * l.levels

abbrev pub decreases-deserialize_type : goal.decreases-deserialize_type
decreases-deserialize_type l = 4 * l.levels + 3

abbrev pub decreases-deserialize_child : goal.decreases-deserialize_child
decreases-deserialize_child l = 4 * l.levels + 2

abbrev pub decreases-deserialize_children : goal.decreases-deserialize_children
decreases-deserialize_children l = 4 * l.levels + 2

abbrev pub decreases-deserialize_fields : goal.decreases-deserialize_fields
decreases-deserialize_fields l = 4 * l.levels + 1

abbrev pub invariant-deserialize_fields-loop-i : goal.invariant-deserialize_fields-loop-i
invariant-deserialize_fields-loop-i l =
    (fields_from (λ s. field_at l.levels s) l.tables 0 l.i ≡ Some (fields_view l.fields.items, all_ids_view l.ipc_fields.items))
    × (l.visits ≡ l.initial.visits + fields_count (fields_view l.fields.items)) × (l.visits ≤ l.most)
