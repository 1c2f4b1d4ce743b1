use Rattle.std.proofs.Common.{◌≡◌, ◌+◌, drop, map}
use Rattle.ipc_tables.specs.Weights.{field_weight, total}
use Rattle.ipc_schema_write.proofs.weights.+weights.Given as goal

abbrev pub invariant-weigh_fields-loop-field : goal.invariant-weigh_fields-loop-field
invariant-weigh_fields-loop-field l = l.sum + total (map field_weight (drop l.field-index l.fields)) ≡ total (map field_weight l.fields)
