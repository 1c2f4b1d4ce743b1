use Rattle.ipc_schema_write.proofs.FieldTables.{IsLeft}
use Rattle.ipc_schema_write.proofs.fields.+fields.Given as goal

abbrev pub invariant-serialize_fields-loop-i : goal.invariant-serialize_fields-loop-i
invariant-serialize_fields-loop-i l = IsLeft l.all.items l.fields l.ipc_fields l.i
