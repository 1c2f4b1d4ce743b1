use Rattle.ipc_examples.proofs.WritableRows.{nested_type_rows, writable_schema_rows}
use Rattle.ipc_examples.proofs.edges.writable_schemas.Goals as goal

pub returns-clause-nested : goal.returns-clause-nested
returns-clause-nested c = nested_type_rows

pub returns-clause-schemas : goal.returns-clause-schemas
returns-clause-schemas c = writable_schema_rows
