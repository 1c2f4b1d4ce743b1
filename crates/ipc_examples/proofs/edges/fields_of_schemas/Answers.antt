use Rattle.ipc_examples.proofs.SchemaRows.{child_rows, field_rows}
use Rattle.ipc_examples.proofs.edges.fields_of_schemas.Goals as goal

pub returns-clause-children : goal.returns-clause-children
returns-clause-children c = child_rows

pub returns-clause-fields : goal.returns-clause-fields
returns-clause-fields c = field_rows
