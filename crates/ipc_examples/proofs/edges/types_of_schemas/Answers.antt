use Rattle.ipc_examples.proofs.SchemaRows.{integer_rows, plain_rows, size_rows, time_rows}
use Rattle.ipc_examples.proofs.edges.types_of_schemas.Goals as goal

pub returns-clause-integers : goal.returns-clause-integers
returns-clause-integers c = integer_rows

pub returns-clause-plain : goal.returns-clause-plain
returns-clause-plain c = plain_rows

pub returns-clause-times : goal.returns-clause-times
returns-clause-times c = time_rows

pub returns-clause-sizes : goal.returns-clause-sizes
returns-clause-sizes c = size_rows
