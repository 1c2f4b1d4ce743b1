use Rattle.ipc_examples.proofs.AcceptedRows.{accepted_rows}
use Rattle.ipc_examples.proofs.rows.accepted_chunks.Goals as goal

pub returns : goal.returns
returns c = accepted_rows
