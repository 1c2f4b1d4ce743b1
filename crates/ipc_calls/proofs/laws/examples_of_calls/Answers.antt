use Rattle.ipc_calls.proofs.CallRows.{head_rows, pair_rows}
use Rattle.ipc_calls.proofs.laws.examples_of_calls.Goals as goal

pub returns-clause-heads : goal.returns-clause-heads
returns-clause-heads c = head_rows

pub returns-clause-pairs : goal.returns-clause-pairs
returns-clause-pairs c = pair_rows
