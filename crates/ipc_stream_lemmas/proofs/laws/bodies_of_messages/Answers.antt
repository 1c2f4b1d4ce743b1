use Rattle.ipc_stream_lemmas.proofs.Bodies.{values_law, columns_law}
use Rattle.ipc_stream_lemmas.proofs.laws.bodies_of_messages.Goals as goal

pub returns-clause-values : goal.returns-clause-values
returns-clause-values c = values_law

pub returns-clause-columns : goal.returns-clause-columns
returns-clause-columns c = columns_law
