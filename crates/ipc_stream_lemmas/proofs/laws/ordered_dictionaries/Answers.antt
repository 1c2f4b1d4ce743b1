use Rattle.ipc_stream_lemmas.proofs.Ordering.{order_law}
use Rattle.ipc_stream_lemmas.proofs.laws.ordered_dictionaries.Goals as goal

pub returns : goal.returns
returns c = order_law
