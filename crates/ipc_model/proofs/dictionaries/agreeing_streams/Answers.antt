use Rattle.ipc_model.proofs.AgreeBatches.{item_agree_law, stream_agree_law}
use Rattle.ipc_model.proofs.dictionaries.agreeing_streams.Goals as goal

pub returns-clause-front : goal.returns-clause-front
returns-clause-front c = item_agree_law

pub returns-clause-all : goal.returns-clause-all
returns-clause-all c = stream_agree_law
