use Rattle.ipc_model.proofs.AgreeBatches.{block_agree_law, dictionary_block_agree_law}
use Rattle.ipc_model.proofs.dictionaries.agreeing_blocks.Goals as goal

pub returns-clause-records : goal.returns-clause-records
returns-clause-records c = block_agree_law

pub returns-clause-dictionaries : goal.returns-clause-dictionaries
returns-clause-dictionaries c = dictionary_block_agree_law
