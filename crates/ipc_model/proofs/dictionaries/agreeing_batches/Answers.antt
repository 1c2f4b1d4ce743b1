use Rattle.ipc_model.proofs.AgreeBatches.{batch_agree_law, record_agree_law, dictionary_agree_law}
use Rattle.ipc_model.proofs.dictionaries.agreeing_batches.Goals as goal

pub returns-clause-entries : goal.returns-clause-entries
returns-clause-entries c = batch_agree_law

pub returns-clause-records : goal.returns-clause-records
returns-clause-records c = record_agree_law

pub returns-clause-dictionaries : goal.returns-clause-dictionaries
returns-clause-dictionaries c = dictionary_agree_law
