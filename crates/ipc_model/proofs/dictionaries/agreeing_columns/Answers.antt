use Rattle.ipc_model.proofs.AgreeColumns.{column_agree_law}
use Rattle.ipc_model.proofs.AgreePlaces.{fields_agree_law}
use Rattle.ipc_model.proofs.dictionaries.agreeing_columns.Goals as goal

pub returns-clause-fields : goal.returns-clause-fields
returns-clause-fields c = fields_agree_law

pub returns-clause-columns : goal.returns-clause-columns
returns-clause-columns c = column_agree_law
