use Rattle.ipc_file_lemmas.proofs.Appending.{go_on_law, inside_law, stay_law}
use Rattle.ipc_file_lemmas.proofs.laws.files_that_go_on.Goals as goal

pub returns-clause-inside : goal.returns-clause-inside
returns-clause-inside c = inside_law

pub returns-clause-stays : goal.returns-clause-stays
returns-clause-stays c = stay_law

pub returns-clause-goes_on : goal.returns-clause-goes_on
returns-clause-goes_on c = go_on_law
