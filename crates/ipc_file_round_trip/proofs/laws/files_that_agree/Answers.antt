use Rattle.ipc_file_round_trip.proofs.Agreeing.{agreeing_answers, agreeing_chunks, agreeing_files}
use Rattle.ipc_file_round_trip.proofs.laws.files_that_agree.Goals as goal

pub returns-clause-chunks : goal.returns-clause-chunks
returns-clause-chunks c = agreeing_chunks

pub returns-clause-answers : goal.returns-clause-answers
returns-clause-answers c = agreeing_answers

pub returns-clause-files : goal.returns-clause-files
returns-clause-files c = agreeing_files
