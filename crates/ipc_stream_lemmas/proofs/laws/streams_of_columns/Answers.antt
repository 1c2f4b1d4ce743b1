use Rattle.ipc_stream_lemmas.proofs.ColumnRuns.{column_run_law}
use Rattle.ipc_stream_lemmas.proofs.laws.streams_of_columns.Goals as goal

pub returns : goal.returns
returns c = column_run_law
