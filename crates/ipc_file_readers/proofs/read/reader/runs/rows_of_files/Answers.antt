use Rattle.ipc_file_readers.proofs.Rows.{rows_law}
use Rattle.ipc_file_readers.proofs.read.reader.runs.rows_of_files.Goals as goal

pub returns : goal.returns
returns g c = λ rs ds cs gs k holds calls mean are long p j at.
    rows_law g.R.Failures.device g.met.R.Seeks.known_still c.args.reader.now rs ds cs gs k holds calls mean are long p j at
