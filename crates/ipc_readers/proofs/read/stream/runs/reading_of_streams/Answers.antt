use Rattle.ipc_readers.proofs.Runs.{read_law}
use Rattle.ipc_readers.proofs.read.stream.runs.reading_of_streams.Goals as goal

pub returns : goal.returns
returns g c = λ rs s cs e k going at sound means calls.
    read_law g.R.Reads.gives g.R.Failures.device c.args.reader.now rs s cs e k going at sound means calls
