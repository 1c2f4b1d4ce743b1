use Rattle.ipc_model.proofs.Written.{written_record}
use Rattle.ipc_model.proofs.streams.written_records.Goals as goal

pub returns : goal.returns
returns c = written_record
