use Rattle.ipc_reference.proofs.Records.{record_law}
use Rattle.ipc_reference.proofs.record.slots_of_records.Goals as goal

pub returns : goal.returns
returns c = record_law
