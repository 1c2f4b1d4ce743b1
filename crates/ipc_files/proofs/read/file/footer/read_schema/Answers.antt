use Rattle.ipc_schema.proofs.ReadFits.{table-fits}
use Rattle.ipc_files.proofs.read.file.footer.read_schema.Goals as goal

pub returns-clause-fits : goal.returns-clause-fits
returns-clause-fits c = table-fits _ _ c.in_ok-read.ensures.meaning
