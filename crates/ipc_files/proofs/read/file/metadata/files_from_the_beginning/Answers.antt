use Rattle.ipc_files.proofs.Tails.{beginning_law}
use Rattle.ipc_files.proofs.read.file.metadata.files_from_the_beginning.Goals as goal

pub returns : goal.returns
returns c = beginning_law
