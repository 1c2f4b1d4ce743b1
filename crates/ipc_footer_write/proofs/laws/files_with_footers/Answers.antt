use Rattle.ipc_footer_write.proofs.FileTails.{law}
use Rattle.ipc_footer_write.proofs.laws.files_with_footers.Goals as goal

pub returns : goal.returns
returns c = law
