use Rattle.ipc_model.proofs.Followed.{record_follow_law}
use Rattle.ipc_model.proofs.batches.followed_batches.Goals as goal

pub returns : goal.returns
returns c = record_follow_law
