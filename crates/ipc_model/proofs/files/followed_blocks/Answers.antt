use Rattle.ipc_model.proofs.FileFollowing.{blocks_follow_law}
use Rattle.ipc_model.proofs.files.followed_blocks.Goals as goal

pub returns : goal.returns
returns c = blocks_follow_law
