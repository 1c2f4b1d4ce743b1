use Rattle.ipc_model.proofs.Followed.{dictionary_follow_law}
use Rattle.ipc_model.proofs.batches.followed_dictionaries.Goals as goal

pub returns : goal.returns
returns c = dictionary_follow_law
