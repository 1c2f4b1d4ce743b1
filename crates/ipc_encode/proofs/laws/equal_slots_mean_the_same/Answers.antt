use Rattle.ipc_encode.proofs.Appended.{same_meaning_law}
use Rattle.ipc_encode.proofs.laws.equal_slots_mean_the_same.Goals as goal

pub returns : goal.returns
returns c = same_meaning_law
