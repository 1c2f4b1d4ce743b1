use Rattle.ipc_encode.proofs.Clones.{layouts_of_clones}
use Rattle.ipc_encode.proofs.common.clone_columns.Goals as goal

pub returns-in_ok-clone-in-Owned-clause-same : goal.returns-in_ok-clone-in-Owned-clause-same
returns-in_ok-clone-in-Owned-clause-same c = rw c.in-Owned.is (layouts_of_clones _ _ c.in_ok-clone-in-Owned.ensures.clones)
