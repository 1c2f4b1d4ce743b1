use Rattle.std.proofs.Common.{◌*◌, ◌+◌}
use Rattle.cases_arrays.proofs.schemas.+ids.Given as goal

abbrev pub decreases-id_tree : goal.decreases-id_tree
decreases-id_tree l = 2 * l.levels

abbrev pub decreases-id_trees : goal.decreases-id_trees
decreases-id_trees l = 2 * l.levels + 1
