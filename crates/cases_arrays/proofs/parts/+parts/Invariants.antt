use Rattle.std.proofs.Common.{◌*◌, ◌+◌}
use Rattle.cases_arrays.proofs.parts.+parts.Given as goal

abbrev pub decreases-put_parts : goal.decreases-put_parts
decreases-put_parts l = 2 * l.levels

abbrev pub decreases-put_child : goal.decreases-put_child
decreases-put_child l = 2 * l.levels + 1

abbrev pub decreases-put_children : goal.decreases-put_children
decreases-put_children l = 2 * l.levels + 1
