use Rattle.std.proofs.Common.{◌*◌, ◌+◌}
use Rattle.cases_arrays.proofs.arrays.+arrays.Given as goal

abbrev pub decreases-whole_array : goal.decreases-whole_array
decreases-whole_array l = 4 * l.levels

abbrev pub decreases-array : goal.decreases-array
decreases-array l = 4 * l.levels + 1

abbrev pub decreases-arrays : goal.decreases-arrays
decreases-arrays l = 4 * l.levels + 2

abbrev pub decreases-child : goal.decreases-child
decreases-child l = 4 * l.levels + 2

abbrev pub decreases-children : goal.decreases-children
decreases-children l = 4 * l.levels + 3
