use Rattle.std.proofs.Common.{◌*◌, ◌+◌}
use Rattle.cases_notation.proofs.tables.+tables.Given as goal

abbrev pub decreases-children : goal.decreases-children
decreases-children l = 3 * l.levels

abbrev pub decreases-field : goal.decreases-field
decreases-field l = 3 * l.levels + 1

abbrev pub decreases-fields : goal.decreases-fields
decreases-fields l = 3 * l.levels + 2
