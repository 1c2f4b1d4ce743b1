use Rattle.std.proofs.Common.{◌*◌, ◌+◌}
use Rattle.cases_notation.proofs.types.+types.Given as goal

abbrev pub decreases-data_type : goal.decreases-data_type
decreases-data_type l = 4 * l.levels

abbrev pub decreases-field : goal.decreases-field
decreases-field l = 4 * l.levels + 1

abbrev pub decreases-fields : goal.decreases-fields
decreases-fields l = 4 * l.levels + 2

abbrev pub decreases-formed_type : goal.decreases-formed_type
decreases-formed_type l = 4 * l.levels + 3
