use Rattle.std.proofs.Common.{◌*◌, ◌+◌}
use Rattle.cases_arrays.proofs.slots.+slots.Given as goal

abbrev pub decreases-put_slot : goal.decreases-put_slot
decreases-put_slot l = 4 * l.levels

abbrev pub decreases-put_range : goal.decreases-put_range
decreases-put_range l = 4 * l.levels + 1

abbrev pub decreases-put_record : goal.decreases-put_record
decreases-put_record l = 4 * l.levels + 1

abbrev pub decreases-put_nested : goal.decreases-put_nested
decreases-put_nested l = 4 * l.levels + 2
