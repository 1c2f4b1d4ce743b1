use Rattle.std.proofs.Common.{◌*◌, ◌+◌}
use Rattle.cases_notation.proofs.calls.views.+fields.Given as goal

abbrev pub decreases-put_field : goal.decreases-put_field
decreases-put_field l = 2 * l.levels

abbrev pub decreases-put_fields : goal.decreases-put_fields
decreases-put_fields l = 2 * l.levels + 1
