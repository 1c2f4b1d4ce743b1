use Rattle.std.proofs.Common.{sym, ap}
use Rattle.lower.specs.Physical.{logical}
use Rattle.lower_nulls.proofs.nested.new_null_array.Goals as goal

pub null_as-requires : goal.null_as-requires
null_as-requires c = ap logical (sym c.in_ok-storage.ensures)
