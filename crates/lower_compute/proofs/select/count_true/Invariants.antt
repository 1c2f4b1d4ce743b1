use Rattle.std.proofs.Common.{◌≡◌, length}
use Rattle.std.specs.List.{filter, range_with_len}
use Rattle.lower_compute.specs.Selections.{is_true_at}
use Rattle.lower_compute.proofs.select.count_true.Given as goal

abbrev pub invariant-loop-index : goal.invariant-loop-index
invariant-loop-index l = l.count ≡ length (filter (is_true_at l.mask) (range_with_len 0 l.index))
