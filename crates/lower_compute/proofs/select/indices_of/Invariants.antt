use Rattle.std.proofs.Common.{◌≡◌, length, take}
use Rattle.std.specs.List.{filter, range_with_len}
use Rattle.lower_compute.specs.Selections.{is_true_at, true_indices}
use Rattle.lower_compute.proofs.select.indices_of.Given as goal

abbrev pub invariant-loop-index : goal.invariant-loop-index
invariant-loop-index l =
    (length l.indices.items ≡ length (true_indices l.mask))
    × (l.count ≡ length (filter (is_true_at l.mask) (range_with_len 0 l.index)))
    × (take l.count l.indices.items ≡ filter (is_true_at l.mask) (range_with_len 0 l.index))
