use Rattle.std.proofs.Common.{◌≡◌, ◌-◌, ◌≤◌, not}
use Rattle.std.specs.List.{count_by}
use Rattle.lower_flat_arrays.specs.Validities.{part}
use Rattle.lower_flat_arrays.proofs.validity.unset_between.Given as goal

abbrev pub invariant-loop-i : goal.invariant-loop-i
invariant-loop-i l = (l.count ≡ count_by (λ bit. not bit) (part l.from (l.i - l.from) l.bits)) × (l.count ≤ l.i - l.from) × (l.from ≤ l.i)
