use Rattle.std.proofs.Common.{◌≡◌, ◌++◌, take}
use Rattle.lower_flat_arrays.specs.Validities.{part}
use Rattle.lower_compute.specs.Keyed.{value_places}
use Rattle.lower_compute.proofs.keys.append_places.Given as goal

abbrev pub invariant-loop-i : goal.invariant-loop-i
invariant-loop-i l = l.out.items ≡ l.initial.out.items ++ take l.i (part l.offset l.len (value_places l.start l.array))
