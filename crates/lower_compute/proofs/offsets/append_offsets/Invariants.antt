use Rattle.std.proofs.Common.{◌≡◌, ℕ, List, ◌+◌, ◌++◌, take}
use Rattle.std.specs.Prelude.{slice_index}
use Rattle.lower_flat_arrays.specs.Validities.{part}
use Rattle.lower_builders.specs.Growing.{offsets_by_lengths}
use Rattle.lower_compute.specs.Runs.{widths}
use Rattle.lower_compute.proofs.offsets.append_offsets.Given as goal

abbrev pub invariant-loop-i : goal.invariant-loop-i
invariant-loop-i g l =
    (l.last ≡ slice_index l.from (l.offset + l.i))
    × ((ns : List ℕ) → l.initial.all ≡ offsets_by_lengths ns → l.all ≡ offsets_by_lengths (ns ++ take l.i (part l.offset l.len (widths l.from))))
