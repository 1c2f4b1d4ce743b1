use Rattle.std.proofs.Common.{map}
use Rattle.std.specs.List.{AllByRecursion}
use Rattle.lower_arrays.specs.AnyLayouts.{layout_of}
use Rattle.lower_arrays.specs.Layouts.{layouts}
use Rattle.ipc_chunks.specs.Lengths.{HasLengths, dictionaries_in}
use Rattle.ipc_chunks.proofs.DictionaryLengths.{left_from}
use Rattle.ipc_chunks.proofs.lengths.are_flat.Given as goal

-- The lengths of all dictionaries fit if those of the ones that are left do.
abbrev pub invariant-loop-array : goal.invariant-loop-array
invariant-loop-array l =
    AllByRecursion HasLengths (left_from l.arrays l.array-index) → AllByRecursion HasLengths (dictionaries_in (layouts (map layout_of l.arrays)))
