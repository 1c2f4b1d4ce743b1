use Rattle.std.proofs.Common.{◌*◌, ◌+◌, map}
use Rattle.std.specs.List.{AllByRecursion}
use Rattle.lower_arrays.specs.AnyLayouts.{layout_of}
use Rattle.lower_arrays.specs.Layouts.{height, heights, layouts}
use Rattle.ipc_devices.specs.declared.fault.Fault.{Fault}
use Rattle.ipc_chunks.proofs.DictionaryLengths.{left_from}
use Rattle.ipc_chunks.specs.Lengths.{HasLengths, RefusesAnyLengths, dictionaries_in}
use Rattle.ipc_chunks.proofs.lengths.+lengths.Given as goal

abbrev pub decreases-check_lengths : goal.decreases-check_lengths
decreases-check_lengths l = 2 * heights (layouts (map layout_of l.columns.now))

abbrev pub decreases-check_column : goal.decreases-check_column
decreases-check_column l = 2 * height (layout_of l.column.now) + 1

-- The result for the dictionaries that are left is that for all.
abbrev pub invariant-check_lengths-loop-column : goal.invariant-check_lengths-loop-column
invariant-check_lengths-loop-column l =
    (AllByRecursion HasLengths (left_from l.columns l.column-index) → AllByRecursion HasLengths (dictionaries_in (layouts (map layout_of l.columns))))
    × ((e : Fault) → RefusesAnyLengths (left_from l.columns l.column-index) e → RefusesAnyLengths (dictionaries_in (layouts (map layout_of l.columns))) e)
