use Rattle.std.proofs.Common.{◌*◌, ◌+◌}
use Rattle.lower_arrays.specs.Layouts.{height}
use Rattle.lower_arrays.specs.AnyLayouts.{layout_of}
use Rattle.lower_arrays.proofs.value.+value.Given as goal

abbrev pub decreases-value_at : goal.decreases-value_at
decreases-value_at l = 2 * height (layout_of l.array.now) + 1

abbrev pub decreases-dictionary_value : goal.decreases-dictionary_value
decreases-dictionary_value l = 2 * height l.array.now.values + 2
