use Rattle.lower_arrays.specs.AnyLayouts.{layout_of}
use Rattle.lower_arrays.specs.Layouts.{height}
use Rattle.ipc_chunks.proofs.lengths.+below.Given as goal

abbrev pub decreases-below : goal.decreases-below
decreases-below l = height (layout_of l.array.now)
