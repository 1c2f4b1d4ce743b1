use Rattle.std.proofs.Common.{IsTrue, ◌↔◌}
use Rattle.lower_flat_arrays.specs.Spans.{AreCut}
use Rattle.lower_flat_arrays.proofs.texts.are_cut.Given as goal

abbrev pub invariant-loop-index : goal.invariant-loop-index
invariant-loop-index g l = IsTrue l.are_cut ↔ AreCut l.offsets l.bytes l.index
