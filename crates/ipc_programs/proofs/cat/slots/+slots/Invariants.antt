use Rattle.std.proofs.Common.{◌*◌, ◌+◌, map}
use Rattle.lower_arrays.specs.AnyLayouts.{layout_of}
use Rattle.lower_arrays.specs.Layouts.{layouts, height, heights}
use Rattle.ipc_programs.specs.Printing.{Prints}
use Rattle.ipc_programs.proofs.cat.slots.+slots.Given as goal

abbrev pub decreases-put_slot : goal.decreases-put_slot
decreases-put_slot g l = 4 * height (layout_of l.array.now) + 3

abbrev pub decreases-put_nested : goal.decreases-put_nested
decreases-put_nested g l = 4 * heights (layouts (map layout_of l.children.now)) + 2

abbrev pub decreases-put_list : goal.decreases-put_list
decreases-put_list g l = 4 * height (layout_of l.child.now) + 4

abbrev pub decreases-put_record : goal.decreases-put_record
decreases-put_record g l = 4 * heights (layouts (map layout_of l.children.now)) + 1

abbrev pub invariant-put_list-loop-index : goal.invariant-put_list-loop-index
invariant-put_list-loop-index g l = Prints g.W.Failures.device l.fn.printer l.printer

abbrev pub invariant-put_record-loop-index : goal.invariant-put_record-loop-index
invariant-put_record-loop-index g l = Prints g.W.Failures.device l.fn.printer l.printer
