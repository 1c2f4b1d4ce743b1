use Rattle.std.proofs.Common.{take}
use Rattle.std.specs.List.{All}
use Rattle.lower_validation.proofs.ChildSteps.{TypedBelow}
use Rattle.lower_validation.proofs.children.have_types.Given as goal

abbrev pub invariant-loop-i : goal.invariant-loop-i
invariant-loop-i g l = record {
  types : TypedBelow g.C.Child.child_type l.fields l.children l.i;
  valid : All g.C.Child.is_child (take l.i l.children);
}
