use Rattle.std.proofs.Common.{take, map}
use Rattle.lower_validation.specs.Places.{AllAre}
use Rattle.lower_validation.proofs.children.have_len.Given as goal

abbrev pub invariant-loop-child : goal.invariant-loop-child
invariant-loop-child g l = AllAre l.len (map g.C.Child.child_len (take l.child-index l.children))
