use Rattle.std.proofs.Common.{◌≡◌}
use Rattle.lower.proofs.SameNormal.{same_left}
use Rattle.lower.proofs.datatypes.same_normal.+same_normal.Given as goal

abbrev pub invariant-has_same_fields-loop-i : goal.invariant-has_same_fields-loop-i
invariant-has_same_fields-loop-i l = same_left l.fields.items l.others.items 0 ≡ same_left l.fields.items l.others.items l.i
