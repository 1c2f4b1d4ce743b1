use Rattle.std.proofs.Common.{◌≡◌, ◌↔◌, ◌-◌, pos, get_or, IsTrue}
use Rattle.lower.specs.Offsets.{NeverFalls}
use Rattle.lower.proofs.offset.never_falls_i64.Given as goal

abbrev pub invariant-loop-number : goal.invariant-loop-number
invariant-loop-number l =
    (IsTrue l.is_rising ↔ NeverFalls l.numbers l.number-index)
    × (l.last ≡ get_or l.numbers (l.number-index - 1) (pos 0))
