use Rattle.std.proofs.Common.{◌≡◌, ℕ, List, ◌++◌, ◌-◌}
use Rattle.std.specs.Fmt.{HasWritten, IsPlainFormatter}
use Rattle.lower_display.specs.Digits.{last_digits}
use Rattle.lower_display.proofs.digits.write_last_digits.Given as goal

-- what is written so far, and the digits that are left, are all digits
abbrev pub invariant-loop-index : goal.invariant-loop-index
invariant-loop-index g l =
    IsPlainFormatter l.initial.f → (done : List ℕ) × HasWritten g.W.Write.write_str_gives l.initial.f done l.f
    × (done ++ last_digits (l.count - l.index) l.number ≡ last_digits l.count l.number)
