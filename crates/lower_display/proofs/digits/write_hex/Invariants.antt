use Rattle.std.proofs.Common.{◌≡◌, ℕ, List, ◌++◌, drop}
use Rattle.std.specs.Fmt.{HasWritten, IsPlainFormatter}
use Rattle.lower_display.specs.Digits.{hex_text}
use Rattle.lower_display.proofs.digits.write_hex.Given as goal

-- what is written so far, and the digits of the other bytes, are all digits
abbrev pub invariant-loop-byte : goal.invariant-loop-byte
invariant-loop-byte g l =
    IsPlainFormatter l.initial.f → (done : List ℕ) × HasWritten g.W.Write.write_str_gives l.initial.f done l.f
    × (done ++ hex_text (drop l.byte-index l.bytes) ≡ hex_text l.bytes)
