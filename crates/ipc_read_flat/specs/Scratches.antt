-- How long scratch memory gets.
use Rattle.std.specs.Prelude.{ℕ, ◌≤◌, max, List, length}

-- After a call, scratch memory has at most 65,536 bytes, or at most as many as before.
abbrev pub KeepsScratch : (before after : List ℕ) → Type 0
KeepsScratch before after = length after ≤ max 65536 (length before)
