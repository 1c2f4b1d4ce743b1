use Rattle.std.proofs.Common.{◌≡◌, List, ℕ, map}
use Rattle.std.specs.Borrow.{Bor}
use Rattle.std.specs.Str.Parse.{digits_value}
use Rattle.ipc_programs.proofs.cat.chosen.positions_in.Given as goal

-- the numbers of the pieces so far
abbrev pub invariant-loop-position : goal.invariant-loop-position
invariant-loop-position l = l.positions.items ≡ map (λ (piece : Bor (List ℕ)). digits_value 10 piece.now) l.yielded
