-- Reads one after another.
use Rattle.std.proofs.Common.{◌≡◌, ℕ, ◌+◌, ◌-◌, ◌≤◌, List, [], ◌++◌, length, take, arith, append-nil, length-append, subst}
use Rattle.std.proofs.lemmas.List.{length-take-le}
use Rattle.ipc_devices.specs.Gives.{Stop, going, Gives, GivesInOrder}

-- a call that gave nothing adds nothing
pub nothing_more : {S : Type 0} (gives : Gives S) → GivesInOrder gives → (a : S) (xs : List ℕ) (b : S) (e : Stop) (c : S)
    → gives a xs going b → gives b [] e c → gives a xs e c
nothing_more gives law a xs b e c p q = subst (λ l. gives a l e c) (append-nil xs) (law a xs b [] e c p q)

pub taken_more : (xs buf : List ℕ) (n left count : ℕ) → n ≤ length buf → n ≤ left → length xs + left ≡ count
    → length (xs ++ take n buf) + (left - n) ≡ count
taken_more xs buf n left count h k e = omega (arith, length-append xs (take n buf), length-take-le n buf h, e)
