-- Bytes in memory that are written at their end.
use Rattle.std.proofs.Common.{arith, ◌≡◌, ℕ, ◌-◌, List, ◌++◌, length, sym, ap, refl, ◌∙◌, append-nil}
use Rattle.std.specs.Prelude.{Vec, vec_len}
use Rattle.std.specs.declared.alloc.Global.{Global}
use Rattle.std.proofs.lemmas.List.{take_all}
use Rattle.ipc_devices.specs.Device.{Memory, WritesOver, before}

-- The bytes of a vector, as memory that is written to at its end.
abbrev pub vector : Vec ℕ Global → Memory
vector v = record { whole = v.items; place = vec_len v }

whole_before : (xs : List ℕ) (n : ℕ) → length xs ≡ n → before (record { whole = xs; place = n }) ≡ xs
whole_before xs n h = let none : n - length xs ≡ 0 = omega arith in rw (none, append-nil, take_all n xs (omega arith)) refl

vector_before : (v : Vec ℕ Global) → before (vector v) ≡ v.items
vector_before v = whole_before v.items v.len (omega (arith, v.ok))

-- What is written is at the end.
pub written_at_end : (v w : Vec ℕ Global) (xs : List ℕ) → WritesOver (vector v) (vector w) xs → w.items ≡ v.items ++ xs
written_at_end v w xs h = sym (vector_before w) ∙ h.added ∙ ap (λ ys. ys ++ xs) (vector_before v)
