-- One more slot of an array that is visited.
use Rattle.std.proofs.Common.{arith, suc, ◌≡◌, ℕ, ◌+◌, ◌-◌, ◌<◌, ◌≤◌, [], ◌∷◌, sym, ap, ◌∙◌}
use Rattle.lower_arrays.specs.Slots.{Slot, slots_from}

-- the slot at i, and those after it
pub slot_step : (f : ℕ → Slot) (n i : ℕ) (s : Slot) → i < n → s ≡ f i → slots_from f i (n - i) ≡ s ∷ slots_from f (i + 1) (n - (i + 1))
slot_step f n i s h e =
    let count : n - i ≡ suc (n - (i + 1)) = omega (arith, h) in
    ap (slots_from f i) count ∙ ap (λ x. x ∷ slots_from f (i + 1) (n - (i + 1))) (sym e)

-- no slot is left
pub slots_end : (f : ℕ → Slot) (n i : ℕ) → n ≤ i → slots_from f i (n - i) ≡ []
slots_end f n i h = let none : n - i ≡ 0 = omega (arith, h) in ap (slots_from f i) none

-- all slots are left
pub slots_begin : (f : ℕ → Slot) (n : ℕ) → slots_from f 0 (n - 0) ≡ slots_from f 0 n
slots_begin f n = let all : n - 0 ≡ n = omega arith in ap (slots_from f 0) all

pub ruleset slot_steps = (slot_step, slots_end, slots_begin)
