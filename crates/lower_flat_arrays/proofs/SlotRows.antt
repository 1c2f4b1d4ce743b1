-- Slots one by one and as a list.
use Rattle.std.proofs.Common.{arith, ◌≡◌, ℕ, zero, suc, ◌+◌, ◌<◌, ◌∷◌, length, get_or, pos, refl, sym, ap, ◌∙◌}
use Rattle.std.proofs.lemmas.List.{get_or-map}
use Rattle.lower_types.specs.NumberTypes.{Number, whole}
use Rattle.lower_flat_arrays.specs.Validities.{is_valid}
use Rattle.lower_flat_arrays.specs.Primitives.{PrimitiveSeen}
use Rattle.lower_flat_arrays.specs.Columns.{Slot, null_slot, number_slot, slots_from, slot_where, number_at}

pub slots_from-same : (f g : ℕ → Slot) (n : ℕ) → ((i : ℕ) → i < n → f i ≡ g i) → slots_from f 0 n ≡ slots_from g 0 n
slots_from-same f g n h = along 0 n (λ i lt. h i (omega (arith, lt)))
  where
    along : (a n : ℕ) → ((i : ℕ) → i < a + n → f i ≡ g i) → slots_from f a n ≡ slots_from g a n
    along a zero k = refl
    along a (suc n) k =
        let here : f a ≡ g a = k a (omega arith) in
        let rest : slots_from f (a + 1) n ≡ slots_from g (a + 1) n = along (a + 1) n (λ i lt. k i (omega (arith, lt))) in
        λ x. here x ∷ rest x

length-slots_from : (f : ℕ → Slot) (a n : ℕ) → length (slots_from f a n) ≡ n
length-slots_from f a zero = refl
length-slots_from f a (suc n) = ap suc (length-slots_from f (a + 1) n)

get_or-slots_from : (f : ℕ → Slot) (a n i : ℕ) → i < n → get_or (slots_from f a n) i null_slot ≡ f (a + i)
get_or-slots_from f a zero i h = let no : ⊥ = omega arith in absurd no
get_or-slots_from f a (suc n) zero h = let e : a ≡ a + 0 = omega arith in ap f e
get_or-slots_from f a (suc n) (suc i) h =
    let e : a + 1 + i ≡ a + suc i = omega arith in
    get_or-slots_from f (a + 1) n i (omega arith) ∙ ap f e

-- columns with the same slots have as many
pub same_count : (f g : ℕ → Slot) (n m : ℕ) → slots_from f 0 n ≡ slots_from g 0 m → n ≡ m
same_count f g n m e = sym (length-slots_from f 0 n) ∙ ap length e ∙ length-slots_from g 0 m

-- And the same at each index.
pub same_place : (f g : ℕ → Slot) (n m i : ℕ) → i < n → i < m → slots_from f 0 n ≡ slots_from g 0 m → f i ≡ g i
same_place f g n m i h k e =
    let o : i ≡ 0 + i = omega arith in
    ap f o ∙ sym (get_or-slots_from f 0 n i h) ∙ ap (λ s. get_or s i null_slot) e ∙ get_or-slots_from g 0 m i k ∙ ap g (sym o)

-- the slot of an array of numbers
pub number_slot_at :
    {T : Type 0} (f : T → Number) (a : PrimitiveSeen T) (i : ℕ) (x : T) → i < length a.values
    → number_at f a i ≡ slot_where (is_valid a.validity i) (number_slot (f (get_or a.values i x)))
number_slot_at f a i x h = ap (λ n. slot_where (is_valid a.validity i) (number_slot n)) (get_or-map f a.values i x (whole (pos 0)) h)
