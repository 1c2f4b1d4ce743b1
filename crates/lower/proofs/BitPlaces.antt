-- The bits of a part of some bytes, by their indices in all of them.
use Rattle.std.proofs.Common.{arith, zero, suc, refl, lit<, ◌≡◌, ℕ, ◌+◌, ◌*◌, ◌/◌, ◌%◌, ◌≤◌, ◌<◌, List, ◌∷◌, take, drop, map, get_or, nat_eq, sym, ◌∙◌, ap, ap₂}
use Rattle.std.specs.List.{range_with_len}
use Rattle.std.specs.Int.{bit_at}
use Rattle.std.proofs.Math.Nat.{mul-add-div, mul-add-mod_self_left, div-add-mod}
use Rattle.std.proofs.lemmas.Nat.{div_below}
use Rattle.std.proofs.lemmas.List.{get_or-take, get_or-drop}
use Rattle.lower.specs.Bits.{has_bit}

-- two functions that agree along two ranges
pub same_along : {X : Type 0} (f g : ℕ → X) (a b n : ℕ) → ((k : ℕ) → k < n → f (a + k) ≡ g (b + k)) → map f (range_with_len a n) ≡ map g (range_with_len b n)
same_along f g a b zero h = refl
same_along {X = X} f g a b (suc n) h =
    let first : f a ≡ g b = ap f (omega arith) ∙ h 0 (omega arith) ∙ ap g (omega arith) in
    let rest = same_along f g (a + 1) (b + 1) n (λ k below. ap f (omega arith) ∙ h (suc k) (omega arith) ∙ ap g (omega arith)) in
    ap₂ (λ x xs. x ∷ xs) first rest

-- bit k of the n bytes from byte `from` on
pub has_bit-part : (bytes : List ℕ) (from n k : ℕ) → k < 8 * n → has_bit (take n (drop from bytes)) k ≡ has_bit bytes (8 * from + k)
has_bit-part bytes from n k h =
    let place : (8 * from + k) / 8 ≡ from + k / 8 = mul-add-div (lit< tt) from k in
    let bit : (8 * from + k) % 8 ≡ k % 8 = mul-add-mod_self_left 8 from k in
    let below : k / 8 < n = div_below k 8 n (lit< tt) (omega (arith, h)) in
    let byte : get_or (take n (drop from bytes)) (k / 8) 0 ≡ get_or bytes ((8 * from + k) / 8) 0 =
    get_or-take n (drop from bytes) (k / 8) 0 below ∙ get_or-drop from bytes (k / 8) 0 ∙ ap (λ j. get_or bytes j 0) (sym place)
    in
    ap₂ (λ b i. nat_eq (bit_at b i) 1) byte (sym bit)

-- The bits of the bytes from the one with the first bit on.
pub bits_of_part : (bytes : List ℕ) (offset len n : ℕ) → offset % 8 + len ≤ 8 * n
    → map (has_bit (take n (drop (offset / 8) bytes))) (range_with_len (offset % 8) len) ≡ map (has_bit bytes) (range_with_len offset len)
bits_of_part bytes offset len n h =
    same_along _ _ (offset % 8) offset len (λ k below.
    has_bit-part bytes (offset / 8) n (offset % 8 + k) (omega (arith, h, below))
    ∙ ap (has_bit bytes) (let whole : 8 * (offset / 8) + offset % 8 ≡ offset = div-add-mod offset 8 in omega (arith, whole)))
