-- Lists of neighbouring bits.
use Rattle.std.proofs.Common.{arith, zero, suc, refl, ◌≡◌, ℕ, ◌+◌, ◌-◌, ◌≤◌, ◌<◌, length, take, drop, map, get_or, ◌∙◌, ap}
use Rattle.std.specs.List.{range_with_len}
use Rattle.std.proofs.lemmas.Nat.Bits.{shr_and_one}
use Rattle.std.proofs.lemmas.List.FromFn.{length-map-range_with_len, get_or-map-range_with_len, take-map-range_with_len}

pub many : {X : Type 0} (f : ℕ → X) (a n : ℕ) → length (map f (range_with_len a n)) ≡ n
many f a n = length-map-range_with_len f a n

pub each : {X : Type 0} (f : ℕ → X) (a n i : ℕ) (d : X) → i < n → get_or (map f (range_with_len a n)) i d ≡ f (a + i)
each f a n i d h = get_or-map-range_with_len f a n i (a + i) d h refl

later : {X : Type 0} (f : ℕ → X) (a o n : ℕ) → drop o (map f (range_with_len a (o + n))) ≡ map f (range_with_len (a + o) n)
later f a zero n =
    let e : a ≡ a + 0 = omega arith in
    let k : 0 + n ≡ n = omega arith in
    ap (λ m. map f (range_with_len a m)) k ∙ ap (λ b. map f (range_with_len b n)) e
later f a (suc o) n =
    let k : suc o + n ≡ suc (o + n) = omega arith in
    let e : a + 1 + o ≡ a + suc o = omega arith in
    ap (λ m. drop (suc o) (map f (range_with_len a m))) k ∙ later f (a + 1) o n ∙ ap (λ b. map f (range_with_len b n)) e

pub part : {X : Type 0} (f : ℕ → X) (a o n m : ℕ) → o + n ≤ m → take n (drop o (map f (range_with_len a m))) ≡ map f (range_with_len (a + o) n)
part f a o n m h =
    let e : m ≡ o + (m - o) = omega (arith, h) in
    ap (λ k. take n (drop o (map f (range_with_len a k)))) e
    ∙ ap (λ l. take n l) (later f a o (m - o))
    ∙ take-map-range_with_len f (a + o) (m - o) n (omega (arith, h))

pub ruleset bit_lists = (many, each, part, shr_and_one)
