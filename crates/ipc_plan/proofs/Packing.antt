-- Bits that are packed again.
use Rattle.std.proofs.Common.{arith, ◌≡◌, ℕ, zero, suc, ◌+◌, ◌-◌, ◌*◌, ◌/◌, ◌%◌, ◌^◌, ◌<◌, ◌≤◌, min, ◌==◌, Bool, false, inl, inr, lit<, List, [], ◌∷◌, ◌++◌, length, map, take, drop, get_or, refl, sym, ap, ap₂, ◌∙◌, subst}
use Rattle.std.specs.Prelude.{slice_index, slice_set}
use Rattle.std.specs.List.{range_with_len}
use Rattle.std.proofs.Math.Pow.{mod-mod-pow}
use Rattle.std.proofs.Math.Nat.{mul-add-div, mul-add-mod_self_left}
use Rattle.std.proofs.lemmas.Bool.{cases_lt}
use Rattle.std.proofs.lemmas.Nat.{div_below, field_of, mod_low, shr_high, shr-shr}
use Rattle.std.proofs.lemmas.List.{get_or-take, get_or-drop, length-drop, length-take-le}
use Rattle.std.proofs.lemmas.List.FromFn.{get_or-map-range_with_len, length-map-range_with_len}
use Rattle.lower.specs.Bits.{has_bit}
use Rattle.lower_flat_arrays.specs.Validities.{part}
use Rattle.lower_flat_arrays.proofs.Cuts.{get_or-part, length-part}
use Rattle.ipc_model.specs.Entries.{bytes_for, bit}
use Rattle.ipc_plan.specs.Levels.{AreBits}
use Rattle.std.proofs.lemmas.List.{take_more_set}
use Rattle.std.proofs.lemmas.List.FromFn.{map-range_with_len_more}
use Rattle.ipc_plan.specs.Pieces.{packed_byte, packed}

-- one byte more
pub next_byte : (f : ℕ → ℕ) (at k : ℕ) (to : List ℕ) (x : ℕ) → k < length to → x ≡ f (at + k) → take k to ≡ map f (range_with_len at k) → take (k + 1) (slice_set to k x) ≡ map f (range_with_len at (k + 1))
next_byte f at k to x h e i =
    take_more_set to k x h ∙ ap (λ xs. xs ++ x ∷ []) i ∙ ap (λ y. map f (range_with_len at k) ++ y ∷ []) e ∙ sym (map-range_with_len_more f at k (at + k) refl)

-- All bits of a byte are needed.
pub whole_byte : (xs : List ℕ) (s count k : ℕ) → 8 * k + 8 ≤ count → packed_byte xs s count k ≡ ((slice_index xs k + 256 * slice_index xs (k + 1)) / 2 ^ s) % 256
whole_byte xs s count k h = let e : min 8 (count - 8 * k) ≡ 8 = omega (arith, h) in ap (λ m. ((slice_index xs k + 256 * slice_index xs (k + 1)) / 2 ^ s) % 2 ^ m) e

-- a number's lowest bits
pub shorter_mask : (n m k : ℕ) → k ≤ m → n % 2 ^ m % 2 ^ k ≡ n % 2 ^ k
shorter_mask n m k h = let split : m ≡ (m - k) + k = omega arith in ap (λ i. n % 2 ^ i % 2 ^ k) split ∙ mod-mod-pow n (m - k) k

pub part_byte : (n c : ℕ) → n % 256 % 2 ^ min 8 c ≡ n % 2 ^ min 8 c
part_byte n c = shorter_mask n 8 (min 8 c) (omega arith)

-- two runs of a function's values
pub run_split : {X : Type 0} (f : ℕ → X) (a n m : ℕ) → map f (range_with_len a (n + m)) ≡ map f (range_with_len a n) ++ map f (range_with_len (a + n) m)
run_split f a zero m =
    let e : 0 + m ≡ m = omega arith in
    let d : a ≡ a + 0 = omega arith in
    ap (λ k. map f (range_with_len a k)) e ∙ ap (λ b. map f (range_with_len b m)) d
run_split f a (suc n) m =
    let e : suc n + m ≡ suc (n + m) = omega arith in
    let d : a + 1 + n ≡ a + suc n = omega arith in
    ap (λ k. map f (range_with_len a k)) e ∙ ap (λ xs. f a ∷ xs) (run_split f (a + 1) n m ∙ ap (λ b. map f (range_with_len (a + 1) n) ++ map f (range_with_len b m)) d)

-- ---- where a bit is

same_bit : (xs : List ℕ) (i : ℕ) → has_bit xs i ≡ bit xs i
same_bit xs i = refl

-- bit k of the n bytes from byte `from` on
bit_part : (xs : List ℕ) (from n k : ℕ) → k < 8 * n → bit (take n (drop from xs)) k ≡ bit xs (8 * from + k)
bit_part xs from n k h =
    let place : (8 * from + k) / 8 ≡ from + k / 8 = mul-add-div (lit< tt) from k in
    let here : (8 * from + k) % 8 ≡ k % 8 = mul-add-mod_self_left 8 from k in
    let below : k / 8 < n = div_below k 8 n (lit< tt) (omega (arith, h)) in
    let byte : get_or (take n (drop from xs)) (k / 8) 0 ≡ get_or xs ((8 * from + k) / 8) 0 =
    get_or-take n (drop from xs) (k / 8) 0 below ∙ get_or-drop from xs (k / 8) 0 ∙ ap (λ j. get_or xs j 0) (sym place) in
    ap₂ (λ b i. (b / 2 ^ i) % 2 == 1) byte (sym here)

bit_drop : (xs : List ℕ) (from k : ℕ) → bit (drop from xs) k ≡ bit xs (8 * from + k)
bit_drop xs from k =
    let place : (8 * from + k) / 8 ≡ from + k / 8 = mul-add-div (lit< tt) from k in
    let here : (8 * from + k) % 8 ≡ k % 8 = mul-add-mod_self_left 8 from k in
    let byte : get_or (drop from xs) (k / 8) 0 ≡ get_or xs ((8 * from + k) / 8) 0 = get_or-drop from xs (k / 8) 0 ∙ ap (λ j. get_or xs j 0) (sym place) in
    ap₂ (λ b i. (b / 2 ^ i) % 2 == 1) byte (sym here)

low_bit : (n m j : ℕ) → j < m → n % 2 ^ m / 2 ^ j % 2 ≡ n / 2 ^ j % 2
low_bit n m j h = sym (field_of (n % 2 ^ m) 1 j) ∙ ap (λ k. k / 2 ^ j) (shorter_mask n m (1 + j) (omega (arith, h))) ∙ field_of n 1 j

-- a bit that stays in the lower byte, and one that comes from the upper one
stays : (s j m lo hi : ℕ) → s + j < 8 → j < m → lo < 256 → ((lo + 256 * hi) / 2 ^ s) % 2 ^ m / 2 ^ j % 2 ≡ lo / 2 ^ (s + j) % 2
stays s j m lo hi h k small =
    let turned : lo + 256 * hi ≡ hi * 2 ^ 8 + lo = omega arith in
    let low : (lo + 256 * hi) % 256 ≡ lo = ap (λ n. n % 256) turned ∙ mod_low hi 8 lo small in
    low_bit ((lo + 256 * hi) / 2 ^ s) m j k ∙ ap (λ n. n % 2) (shr-shr (lo + 256 * hi) s j)
    ∙ sym (low_bit (lo + 256 * hi) 8 (s + j) h) ∙ ap (λ n. n / 2 ^ (s + j) % 2) low

comes : (s j t m lo hi : ℕ) → s + j ≡ 8 + t → j < m → lo < 256 → ((lo + 256 * hi) / 2 ^ s) % 2 ^ m / 2 ^ j % 2 ≡ hi / 2 ^ t % 2
comes s j t m lo hi h k small =
    let turned : lo + 256 * hi ≡ hi * 2 ^ 8 + lo = omega arith in
    let high : (lo + 256 * hi) / 2 ^ 8 ≡ hi = ap (λ n. n / 2 ^ 8) turned ∙ shr_high hi 8 lo small in
    low_bit ((lo + 256 * hi) / 2 ^ s) m j k ∙ ap (λ n. n % 2)
    (shr-shr (lo + 256 * hi) s j ∙ ap (λ e. (lo + 256 * hi) / 2 ^ e) h ∙ sym (shr-shr (lo + 256 * hi) 8 t) ∙ ap (λ n. n / 2 ^ t) high)

-- The bits of bytes that are packed again.
packed_bit : (xs : List ℕ) (s n i : ℕ) → s < 8 → ((k : ℕ) → get_or xs k 0 < 256) → i < n → bit (packed xs s n) i ≡ bit xs (s + i)
packed_bit xs s n i small bytes h =
    let q = i / 8 in
    let j = i % 8 in
    let m = min 8 (n - 8 * q) in
    let below : q < bytes_for n = omega (arith, h) in
    let inside : j < m = omega (arith, h) in
    let here : get_or (packed xs s n) q 0 ≡ packed_byte xs s n q = get_or-map-range_with_len (packed_byte xs s n) 0 (bytes_for n) q q 0 below (omega arith) in
    ap (λ b. (b / 2 ^ j) % 2 == 1) here
    ∙ elim (cases_lt (s + j) 8) [
      | inl low ↦
          (let place : (s + i) / 8 ≡ q = omega arith in
          let at : (s + i) % 8 ≡ s + j = omega arith in
          ap (λ b. b == 1) (stays s j m (slice_index xs q) (slice_index xs (q + 1)) low inside (bytes q))
          ∙ ap₂ (λ p e. (slice_index xs p / 2 ^ e) % 2 == 1) (sym place) (sym at))
      | inr up ↦
          (let place : (s + i) / 8 ≡ q + 1 = omega arith in
          let at : (s + i) % 8 ≡ s + j - 8 = omega arith in
          ap (λ b. b == 1) (comes s j (s + j - 8) m (slice_index xs q) (slice_index xs (q + 1)) (omega arith) inside (bytes q))
          ∙ ap₂ (λ p e. (slice_index xs p / 2 ^ e) % 2 == 1) (sym place) (sym at))
    ]

-- Bits of a bitmap: bit i of n from index o on; the first one is bit s of the bytes.
bit_of : (xs : List ℕ) (bits : List Bool) (s m o n i : ℕ) → map (has_bit xs) (range_with_len s m) ≡ bits → o + n ≤ length bits → i < n → get_or (part o n bits) i false ≡ bit xs (s + (o + i))
bit_of xs bits s m o n i e h l =
    let long : m ≡ length bits = sym (length-map-range_with_len (has_bit xs) s m) ∙ ap (λ (bs : List Bool). length bs) e in
    get_or-part o n bits i false l ∙ ap (λ (bs : List Bool). get_or bs (o + i) false) (sym e)
    ∙ get_or-map-range_with_len (has_bit xs) s m (o + i) (s + (o + i)) false (omega (arith, h, l, long)) refl

pub bits_stand : (xs : List ℕ) (bits : List Bool) (s m o n first : ℕ) → map (has_bit xs) (range_with_len s m) ≡ bits → o + n ≤ length bits → 8 * first ≡ s + o → first + bytes_for n ≤ length xs
    → AreBits (part o n bits) (take (bytes_for n) (drop first xs))
bits_stand xs bits s m o n first e h at room =
    let count : length (part o n bits) ≡ n = length-part o n bits h in
    let long : length (take (bytes_for n) (drop first xs)) ≡ bytes_for n = length-take-le (bytes_for n) (drop first xs) (omega (arith, length-drop first xs, room)) in
    record {
      count = long ∙ ap bytes_for (sym count);
      each = λ i l.
          let inside : i < n = omega (arith, l, count) in
          bit_part xs first (bytes_for n) i (omega (arith, inside)) ∙ (let place : 8 * first + i ≡ s + (o + i) = omega (arith, at) in ap (bit xs) place) ∙ sym (bit_of xs bits s m o n i e h inside);
    }

pub bits_packed : (xs ys : List ℕ) (bits : List Bool) (s m o n first t : ℕ) → map (has_bit xs) (range_with_len s m) ≡ bits → o + n ≤ length bits → 8 * first + t ≡ s + o → t < 8 → ys ≡ drop first xs
    → ((k : ℕ) → get_or xs k 0 < 256) → AreBits (part o n bits) (packed ys t n)
bits_packed xs ys bits s m o n first t e h at small same bytes =
    let count : length (part o n bits) ≡ n = length-part o n bits h in
    record {
      count = length-map-range_with_len (packed_byte ys t n) 0 (bytes_for n) ∙ ap bytes_for (sym count);
      each = λ i l.
          let inside : i < n = omega (arith, l, count) in
          packed_bit ys t n i small (λ k. subst (λ (zs : List ℕ). get_or zs k 0 < 256) (sym same) (subst (λ (v : ℕ). v < 256) (sym (get_or-drop first xs k 0)) (bytes (first + k)))) inside
          ∙ ap (λ (zs : List ℕ). bit zs (t + i)) same
          ∙ bit_drop xs first (t + i)
          ∙ (let place : 8 * first + (t + i) ≡ s + (o + i) = omega (arith, at) in ap (bit xs) place)
          ∙ sym (bit_of xs bits s m o n i e h inside);
    }
