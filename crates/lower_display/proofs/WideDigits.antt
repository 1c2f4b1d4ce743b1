-- Digits of numbers that lie in groups of 19 digits.
use Rattle.std.proofs.Common.{arith, rules, refl, sym, ap, ◌∙◌, ◌≡◌, ℕ, suc, ◌+◌, ◌-◌, ◌*◌, ◌/◌, ◌%◌, ◌^◌, ◌<◌, ◌≤◌, ◌==◌, Bool, true, false, List, [], ◌∷◌, ◌++◌, get_or, codes, decimal, if◌then◌else◌, ℤ, pos, negsuc, unsigned_abs, ◌≤ℤ◌, ◌<ℤ◌, nat_lt, inl, inr, ⊎_elim, ◌⊎◌}
use native.Mathlib.Nat.{add-mul-div_left, add-mul-mod_self_left, div-div-eq-div-mul, div-eq_of_lt, div-one, zero-div, zero-add, mul_assoc, pow-succ'}
use lib.Pow.{pow-add}
use borrow.Author.Differences.{lt_T}
use Rattle.lower_display.specs.Digits.{after_point}
use Rattle.lower_display.proofs.DigitSteps.{pow_some}
use Rattle.lower_display.specs.Wide.{wide_size, digit_count, long_text, size_text, groups_value, AreGroups}

-- a digit of the first group
low_digit : (g v k : ℕ) → k < 19 → (g + 10 ^ 19 * v) / 10 ^ k % 10 ≡ g / 10 ^ k % 10
low_digit g v k small =
    let p = 10 ^ (18 - k) in
    let parts : 19 ≡ k + suc (18 - k) = omega (arith, small) in
    let whole : 10 ^ 19 ≡ 10 ^ k * (10 * p) = ap (λ (x : ℕ). 10 ^ x) parts ∙ pow-add 10 k (suc (18 - k)) ∙ ap (λ (x : ℕ). 10 ^ k * x) (pow-succ' 10 (18 - k)) in
    ap (λ (x : ℕ). (g + x * v) / 10 ^ k % 10) whole
    ∙ ap (λ (x : ℕ). (g + x) / 10 ^ k % 10) (mul_assoc (10 ^ k) (10 * p) v)
    ∙ ap (λ (x : ℕ). x % 10) (add-mul-div_left g (10 * p * v) (pow_some k))
    ∙ ap (λ (x : ℕ). (g / 10 ^ k + x) % 10) (mul_assoc 10 p v)
    ∙ add-mul-mod_self_left (g / 10 ^ k) 10 (p * v)

-- without the first group
high_digits : (g v j : ℕ) → g < 10 ^ 19 → (g + 10 ^ 19 * v) / 10 ^ (19 + j) ≡ v / 10 ^ j
high_digits g v j small =
    ap (λ (x : ℕ). (g + 10 ^ 19 * v) / x) (pow-add 10 19 j)
    ∙ sym (div-div-eq-div-mul (g + 10 ^ 19 * v) (10 ^ 19) (10 ^ j))
    ∙ ap (λ (x : ℕ). x / 10 ^ j) (add-mul-div_left g v (pow_some 19))
    ∙ ap (λ (x : ℕ). (x + v) / 10 ^ j) (div-eq_of_lt small)
    ∙ ap (λ (x : ℕ). x / 10 ^ j) (zero-add v)

split : (k : ℕ) (b : Bool) → nat_lt k 19 ≡ b → (k < 19) ⊎ (19 ≤ k)
split k true e = inl (search (rules, e))
split k false e = inr (search (rules, e))

below_or : (k : ℕ) → (k < 19) ⊎ (19 ≤ k)
below_or k = split k (nat_lt k 19) refl

digit_in : (gs : List ℕ) (k : ℕ) → AreGroups gs → groups_value gs / 10 ^ k % 10 ≡ get_or gs (k / 19) 0 / 10 ^ (k % 19) % 10
digit_in [] k h = ap (λ (x : ℕ). x % 10) (zero-div (10 ^ k) ∙ sym (zero-div (10 ^ (k % 19))))
digit_in (g ∷ gs) k h =
    ⊎_elim
    (λ (small : k < 19).
    let index : 0 ≡ k / 19 = omega (arith, small) in
    let place : k ≡ k % 19 = omega (arith, small) in
    low_digit g (groups_value gs) k small ∙ (λ i. get_or (g ∷ gs) (index i) 0 / 10 ^ (place i) % 10))
    (λ (large : 19 ≤ k).
    let j = k - 19 in
    let all : k ≡ 19 + j = omega (arith, large) in
    let index : suc (j / 19) ≡ k / 19 = omega (arith, large) in
    let place : j % 19 ≡ k % 19 = omega (arith, large) in
    ap (λ (x : ℕ). groups_value (g ∷ gs) / 10 ^ x % 10) all
    ∙ ap (λ (x : ℕ). x % 10) (high_digits g (groups_value gs) j h.0)
    ∙ digit_in gs j h.1
    ∙ (λ i. get_or (g ∷ gs) (index i) 0 / 10 ^ (place i) % 10))
    (below_or k)

-- the digit that code takes from a group
pub digit_there : (gs : List ℕ) (scale place g : ℕ) → AreGroups gs → g ≡ get_or gs ((scale + place) / 19) 0
    → g / 10 ^ ((scale + place) % 19) % 10 ≡ groups_value gs / 10 ^ scale / 10 ^ place % 10
digit_there gs scale place g h e =
    ap (λ (x : ℕ). x / 10 ^ ((scale + place) % 19) % 10) e
    ∙ sym (digit_in gs (scale + place) h)
    ∙ ap (λ (x : ℕ). groups_value gs / x % 10) (pow-add 10 scale place)
    ∙ ap (λ (x : ℕ). x % 10) (sym (div-div-eq-div-mul (groups_value gs) (10 ^ scale) (10 ^ place)))

pub over_one : (n : ℕ) → n / 10 ^ 0 ≡ n
over_one n = div-one n

-- ---- sizes
pub size_positive : (z : ℤ) (low : ℕ) → pos 0 ≤ℤ z → unsigned_abs z * 2 ^ 128 + low ≡ wide_size z low
size_positive (pos h) low k = refl
size_positive (negsuc h) low k = absurd k.le

pub size_whole : (z : ℤ) (low : ℕ) → low ≡ 0 → unsigned_abs z * 2 ^ 128 + low ≡ wide_size z low
size_whole (pos h) low e = refl
size_whole (negsuc h) low e = omega (arith, e)

pub size_negative : (z : ℤ) (low : ℕ) → z <ℤ pos 0 → 0 < low → low < 2 ^ 128 → (unsigned_abs z - 1) * 2 ^ 128 + (2 ^ 128 - 1 - low + 1) ≡ wide_size z low
size_negative (pos h) low k some small = absurd (omega (arith, lt_T (pos h) (pos 0) k.lt))
size_negative (negsuc h) low k some small = omega (arith, some, small)

pub size_small : (z : ℤ) (low : ℕ) → unsigned_abs z ≤ 2 ^ 127 → low < 2 ^ 128 → (z <ℤ pos 0) ⊎ (unsigned_abs z < 2 ^ 127) → wide_size z low ≤ 2 ^ 255
size_small (pos h) low bound small sign = ⊎_elim (λ (k : pos h <ℤ pos 0). absurd (omega (arith, lt_T (pos h) (pos 0) k.lt))) (λ (k : h < 2 ^ 127). omega (arith, k, small)) sign
size_small (negsuc h) low bound small sign = omega (arith, bound)

pub ruleset sizes = (size_positive, size_whole, size_negative)

pub ruleset size_bound = (size_small)

-- ---- counts
choose : (b : Bool) (x y : ℕ) → b ≡ true → x ≡ (if b then x else y)
choose b x y e = ap (λ (t : Bool). if t then x else y) (sym e)

refuse : (b : Bool) (x y : ℕ) → b ≡ false → y ≡ (if b then x else y)
refuse b x y e = ap (λ (t : Bool). if t then x else y) (sym e)

pub count_more : (n i all : ℕ) → i < 76 → n / 10 ^ (76 - i) % 10 ≡ 0 → digit_count (76 - i) n ≡ all → digit_count (76 - (i + 1)) n ≡ all
count_more n i all below none h =
    let k = 76 - (i + 1) in
    let next : 76 - i ≡ suc k = omega (arith, below) in
    let zero_there : n / 10 ^ suc k % 10 ≡ 0 = ap (λ (x : ℕ). n / 10 ^ x % 10) (sym next) ∙ none in
    choose (n / 10 ^ suc k % 10 == 0) (digit_count k n) (suc (suc k)) (search (rules, zero_there))
    ∙ ap (λ (x : ℕ). digit_count x n) (sym next)
    ∙ h

pub count_found : (n i all : ℕ) → i < 76 → (n / 10 ^ (76 - i) % 10 ≡ 0 → ⊥) → digit_count (76 - i) n ≡ all → 77 - i ≡ all
count_found n i all below some h =
    let k = 76 - (i + 1) in
    let next : 76 - i ≡ suc k = omega (arith, below) in
    let count : 77 - i ≡ suc (suc k) = omega (arith, below) in
    let there : (n / 10 ^ suc k % 10 ≡ 0 → ⊥) = λ e. some (ap (λ (x : ℕ). n / 10 ^ x % 10) next ∙ e) in
    count
    ∙ refuse (n / 10 ^ suc k % 10 == 0) (digit_count k n) (suc (suc k)) (search (rules, there))
    ∙ ap (λ (x : ℕ). digit_count x n) (sym next)
    ∙ h

pub count_end : (n i all : ℕ) → 76 ≤ i → digit_count (76 - i) n ≡ all → 1 ≡ all
count_end n i all past h = let none : 0 ≡ 76 - i = omega (arith, past) in ap (λ (x : ℕ). digit_count x n) none ∙ h

-- ---- sizes of a scale
pub size_long : (n scale : ℕ) → 76 < scale → long_text (n / 10 ^ 0) ++ (codes "E-" ++ decimal scale) ≡ size_text scale n
size_long n scale h =
    let long : nat_lt 76 scale ≡ true = search (rules, h) in
    ap (λ (x : ℕ). long_text x ++ (codes "E-" ++ decimal scale)) (over_one n)
    ∙ ap (λ (b : Bool). if b then long_text n ++ (codes "E-" ++ decimal scale) else long_text (n / 10 ^ scale) ++ after_point scale n) (sym long)

pub size_pointed : (n scale : ℕ) → scale ≤ 76 → long_text (n / 10 ^ scale) ++ after_point scale n ≡ size_text scale n
size_pointed n scale h =
    let short : nat_lt 76 scale ≡ false = search (rules, h) in
    ap (λ (b : Bool). if b then long_text n ++ (codes "E-" ++ decimal scale) else long_text (n / 10 ^ scale) ++ after_point scale n) (sym short)
