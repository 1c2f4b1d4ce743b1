-- Digits that are written one after another.
use Rattle.std.proofs.Common.{arith, sym, ap, ◌∙◌, ◌≡◌, ℕ, suc, ◌+◌, ◌-◌, ◌/◌, ◌%◌, ◌^◌, ◌<◌, ◌≤◌, List, [], ◌++◌, length, drop, get_or, decimal, append_assoc, append-nil}
use Rattle.std.proofs.lemmas.List.{at_drop_more, drop_all}
use native.Mathlib.Nat.{one-le-pow}
use Rattle.lower_display.specs.Digits.{last_digits, byte_text, hex_text}

pub pow_some : (k : ℕ) → 0 < 10 ^ k
pow_some k = one-le-pow k 10 (omega arith)

pub digits_begin : (n count : ℕ) → [] ++ last_digits (count - 0) n ≡ last_digits count n
digits_begin n count = let all : count - 0 ≡ count = omega arith in ap (λ (k : ℕ). last_digits k n) all

-- one more digit
pub digits_more : (n count i : ℕ) (done all : List ℕ) → i < count → done ++ last_digits (count - i) n ≡ all
    → (done ++ decimal (n / 10 ^ (count - 1 - i) % 10)) ++ last_digits (count - (i + 1)) n ≡ all
digits_more n count i done all below h =
    let rest = last_digits (count - (i + 1)) n in
    let left : count - i ≡ suc (count - (i + 1)) = omega (arith, below) in
    let place : count - 1 - i ≡ count - (i + 1) = omega (arith, below) in
    append_assoc done (decimal (n / 10 ^ (count - 1 - i) % 10)) rest
    ∙ ap (λ (k : ℕ). done ++ (decimal (n / 10 ^ k % 10) ++ rest)) place
    ∙ ap (λ (k : ℕ). done ++ last_digits k n) (sym left)
    ∙ h

-- after the last digit
pub digits_end : (n count i : ℕ) (done all : List ℕ) → count ≤ i → done ++ last_digits (count - i) n ≡ all → done ≡ all
digits_end n count i done all past h =
    let none : count - i ≡ 0 = omega (arith, past) in
    sym (append-nil done) ∙ ap (λ (k : ℕ). done ++ last_digits k n) (sym none) ∙ h

-- one more byte
pub hex_more : (bytes : List ℕ) (i b : ℕ) (done all : List ℕ) → i < length bytes → b ≡ get_or bytes i b → done ++ hex_text (drop i bytes) ≡ all
    → (done ++ byte_text b) ++ hex_text (drop (i + 1) bytes) ≡ all
hex_more bytes i b done all below at h =
    let rest = hex_text (drop (i + 1) bytes) in
    append_assoc done (byte_text b) rest
    ∙ ap (λ (x : ℕ). done ++ (byte_text x ++ rest)) at
    ∙ ap (λ (s : List ℕ). done ++ s) (sym (at_drop_more hex_text bytes i b below))
    ∙ h

-- after the last byte
pub hex_end : (bytes : List ℕ) (i : ℕ) (done all : List ℕ) → length bytes ≤ i → done ++ hex_text (drop i bytes) ≡ all → done ≡ all
hex_end bytes i done all past h =
    let none : drop i bytes ≡ [] = drop_all i bytes past in
    sym (append-nil done) ∙ ap (λ (xs : List ℕ). done ++ hex_text xs) (sym none) ∙ h
