-- Numbers in arguments.
use Rattle.std.proofs.Common.{ℕ, ◌≡◌, ◌<◌, ◌^◌, zero, suc, rules, List, [], ◌∷◌, get_or, length, map, Bool, true, false, ◌&&◌, Result, Ok, Err, arith, subst, sym}
use Rattle.std.specs.List.{AllByRecursion, list_all}
use Rattle.std.specs.Char.{is_ascii_digit}
use Rattle.std.specs.Result.{OkIff}
use Rattle.std.specs.Str.Parse.{digits_value, ParsesUnsigned}
use Rattle.std.proofs.lemmas.List.Sums.{AllPass-from_list_all}
use Rattle.std.proofs.lemmas.Str.Parse.{IsNumeralModel, numerals_by_value, parse_digits}
use Rattle.ipc_programs.specs.CatWords.{is_decimal}

digits : IsNumeralModel (λ ds. list_all is_ascii_digit ds ≡ true) (digits_value 10)
digits = numerals_by_value _ (search rules)

second : (a b : Bool) → (a && b) ≡ true → b ≡ true
second true b e = e
second false b e = search rules

filled : (word : List ℕ) → is_decimal word ≡ true → 0 < length word
filled [] e = search rules
filled (d ∷ ds) e = omega arith

module _ (word : List ℕ) (decimal : is_decimal word ≡ true) where
  abbrev Parsed : Result ℕ (Unit {0}) → Type 0
  Parsed r = ParsesUnsigned 64 10 word r

  reads : (r : Result ℕ (Unit {0})) → Parsed r → OkIff r ((0 < length word) × (digits_value 10 word < 2 ^ 64)) (digits_value 10 word)
  reads r parsed = parse_digits digits 64 word r parsed (second _ _ decimal)

  -- The number that `parse` reads in decimal digits is the one that they encode.
  pub number_read : (n : ℕ) → Parsed (Ok n) → (n ≡ digits_value 10 word) × (digits_value 10 word < 2 ^ 64)
  number_read n parsed = let gives = reads (Ok n) parsed in (gives.1, gives.0.1)

  -- It reads none only if the number has more than 64 bits.
  pub none_read : Parsed (Err tt) → ¬ (digits_value 10 word < 2 ^ 64)
  none_read parsed small = reads (Err tt) parsed (filled word decimal, small)

-- ---- of some words

-- each of them is a number
pub decimal_at : (words : List (List ℕ)) (k : ℕ) (word d : List ℕ) → list_all is_decimal words ≡ true → k < length words → word ≡ get_or words k d → is_decimal word ≡ true
decimal_at words k word d numbers within is = subst (λ (w : List ℕ). is_decimal w ≡ true) (sym is) (AllPass-from_list_all is_decimal words numbers k d within)

-- one of them is too great, so that not all are numbers of 64 bits
pub one_too_great : (words : List (List ℕ)) (k : ℕ) (word d : List ℕ) → k < length words → word ≡ get_or words k d → ¬ (digits_value 10 word < 2 ^ 64)
    → ¬ AllByRecursion (λ j. j < 2 ^ 64) (map (digits_value 10) words)
one_too_great [] k word d within is great small = absurd (omega (arith, within))
one_too_great (w ∷ ws) zero word d within is great small = great (subst (λ (x : List ℕ). digits_value 10 x < 2 ^ 64) (sym is) small.0)
one_too_great (w ∷ ws) (suc k) word d within is great small = one_too_great ws k word d (omega (arith, within)) is great small.1
