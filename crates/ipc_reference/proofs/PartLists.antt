-- Parts of lists, and tests of all numbers below one.
use Rattle.std.proofs.Common.{◌≡◌, ℕ, zero, suc, ◌+◌, ◌<◌, ◌≤◌, ◌&&◌, nat_le, Bool, true, false, IsTrue, IsUtf8, ◌⊎◌, ◌↔◌, List, [], ◌∷◌, map, length, slice_index_or, refl, ap, sym, ◌∙◌, arith, add-one, inl, inr}
use Rattle.std.proofs.lemmas.Bool.{cases_lt}
use Rattle.std.proofs.lemmas.Bool.Decides.{nat_tests}
use Rattle.std.proofs.lemmas.Str.{IsUtf8-from_is_utf8, is_utf8-from_IsUtf8}
use Rattle.std.specs.Str.{is_utf8}
use Rattle.ipc_model.specs.Tests.{all_below}

pub map_at : {X Y : Type 0} (f : X → Y) (xs : List X) (i : ℕ) (d : X) (e : Y) → i < length xs → slice_index_or (map f xs) i e ≡ f (slice_index_or xs i d)
map_at f [] i d e h = absurd (omega arith)
map_at f (x ∷ xs) zero d e h = refl
map_at f (x ∷ xs) (suc i) d e h = map_at f xs i d e (omega arith)

pub map_past : {X Y : Type 0} (f : X → Y) (xs : List X) (i : ℕ) (e : Y) → length xs ≤ i → slice_index_or (map f xs) i e ≡ e
map_past f [] i e h = refl
map_past f (x ∷ xs) zero e h = absurd (omega arith)
map_past f (x ∷ xs) (suc i) e h = map_past f xs i e (omega arith)

either : (b : Bool) → (b ≡ true) ⊎ (b ≡ false)
either true = inl refl
either false = inr refl

-- A test of texts is the test of the definitions.
pub utf8_test : (b : Bool) (xs : List ℕ) → IsTrue b ↔ IsUtf8 xs → b ≡ is_utf8 xs
utf8_test true xs f = sym (is_utf8-from_IsUtf8 xs (f.0 refl))
utf8_test false xs f =
    elim (either (is_utf8 xs)) [
      | inl e ↦ let none : false ≡ true = f.1 (IsUtf8-from_is_utf8 xs e) in absurd cc
      | inr e ↦ sym e
    ]

and_false : (b : Bool) → (b && false) ≡ false
and_false true = refl
and_false false = refl

pub not_le : (m n : ℕ) → n < m → nat_le m n ≡ false
not_le m n h = grind (arith, nat_tests)

pub is_le : (m n : ℕ) → m ≤ n → nat_le m n ≡ true
is_le m n h = grind (arith, nat_tests)

pub all_more : (n : ℕ) (test : ℕ → Bool) → all_below n test ≡ true → test n ≡ true → all_below (n + 1) test ≡ true
all_more n test e h = rw add-one (rw h e)

pub all_fails : (n i : ℕ) (test : ℕ → Bool) → i < n → test i ≡ false → all_below n test ≡ false
all_fails zero i test h e = absurd (omega arith)
all_fails (suc n) i test h e =
    elim (cases_lt i n) [
      | inl l ↦ ap (λ b. test n && b) (all_fails n i test l e) ∙ and_false (test n)
      | inr l ↦ let same : i ≡ n = omega arith in ap (λ b. b && all_below n test) (ap test (sym same) ∙ e)
    ]

pub ruleset parts = (map_at, map_past)
