use Rattle.std.proofs.Common.{rules, ◌≡◌, false, map, ℕ, ◌<◌, ◌≤◌, length, List, [], ◌∷◌, slice_index_or, arith, ap, sym, codes, bytes_eq, Option, Some, string_bytes}
use Rattle.ipc_encode.specs.declared.common.WriteOptions.{WriteOptions}
use Rattle.ipc_programs.specs.ConvertWords.{Wanted, asked, copy_named, options_named}
use Rattle.ipc_programs.proofs.convert.forms.form_of.Goals as goal

one : {X : Type 0} (xs : List X) (x : X) → x ≡ slice_index_or xs 0 x → 1 ≤ length xs → length xs < 2 → xs ≡ x ∷ []
one [] x e l u = absurd (omega (arith, l))
one (y ∷ []) x e l u = ap (λ z. z ∷ []) (sym e)
one (y ∷ z ∷ zs) x e l u = absurd (omega (arith, u))

two : {X : Type 0} (xs : List X) (x y : X) → x ≡ slice_index_or xs 0 x → y ≡ slice_index_or xs 1 y → 2 ≤ length xs → length xs < 3 → xs ≡ x ∷ y ∷ []
two [] x y e d l u = absurd (omega (arith, l))
two (z ∷ []) x y e d l u = absurd (omega (arith, l))
two (z ∷ w ∷ []) x y e d l u = cc
two (z ∷ w ∷ v ∷ vs) x y e d l u = absurd (omega (arith, u))

asked_two : {S : Type 0} (f : S → List ℕ) (words others : List S) (first second : S) (a b : List ℕ) (options : WriteOptions) (r : Option Wanted)
    → words ≡ first ∷ others → others ≡ second ∷ [] → a ≡ f first → b ≡ f second → bytes_eq a (codes "append") ≡ false
    → options ≡ record { big_endian = false } → r ≡ copy_named a b options → r ≡ asked (map f words)
asked_two f words others first second a b options r e d p q other o i = rw e (rw d (rw (sym p) (rw (sym q) (rw other (rw (sym o) i)))))

asked_three : {S : Type 0} (f : S → List ℕ) (words others : List S) (first second third : S) (a b c : List ℕ) (options : WriteOptions) (r : Option Wanted)
    → words ≡ first ∷ others → others ≡ second ∷ third ∷ [] → a ≡ f first → b ≡ f second → c ≡ f third → bytes_eq a (codes "append") ≡ false
    → Some options ≡ options_named c → r ≡ copy_named a b options → r ≡ asked (map f words)
asked_three f words others first second third a b c options r e d p q s other o i = rw e (rw d (rw (sym p) (rw (sym q) (rw (sym s) (rw other (rw (sym o) i))))))

-- src/convert/forms.rt:47:1
pub returns-in_default-len1 : goal.returns-in_default-len1
returns-in_default-len1 c =
    asked_two string_bytes c.args.words.now c.in_ok-first.others.now c.in_ok-first.first.now c.to-item.result c.as_str.result.now c.as_str-in_default-len1.result.now
    c.default.result _ c.in_ok-first.ensures.cases.0 (one c.in_ok-first.others.now c.to-item.result c.to-item.is (omega arith) (omega arith))
    c.as_str.ensures.value c.as_str-in_default-len1.ensures.value (search rules) (λ i. record { big_endian = c.default.ensures i }) c.form_from_to.ensures

-- src/convert/forms.rt:47:1
pub returns-in_ok-options_of-in_default-len2 : goal.returns-in_ok-options_of-in_default-len2
returns-in_ok-options_of-in_default-len2 c =
    asked_three string_bytes c.args.words.now c.in_ok-first.others.now c.in_ok-first.first.now c.to-item-then-this-lt3.result c.order-item.result c.as_str.result.now
    c.as_str-in_default-len2.result.now c.as_str-in_default-len2-2.result.now c.in_ok-options_of-in_default-len2.field-0 _ c.in_ok-first.ensures.cases.0
    (two c.in_ok-first.others.now c.to-item-then-this-lt3.result c.order-item.result c.to-item-then-this-lt3.is c.order-item.is (omega arith) (omega arith))
    c.as_str.ensures.value c.as_str-in_default-len2.ensures.value c.as_str-in_default-len2-2.ensures.value (search rules) c.in_ok-options_of-in_default-len2.ensures
    c.form_from_to-in_default-len2.ensures
