-- One more text.
use Rattle.std.proofs.Common.{arith, inl, inr, ◌≡◌, ◌⊎◌, ℕ, ◌+◌, ◌-◌, ◌<◌, ◌≤◌, List, [], ◌∷◌, ◌++◌, length, map, get_or, sym, ap, subst, ◌∙◌}
use Rattle.std.specs.Prelude.{Option, Some, None}
use Rattle.std.specs.Str.{IsUtf8}
use Rattle.std.proofs.lemmas.Bool.{cases_lt}
use Rattle.std.proofs.lemmas.Str.{IsUtf8-nil}
use Rattle.std.proofs.lemmas.List.{length-map, length_push, get_or-map, get_or_push, get_or_append_left}
use Rattle.std.proofs.lemmas.List.FromFn.{length-map-range_with_len, get_or-map-range_with_len}
use Rattle.lower_flat_arrays.specs.Spans.{span, span_count, AreTexts}
use Rattle.lower_builders.specs.Bytes.{bytes_in, spans_of, AreUtf8}

pub AreUtf8-none : AreUtf8 []
AreUtf8-none = record { each = λ i below. let no : ⊥ = omega (arith, below) in absurd no }

pub AreUtf8-push : (slots : List (Option (List ℕ))) (slot : Option (List ℕ)) → AreUtf8 slots → IsUtf8 (bytes_in slot) → AreUtf8 (slots ++ slot ∷ [])
AreUtf8-push slots slot are is = record { each = λ i below. by i below (cases_lt i (length slots)) }
  where
    by : (i : ℕ) → i < length (slots ++ slot ∷ []) → (i < length slots) ⊎ (length slots ≤ i) → IsUtf8 (bytes_in (get_or (slots ++ slot ∷ []) i None))
    by i below (inl h) = subst (λ s. IsUtf8 (bytes_in s)) (sym (get_or_append_left slots (slot ∷ []) None i h)) (are.each i h)
    by i below (inr h) =
        let count = length_push slots slot in
        subst (λ s. IsUtf8 (bytes_in s)) (sym (get_or_push slots slot None i (omega (arith, h, below, count)))) is

pub AreUtf8-text : (slots : List (Option (List ℕ))) (text : List ℕ) → AreUtf8 slots → IsUtf8 text → AreUtf8 (slots ++ Some text ∷ [])
AreUtf8-text slots text are is = AreUtf8-push slots (Some text) are is

pub AreUtf8-null : (slots : List (Option (List ℕ))) → AreUtf8 slots → AreUtf8 (slots ++ None ∷ [])
AreUtf8-null slots are = AreUtf8-push slots None are IsUtf8-nil

pub ruleset text_pushes = (AreUtf8-text, AreUtf8-null)

-- the bytes of each slot, null or not, are UTF-8
pub texts_of : (slots : List (Option (List ℕ))) (os xs : List ℕ) → AreUtf8 slots → map bytes_in slots ≡ spans_of os xs → AreTexts os xs
texts_of slots os xs are same = record {
  each = λ i below.
      let count : length slots ≡ span_count os = sym (length-map slots bytes_in) ∙ ap length same ∙ length-map-range_with_len (span os xs) 0 (span_count os) in
      let within : i < length slots = omega (arith, below, count) in
      let e : 0 + i ≡ i = omega arith in
      let here : bytes_in (get_or slots i None) ≡ span os xs i =
      sym (get_or-map bytes_in slots i None [] within)
      ∙ ap (λ ys. get_or ys i []) same
      ∙ get_or-map-range_with_len (span os xs) 0 (span_count os) i i [] (omega (arith, below)) e
      in
      subst IsUtf8 here (are.each i within);
}
