-- Types, and the pairs of fields, in their normal form.
use Rattle.std.proofs.Common.{◌≡◌, ◌↔◌, IsTrue, List, [], ◌∷◌, Bool, true, false, ◌&&◌, ℕ, suc, ◌+◌, ◌<◌, length, get_or, drop, refl, sym, ap, ◌∙◌}
use Rattle.std.proofs.lemmas.List.{at_drop_more}
use Rattle.std.specs.Bool.{one_answer}
use Rattle.lower.specs.TypeTrees.{Pairs, TypeTree}
use Rattle.lower.specs.TypeViews.{field_view, fields_view}
use Rattle.lower.specs.Normal.{norm, norm_field, norm_fields, norm_pairs, kept_pairs, extension_of, put_extension}
use Rattle.lower.specs.Same.{same_type, same_field, same_fields, same_pairs}
use Rattle.lower.specs.declared.datatypes.Field.{Field}
use Rattle.lower.proofs.Laws.{extension_of-norm, kept-norm}
use Rattle.lower.proofs.Same.{type-sound, type-refl, pairs-sound, pairs-refl}

-- A result that is the test's says exactly whether the types are equal.
pub same_exactly : (r : Bool) (t u : TypeTree) → r ≡ same_type t u → IsTrue r ↔ (t ≡ u)
same_exactly r t u e = ((λ h. type-sound t u (sym e ∙ h)), λ p. e ∙ ap (same_type t) (sym p) ∙ type-refl t)

-- If two types have one normal form, two lists of pairs have one if they are the same apart from
-- extension keys, and only then.
pub kept_same : (t u : TypeTree) (es fs : Pairs) → same_type (norm t) (norm u) ≡ true
    → same_pairs (kept_pairs es) (kept_pairs fs) ≡ same_pairs (norm_pairs t es) (norm_pairs u fs)
kept_same t u es fs h =
    let one : extension_of t ≡ extension_of u = sym (extension_of-norm t) ∙ ap extension_of (type-sound (norm t) (norm u) h) ∙ extension_of-norm u in
    one_answer (same_pairs (kept_pairs es) (kept_pairs fs)) (same_pairs (norm_pairs t es) (norm_pairs u fs))
    (pairs-sound (kept_pairs es) (kept_pairs fs), λ p. ap (same_pairs (kept_pairs es)) (sym p) ∙ pairs-refl (kept_pairs es)) (
      (λ q. sym (kept-norm t es) ∙ ap kept_pairs (pairs-sound (norm_pairs t es) (norm_pairs u fs) q) ∙ kept-norm u fs),
      λ p.
          let n : norm_pairs t es ≡ norm_pairs u fs = ap (λ x. put_extension x (kept_pairs es)) one ∙ ap (put_extension (extension_of u)) p in
          ap (same_pairs (norm_pairs t es)) (sym n) ∙ pairs-refl (norm_pairs t es),
    )

and_right : (b x : Bool) → false ≡ x → false ≡ b && x
and_right true x h = h
and_right false x h = refl

pub fields_apart : (fs gs : List Field) → ¬ (length fs ≡ length gs) → false ≡ same_fields (norm_fields (fields_view fs)) (norm_fields (fields_view gs))
fields_apart [] [] h = absurd (h refl)
fields_apart [] (g ∷ gs) h = refl
fields_apart (f ∷ fs) [] h = refl
fields_apart (f ∷ fs) (g ∷ gs) h = and_right _ _ (fields_apart fs gs (λ e. h (ap suc e)))

-- Whether the fields from index i on have one normal form.
abbrev pub same_left : List Field → List Field → ℕ → Bool
same_left fs gs i = same_fields (norm_fields (fields_view (drop i fs))) (norm_fields (fields_view (drop i gs)))

pub left_step : (fs gs : List Field) (i : ℕ) (f g : Field) → i < length fs → i < length gs → f ≡ get_or fs i f → g ≡ get_or gs i g
    → same_left fs gs i ≡ same_field (norm_field (field_view f)) (norm_field (field_view g)) && same_left fs gs (i + 1)
left_step fs gs i f g l m p q =
    let rest = same_left fs gs (i + 1) in
    let two : List Field → List Field → Bool = λ xs ys. same_fields (norm_fields (fields_view xs)) (norm_fields (fields_view ys)) in
    at_drop_more (λ xs. two xs (drop i gs)) fs i f l
    ∙ at_drop_more (λ ys. two (get_or fs i f ∷ drop (i + 1) fs) ys) gs i g m
    ∙ ap (λ x. same_field (norm_field (field_view x)) (norm_field (field_view (get_or gs i g))) && rest) (sym p)
    ∙ ap (λ y. same_field (norm_field (field_view f)) (norm_field (field_view y)) && rest) (sym q)

pub ruleset fields = (fields_apart, left_step)
