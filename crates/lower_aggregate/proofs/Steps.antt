-- One more slot that is compared.
use Rattle.std.proofs.Common.{arith, ◌≡◌, ℕ, ◌+◌, List, [], ◌∷◌, ◌++◌, Bool, length, map, sym, ap, ap₂, subst, ◌∙◌}
use Rattle.std.specs.List.{range_with_len}
use Rattle.std.proofs.lemmas.List.FromFn.{length-map-range_with_len, map-range_with_len_more}
use Rattle.std.proofs.lemmas.Simd.{map-map}
use Rattle.lower_flat_arrays.specs.Validities.{Validity, ValidityFits}
use Rattle.lower_flat_arrays.specs.Spans.{span, span_count}

module _ (f : List ℕ → Bool) (os xs : List ℕ) (i : ℕ) (bits : List Bool) (was : bits ≡ map (λ k. f (span os xs k)) (range_with_len 0 i)) where
  pub span_more : (more : List Bool) (b : Bool) → more ≡ bits ++ b ∷ [] → b ≡ f (span os xs i) → more ≡ map (λ k. f (span os xs k)) (range_with_len 0 (i + 1))
  span_more more b is one =
      is ∙ ap₂ (λ ys y. ys ++ y ∷ []) was one ∙ sym (map-range_with_len_more (λ k. f (span os xs k)) 0 i i (omega arith))

  module _ (all : i ≡ span_count os) where
    pub span_end : bits ≡ map f (map (span os xs) (range_with_len 0 (span_count os)))
    span_end =
        was ∙ ap (λ n. map (λ k. f (span os xs k)) (range_with_len 0 n)) all ∙ sym (map-map f (span os xs) (range_with_len 0 (span_count os)))

    -- the validity has a bit for each
    pub span_fits : (v w : Validity) → w ≡ v → ValidityFits v (span_count os) → ValidityFits w (length bits)
    span_fits v w same fits =
        let count : length bits ≡ span_count os = ap length was ∙ length-map-range_with_len (λ k. f (span os xs k)) 0 i ∙ all in
        subst (λ (u : Validity). ValidityFits u (length bits)) (sym same) (subst (ValidityFits v) (sym count) fits)
