-- Where the slots of any length are.
use Rattle.std.proofs.Common.{arith, ◌≡◌, ℕ, zero, suc, ◌+◌, ◌-◌, ◌<◌, ◌≤◌, List, length, take, drop, subst, sym, ap, ◌∙◌}
use Rattle.std.specs.Prelude.{slice_index}
use Rattle.std.specs.Str.{IsUtf8}
use Rattle.lower.specs.Offsets.{IsOffsets}
use Rattle.lower.proofs.OffsetPlaces.{IsOffsets-part}
use Rattle.lower_types.specs.declared.PrimitiveType.{PrimitiveType}
use Rattle.lower_flat_arrays.specs.Validities.{part}
use Rattle.lower_flat_arrays.specs.Spans.{SpansSeen, span, span_count, EndsWithin, AreTexts, cut_spans}
use Rattle.lower_flat_arrays.specs.Binaries.{IsBinary}
use Rattle.lower_flat_arrays.specs.Texts.{IsText}
use Rattle.lower_flat_arrays.proofs.Cuts.{get_or-part, length-part, fits-cut}

-- no offset is past a later one
pub offset_le : (os : List ℕ) (i d : ℕ) → IsOffsets os → i + d < length os → slice_index os i ≤ slice_index os (i + d)
offset_le os i zero is h = let e : i ≡ i + 0 = omega arith in let same : slice_index os i ≡ slice_index os (i + 0) = ap (slice_index os) e in omega (arith, same)
offset_le os i (suc d) is h =
    let next : i + d + 1 ≡ i + suc d = omega arith in
    let before = offset_le os i d is (omega (arith, h)) in
    let step = is.rising (i + d) (omega (arith, h)) in
    let same : slice_index os (i + d + 1) ≡ slice_index os (i + suc d) = ap (slice_index os) next in
    omega (arith, before, step, same)

-- nor past the last one
pub offset_last : (os : List ℕ) (i : ℕ) → IsOffsets os → i < length os → slice_index os i ≤ slice_index os (length os - 1)
offset_last os i is h =
    let there : i + (length os - 1 - i) ≡ length os - 1 = omega (arith, h) in
    subst (λ k. slice_index os i ≤ slice_index os k) there (offset_le os i (length os - 1 - i) is (omega (arith, h)))

-- so none is past the bytes
pub offset_within : (os xs : List ℕ) (i : ℕ) → IsOffsets os → EndsWithin os xs → i < length os → slice_index os i ≤ length xs
offset_within os xs i is ends h = let last = offset_last os i is h in omega (arith, last, ends)

-- the first is past none
pub offset_first : (os : List ℕ) (i : ℕ) → IsOffsets os → i < length os → slice_index os 0 ≤ slice_index os i
offset_first os i is h =
    let there : 0 + i ≡ i = omega arith in
    subst (λ k. slice_index os 0 ≤ slice_index os k) there (offset_le os 0 i is (omega (arith, h)))

pub offset_next : (os : List ℕ) (i : ℕ) → IsOffsets os → i < span_count os → slice_index os i ≤ slice_index os (i + 1)
offset_next os i is h = is.rising i (omega (arith, h))

module _ (os xs : List ℕ) (o n : ℕ) (is : IsOffsets os) (h : o + n ≤ span_count os) where
  count : length (part o (n + 1) os) ≡ n + 1
  count = let some = is.some in length-part o (n + 1) os (omega (arith, h, some))

  at : (i : ℕ) → i < n + 1 → slice_index (part o (n + 1) os) i ≡ slice_index os (o + i)
  at i lt = get_or-part o (n + 1) os i 0 lt

  pub count-cut : span_count (part o (n + 1) os) ≡ n
  count-cut = omega (arith, count)

  pub offsets-cut : IsOffsets (part o (n + 1) os)
  offsets-cut = let some = is.some in IsOffsets-part os o n (omega (arith, h, some)) is

  pub ends-cut : EndsWithin os xs → EndsWithin (part o (n + 1) os) xs
  ends-cut ends =
      let some = is.some in
      let last : length (part o (n + 1) os) - 1 ≡ n = omega (arith, count) in
      let there : slice_index (part o (n + 1) os) (length (part o (n + 1) os) - 1) ≡ slice_index os (o + n) =
      ap (slice_index (part o (n + 1) os)) last ∙ at n (omega arith)
      in
      let le = offset_within os xs (o + n) is ends (omega (arith, h, some)) in
      omega (arith, there, le)

  pub span-cut : (i : ℕ) → i < n → span (part o (n + 1) os) xs i ≡ span os xs (o + i)
  span-cut i lt =
      let this = at i (omega (arith, lt)) in
      let e : o + (i + 1) ≡ o + i + 1 = omega arith in
      let next : slice_index (part o (n + 1) os) (i + 1) ≡ slice_index os (o + i + 1) = at (i + 1) (omega (arith, lt)) ∙ ap (slice_index os) e in
      λ j. take (next j - this j) (drop (this j) xs)

  pub texts-cut : AreTexts os xs → AreTexts (part o (n + 1) os) xs
  texts-cut t = record {
    each = λ i lt.
        let some = is.some in
        let below : i < n = omega (arith, lt, count) in
        subst IsUtf8 (sym (span-cut i below)) (t.each (o + i) (omega (arith, below, h, some)));
  }

-- some slots keep the rules
pub cut_binary_is : (p : PrimitiveType) (a : SpansSeen) (o n : ℕ) → IsBinary p a → o + n ≤ span_count a.offsets → IsBinary p (cut_spans o n a)
cut_binary_is p a o n is h = record {
  lies = is.lies;
  offsets = offsets-cut a.offsets a.values o n is.offsets h;
  within = ends-cut a.offsets a.values o n is.offsets h is.within;
  fits = rw (count-cut a.offsets a.values o n is.offsets h) (fits-cut a.validity o n (span_count a.offsets) h is.fits);
}

pub cut_text_is : (p : PrimitiveType) (a : SpansSeen) (o n : ℕ) → IsText p a → o + n ≤ span_count a.offsets → IsText p (cut_spans o n a)
cut_text_is p a o n is h = record {
  lies = is.lies;
  offsets = offsets-cut a.offsets a.values o n is.offsets h;
  within = ends-cut a.offsets a.values o n is.offsets h is.within;
  texts = texts-cut a.offsets a.values o n is.offsets h is.texts;
  fits = rw (count-cut a.offsets a.values o n is.offsets h) (fits-cut a.validity o n (span_count a.offsets) h is.fits);
}

pub ruleset span_places = (offset_within, offset_next)
