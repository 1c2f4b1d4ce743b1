-- One test of all the bytes replaces a test of each text.
use Rattle.std.proofs.Common.{◌≡◌, ℕ, zero, suc, ◌+◌, ◌-◌, ◌<◌, ◌≤◌, List, length, take, drop, get_or, sym, ap, subst, ◌∙◌, arith}
use Rattle.std.specs.Prelude.{slice_index}
use Rattle.std.proofs.lemmas.List.{take-append-drop, get_or-drop, drop-drop, length-drop, length-take-le, drop-take, take-take}
use Rattle.std.proofs.Math.ListN.{drop_of_length-le}
use Rattle.std.proofs.lemmas.Str.{IsUtf8-nil, IsUtf8-append, IsUtf8-drop, IsUtf8-take, IsCharBoundary-from_drop, IsCharBoundary-from_ascii, IsUtf8-from_ascii}
use Rattle.std.specs.Str.{IsAscii, IsUtf8, IsCharBoundary}
use Rattle.lower.specs.Offsets.{IsOffsets}
use Rattle.lower_flat_arrays.specs.Spans.{span, EndsWithin, AreTexts, AreCut}
use Rattle.lower_flat_arrays.proofs.SpanPlaces.{offset_first, offset_last, offset_within}

-- An offset where the bytes may be cut is one in what is left of them.
boundary-in_rest : (bs : List ℕ) (i j : ℕ) → i ≤ j → IsCharBoundary bs j → IsCharBoundary (drop i bs) (j - i)
boundary-in_rest bs i j le b =
    let long = length-drop i bs in
    let there : i + (j - i) ≡ j = omega arith in
    let same : get_or (drop i bs) (j - i) 0 ≡ get_or bs j 0 = get_or-drop i bs (j - i) 0 ∙ ap (λ k. get_or bs k 0) there in
    (omega (arith, b.0), (λ lt high. rw same (b.1 (omega arith) (omega (arith, same)))))

-- texts of offsets os, the last of which is the end of the bytes bs
module _ (os bs : List ℕ) (is : IsOffsets os) (all : slice_index os (length os - 1) ≡ length bs) where
  -- the bytes from text i on, which d texts make up
  tail : (d i : ℕ) → i + d + 1 ≡ length os → AreTexts os bs → IsUtf8 (drop (slice_index os i) bs)
  tail zero i e t =
      let last : i ≡ length os - 1 = omega (arith, e) in
      let past : length bs ≤ slice_index os i = let same = ap (slice_index os) last in omega (arith, same, all) in
      subst IsUtf8 (sym (drop_of_length-le bs past)) IsUtf8-nil
  tail (suc d) i e t =
      let o = slice_index os i in
      let m = slice_index os (i + 1) - o in
      let up = is.rising i (omega (arith, e)) in
      let next : o + m ≡ slice_index os (i + 1) = omega (arith, up) in
      let rest : drop m (drop o bs) ≡ drop (slice_index os (i + 1)) bs = drop-drop m o bs ∙ ap (λ k. drop k bs) next in
      let both = IsUtf8-append (span os bs i) (drop m (drop o bs)) (t.each i (omega (arith, e))) (subst IsUtf8 (sym rest) (tail d (i + 1) (omega (arith, e)) t)) in
      subst IsUtf8 (take-append-drop m (drop o bs)) both

  ends : EndsWithin os bs
  ends = omega (arith, all)

  place_within : (i : ℕ) → i < length os → slice_index os i ≤ length bs
  place_within i lt = offset_within os bs i is ends lt

  from_text : (i : ℕ) → i < length os → AreTexts os bs → IsUtf8 (drop (slice_index os i) bs)
  from_text i lt t = tail (length os - 1 - i) i (omega (arith, lt)) t

  whole_from_texts : AreTexts os bs → IsUtf8 (drop (slice_index os 0) bs)
  whole_from_texts t = from_text 0 (is.some) t

  cuts_from_texts : AreTexts os bs → AreCut os bs (length os)
  cuts_from_texts t k lt = (IsCharBoundary-from_drop bs (slice_index os k) (place_within k lt) (from_text k lt t)).1

  one : IsUtf8 (drop (slice_index os 0) bs) → ((k : ℕ) → k < length os → IsCharBoundary bs (slice_index os k)) → (i : ℕ) → i + 1 < length os → IsUtf8 (span os bs i)
  one whole cut i lt =
      let first = slice_index os 0 in
      let o = slice_index os i in
      let low = offset_first os i is (omega (arith, lt)) in
      let up = is.rising i lt in
      let there : first + (o - first) ≡ o = omega (arith, low) in
      let same : drop (o - first) (drop first bs) ≡ drop o bs = drop-drop (o - first) first bs ∙ ap (λ k. drop k bs) there in
      let begins = IsUtf8-drop (drop first bs) (o - first) whole (boundary-in_rest bs first o low (cut i (omega (arith, lt)))) in
      IsUtf8-take (drop o bs) (slice_index os (i + 1) - o) (subst IsUtf8 same begins) (boundary-in_rest bs o (slice_index os (i + 1)) up (cut (i + 1) lt))

  texts_by : IsUtf8 (drop (slice_index os 0) bs) → ((k : ℕ) → k < length os → IsCharBoundary bs (slice_index os k)) → AreTexts os bs
  texts_by whole cut = record { each = one whole cut }

  texts_from_whole : IsUtf8 (drop (slice_index os 0) bs) → AreCut os bs (length os) → AreTexts os bs
  texts_from_whole whole cut = texts_by whole (λ k lt. (place_within k lt, cut k lt))

  texts_from_ascii : IsAscii bs → AreTexts os bs
  texts_from_ascii a =
      texts_by (IsUtf8-from_ascii (drop (slice_index os 0) bs) (λ i. rw (get_or-drop (slice_index os 0) bs i 0) (a (slice_index os 0 + i))))
      (λ k lt. IsCharBoundary-from_ascii bs (slice_index os k) a (place_within k lt))

-- the bytes up to the last offset have the same texts
span-front : (os xs : List ℕ) (m i : ℕ) → slice_index os i ≤ slice_index os (i + 1) → slice_index os (i + 1) ≤ m → span os (take m xs) i ≡ span os xs i
span-front os xs m i up h =
    let o = slice_index os i in
    let k = slice_index os (i + 1) - o in
    let e : o + (m - o) ≡ m = omega (arith, up, h) in
    ap (λ j. take k (drop o (take j xs))) (sym e) ∙ ap (take k) (drop-take o (m - o) xs) ∙ take-take k (m - o) (drop o xs) (omega (arith, up, h))

-- m is the last offset, and within the bytes
module _ (os xs : List ℕ) (m : ℕ) (is : IsOffsets os) (last : m ≡ slice_index os (length os - 1)) (ends : EndsWithin os xs) where
  all : slice_index os (length os - 1) ≡ length (take m xs)
  all = let long = length-take-le m xs (omega (arith, last, ends)) in omega (arith, last, long)

  same : (i : ℕ) → i + 1 < length os → span os (take m xs) i ≡ span os xs i
  same i lt = let le = offset_last os (i + 1) is lt in span-front os xs m i (is.rising i lt) (omega (arith, last, le))

  of_front : AreTexts os (take m xs) → AreTexts os xs
  of_front t = record { each = λ i lt. subst IsUtf8 (same i lt) (t.each i lt) }

  in_front : AreTexts os xs → AreTexts os (take m xs)
  in_front t = record { each = λ i lt. subst IsUtf8 (sym (same i lt)) (t.each i lt) }

  pub first_in : slice_index os 0 ≤ length (take m xs)
  first_in = place_within os (take m xs) is all 0 is.some

  pub ascii_texts : IsAscii (take m xs) → AreTexts os xs
  ascii_texts a = of_front (texts_from_ascii os (take m xs) is all a)

  pub front_texts : IsUtf8 (drop (slice_index os 0) (take m xs)) → AreCut os (take m xs) (length os) → AreTexts os xs
  front_texts whole cut = of_front (texts_from_whole os (take m xs) is all whole cut)

  pub front_utf8 : AreTexts os xs → IsUtf8 (drop (slice_index os 0) (take m xs))
  front_utf8 t = whole_from_texts os (take m xs) is all (in_front t)

  pub front_cut : AreTexts os xs → AreCut os (take m xs) (length os)
  front_cut t = cuts_from_texts os (take m xs) is all (in_front t)
