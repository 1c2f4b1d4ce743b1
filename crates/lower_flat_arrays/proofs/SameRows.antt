-- Arrays without a null have the same slots if they have the same values.
use Rattle.std.proofs.Common.{arith, ◌≡◌, ◌↔◌, ℕ, zero, suc, ◌+◌, ◌-◌, ◌*◌, ◌<◌, ◌≤◌, List, [], ◌∷◌, ◌++◌, Bool, true, false, None, Some, not, cond, length, take, drop, get_or, refl, sym, ap, ap₂, ◌∙◌}
use Rattle.std.specs.Prelude.{slice_index}
use Rattle.std.specs.List.{count_by}
use Rattle.std.proofs.lemmas.List.Sums.{sum_by-cons}
use Rattle.std.proofs.lemmas.List.{drop-drop, drop-take, take-take}
use Rattle.std.proofs.Math.Nat.{add-mul}
use Rattle.std.proofs.Math.Seq.{take-add, take-length}
use Rattle.lower.specs.Offsets.{IsOffsets}
use Rattle.lower_types.specs.NumberTypes.{Number}
use Rattle.lower_flat_arrays.specs.Validities.{Validity, ValidityFits, null_count_of, is_valid, part}
use Rattle.lower_flat_arrays.specs.Primitives.{PrimitiveSeen}
use Rattle.lower_flat_arrays.specs.FixedBinaries.{FixedBinarySeen, IsFixedBinary}
use Rattle.lower_flat_arrays.specs.Columns.{Slot, number_slot, bytes_slot, text_slot, slot_where, slots_from, number_at, fixed_at, bytes_at, text_at}
use Rattle.lower_flat_arrays.specs.SameValues.{number_in, HasSameNumbers, step, HasSameSteps, held, HasSameSpans}
use Rattle.lower_flat_arrays.specs.Spans.{SpansSeen, span, span_count, EndsWithin}
use Rattle.lower_flat_arrays.proofs.Cuts.{length-part}
use Rattle.lower_flat_arrays.proofs.SpanPlaces.{offset_first, offset_last, offset_within, offset_next}
use Rattle.lower_flat_arrays.proofs.SlotRows.{slots_from-same, same_place}

-- If no bit is unset, each is set.
each_set : (bits : List Bool) (i : ℕ) → count_by (λ bit. not bit) bits ≡ 0 → i < length bits → get_or bits i false ≡ true
each_set [] i e h = let no : ⊥ = omega (arith, h) in absurd no
each_set (false ∷ bits) i e h =
    let more = sum_by-cons (λ (bit : Bool). cond (not bit) 1 0) false bits in
    let no : ⊥ = omega (arith, e, more) in
    absurd no
each_set (true ∷ bits) zero e h = refl
each_set (true ∷ bits) (suc i) e h =
    let more = sum_by-cons (λ (bit : Bool). cond (not bit) 1 0) true bits in
    each_set bits i (omega (arith, e, more)) (omega (arith, h))

-- each slot of an array without a null is valid
each_valid : (v : Validity) (n i : ℕ) → ValidityFits v n → null_count_of v ≡ 0 → i < n → is_valid v i ≡ true
each_valid None n i fits none h = refl
each_valid (Some bits) n i fits none h = each_set bits i none (omega (arith, fits, h))

-- Two arrays without a null, whose slots K makes of values: they have the same slots
-- exactly if they have the same values.
module _ {A : Type 0} (K : A → Slot) (one : (x y : A) → K x ≡ K y → x ≡ y) (v w : Validity) (n m : ℕ) (p q : ℕ → A) where
  pub slots_by_values : n ≡ m → ValidityFits v n → ValidityFits w m → null_count_of v ≡ 0 → null_count_of w ≡ 0
      → ((i : ℕ) → i < n → p i ≡ q i) ↔ (slots_from (λ i. slot_where (is_valid v i) (K (p i))) 0 n ≡ slots_from (λ i. slot_where (is_valid w i) (K (q i))) 0 m)
  slots_by_values e fits here none there =
      let f : ℕ → Slot = λ i. slot_where (is_valid v i) (K (p i)) in
      let g : ℕ → Slot = λ i. slot_where (is_valid w i) (K (q i)) in
      let left : (i : ℕ) → i < n → f i ≡ K (p i) = λ i lt. ap (λ b. slot_where b (K (p i))) (each_valid v n i fits none lt) in
      let right : (i : ℕ) → i < n → g i ≡ K (q i) = λ i lt. ap (λ b. slot_where b (K (q i))) (each_valid w m i here there (omega (arith, lt, e))) in (
        (λ h. slots_from-same f g n (λ i lt. left i lt ∙ ap K (h i lt) ∙ sym (right i lt)) ∙ ap (slots_from g 0) e),
        (λ all i lt. one (p i) (q i) (sym (left i lt) ∙ same_place f g n m i lt (omega (arith, lt, e)) all ∙ right i lt)),
      )

-- two arrays of numbers
pub numbers_tell :
    {T : Type 0} (f : T → Number) (a b : PrimitiveSeen T) → length a.values ≡ length b.values → ValidityFits a.validity (length a.values) → ValidityFits b.validity (length b.values)
    → null_count_of a.validity ≡ 0 → null_count_of b.validity ≡ 0
    → HasSameNumbers f a.values b.values (length a.values) ↔ (slots_from (number_at f a) 0 (length a.values) ≡ slots_from (number_at f b) 0 (length b.values))
numbers_tell f a b =
    slots_by_values number_slot (λ x y e. cc) a.validity b.validity (length a.values) (length b.values) (number_in f a.values) (number_in f b.values)

-- Two lists are cut into n pieces each at the same indices c, the first of which is the front. If
-- the pieces are the same, all before the last index is.
module _ (c : ℕ → ℕ) (xs ys : List ℕ) where
  pub fronts_by_pieces : (n : ℕ) → c 0 ≡ 0 → ((k : ℕ) → k < n → c k ≤ c (k + 1))
      → ((k : ℕ) → k < n → take (c (k + 1) - c k) (drop (c k) xs) ≡ take (c (k + 1) - c k) (drop (c k) ys)) → take (c n) xs ≡ take (c n) ys
  fronts_by_pieces zero start up each = rw start refl
  fronts_by_pieces (suc n) start up each =
      let next : n + 1 ≡ suc n = omega arith in
      let d = c (n + 1) - c n in
      let le = up n (omega arith) in
      let sum : c n + d ≡ c (n + 1) = omega (arith, le) in
      let whole : c n + d ≡ c (suc n) = sum ∙ ap c next in
      let before = fronts_by_pieces n start (λ k lt. up k (omega (arith, lt))) (λ k lt. each k (omega (arith, lt))) in
      let here = each n (omega arith) in
      ap (λ j. take j xs) (sym whole)
      ∙ take-add (c n) d xs
      ∙ ap₂ (λ a b. a ++ b) before here
      ∙ sym (take-add (c n) d ys)
      ∙ ap (λ j. take j ys) whole

-- Slots of any length, of which none ends past the bytes.
module _ (os xs : List ℕ) (is : IsOffsets os) (ends : EndsWithin os xs) where
  rises : (i : ℕ) → i < span_count os → step os i ≤ step os (i + 1)
  rises i h = let up = offset_next os i is h in omega (arith, up)

  step_of : (i : ℕ) → i < length os → slice_index os 0 + step os i ≡ slice_index os i
  step_of i h = let le = offset_first os i is h in omega (arith, le)

  -- a slot has as many bytes as there are from an offset to the next
  length-span : (i : ℕ) → i < span_count os → length (span os xs i) ≡ step os (i + 1) - step os i
  length-span i h =
      let first = step_of i (omega (arith, h)) in
      let second = step_of (i + 1) (omega (arith, h)) in
      let up = offset_next os i is h in
      let within = offset_within os xs (i + 1) is ends (omega (arith, h)) in
      let long = length-part (slice_index os i) (slice_index os (i + 1) - slice_index os i) xs (omega (arith, up, within)) in
      omega (arith, long, first, second)

  -- A slot, if the bytes from the first slot on are known.
  span-after : (i : ℕ) → i < span_count os → span os xs i ≡ take (step os (i + 1) - step os i) (drop (step os i) (drop (slice_index os 0) xs))
  span-after i h =
      let first = step_of i (omega (arith, h)) in
      let second = step_of (i + 1) (omega (arith, h)) in
      let count : slice_index os (i + 1) - slice_index os i ≡ step os (i + 1) - step os i = omega (arith, first, second) in
      ap₂ (λ d ys. take d ys) count (sym (drop-drop (step os i) (slice_index os 0) xs ∙ ap (λ k. drop k xs) first))

  -- A slot, if the bytes up to the last slot are known.
  span-held : (i : ℕ) → i < span_count os → span os xs i ≡ take (step os (i + 1) - step os i) (drop (step os i) (held os xs))
  span-held i h =
      let last = length os - 1 in
      let ys = drop (slice_index os 0) xs in
      let d = step os (i + 1) - step os i in
      let m = step os last - step os i in
      let this = offset_last os i is (omega (arith, h)) in
      let next = offset_last os (i + 1) is (omega (arith, h)) in
      let all : step os i + m ≡ step os last = omega (arith, this) in
      let short : d ≤ m = omega (arith, next) in
      span-after i h
      ∙ sym (take-take d m (drop (step os i) ys) short)
      ∙ ap (take d) (sym (drop-take (step os i) m ys) ∙ ap (λ k. drop (step os i) (take k ys)) all)

-- Slots of any length have the same bytes if their offsets are as far from the first and the bytes
-- from the first slot to the last are the same.
pub spans_tell :
    (os xs ps ys : List ℕ) → IsOffsets os → IsOffsets ps → length os ≡ length ps → EndsWithin os xs → EndsWithin ps ys
    → (HasSameSteps os ps (length os) × (held os xs ≡ held ps ys)) ↔ HasSameSpans os xs ps ys
spans_tell os xs ps ys is here count ends there = (
  (λ both i h.
      let this : step os i ≡ step ps i = both.0 i (omega (arith, h)) in
      let next : step os (i + 1) ≡ step ps (i + 1) = both.0 (i + 1) (omega (arith, h)) in
      span-held os xs is ends i h
      ∙ (λ j. take (next j - this j) (drop (this j) (both.1 j)))
      ∙ sym (span-held ps ys here there i (omega (arith, h, count)))),
  (λ each. (steps each, bytes each)),
)
  where
    steps : HasSameSpans os xs ps ys → (k : ℕ) → k < length os → step os k ≡ step ps k
    steps each zero h = omega arith
    steps each (suc k) h =
        let before = steps each k (omega (arith, h)) in
        let left = length-span os xs is ends k (omega (arith, h)) in
        let right = length-span ps ys here there k (omega (arith, h, count)) in
        let same = ap length (each k (omega (arith, h))) in
        let up = rises os xs is ends k (omega (arith, h)) in
        let rise = rises ps ys here there k (omega (arith, h, count)) in
        let e : k + 1 ≡ suc k = omega arith in
        let next : step os (k + 1) ≡ step ps (k + 1) = omega (arith, before, left, right, same, up, rise) in
        sym (ap (step os) e) ∙ next ∙ ap (step ps) e

    bytes : HasSameSpans os xs ps ys → held os xs ≡ held ps ys
    bytes each =
        let last = length os - 1 in
        let same = steps each in
        let some = is.some in
        let fronts = fronts_by_pieces (step os) (drop (slice_index os 0) xs) (drop (slice_index ps 0) ys) last (omega arith) (λ k h. rises os xs is ends k h)
        (λ k h.
        let this = same k (omega (arith, h)) in
        let next = same (k + 1) (omega (arith, h)) in
        sym (span-after os xs is ends k h) ∙ each k h ∙ span-after ps ys here there k (omega (arith, h, count))
        ∙ (λ j. take (sym next j - sym this j) (drop (sym this j) (drop (slice_index ps 0) ys)))) in
        let end : step os last ≡ step ps (length ps - 1) = same last (omega (arith, some)) ∙ ap (λ n. step ps (n - 1)) count in
        fronts ∙ ap (λ k. take k (drop (slice_index ps 0) ys)) end

-- two arrays of bytes
pub bytes_tell :
    (a b : SpansSeen) → span_count a.offsets ≡ span_count b.offsets → ValidityFits a.validity (span_count a.offsets) → ValidityFits b.validity (span_count b.offsets)
    → null_count_of a.validity ≡ 0 → null_count_of b.validity ≡ 0
    → HasSameSpans a.offsets a.values b.offsets b.values ↔ (slots_from (bytes_at a) 0 (span_count a.offsets) ≡ slots_from (bytes_at b) 0 (span_count b.offsets))
bytes_tell a b =
    slots_by_values bytes_slot (λ x y e. cc) a.validity b.validity (span_count a.offsets) (span_count b.offsets) (span a.offsets a.values) (span b.offsets b.values)

-- two arrays of texts
pub texts_tell :
    (a b : SpansSeen) → span_count a.offsets ≡ span_count b.offsets → ValidityFits a.validity (span_count a.offsets) → ValidityFits b.validity (span_count b.offsets)
    → null_count_of a.validity ≡ 0 → null_count_of b.validity ≡ 0
    → HasSameSpans a.offsets a.values b.offsets b.values ↔ (slots_from (text_at a) 0 (span_count a.offsets) ≡ slots_from (text_at b) 0 (span_count b.offsets))
texts_tell a b =
    slots_by_values text_slot (λ x y e. cc) a.validity b.validity (span_count a.offsets) (span_count b.offsets) (span a.offsets a.values) (span b.offsets b.values)

-- n pieces of equally many bytes are the same exactly if all their bytes are.
one_more : (k size : ℕ) → (k + 1) * size ≡ k * size + size
one_more k size =
    let both : (k + 1) * size ≡ k * size + 1 * size = add-mul k 1 size in
    let one : 1 * size ≡ size = omega arith in
    omega (arith, both, one)

whole_by_pieces :
    (n size : ℕ) (xs ys : List ℕ) → length xs ≡ n * size → length ys ≡ n * size
    → ((i : ℕ) → i < n → part (i * size) size xs ≡ part (i * size) size ys) → xs ≡ ys
whole_by_pieces n size xs ys long same each =
    let fronts = fronts_by_pieces (λ k. k * size) xs ys n (omega arith) (λ k h. let more = one_more k size in omega (arith, more))
    (λ k h.
    let more = one_more k size in
    let count : (k + 1) * size - k * size ≡ size = omega (arith, more) in
    ap (λ d. take d (drop (k * size) xs)) count ∙ each k h ∙ ap (λ d. take d (drop (k * size) ys)) (sym count)) in
    sym (ap (λ k. take k xs) (sym long) ∙ take-length xs) ∙ fronts ∙ (ap (λ k. take k ys) (sym same) ∙ take-length ys)

-- two arrays of bytes of a fixed size
pub fixed_tell :
    (a b : FixedBinarySeen) → a.len ≡ b.len → a.size ≡ b.size → IsFixedBinary a → IsFixedBinary b → null_count_of a.validity ≡ 0 → null_count_of b.validity ≡ 0
    → (a.values ≡ b.values) ↔ (slots_from (fixed_at a) 0 a.len ≡ slots_from (fixed_at b) 0 b.len)
fixed_tell a b count size is here none there =
    let p : ℕ → List ℕ = λ i. part (i * a.size) a.size a.values in
    let q : ℕ → List ℕ = λ i. part (i * b.size) b.size b.values in
    let slots = slots_by_values bytes_slot (λ x y e. cc) a.validity b.validity a.len b.len p q count is.fits here.fits none there in
    let long : length b.values ≡ a.len * a.size = here.whole ∙ (λ j. sym count j * sym size j) in (
      (λ e. slots.0 (λ i h j. part (i * size j) (size j) (e j))),
      (λ all. whole_by_pieces a.len a.size a.values b.values is.whole long (λ i h. slots.1 all i h ∙ (λ j. part (i * sym size j) (sym size j) b.values))),
    )
