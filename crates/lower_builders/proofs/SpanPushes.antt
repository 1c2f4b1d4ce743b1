-- One more slot of bytes.
use Rattle.std.proofs.Common.{arith, refl, ◌≡◌, ℕ, ◌+◌, ◌-◌, ◌<◌, ◌≤◌, List, [], ◌∷◌, ◌++◌, Bool, length, take, drop, map, get_or, sym, ap, ap₂, ◌∙◌}
use Rattle.std.specs.Prelude.{Option, slice_index}
use Rattle.std.specs.List.{range_with_len}
use Rattle.std.proofs.lemmas.List.{length-append, length_push, length-drop, map_push, get_or_push, get_or_append_left, drop-append-le, take-append-le, drop_at, take_all}
use Rattle.std.proofs.lemmas.List.Sums.{sum_by_push, sum_by_more_le}
use Rattle.std.proofs.lemmas.List.FromFn.{length-map-range_with_len, map-range_with_len_more}
use Rattle.lower.specs.Offsets.{IsOffsets}
use Rattle.lower_flat_arrays.specs.Options.{option_where, where_set}
use Rattle.lower_flat_arrays.specs.Spans.{span, span_count}
use Rattle.lower_flat_arrays.proofs.SpanPlaces.{offset_last}
use Rattle.lower_builders.specs.Growing.{last_end_of}
use Rattle.lower_builders.specs.Validity.{as_validity}
use Rattle.lower_builders.specs.Bytes.{bytes_in, byte_count, spans_of, AreSpans, ArePartsOf}
use Rattle.lower_builders.proofs.BitPushes.{same_along}
use Rattle.lower_builders.proofs.OffsetPushes.{IsOffsets-push}
use Rattle.lower_builders.proofs.Slots.{where_set-push, length-where_set, bits-where_set, options-where, validity_fits}

module _ (os xs bytes : List ℕ) (is : IsOffsets os) (whole : last_end_of os ≡ length xs) where
  more : span_count (os ++ (last_end_of os + length bytes) ∷ []) ≡ span_count os + 1
  more = let some = is.some in omega (arith, length_push os (last_end_of os + length bytes), some)

  -- an offset that was there
  old : (k : ℕ) → k < length os → slice_index (os ++ (last_end_of os + length bytes) ∷ []) k ≡ slice_index os k
  old k h = get_or_append_left os ((last_end_of os + length bytes) ∷ []) 0 k h

  -- the bytes of a slot that was there
  old_span : (k : ℕ) → k < span_count os → span (os ++ (last_end_of os + length bytes) ∷ []) (xs ++ bytes) k ≡ span os xs k
  old_span k h =
      let this = old k (omega (arith, h)) in
      let next = old (k + 1) (omega (arith, h)) in
      let start = slice_index os k in
      let size = slice_index os (k + 1) - start in
      let rise = is.rising k (omega (arith, h)) in
      let last = offset_last os (k + 1) is (omega (arith, h)) in
      let within : start ≤ length xs = omega (arith, rise, last, whole) in
      let fits : size ≤ length (drop start xs) = omega (arith, rise, last, whole, length-drop start xs) in
      ap₂ (λ a b. take (b - a) (drop a (xs ++ bytes))) this next
      ∙ ap (take size) (drop-append-le start xs bytes within)
      ∙ take-append-le size (drop start xs) bytes fits

  -- the bytes of the new slot
  new_span : span (os ++ (last_end_of os + length bytes) ∷ []) (xs ++ bytes) (span_count os) ≡ bytes
  new_span =
      let some = is.some in
      let this : slice_index (os ++ (last_end_of os + length bytes) ∷ []) (span_count os) ≡ last_end_of os = old (span_count os) (omega (arith, some)) in
      let next : slice_index (os ++ (last_end_of os + length bytes) ∷ []) (span_count os + 1) ≡ last_end_of os + length bytes = get_or_push os (last_end_of os + length bytes) 0 (span_count os + 1) (omega (arith, some)) in
      let size : last_end_of os + length bytes - last_end_of os ≡ length bytes = omega arith in
      ap₂ (λ a b. take (b - a) (drop a (xs ++ bytes))) this next
      ∙ ap₂ (λ n ys. take n ys) size (drop_at xs bytes (last_end_of os) (sym whole))
      ∙ take_all (length bytes) bytes (omega arith)

  pub spans-push : spans_of (os ++ (last_end_of os + length bytes) ∷ []) (xs ++ bytes) ≡ spans_of os xs ++ bytes ∷ []
  spans-push =
      let os' = os ++ (last_end_of os + length bytes) ∷ [] in
      let xs' = xs ++ bytes in
      ap (λ n. map (span os' xs') (range_with_len 0 n)) more
      ∙ map-range_with_len_more (span os' xs') 0 (span_count os) (span_count os) (omega arith)
      ∙ ap₂ (λ ys y. ys ++ y ∷ []) (same_along (span os' xs') (span os xs) 0 (span_count os) (λ k below. old_span k (omega (arith, below)))) new_span

  ends : last_end_of (os ++ (last_end_of os + length bytes) ∷ []) ≡ length (xs ++ bytes)
  ends =
      let last : length (os ++ (last_end_of os + length bytes) ∷ []) - 1 ≡ length os = omega (arith, length_push os (last_end_of os + length bytes)) in
      ap (slice_index (os ++ (last_end_of os + length bytes) ∷ [])) last
      ∙ get_or_push os (last_end_of os + length bytes) 0 (length os) refl
      ∙ (let both = length-append xs bytes in omega (arith, both, whole))

-- the bytes of one slot more
byte_count-push : (slots : List (Option (List ℕ))) (slot : Option (List ℕ)) → byte_count (slots ++ slot ∷ []) ≡ byte_count slots + length (bytes_in slot)
byte_count-push slots slot = sum_by_push (λ s. length (bytes_in s)) slots slot

pub spans_count : (os xs : List ℕ) (bits : List Bool) → length bits ≡ span_count os → length bits ≡ length (spans_of os xs)
spans_count os xs bits h = h ∙ sym (length-map-range_with_len (span os xs) 0 (span_count os))

module _ (os xs : List ℕ) (bits : List Bool) (bytes : List ℕ) (b : Bool) (are : AreSpans os xs bits) (none : bytes_in (option_where b bytes) ≡ bytes) where
  slots_grow : where_set (bits ++ b ∷ []) (spans_of (os ++ (last_end_of os + length bytes) ∷ []) (xs ++ bytes)) ≡ where_set bits (spans_of os xs) ++ option_where b bytes ∷ []
  slots_grow =
      ap (where_set (bits ++ b ∷ [])) (spans-push os xs bytes are.offsets are.whole)
      ∙ where_set-push bits (spans_of os xs) b bytes (spans_count os xs bits are.count)

  pub spans_slot : where_set (bits ++ b ∷ []) (spans_of (os ++ (last_end_of os + length bytes) ∷ []) (xs ++ bytes)) ≡ where_set bits (spans_of os xs) ++ option_where b bytes ∷ []
  spans_slot = slots_grow

  pub AreSpans-push : AreSpans (os ++ (last_end_of os + length bytes) ∷ []) (xs ++ bytes) (bits ++ b ∷ [])
  AreSpans-push = record {
    offsets = IsOffsets-push os (last_end_of os + length bytes) are.offsets (omega arith);
    whole = ends os xs bytes are.offsets are.whole;
    count = let n = more os xs bytes are.offsets are.whole in let m = length_push bits b in let count = are.count in omega (arith, n, m, count);
    empty = ap (map bytes_in) slots_grow
        ∙ map_push bytes_in (where_set bits (spans_of os xs)) (option_where b bytes)
        ∙ ap₂ (λ ys y. ys ++ y ∷ []) are.empty none
        ∙ sym (spans-push os xs bytes are.offsets are.whole);
    total = ap byte_count slots_grow
        ∙ byte_count-push (where_set bits (spans_of os xs)) (option_where b bytes)
        ∙ ap₂ (λ n ys. n + length ys) are.total none
        ∙ sym (length-append xs bytes);
  }

-- no slot
pub AreSpans-none : AreSpans (0 ∷ []) [] []
AreSpans-none = record {
  offsets = record {
    some = omega arith;
    rising = λ k below. let no : ⊥ = omega (arith, below) in absurd no;
  };
  whole = refl;
  count = refl;
  empty = refl;
  total = refl;
}

-- the number of slots
pub length-spans : (os xs : List ℕ) (bits : List Bool) → AreSpans os xs bits → length (where_set bits (spans_of os xs)) ≡ length bits
length-spans os xs bits are =
    length-where_set bits (spans_of os xs) (spans_count os xs bits are.count) ∙ sym (spans_count os xs bits are.count)

-- The parts of the array.
pub parts_of : (os xs : List ℕ) (bits : List Bool) → AreSpans os xs bits → ArePartsOf (where_set bits (spans_of os xs)) os xs (as_validity bits)
parts_of os xs bits are = record {
  offsets = are.offsets;
  within = let whole = are.whole in omega (arith, whole);
  fits = validity_fits bits (span_count os) are.count;
  slots_are = options-where bits (spans_of os xs) (spans_count os xs bits are.count);
  validity = ap as_validity (sym (bits-where_set bits (spans_of os xs) (spans_count os xs bits are.count)));
  empty = are.empty;
}

-- the bytes of the first slots and of the next
pub byte_count-take : (slots : List (Option (List ℕ))) (i : ℕ) (slot : Option (List ℕ)) → i < length slots → slot ≡ get_or slots i slot
    → byte_count (take i slots) + length (bytes_in slot) ≤ byte_count slots
byte_count-take slots i slot h at =
    let same : length (bytes_in slot) ≡ length (bytes_in (get_or slots i slot)) = ap (λ s. length (bytes_in s)) at in
    let le = sum_by_more_le (λ s. length (bytes_in s)) slots i slot h in
    omega (arith, same, le)

-- all that a push changes
pub AreSpans-grow : (os xs : List ℕ) (bits : List Bool) (bytes : List ℕ) (b : Bool) (os' xs' : List ℕ) (bits' : List Bool)
    → os' ≡ os ++ (last_end_of os + length bytes) ∷ [] → xs' ≡ xs ++ bytes → bits' ≡ bits ++ b ∷ []
    → AreSpans os xs bits → bytes_in (option_where b bytes) ≡ bytes → AreSpans os' xs' bits'
AreSpans-grow os xs bits bytes b os' xs' bits' eo ex eb are none = rw (eo, ex, eb) (AreSpans-push os xs bits bytes b are none)

pub spans_grow : (os xs : List ℕ) (bits : List Bool) (bytes : List ℕ) (b : Bool) (os' xs' : List ℕ) (bits' : List Bool)
    → os' ≡ os ++ (last_end_of os + length bytes) ∷ [] → xs' ≡ xs ++ bytes → bits' ≡ bits ++ b ∷ []
    → AreSpans os xs bits → bytes_in (option_where b bytes) ≡ bytes → where_set bits' (spans_of os' xs') ≡ where_set bits (spans_of os xs) ++ option_where b bytes ∷ []
spans_grow os xs bits bytes b os' xs' bits' eo ex eb are none = rw (eo, ex, eb) (spans_slot os xs bits bytes b are none)
