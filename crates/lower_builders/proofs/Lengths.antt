-- Offsets by the lengths of slots.
use Rattle.std.proofs.Common.{arith, ◌≡◌, ℕ, ◌+◌, ◌-◌, ◌<◌, ◌≤◌, List, [], ◌∷◌, ◌++◌, length, take, drop, map, get_or, sym, ap, ap₂, ◌∙◌}
use Rattle.std.specs.Prelude.{sum, slice_index}
use Rattle.std.specs.List.{range_with_len}
use Rattle.std.proofs.lemmas.List.{length_push, take-append-le, take_all, take_more, take-append-drop}
use Rattle.std.proofs.lemmas.List.Sums.{sum_by_push, sum_by-append}
use Rattle.std.proofs.lemmas.List.FromFn.{length-map-range_with_len, get_or-map-range_with_len, map-range_with_len_more}
use Rattle.lower_builders.specs.Growing.{last_end_of, offsets_by_lengths}
use Rattle.lower_builders.proofs.BitPushes.{same_along}

pub sum-push : (ns : List ℕ) (n : ℕ) → sum (ns ++ n ∷ []) ≡ sum ns + n
sum-push ns n = sum_by_push (λ x. x) ns n

sum-append-le : (ns ms : List ℕ) → sum ns ≤ sum (ns ++ ms)
sum-append-le ns ms = let both = sum_by-append (λ x. x) ns ms in omega (arith, both)

-- the last offset is the length of all slots
pub offsets_of-end : (ns : List ℕ) → last_end_of (offsets_by_lengths ns) ≡ sum ns
offsets_of-end ns =
    let count = length-map-range_with_len (λ k. sum (take k ns)) 0 (length ns + 1) in
    let last : length (offsets_by_lengths ns) - 1 ≡ length ns = omega (arith, count) in
    let e : 0 + length ns ≡ length ns = omega arith in
    ap (slice_index (offsets_by_lengths ns)) last
    ∙ get_or-map-range_with_len (λ k. sum (take k ns)) 0 (length ns + 1) (length ns) (length ns) 0 (omega arith) e
    ∙ ap sum (take_all (length ns) ns (omega arith))

-- one length more
pub offsets_of-push : (ns : List ℕ) (n : ℕ) → offsets_by_lengths (ns ++ n ∷ []) ≡ offsets_by_lengths ns ++ (last_end_of (offsets_by_lengths ns) + n) ∷ []
offsets_of-push ns n =
    let ms = ns ++ n ∷ [] in
    let count : length ms ≡ length ns + 1 = length_push ns n in
    let end = offsets_of-end ns in
    let more = sum-push ns n in
    let last : sum (take (length ns + 1) ms) ≡ last_end_of (offsets_by_lengths ns) + n = ap sum (take_all (length ns + 1) ms (omega (arith, count))) ∙ omega (arith, end, more) in
    ap (λ k. map (λ k. sum (take k ms)) (range_with_len 0 (k + 1))) count
    ∙ map-range_with_len_more (λ k. sum (take k ms)) 0 (length ns + 1) (length ns + 1) (omega arith)
    ∙ ap₂ (λ xs x. xs ++ x ∷ []) (same_along (λ k. sum (take k ms)) (λ k. sum (take k ns)) 0 (length ns + 1) (λ k below. ap sum (take-append-le k ns (n ∷ []) (omega (arith, below))))) last

-- the offsets of the first slots
pub lengths_more : (ns : List ℕ) (i n : ℕ) → i < length ns → n ≡ get_or ns i n → offsets_by_lengths (take i ns) ++ (last_end_of (offsets_by_lengths (take i ns)) + n) ∷ [] ≡ offsets_by_lengths (take (i + 1) ns)
lengths_more ns i n h at =
    sym (offsets_of-push (take i ns) n)
    ∙ ap offsets_by_lengths (ap (λ x. take i ns ++ x ∷ []) at ∙ sym (take_more ns i n h))

pub lengths_all : (ns : List ℕ) (i n : ℕ) → i < length ns → n ≡ get_or ns i n → last_end_of (offsets_by_lengths (take i ns)) + n ≤ sum ns
lengths_all ns i n h at =
    let end = offsets_of-end (take i ns) in
    let more = sum-push (take i ns) n in
    let next : sum (take (i + 1) ns) ≡ sum (take i ns ++ n ∷ []) = ap sum (take_more ns i n h ∙ ap (λ x. take i ns ++ x ∷ []) (sym at)) in
    let le = sum-append-le (take (i + 1) ns) (drop (i + 1) ns) in
    let whole : sum (take (i + 1) ns ++ drop (i + 1) ns) ≡ sum ns = ap sum (take-append-drop (i + 1) ns) in
    omega (arith, end, more, next, le, whole)

pub ruleset length_steps = (lengths_more, lengths_all)
