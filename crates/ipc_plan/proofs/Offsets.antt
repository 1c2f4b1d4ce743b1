-- Offsets and their bytes, each less the first.
use Rattle.std.proofs.Common.{arith, ◌≡◌, ℕ, ℤ, zero, suc, pos, ◌+◌, ◌-◌, ◌*◌, ◌^◌, ◌<◌, ◌≤◌, List, [], ◌∷◌, ◌++◌, negsuc, length, map, take, drop, get_or, refl, sym, ap, ap₂, ◌∙◌, subst, All}
use Rattle.std.specs.Prelude.{slice_index, slice_index_or}
use Rattle.std.specs.Int.{w32, w64, cast_unsigned, byte_len}
use Rattle.std.specs.Int.RustNames.{FitsSigned}
use Rattle.std.specs.List.{flat_map}
use Rattle.std.proofs.lemmas.List.{drop_at, drop-drop, get_or-map, length-map, map-id}
use Rattle.std.proofs.lemmas.List.Elements.{All-head, All-tail}
use Rattle.lower.specs.Offsets.{IsRising}
use Rattle.lower_types.specs.Numbers.{signed_bytes, unsigned_in, unsigned_bytes}
use Rattle.lower_types.specs.NumberLaws.{length-unsigned_bytes, first_part}
use Rattle.lower_types.specs.declared.Endianness.{Endianness}
use Rattle.lower_types.specs.declared.PrimitiveType.TheVariants.{Int32, Int64}
use Rattle.lower_types.proofs.NumberPieces.{length-spelt}
use Rattle.lower_flat_arrays.specs.Validities.{part}
use Rattle.lower_flat_arrays.proofs.Cuts.{get_or-part, length-part, map-part}
use Rattle.ipc_plan.specs.Levels.{AreOffsetBytes}
use Rattle.ipc_plan.specs.Pieces.{less, offset_bytes}
use Rattle.ipc_plan.proofs.Cutting.{rises}

-- number i of some that are written in w bytes each
each_unsigned : {X : Type 0} (order : Endianness) (w : ℕ) (f : X → ℕ) (xs : List X) (i : ℕ) (d : X) → ((k : ℕ) → k < length xs → f (get_or xs k d) < 256 ^ w) → i < length xs
    → unsigned_in w order (drop (w * i) (flat_map (λ x. unsigned_bytes w order (f x)) xs)) ≡ f (get_or xs i d)
each_unsigned order w f [] i d small h = absurd (omega (arith, h))
each_unsigned order w f (x ∷ xs) zero d small h =
    let rest = flat_map (λ y. unsigned_bytes w order (f y)) xs in
    let e : w * zero ≡ 0 = omega arith in
    ap (λ k. unsigned_in w order (drop k (unsigned_bytes w order (f x) ++ rest))) e ∙ first_part w order (f x) rest (small 0 (omega arith))
each_unsigned order w f (x ∷ xs) (suc i) d small h =
    let here = unsigned_bytes w order (f x) in
    let rest = flat_map (λ y. unsigned_bytes w order (f y)) xs in
    let e : w * suc i ≡ w + w * i = omega arith in
    ap (λ k. unsigned_in w order (drop k (here ++ rest))) e
    ∙ ap (unsigned_in w order) (sym (drop-drop (w * i) w (here ++ rest)) ∙ ap (drop (w * i)) (drop_at here rest w (length-unsigned_bytes w order (f x))))
    ∙ each_unsigned order w f xs i d (λ k l. small (suc k) (omega (arith, l))) (omega (arith, h))

less_32 : (a b : ℕ) → b ≤ a → a < 2 ^ 31 → less w32 (2 ^ 32) (cast_unsigned w32 (pos b)) (pos a) ≡ a - b
less_32 a b h k = omega (arith, h, k)

less_64 : (a b : ℕ) → b ≤ a → a < 2 ^ 63 → less w64 (2 ^ 64) (cast_unsigned w64 (pos b)) (pos a) ≡ a - b
less_64 a b h k = omega (arith, h, k)

-- an offset less 0 is the offset
less_none_64 : (z : ℤ) → FitsSigned w64 z → less w64 (2 ^ 64) 0 z ≡ cast_unsigned w64 z
less_none_64 (pos n) h = omega (arith, h)
less_none_64 (negsuc n) h = omega (arith, h)

stand_from_none_64 : (order : Endianness) (zs : List ℤ) → All (FitsSigned w64) zs
    → flat_map (signed_bytes w64 order) zs ≡ flat_map (λ z. unsigned_bytes (byte_len w64) order (less w64 (2 ^ 64) 0 z)) zs
stand_from_none_64 order [] h = refl
stand_from_none_64 order (z ∷ zs) h =
    ap₂ (λ (xs ys : List ℕ). xs ++ ys) (ap (unsigned_bytes (byte_len w64) order) (sym (less_none_64 z (All-head (FitsSigned w64) z zs h)))) (stand_from_none_64 order zs (All-tail (FitsSigned w64) z zs h))

-- Offsets that begin at 0, unchanged.
pub from_none_64 : (order : Endianness) (zs : List ℤ) → cast_unsigned w64 (slice_index_or zs 0 (pos 0)) ≡ 0 → All (FitsSigned w64) zs → flat_map (signed_bytes w64 order) zs ≡ offset_bytes w64 (2 ^ 64) order zs
from_none_64 order zs e h =
    stand_from_none_64 order zs h ∙ ap (λ first. flat_map (λ z. unsigned_bytes (byte_len w64) order (less w64 (2 ^ 64) first z)) zs) (sym e)

below_32 : (z : ℤ) (a : ℕ) → FitsSigned w32 z → z ≡ pos a → a < 2 ^ 31
below_32 z a h e = let fits : FitsSigned w32 (pos a) = subst (FitsSigned w32) e h in omega (arith, fits)

below_64 : (z : ℤ) (a : ℕ) → FitsSigned w64 z → z ≡ pos a → a < 2 ^ 63
below_64 z a h e = let fits : FitsSigned w64 (pos a) = subst (FitsSigned w64) e h in omega (arith, fits)

-- Some of ascending offsets.
pub rising_part : (os : List ℕ) (o n : ℕ) → IsRising os → o + n ≤ length os → IsRising (part o n os)
rising_part os o n rising h = λ k l.
    let count : length (part o n os) ≡ n = length-part o n os h in
    let up : slice_index os (o + k) ≤ slice_index os (o + k + 1) = rising (o + k) (omega (arith, h, l, count)) in
    let here : slice_index (part o n os) k ≡ slice_index os (o + k) = get_or-part o n os k 0 (omega (arith, l, count)) in
    let next : slice_index (part o n os) (k + 1) ≡ slice_index os (o + k + 1) = get_or-part o n os (k + 1) 0 (omega (arith, l, count)) ∙ (let e : o + (k + 1) ≡ o + k + 1 = omega arith in ap (slice_index os) e) in
    omega (arith, up, here, next)

pub offsets_32 : (order : Endianness) (ys : List ℤ) (os : List ℕ) → ys ≡ map pos os → IsRising os → 0 < length os → All (FitsSigned w32) ys → AreOffsetBytes order Int32 os (offset_bytes w32 (2 ^ 32) order ys)
offsets_32 order ys os same rising some fits =
    let long : length ys ≡ length os = ap (λ (zs : List ℤ). length zs) same ∙ length-map os pos in
    let at : (i : ℕ) → i < length os → get_or ys i (pos 0) ≡ pos (slice_index os i) = λ i l. ap (λ (zs : List ℤ). get_or zs i (pos 0)) same ∙ get_or-map pos os i 0 (pos 0) l in
    let base = cast_unsigned w32 (slice_index_or ys 0 (pos 0)) in
    let low : (i : ℕ) → i < length os → slice_index os i < 2 ^ 31 = λ i l. below_32 _ _ (fits i (pos 0) (omega (arith, l, long))) (at i l) in
    let up : (i : ℕ) → i < length os → slice_index os 0 ≤ slice_index os i = λ i l.
    let e : 0 + i ≡ i = omega arith in subst (λ (j : ℕ). slice_index os 0 ≤ slice_index os j) e (rises os 0 i rising (omega (arith, l))) in
    let value : (i : ℕ) → i < length os → less w32 (2 ^ 32) base (get_or ys i (pos 0)) ≡ slice_index os i - slice_index os 0 = λ i l.
    ap₂ (λ b z. less w32 (2 ^ 32) (cast_unsigned w32 b) z) (at 0 some) (at i l) ∙ less_32 (slice_index os i) (slice_index os 0) (up i l) (low i l) in
    record {
      width = refl;
      count = length-spelt (λ z. unsigned_bytes (byte_len w32) order (less w32 (2 ^ 32) base z)) 4 (λ z. length-unsigned_bytes 4 order (less w32 (2 ^ 32) base z)) ys ∙ ap (λ k. 4 * k) long;
      each = λ i l.
          each_unsigned order 4 (less w32 (2 ^ 32) base) ys i (pos 0) (λ k h. let v = value k (omega (arith, h, long)) in let s = low k (omega (arith, h, long)) in omega (arith, v, s)) (omega (arith, l, long)) ∙ value i l;
      small = let s = low (length os - 1) (omega (arith, some)) in omega (arith, s);
    }

pub offsets_64 : (order : Endianness) (ys : List ℤ) (os : List ℕ) → ys ≡ map pos os → IsRising os → 0 < length os → All (FitsSigned w64) ys → AreOffsetBytes order Int64 os (offset_bytes w64 (2 ^ 64) order ys)
offsets_64 order ys os same rising some fits =
    let long : length ys ≡ length os = ap (λ (zs : List ℤ). length zs) same ∙ length-map os pos in
    let at : (i : ℕ) → i < length os → get_or ys i (pos 0) ≡ pos (slice_index os i) = λ i l. ap (λ (zs : List ℤ). get_or zs i (pos 0)) same ∙ get_or-map pos os i 0 (pos 0) l in
    let base = cast_unsigned w64 (slice_index_or ys 0 (pos 0)) in
    let low : (i : ℕ) → i < length os → slice_index os i < 2 ^ 63 = λ i l. below_64 _ _ (fits i (pos 0) (omega (arith, l, long))) (at i l) in
    let up : (i : ℕ) → i < length os → slice_index os 0 ≤ slice_index os i = λ i l.
    let e : 0 + i ≡ i = omega arith in subst (λ (j : ℕ). slice_index os 0 ≤ slice_index os j) e (rises os 0 i rising (omega (arith, l))) in
    let value : (i : ℕ) → i < length os → less w64 (2 ^ 64) base (get_or ys i (pos 0)) ≡ slice_index os i - slice_index os 0 = λ i l.
    ap₂ (λ b z. less w64 (2 ^ 64) (cast_unsigned w64 b) z) (at 0 some) (at i l) ∙ less_64 (slice_index os i) (slice_index os 0) (up i l) (low i l) in
    record {
      width = refl;
      count = length-spelt (λ z. unsigned_bytes (byte_len w64) order (less w64 (2 ^ 64) base z)) 8 (λ z. length-unsigned_bytes 8 order (less w64 (2 ^ 64) base z)) ys ∙ ap (λ k. 8 * k) long;
      each = λ i l.
          each_unsigned order 8 (less w64 (2 ^ 64) base) ys i (pos 0) (λ k h. let v = value k (omega (arith, h, long)) in let s = low k (omega (arith, h, long)) in omega (arith, v, s)) (omega (arith, l, long)) ∙ value i l;
      small = let s = low (length os - 1) (omega (arith, some)) in omega (arith, s);
    }

-- The offsets of some slots, unchanged.
pub stand_part : (zs : List ℤ) (os : List ℕ) (o n k : ℕ) → map (λ z. z) zs ≡ map pos os → k ≡ n → take k (drop o zs) ≡ map pos (part o n os)
stand_part zs os o n k same e =
    ap (λ j. take j (drop o zs)) e ∙ ap (λ (ys : List ℤ). take n (drop o ys)) (sym (map-id zs) ∙ same) ∙ sym (map-part pos o n os)
