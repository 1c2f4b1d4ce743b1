-- Offsets in a buffer, counted from their first.
use Rattle.std.proofs.Common.{arith, ◌≡◌, ℕ, zero, suc, ◌+◌, ◌-◌, ◌*◌, ◌^◌, ◌<◌, ◌≤◌, ◌==◌, cond, Bool, false, List, length, drop, sym, ap, ◌∙◌, subst}
use Rattle.std.specs.Prelude.{slice_index}
use Rattle.std.proofs.Math.Nat.{mul-le-mul_left}
use Rattle.std.proofs.lemmas.Bool.Decides.{nat_tests}
use Rattle.lower.specs.Offsets.{IsRising}
use Rattle.lower_types.specs.Numbers.{unsigned_in}
use Rattle.lower_types.specs.declared.PrimitiveType.{PrimitiveType}
use Rattle.lower_types.specs.declared.PrimitiveType.TheVariants.{Int64}
use Rattle.lower_flat_arrays.specs.Validities.{part}
use Rattle.lower_flat_arrays.proofs.Cuts.{get_or-part, length-part}
use Rattle.ipc_model.specs.Columns.{is_omitted, last_offset, Offsets}
use Rattle.ipc_model.specs.Entries.{Entries, size, buffer, listed, Need, offset}
use Rattle.ipc_model.specs.Kinds.{offset_width}
use Rattle.ipc_plan.specs.Levels.{wide_of, AreOffsetBytes}
use Rattle.ipc_plan.specs.Meaning.{IsBufferOf}
use Rattle.ipc_plan.proofs.Standing.{need_part}

pub rises : (os : List ℕ) (i k : ℕ) → IsRising os → i + k < length os → slice_index os i ≤ slice_index os (i + k)
rises os i zero r h = let e : i + 0 ≡ i = omega arith in subst (λ (j : ℕ). slice_index os i ≤ slice_index os j) (sym e) (omega arith)
rises os i (suc k) r h =
    let e : i + suc k ≡ (i + k) + 1 = omega arith in
    let before = rises os i k r (omega (arith, h)) in
    let next = r (i + k) (omega (arith, h)) in
    subst (λ (j : ℕ). slice_index os i ≤ slice_index os j) (sym e) (omega (arith, before, next))

wide_some : (p : PrimitiveType) → 0 < offset_width (wide_of p)
wide_some Int64 = omega arith
wide_some _ = omega arith

-- The n + 1 offsets from index o on of ascending ones are in buffer b.
pub record CutOffsets (s : Entries) (b w : ℕ) (os : List ℕ) (o n : ℕ) : Type 0 where
  pub offsets : Offsets s b w n
  pub last : last_offset s b w n ≡ slice_index os (o + n) - slice_index os o
  pub each : (i : ℕ) → i ≤ n → offset s b w i ≡ slice_index os (o + i) - slice_index os o
  pub first_low : (i : ℕ) → i ≤ n → slice_index os o ≤ slice_index os (o + i)
  pub last_high : (i : ℕ) → i ≤ n → slice_index os (o + i) ≤ slice_index os (o + n)

pub cut_offsets : (s : Entries) (b : ℕ) (p : PrimitiveType) (os : List ℕ) (o n : ℕ) (x : List ℕ) → IsRising os → o + n < length os → IsBufferOf (buffer s b) x
    → AreOffsetBytes s.order p (part o (n + 1) os) x → CutOffsets s b (offset_width (wide_of p)) os o n
cut_offsets s b p os o n x rising inside q are =
    let w = offset_width (wide_of p) in
    let here = part o (n + 1) os in
    let count : length here ≡ n + 1 = length-part o (n + 1) os (omega (arith, inside)) in
    let at : (i : ℕ) → i ≤ n → slice_index here i ≡ slice_index os (o + i) = λ i l. get_or-part o (n + 1) os i 0 (omega (arith, l)) in
    let first : slice_index here 0 ≡ slice_index os o = at 0 (omega arith) ∙ (let e : o + 0 ≡ o = omega arith in ap (slice_index os) e) in
    let each : (i : ℕ) → i ≤ n → offset s b w i ≡ slice_index os (o + i) - slice_index os o = λ i l.
    ap (λ (xs : List ℕ). unsigned_in w s.order (drop (w * i) xs)) q.bytes_are ∙ are.each i (omega (arith, l, count))
    ∙ ap (λ k. k - slice_index here 0) (at i l) ∙ ap (λ k. slice_index os (o + i) - k) first in
    let listed_is : listed s b ≡ length x = ap size q.listed_is in
    let room : w * (n + 1) ≤ length x = let e : w * length here ≡ w * (n + 1) = ap (λ k. w * k) count in omega (arith, e, are.count) in
    let some : w * 1 ≤ w * (n + 1) = let le : 1 ≤ n + 1 = omega arith in mul-le-mul_left w le in
    let listed_some : 0 < listed s b = omega (arith, some, room, listed_is, wide_some p) in
    let not_none : (listed s b == 0) ≡ false = grind (arith, nat_tests) in
    let kept : is_omitted s b n ≡ false = grind (arith, nat_tests) in
    let last : last_offset s b w n ≡ slice_index os (o + n) - slice_index os o = ap (λ t. cond t 0 (offset s b w n)) kept ∙ each n (omega arith) in
    let end : length here - 1 ≡ n = omega (arith, count) in
    let small : slice_index os (o + n) - slice_index os o < 2 ^ (8 * w - 1) =
    let e : slice_index here (length here - 1) ≡ slice_index os (o + n) = ap (slice_index here) end ∙ at n (omega arith) in omega (arith, are.small, e, first) in
    let low : (i : ℕ) → i ≤ n → slice_index os o ≤ slice_index os (o + i) = λ i l. rises os o i rising (omega (arith, inside, l)) in
    record {
      offsets = record {
        stored = subst (λ (t : Bool). Need s b (cond t 0 (w * (n + 1)))) (sym kept) (need_part s b x (w * (n + 1)) q room);
        rising = λ i l.
            let up : slice_index os (o + i) ≤ slice_index os (o + i + 1) = rising (o + i) (omega (arith, inside, l)) in
            let e : slice_index os (o + (i + 1)) ≡ slice_index os (o + i + 1) = (let k : o + (i + 1) ≡ o + i + 1 = omega arith in ap (slice_index os) k) in
            omega (arith, each i (omega (arith, l)), each (i + 1) (omega (arith, l)), up, e);
        small = omega (arith, last, small);
      };
      last = last;
      each = each;
      first_low = low;
      last_high = λ i l.
          let e : o + i + (n - i) ≡ o + n = omega (arith, l) in
          subst (λ (j : ℕ). slice_index os (o + i) ≤ slice_index os j) e (rises os (o + i) (n - i) rising (omega (arith, inside, l)));
    }
