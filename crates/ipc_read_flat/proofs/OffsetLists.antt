-- Offsets that were read are those that the entries say.
use Rattle.std.proofs.Common.{arith, ◌≡◌, refl, ℕ, zero, suc, ℤ, pos, ◌+◌, ◌-◌, ◌*◌, ◌^◌, ◌<◌, ◌≤◌, ◌≤ℤ◌, Bool, true, false, cond, List, [], ◌∷◌, map, length, take, drop, get_or, sym, ap, subst, ◌∙◌, inl, inr}
use Rattle.std.proofs.lemmas.Bool.Decides.{nat_tests}
use Rattle.std.proofs.lemmas.Bool.{cases_lt}
use Rattle.std.proofs.lemmas.Nat.{pow_pos}
use Rattle.std.proofs.lemmas.Int.{to_z_pos}
use Rattle.std.proofs.lemmas.List.{get_or-map, length-map}
use Rattle.std.proofs.lemmas.List.FromFn.{get_or-map-range_with_len, length-map-range_with_len}
use Rattle.std.specs.Int.{w32, w64}
use Rattle.std.specs.List.{range_with_len}
use Rattle.std.specs.Prelude.{slice_index, slice_index_or, nat_lt}
use Rattle.lower.specs.Offsets.{AreOffsets, IsOffsets}
use Rattle.lower_types.specs.Numbers.{values_of, unsigned_in}
use Rattle.lower_types.specs.declared.Endianness.{Endianness}
use Rattle.ipc_model.proofs.Extended.{offset_below}
use Rattle.ipc_model.specs.Kinds.{OffsetWidth, offsets_32, offsets_64, offset_width}
use Rattle.ipc_model.specs.Entries.{Entries, bytes, Need, offset}
use Rattle.ipc_model.specs.Columns.{is_omitted, last_offset, Offsets}
use Rattle.ipc_model.specs.ReadArrays.{offsets_of}
use Rattle.ipc_read_flat.proofs.FlatLevels.{pieces_are}
use Rattle.ipc_read_flat.specs.OffsetForms.{signed_of}

-- ---- one offset

abbrev pub half : OffsetWidth → ℕ
half form = 2 ^ (8 * offset_width form - 1)

signed_small : (form : OffsetWidth) (n : ℕ) → n < half form → signed_of form n ≡ pos n
signed_small offsets_32 n h = to_z_pos w32 n h
signed_small offsets_64 n h = to_z_pos w64 n h

signed_large : (form : OffsetWidth) (n m : ℕ) → pos m ≡ signed_of form n → n < half form
signed_large offsets_32 n m e =
    elim (cases_lt n (2 ^ 31)) [
      | inl low ↦ low
      | inr high ↦ let told : nat_lt n (2 ^ 31) ≡ false = grind (arith, nat_tests) in absurd (grind (arith, nat_tests))
    ]
signed_large offsets_64 n m e =
    elim (cases_lt n (2 ^ 63)) [
      | inl low ↦ low
      | inr high ↦ let told : nat_lt n (2 ^ 63) ≡ false = grind (arith, nat_tests) in absurd (grind (arith, nat_tests))
    ]

same_signed : (form : OffsetWidth) (n m : ℕ) → pos m ≡ signed_of form n → m ≡ n
same_signed form n m e = let told = e ∙ signed_small form n (signed_large form n m e) in cc

-- ---- many

from_signed :
    (form : OffsetWidth) (f : ℕ → ℕ) (os : List ℕ) (a n : ℕ) → map pos os ≡ map (λ i. signed_of form (f i)) (range_with_len a n)
    → os ≡ map f (range_with_len a n)
from_signed form f [] a zero e = refl
from_signed form f [] a (suc n) e = absurd cc
from_signed form f (o ∷ os) a zero e = absurd cc
from_signed form f (o ∷ os) a (suc n) e =
    let head : pos o ≡ signed_of form (f a) = cc in
    let tail : map pos os ≡ map (λ i. signed_of form (f i)) (range_with_len (a + 1) n) = cc in
    λ i. same_signed form (f a) o head i ∷ from_signed form f os (a + 1) n tail i

each_small :
    (form : OffsetWidth) (f : ℕ → ℕ) (os : List ℕ) (a n i : ℕ) → map pos os ≡ map (λ i. signed_of form (f i)) (range_with_len a n)
    → i < n → f (a + i) < half form
each_small form f [] a zero i e h = absurd (omega (arith, h))
each_small form f [] a (suc n) i e h = absurd cc
each_small form f (o ∷ os) a zero i e h = absurd (omega (arith, h))
each_small form f (o ∷ os) a (suc n) zero e h =
    let head : pos o ≡ signed_of form (f a) = cc in
    let same : a ≡ a + 0 = omega arith in
    subst (λ j. f j < half form) same (signed_large form (f a) o head)
each_small form f (o ∷ os) a (suc n) (suc i) e h =
    let tail : map pos os ≡ map (λ i. signed_of form (f i)) (range_with_len (a + 1) n) = cc in
    let same : a + 1 + i ≡ a + suc i = omega arith in
    subst (λ j. f j < half form) same (each_small form f os (a + 1) n i tail (omega (arith, h)))

-- ---- the offsets of a column

not_omitted : (s : Entries) (b k : ℕ) → is_omitted s b k ≡ false → (w : ℕ) → last_offset s b w k ≡ offset s b w k
not_omitted s b k e w = ap (λ (t : Bool). cond t 0 (offset s b w k)) e

kept_need : (s : Entries) (b w k : ℕ) → is_omitted s b k ≡ false → Need s b (w * (k + 1)) → Need s b (cond (is_omitted s b k) 0 (w * (k + 1)))
kept_need s b w k e need = subst (λ (t : Bool). Need s b (cond t 0 (w * (k + 1)))) (sym e) need

pub stored_need : (s : Entries) (b w k : ℕ) → is_omitted s b k ≡ false → Offsets s b w k → Need s b (w * (k + 1))
stored_need s b w k e o = subst (λ (t : Bool). Need s b (cond t 0 (w * (k + 1)))) e o.stored

kept_list : (s : Entries) (b w k : ℕ) → is_omitted s b k ≡ false → offsets_of s b w k ≡ map (λ i. offset s b w i) (range_with_len 0 (k + 1))
kept_list s b w k e = ap (λ (t : Bool). cond t (0 ∷ []) (map (λ i. offset s b w i) (range_with_len 0 (k + 1)))) e

-- the one offset 0
pub omitted_list : (s : Entries) (b w k : ℕ) → true ≡ is_omitted s b k → (o : List ℕ) → o ≡ 0 ∷ [] → o ≡ offsets_of s b w k
omitted_list s b w k e o z = z ∙ ap (λ (t : Bool). cond t (0 ∷ []) (map (λ i. offset s b w i) (range_with_len 0 (k + 1)))) e

pub omitted_offsets : (s : Entries) (b w k : ℕ) → true ≡ is_omitted s b k → Need s b 0 → k ≡ 0 → 0 < w → Offsets s b w k
omitted_offsets s b w k e need none some = record {
  stored = subst (λ (t : Bool). Need s b (cond t 0 (w * (k + 1)))) e need;
  rising = λ i h. absurd (omega (arith, h, none));
  small = let z : 0 ≡ last_offset s b w k = ap (λ (t : Bool). cond t 0 (offset s b w k)) e in
      let p : 0 < 2 ^ (8 * w - 1) = pow_pos (8 * w - 1) in
      subst (λ (n : ℕ). n < 2 ^ (8 * w - 1)) z p;
}

pub omitted_need : (s : Entries) (b w k : ℕ) → true ≡ is_omitted s b k → Offsets s b w k → Need s b 0
omitted_need s b w k e o = subst (λ (t : Bool). Need s b (cond t 0 (w * (k + 1)))) (sym e) o.stored

-- the numbers as they were read
integers_read :
    {O : Type 0} (form : OffsetWidth) (integer : O → ℤ) (value : List ℕ → O) (w : ℕ) (s : Entries) (b k : ℕ) (v : List O)
    → ((ys : List ℕ) → integer (value ys) ≡ signed_of form (unsigned_in (offset_width form) s.order ys)) → ((ys : List ℕ) → value (take w ys) ≡ value ys)
    → w ≡ offset_width form → 0 < w → w * (k + 1) ≤ length (bytes s b) → v ≡ values_of value w (take (w * (k + 1)) (bytes s b))
    → map integer v ≡ map (λ i. signed_of form (offset s b (offset_width form) i)) (range_with_len 0 (k + 1))
integers_read form integer value w s b k v is first width some long read =
    pieces_are integer (λ ys. signed_of form (unsigned_in (offset_width form) s.order ys)) value w (k + 1) (bytes s b) v is first some long read
    ∙ (λ j. map (λ i. signed_of form (unsigned_in (offset_width form) s.order (drop (width j * i) (bytes s b)))) (range_with_len 0 (k + 1)))

module _
    {O : Type 0} (form : OffsetWidth) (integer : O → ℤ) (s : Entries) (b k : ℕ) (v : List O)
    (told : map integer v ≡ map (λ i. signed_of form (offset s b (offset_width form) i)) (range_with_len 0 (k + 1)))
    (kept : is_omitted s b k ≡ false) where
  pub list_is : (os : List ℕ) → map pos os ≡ map integer v → os ≡ offsets_of s b (offset_width form) k
  list_is os e = from_signed form (λ i. offset s b (offset_width form) i) os 0 (k + 1) (e ∙ told) ∙ sym (kept_list s b (offset_width form) k kept)

  pub offsets_are : (os : List ℕ) → map pos os ≡ map integer v → IsOffsets os → Need s b (offset_width form * (k + 1)) → Offsets s b (offset_width form) k
  offsets_are os e is need =
      let f : ℕ → ℕ = λ i. offset s b (offset_width form) i in
      let same : os ≡ map f (range_with_len 0 (k + 1)) = from_signed form f os 0 (k + 1) (e ∙ told) in
      let long : length os ≡ k + 1 = ap length same ∙ length-map-range_with_len f 0 (k + 1) in
      let at : (i : ℕ) → i < k + 1 → slice_index os i ≡ f i = λ i h. ap (λ xs. slice_index xs i) same ∙ get_or-map-range_with_len f 0 (k + 1) i i 0 h (omega arith) in
      record {
        stored = kept_need s b (offset_width form) k kept need;
        rising = λ i h.
            let low = at i (omega (arith, h)) in
            let high = at (i + 1) (omega (arith, h)) in
            let up = is.rising i (omega (arith, h, long)) in
            omega (arith, low, high, up);
        small = subst (λ (n : ℕ). n < half form) (sym (not_omitted s b k kept (offset_width form))) (subst (λ j. f j < half form) (let z : 0 + k ≡ k = omega arith in z) (each_small form f os 0 (k + 1) k (e ∙ told) (omega arith)));
      }

  pub offsets_were : Offsets s b (offset_width form) k → AreOffsets integer v
  offsets_were o =
      let f : ℕ → ℕ = λ i. offset s b (offset_width form) i in
      let last : f k < half form = subst (λ (n : ℕ). n < half form) (not_omitted s b k kept (offset_width form)) o.small in
      let long : length v ≡ k + 1 = sym (length-map v integer) ∙ ap length told ∙ length-map-range_with_len (λ i. signed_of form (f i)) 0 (k + 1) in
      let below : (i : ℕ) → i ≤ k → f i < half form = λ i h.
      elim (cases_lt 0 k) [
        | inl some ↦ let le = offset_below s b (offset_width form) k i o some h in let same = not_omitted s b k kept (offset_width form) in omega (arith, le, same, last)
        | inr none ↦ let same : k ≡ i = omega (arith, none, h) in subst (λ j. f j < half form) same last
      ]
      in
      let at : (i : ℕ) (d : O) → i < k + 1 → integer (slice_index_or v i d) ≡ pos (f i) = λ i d h.
      sym (get_or-map integer v i d (integer d) (omega (arith, h, long)))
      ∙ ap (λ xs. get_or xs i (integer d)) told
      ∙ get_or-map-range_with_len (λ j. signed_of form (f j)) 0 (k + 1) i i (integer d) h (omega arith)
      ∙ signed_small form (f i) (below i (omega (arith, h)))
      in
      record {
        some = omega (arith, long);
        start = λ d. let e = at 0 d (omega arith) in subst (λ (z : ℤ). pos 0 ≤ℤ z) (sym e) (search arith);
        rising = λ i d h.
            let low = at i d (omega (arith, h, long)) in
            let high = at (i + 1) d (omega (arith, h, long)) in
            let up = o.rising i (omega (arith, h, long)) in
            subst (λ (z : ℤ). z ≤ℤ integer (slice_index_or v (i + 1) d)) (sym low) (subst (λ (z : ℤ). pos (f i) ≤ℤ z) (sym high) (search (arith, up)));
      }

-- ---- the one offset 0

pub zero_offsets : {O : Type 0} (integer : O → ℤ) (x : O) (v : List O) → integer x ≡ pos 0 → v ≡ x ∷ [] → AreOffsets integer v
zero_offsets integer x v e same =
    subst (AreOffsets integer) (sym same)
    (record {
      some = omega arith;
      start = λ d. subst (λ (z : ℤ). pos 0 ≤ℤ z) (sym e) (search arith);
      rising = λ k d h. absurd (omega (arith, h));
    })

pub zero_list : {O : Type 0} (integer : O → ℤ) (x : O) (v : List O) (os : List ℕ) → integer x ≡ pos 0 → v ≡ x ∷ [] → map pos os ≡ map integer v → os ≡ 0 ∷ []
zero_list integer x v [] e same told = absurd (let told' = told ∙ ap (map integer) same in cc)
zero_list integer x v (o ∷ []) e same told = let told' = told ∙ ap (map integer) same in cc
zero_list integer x v (o ∷ p ∷ os) e same told = absurd (let told' = told ∙ ap (map integer) same in cc)

pub ruleset zeros = (zero_offsets, zero_list)

some_offset : (form : OffsetWidth) → 0 < offset_width form
some_offset offsets_32 = omega arith
some_offset offsets_64 = omega arith

pub wide : (form : OffsetWidth) (w : ℕ) → w ≡ offset_width form → 0 < w
wide form w e = let some = some_offset form in omega (arith, e, some)

pub offsets_told :
    {O : Type 0} (form : OffsetWidth) (integer : O → ℤ) (value : List ℕ → O) (w : ℕ) (order : Endianness) (s : Entries) (b k : ℕ) (v : List O)
    → ((ys : List ℕ) → integer (value ys) ≡ signed_of form (unsigned_in (offset_width form) order ys)) → ((ys : List ℕ) → value (take w ys) ≡ value ys)
    → w ≡ offset_width form → order ≡ s.order → w * (k + 1) ≤ length (bytes s b) → v ≡ values_of value w (take (w * (k + 1)) (bytes s b))
    → map integer v ≡ map (λ i. signed_of form (offset s b (offset_width form) i)) (range_with_len 0 (k + 1))
offsets_told form integer value w order s b k v is first width same long read =
    integers_read form integer value w s b k v (λ ys. is ys ∙ ap (λ o. signed_of form (unsigned_in (offset_width form) o ys)) same) first width (wide form w width) long read
