-- Levels of bytes and of texts, whose offsets count from the first.
use Rattle.std.proofs.Common.{arith, ◌≡◌, ℕ, ℤ, ◌+◌, ◌-◌, ◌<◌, ◌≤◌, List, [], ◌∷◌, length, take, drop, Option, refl, sym, ap, ◌∙◌, subst, length-drop}
use Rattle.std.specs.Prelude.{slice_index, slice_range, IsUtf8}
use Rattle.std.proofs.lemmas.List.{length-take}
use Rattle.lower_types.specs.declared.PrimitiveType.{PrimitiveType}
use Rattle.lower_types.specs.declared.PrimitiveType.TheVariants.{Int64}
use Rattle.lower_flat_arrays.specs.Binaries.{bytes_with}
use Rattle.lower_flat_arrays.specs.Spans.{span}
use Rattle.lower_flat_arrays.specs.Texts.{texts_with}
use Rattle.lower_flat_arrays.specs.Validities.{part, is_valid as array_valid}
use Rattle.lower_flat_arrays.proofs.Cuts.{get_or-part, length-part}
use Rattle.lower.specs.TypeTrees.{TypeTree}
use Rattle.lower_arrays.specs.Layouts.{bytes, texts, Level, no_layouts}
use Rattle.lower_arrays.specs.Slots.{bytes_slot, text_slot, slot_where, PartsFit, SpansFit}
use Rattle.ipc_base.specs.IdTrees.{IdTrees}
use Rattle.ipc_table_views.specs.declared.message.FieldNode.{FieldNode}
use Rattle.ipc_model.specs.Columns.{Begins, last_offset, bytes_at, HasBytes, AreTexts as TextsAt}
use Rattle.ipc_model.specs.Entries.{Entries, buffer, Limit, offset}
use Rattle.ipc_model.specs.Kinds.{Kind, offset_width, binary_kind, utf8_kind}
use Rattle.ipc_plan.specs.Levels.{wide_of, cut_out}
use Rattle.ipc_plan.specs.Meaning.{IsBufferOf, Means}
use Rattle.ipc_plan.proofs.Cutting.{rises, CutOffsets, cut_offsets}
use Rattle.ipc_plan.proofs.Flat.{part_again}
use Rattle.ipc_plan.proofs.KindForms.{kind_by, means_by}
use Rattle.ipc_plan.proofs.ValidityRows.{begins, rows_of, masked_is}
use Rattle.ipc_plan.proofs.Rows.{Row, RowMeans, masked_row}
use Rattle.ipc_plan.proofs.Standing.{need_part}

binary_by : (p : PrimitiveType) (t : TypeTree) (id : Option ℤ) (is : IdTrees) → kind_by (bytes_with p) t id is ≡ binary_kind (wide_of p)
binary_by Int64 t id is = refl
binary_by _ t id is = refl

utf8_by : (p : PrimitiveType) (t : TypeTree) (id : Option ℤ) (is : IdTrees) → kind_by (texts_with p) t id is ≡ utf8_kind (wide_of p)
utf8_by Int64 t id is = refl
utf8_by _ t id is = refl

-- Bytes between two offsets, among those from a lower offset up to a higher one.
inside_cut : (xs : List ℕ) (f l u v : ℕ) → f ≤ u → u ≤ v → v ≤ l → slice_range (slice_range xs f l) (u - f) (v - f) ≡ take (v - u) (drop u xs)
inside_cut xs f l u v a b c =
    let room : (u - f) + (v - f - (u - f)) ≤ l - f = omega (arith, a, b, c) in
    let there : f + (u - f) ≡ u = omega (arith, a) in
    let wide : v - f - (u - f) ≡ v - u = omega (arith, a, b) in
    part_again f (u - f) (v - f - (u - f)) (l - f) xs room ∙ ap (λ k. part k (v - f - (u - f)) xs) there ∙ ap (λ w. part u w xs) wide

-- The bytes of n slots from index o on.
record CutBytes (s : Entries) (b w : ℕ) (os xs : List ℕ) (o n : ℕ) : Type 0 where
  pub has : HasBytes s b w n
  pub each : (i : ℕ) → i < n → bytes_at s b w i ≡ span os xs (o + i)

cut_bytes : (s : Entries) (b w : ℕ) (os xs : List ℕ) (o n : ℕ) (x : List ℕ) → CutOffsets s b w os o n → slice_index os (o + n) ≤ length xs → IsBufferOf (buffer s (b + 1)) x
    → x ≡ slice_range xs (slice_index os o) (slice_index os (o + n)) → CutBytes s b w os xs o n
cut_bytes s b w os xs o n x c within q e =
    let f = slice_index os o in
    let l = slice_index os (o + n) in
    let long : length x ≡ length (slice_range xs f l) = ap (λ (ys : List ℕ). length ys) e in
    let low : f ≤ l = c.first_low n (omega arith) in
    let count : length (slice_range xs f l) ≡ l - f = omega (arith, length-take (l - f) (drop f xs), length-drop f xs, within, low) in
    record {
      has = record { offsets = c.offsets; values = need_part s (b + 1) x (last_offset s b w n) q (omega (arith, long, count, c.last)) };
      each = λ i h.
          let u = slice_index os (o + i) in
          let v = slice_index os (o + (i + 1)) in
          let next : v ≡ slice_index os (o + i + 1) = (let k : o + (i + 1) ≡ o + i + 1 = omega arith in ap (slice_index os) k) in
          let here = c.each i (omega (arith, h)) in
          let then = c.each (i + 1) (omega (arith, h)) in
          let a = c.first_low i (omega (arith, h)) in
          let z = c.last_high (i + 1) (omega (arith, h)) in
          let up : u ≤ v = omega (arith, here, then, a, c.first_low (i + 1) (omega (arith, h)), c.offsets.rising i h) in
          ap (λ (ys : List ℕ). slice_range ys (offset s b w i) (offset s b w (i + 1))) (q.bytes_are ∙ e)
          ∙ ap (λ j. slice_range (slice_range xs f l) j (offset s b w (i + 1))) here
          ∙ ap (λ j. slice_range (slice_range xs f l) (u - f) j) then
          ∙ inside_cut xs f l u v a up z
          ∙ ap (λ j. take (j - u) (drop u xs)) next;
    }

-- the first offset of a cut, and the last
pub ends : (os xs : List ℕ) (o n : ℕ) → o + n < length os → cut_out (part o (n + 1) os) xs ≡ slice_range xs (slice_index os o) (slice_index os (o + n))
ends os xs o n h =
    let here = part o (n + 1) os in
    let count : length here ≡ n + 1 = length-part o (n + 1) os (omega (arith, h)) in
    let end : length here - 1 ≡ n = omega (arith, count) in
    let first : slice_index here 0 ≡ slice_index os o = get_or-part o (n + 1) os 0 0 (omega arith) ∙ (let e : o + 0 ≡ o = omega arith in ap (slice_index os) e) in
    let last : slice_index here (length here - 1) ≡ slice_index os (o + n) = ap (slice_index here) end ∙ get_or-part o (n + 1) os n 0 (omega arith) in
    ap (λ i. slice_range xs i (slice_index here (length here - 1))) first ∙ ap (λ i. slice_range xs (slice_index os o) i) last

-- offsets of slots within the bytes
record Within (os xs : List ℕ) (o n : ℕ) : Type 0 where
  pub few : o + n < length os
  pub last_within : slice_index os (o + n) ≤ length xs

within : (os xs : List ℕ) (o n m : ℕ) → SpansFit os xs m → o + n ≤ m → Within os xs o n
within os xs o n m fit h =
    let few : o + n < length os = omega (arith, fit.count, fit.offsets.some, h) in
    let e : o + n + (length os - 1 - (o + n)) ≡ length os - 1 = omega (arith, few) in
    let up : slice_index os (o + n) ≤ slice_index os (length os - 1) =
    subst (λ (j : ℕ). slice_index os (o + n) ≤ slice_index os j) e (rises os (o + n) (length os - 1 - (o + n)) fit.offsets.rising (omega (arith, few))) in
    record { few = few; last_within = omega (arith, up, fit.within) }

pub bytes_mean : (s : Entries) (h : Level) (p : PrimitiveType) (os xs : List ℕ) (o n a b : ℕ) (limit : Limit) (id : Option ℤ) (is : IdTrees) (own : List (List ℕ)) → PartsFit h (bytes p os xs) no_layouts
    → Row s h (bytes p os xs) o n a b limit own → RowMeans s h (bytes p os xs) no_layouts o n a b limit id is
bytes_mean s h p os xs o n a b limit id is (m ∷ y ∷ x ∷ []) fit r =
    let w = offset_width (wide_of p) in
    let mask = masked_row s h o n a b m r.fits r.inside r.node_is r.stand.0 r.are.0 in
    let rows_are = rows_of s a n limit (ap (λ (x : FieldNode). x.length) r.node_is) r.full in
    let f = λ (i : ℕ). slot_where (array_valid h.validity (o + i)) (bytes_slot (span os xs (o + i))) in
    let has = within os xs o n h.len fit.1 r.inside in
    let c = cut_offsets s (b + 1) p os o n y fit.1.offsets.rising has.few r.stand.1.0 r.are.1 in
    let v = cut_bytes s (b + 1) w os xs o n x c has.last_within r.stand.1.1.0 (r.are.2 ∙ ends os xs o n has.few) in
    means_by s (bytes_with p) h.type id is a b limit n f fit.0
    (subst (λ (k : Kind). Means s k a b limit n f) (sym (binary_by p h.type id is))
    (record {
      well = subst (λ (k : ℕ). Begins s a b k × HasBytes s (b + 1) w k) (sym rows_are) (begins s a b n _ mask, v.has);
      rows_are = rows_are;
      each = λ i l. masked_is s a b o n h.validity i _ _ mask l (λ _. ap bytes_slot (v.each i l));
    }))
bytes_mean s h p os xs o n a b limit id is _ fit r = absurd r.are

pub texts_mean : (s : Entries) (h : Level) (p : PrimitiveType) (os xs : List ℕ) (o n a b : ℕ) (limit : Limit) (id : Option ℤ) (is : IdTrees) (own : List (List ℕ)) → PartsFit h (texts p os xs) no_layouts
    → Row s h (texts p os xs) o n a b limit own → RowMeans s h (texts p os xs) no_layouts o n a b limit id is
texts_mean s h p os xs o n a b limit id is (m ∷ y ∷ x ∷ []) fit r =
    let w = offset_width (wide_of p) in
    let mask = masked_row s h o n a b m r.fits r.inside r.node_is r.stand.0 r.are.0 in
    let rows_are = rows_of s a n limit (ap (λ (x : FieldNode). x.length) r.node_is) r.full in
    let f = λ (i : ℕ). slot_where (array_valid h.validity (o + i)) (text_slot (span os xs (o + i))) in
    let has = within os xs o n h.len fit.1 r.inside in
    let c = cut_offsets s (b + 1) p os o n y fit.1.offsets.rising has.few r.stand.1.0 r.are.1 in
    let v = cut_bytes s (b + 1) w os xs o n x c has.last_within r.stand.1.1.0 (r.are.2 ∙ ends os xs o n has.few) in
    let each_text : TextsAt s (b + 1) w n = record { each = λ i l. subst IsUtf8 (sym (v.each i l)) (fit.2.each (o + i) (omega (arith, has.few, l))) } in
    means_by s (texts_with p) h.type id is a b limit n f fit.0
    (subst (λ (k : Kind). Means s k a b limit n f) (sym (utf8_by p h.type id is))
    (record {
      well = subst (λ (k : ℕ). Begins s a b k × HasBytes s (b + 1) w k × TextsAt s (b + 1) w k) (sym rows_are) (begins s a b n _ mask, v.has, each_text);
      rows_are = rows_are;
      each = λ i l. masked_is s a b o n h.validity i _ _ mask l (λ _. ap text_slot (v.each i l));
    }))
texts_mean s h p os xs o n a b limit id is _ fit r = absurd r.are
