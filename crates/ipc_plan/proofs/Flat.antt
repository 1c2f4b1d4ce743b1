-- Levels without children or offsets.
use Rattle.std.proofs.Common.{arith, ◌≡◌, ℕ, ℤ, pos, ◌+◌, ◌-◌, ◌*◌, ◌<◌, ◌≤◌, Bool, true, false, List, [], ◌∷◌, length, take, drop, get_or, Option, refl, sym, ap, ◌∙◌, subst}
use Rattle.std.specs.Prelude.{slice_range}
use Rattle.std.proofs.Math.Nat.{add-mul, mul-le-mul_left}
use Rattle.std.proofs.lemmas.Nat.{mul-le}
use Rattle.std.proofs.lemmas.List.{take-take, drop-take, drop-drop}
use Rattle.lower_types.specs.NumberTypes.{Number, whole, width_of, number_in}
use Rattle.lower_types.specs.declared.PrimitiveType.{PrimitiveType}
use Rattle.lower.specs.declared.datatypes.physical_type.PhysicalType.TheVariants as Physicals
use Rattle.lower_flat_arrays.specs.Validities.{part, is_valid as array_valid}
use Rattle.lower_flat_arrays.proofs.Cuts.{get_or-part, length-part}
use Rattle.lower_arrays.specs.Layouts.{nothing, truths, numbers, fixed_bytes, Level, no_layouts}
use Rattle.lower_arrays.specs.Slots.{truth_slot, number_slot, bytes_slot, slot_where, PartsFit, null_slot}
use Rattle.ipc_base.specs.IdTrees.{IdTrees}
use Rattle.ipc_table_views.specs.declared.message.FieldNode.{FieldNode}
use Rattle.ipc_model.specs.Columns.{Begins}
use Rattle.ipc_model.specs.Entries.{Entries, node, Need, Limit, bytes_for, bit}
use Rattle.ipc_model.specs.Kinds.{Kind, number_kind, fixed_binary_kind}
use Rattle.ipc_plan.specs.Meaning.{Means}
use Rattle.ipc_plan.proofs.KindForms.{means_by}
use Rattle.ipc_plan.proofs.ValidityRows.{begins, length_pos, rows_of, masked_is}
use Rattle.ipc_plan.proofs.Rows.{Row, RowMeans, masked_row}
use Rattle.ipc_plan.proofs.Standing.{need_part}

-- ---- nothing

null_where : (t : Bool) → null_slot ≡ slot_where t null_slot
null_where true = refl
null_where false = refl

pub nulls_mean : (s : Entries) (h : Level) (o n a b : ℕ) (limit : Limit) (id : Option ℤ) (is : IdTrees) (own : List (List ℕ)) → PartsFit h nothing no_layouts → Row s h nothing o n a b limit own
    → RowMeans s h nothing no_layouts o n a b limit id is
nulls_mean s h o n a b limit id is own fit r =
    let long : (node s a).length ≡ pos n = ap (λ (x : FieldNode). x.length) r.node_is in
    means_by s Physicals.Null h.type id is a b limit n _ fit.0
    (record { well = length_pos s a n long; rows_are = rows_of s a n limit long r.full; each = λ i l. null_where (array_valid h.validity (o + i)) })

-- ---- bits

pub truths_mean : (s : Entries) (h : Level) (ts : List Bool) (o n a b : ℕ) (limit : Limit) (id : Option ℤ) (is : IdTrees) (own : List (List ℕ)) → PartsFit h (truths ts) no_layouts
    → Row s h (truths ts) o n a b limit own → RowMeans s h (truths ts) no_layouts o n a b limit id is
truths_mean s h ts o n a b limit id is (m ∷ x ∷ []) fit r =
    let mask = masked_row s h o n a b m r.fits r.inside r.node_is r.stand.0 r.are.0 in
    let rows_are = rows_of s a n limit (ap (λ (x : FieldNode). x.length) r.node_is) r.full in
    let p = r.stand.1.0 in
    let bits = r.are.1 in
    let count : length (part o n ts) ≡ n = length-part o n ts (omega (arith, r.inside, fit.1)) in
    let room : bytes_for n ≤ length x = let e = ap bytes_for count in omega (arith, e, bits.count) in
    means_by s Physicals.Boolean h.type id is a b limit n _ fit.0
    (record {
      well = subst (λ (k : ℕ). Begins s a b k × Need s (b + 1) (bytes_for k)) (sym rows_are) (begins s a b n _ mask, need_part s (b + 1) x (bytes_for n) p room);
      rows_are = rows_are;
      each = λ i l. masked_is s a b o n h.validity i _ _ mask l (λ _.
          ap truth_slot (ap (λ (xs : List ℕ). bit xs i) p.bytes_are ∙ bits.each i (omega (arith, l, count)) ∙ get_or-part o n ts i false l));
    })
truths_mean s h ts o n a b limit id is _ fit r = absurd r.are

-- ---- numbers

number_row : (s : Entries) (h : Level) (p : PrimitiveType) (ns : List Number) (o n a b : ℕ) (limit : Limit) (m x : List ℕ) → length ns ≡ h.len
    → Row s h (numbers p ns) o n a b limit (m ∷ x ∷ [])
    → Means s (number_kind p) a b limit n (λ i. slot_where (array_valid h.validity (o + i)) (number_slot (get_or ns (o + i) (whole (pos 0)))))
number_row s h p ns o n a b limit m x long r =
    let mask = masked_row s h o n a b m r.fits r.inside r.node_is r.stand.0 r.are.0 in
    let rows_are = rows_of s a n limit (ap (λ (x : FieldNode). x.length) r.node_is) r.full in
    let q = r.stand.1.0 in
    let are = r.are.1 in
    let count : length (part o n ns) ≡ n = length-part o n ns (omega (arith, r.inside, long)) in
    let room : width_of p * n ≤ length x = let e : width_of p * length (part o n ns) ≡ width_of p * n = ap (λ k. width_of p * k) count in omega (arith, e, are.count) in
    record {
      well = subst (λ (k : ℕ). Begins s a b k × Need s (b + 1) (width_of p * k)) (sym rows_are) (begins s a b n _ mask, need_part s (b + 1) x (width_of p * n) q room);
      rows_are = rows_are;
      each = λ i l. masked_is s a b o n h.validity i _ _ mask l (λ _.
          ap number_slot (ap (λ (xs : List ℕ). number_in p s.order (drop (width_of p * i) xs)) q.bytes_are ∙ are.each i (omega (arith, l, count)) ∙ get_or-part o n ns i (whole (pos 0)) l));
    }

pub numbers_mean : (s : Entries) (h : Level) (p : PrimitiveType) (ns : List Number) (o n a b : ℕ) (limit : Limit) (id : Option ℤ) (is : IdTrees) (own : List (List ℕ)) → PartsFit h (numbers p ns) no_layouts
    → Row s h (numbers p ns) o n a b limit own → RowMeans s h (numbers p ns) no_layouts o n a b limit id is
numbers_mean s h p ns o n a b limit id is (m ∷ x ∷ []) fit r =
    means_by s (Physicals.Primitive p) h.type id is a b limit n _ fit.0
    (subst (λ (k : Kind). Means s k a b limit n (λ i. slot_where (array_valid h.validity (o + i)) (number_slot (get_or ns (o + i) (whole (pos 0)))))) (sym r.are.2)
    (number_row s h p ns o n a b limit m x fit.1 r))
numbers_mean s h p ns o n a b limit id is _ fit r = absurd r.are

-- ---- bytes of a fixed number

-- a part of a part
pub part_again : {A : Type 0} (k o n m : ℕ) (xs : List A) → o + n ≤ m → part o n (part k m xs) ≡ part (k + o) n xs
part_again k o n m xs h =
    let e : o + (m - o) ≡ m = omega arith in
    ap (λ i. take n (drop o (take i (drop k xs)))) (sym e)
    ∙ ap (λ l. take n l) (drop-take o (m - o) (drop k xs))
    ∙ take-take n (m - o) (drop o (drop k xs)) (omega arith)
    ∙ ap (λ l. take n l) (drop-drop o k xs)

-- slot i of those that begin at slot o
fixed_part : (o n z i : ℕ) (xs : List ℕ) → i < n → slice_range (part (o * z) (n * z) xs) (z * i) (z * (i + 1)) ≡ part ((o + i) * z) z xs
fixed_part o n z i xs h =
    let up : z * (i + 1) ≤ z * n = let le : i + 1 ≤ n = omega arith in mul-le-mul_left z le in
    let more : z * (i + 1) ≡ z * i + z = omega arith in
    let turned : z * n ≡ n * z = omega arith in
    let room : z * i + (z * (i + 1) - z * i) ≤ n * z = omega (arith, up, more, turned) in
    let there : o * z + z * i ≡ (o + i) * z = let e = add-mul o i z in let t : z * i ≡ i * z = omega arith in omega (arith, e, t) in
    let wide : z * (i + 1) - z * i ≡ z = omega (arith, more) in
    part_again (o * z) (z * i) (z * (i + 1) - z * i) (n * z) xs room ∙ ap (λ k. part k (z * (i + 1) - z * i) xs) there ∙ ap (λ w. part ((o + i) * z) w xs) wide

pub fixed_mean : (s : Entries) (h : Level) (z : ℕ) (xs : List ℕ) (o n a b : ℕ) (limit : Limit) (id : Option ℤ) (is : IdTrees) (own : List (List ℕ)) → PartsFit h (fixed_bytes z xs) no_layouts
    → Row s h (fixed_bytes z xs) o n a b limit own → RowMeans s h (fixed_bytes z xs) no_layouts o n a b limit id is
fixed_mean s h z xs o n a b limit id is (m ∷ x ∷ []) fit r =
    let mask = masked_row s h o n a b m r.fits r.inside r.node_is r.stand.0 r.are.0 in
    let rows_are = rows_of s a n limit (ap (λ (x : FieldNode). x.length) r.node_is) r.full in
    let q = r.stand.1.0 in
    let f = λ (i : ℕ). slot_where (array_valid h.validity (o + i)) (bytes_slot (part ((o + i) * z) z xs)) in
    let all : o * z + n * z ≤ length xs = let le = mul-le (o + n) z h.len z r.inside (omega arith) in let e = add-mul o n z in omega (arith, le, e, fit.3) in
    let count : length (part (o * z) (n * z) xs) ≡ n * z = length-part (o * z) (n * z) xs all in
    let room : z * n ≤ length x = let e : length x ≡ length (part (o * z) (n * z) xs) = ap (λ (ys : List ℕ). length ys) r.are.1 in let t : z * n ≡ n * z = omega arith in omega (arith, e, count, t) in
    means_by s Physicals.FixedSizeBinary h.type id is a b limit n f fit.0
    (subst (λ (k : ℕ). Means s (fixed_binary_kind k) a b limit n f) (sym fit.1)
    (record {
      well = subst (λ (k : ℕ). (0 < z) × Begins s a b k × Need s (b + 1) (z * k)) (sym rows_are) (fit.2, begins s a b n _ mask, need_part s (b + 1) x (z * n) q room);
      rows_are = rows_are;
      each = λ i l. masked_is s a b o n h.validity i _ _ mask l (λ _.
          ap bytes_slot (ap (λ (ys : List ℕ). slice_range ys (z * i) (z * (i + 1))) (q.bytes_are ∙ r.are.1) ∙ fixed_part o n z i xs l));
    }))
fixed_mean s h z xs o n a b limit id is _ fit r = absurd r.are
