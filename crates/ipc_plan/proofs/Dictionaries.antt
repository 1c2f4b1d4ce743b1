-- Levels of keys, whose values are known under their id.
use Rattle.std.proofs.Common.{arith, ◌≡◌, ℕ, zero, suc, ℤ, pos, negsuc, ◌+◌, ◌*◌, ◌<◌, ◌≤◌, true, List, [], ◌∷◌, length, map, drop, get_or, Option, Some, refl, sym, ap, ◌∙◌, subst}
use Rattle.std.specs.Prelude.{slice_index_or}
use Rattle.std.proofs.lemmas.List.{get_or-map, length-map}
use Rattle.lower.specs.Normal.{norm}
use Rattle.lower.specs.declared.datatypes.IntegerType.{IntegerType}
use Rattle.lower.specs.declared.datatypes.physical_type.PhysicalType.TheVariants as Physicals
use Rattle.lower_types.specs.NumberTypes.{whole, width_of, number_in}
use Rattle.lower_flat_arrays.specs.Validities.{part, is_valid as array_valid}
use Rattle.lower_flat_arrays.proofs.Cuts.{get_or-part, length-part}
use Rattle.lower_validation.specs.Keys.{place_of, values_type as named_values, KeyFits}
use Rattle.lower_arrays.specs.Layouts.{keys, Level, Layouts, no_layouts, more_layouts, len_of}
use Rattle.lower_arrays.specs.Slots.{Slot, null_slot, slot_at as array_slot, slots_from, PartsFit}
use Rattle.ipc_base.specs.IdTrees.{IdTrees}
use Rattle.ipc_table_views.specs.declared.message.FieldNode.{FieldNode}
use Rattle.ipc_model.specs.Columns.{Begins, values_slots, HasValues}
use Rattle.ipc_model.specs.Entries.{Entries, IsIndex, size, Need, Limit, integer}
use Rattle.ipc_model.specs.Numbers.{integer_of}
use Rattle.ipc_model.specs.TypeKinds.{key_form}
use Rattle.ipc_plan.specs.Meaning.{KnowsValues}
use Rattle.ipc_plan.proofs.KindForms.{means_by}
use Rattle.ipc_plan.proofs.ValidityRows.{begins, rows_of, masked_is, valid_at, valid-cut}
use Rattle.ipc_plan.proofs.Rows.{Row, RowMeans, masked_row}
use Rattle.ipc_plan.proofs.Standing.{need_part}

-- slot p of all slots
slots_at_place : (f : ℕ → Slot) (a n p : ℕ) → p < n → get_or (slots_from f a n) p null_slot ≡ f (a + p)
slots_at_place f a zero p h = absurd (omega (arith, h))
slots_at_place f a (suc n) zero h = let e : a ≡ a + 0 = omega arith in ap f e
slots_at_place f a (suc n) (suc p) h = slots_at_place f (a + 1) n p (omega (arith, h)) ∙ (let e : a + 1 + p ≡ a + suc p = omega arith in ap f e)

slots_count : (f : ℕ → Slot) (a n : ℕ) → length (slots_from f a n) ≡ n
slots_count f a zero = refl
slots_count f a (suc n) = let e = slots_count f (a + 1) n in omega (arith, e)

pub key_index : (z : ℤ) (n : ℕ) → KeyFits z n → IsIndex z n
key_index (pos m) n h = h
key_index (negsuc m) n h = absurd h

pub key_place : (z : ℤ) (n : ℕ) → KeyFits z n → (size z ≡ place_of z) × (place_of z < n)
key_place (pos m) n h = (refl, h)
key_place (negsuc m) n h = absurd h

pub keys_mean : (s : Entries) (h : Level) (k : IntegerType) (ks : List ℤ) (cs : Layouts) (o n a b : ℕ) (limit : Limit) (id : Option ℤ) (is : IdTrees) (own : List (List ℕ)) → PartsFit h (keys k ks) cs
    → KnowsValues s cs id → Row s h (keys k ks) o n a b limit own → RowMeans s h (keys k ks) cs o n a b limit id is
keys_mean s h k ks no_layouts o n a b limit id is own fit kn r = absurd kn
keys_mean s h k ks (more_layouts c (more_layouts d cs)) o n a b limit id is own fit kn r = absurd fit
keys_mean s h k ks (more_layouts c no_layouts) o n a b limit id is (m ∷ x ∷ []) fit kn r =
    let p = key_form k in
    let mask = masked_row s h o n a b m r.fits r.inside r.node_is r.stand.0 r.are.0 in
    let rows_are = rows_of s a n limit (ap (λ (x : FieldNode). x.length) r.node_is) r.full in
    let q = r.stand.1.0 in
    let are = r.are.1 in
    let here = part o n ks in
    let count : length here ≡ n = length-part o n ks (omega (arith, r.inside, fit.2)) in
    let whole_count : length (map (λ z. whole z) here) ≡ n = length-map here (λ z. whole z) ∙ count in
    let room : width_of p * n ≤ length x = let e : width_of p * length (map (λ z. whole z) here) ≡ width_of p * n = ap (λ j. width_of p * j) whole_count in omega (arith, e, are.count) in
    let key : (i : ℕ) → i < n → integer s (b + 1) p i ≡ get_or ks (o + i) (pos 0) = λ i l.
    ap (λ (xs : List ℕ). integer_of (number_in p s.order (drop (width_of p * i) xs))) q.bytes_are
    ∙ ap integer_of (are.each i (omega (arith, l, whole_count)))
    ∙ ap integer_of (get_or-map (λ z. whole z) here i (pos 0) (whole (pos 0)) (omega (arith, l, count)))
    ∙ get_or-part o n ks i (pos 0) l in
    let fits : (i : ℕ) → i < n → array_valid h.validity (o + i) ≡ true → KeyFits (get_or ks (o + i) (pos 0)) (len_of c) = λ i l e. fit.3.each (o + i) (omega (arith, l, r.inside, fit.2)) e in
    let many : length (values_slots s id) ≡ len_of c = ap (λ (ss : List Slot). length ss) kn.1 ∙ slots_count (array_slot c) 0 (len_of c) in
    means_by s (Physicals.Dictionary k) h.type id is a b limit n _ fit.0
    (record {
      well = subst (λ (j : ℕ). Begins s a b j × Need s (b + 1) (width_of p * j) × HasValues s p id (norm (named_values h.type)) a b j) (sym rows_are) (
        begins s a b n _ mask,
        need_part s (b + 1) x (width_of p * n) q room,
        record {
          known = kn.0 ∙ ap (λ t. Some t) fit.1;
          inside = λ i l valid.
              let e : array_valid h.validity (o + i) ≡ true = sym (valid_at s a b n _ i mask l ∙ valid-cut o n h.validity i l) ∙ valid in
              subst (λ (z : ℤ). IsIndex z (length (values_slots s id))) (sym (key i l))
              (subst (λ (j : ℕ). IsIndex (get_or ks (o + i) (pos 0)) j) (sym many) (key_index _ _ (fits i l e)));
        },
      );
      rows_are = rows_are;
      each = λ i l. masked_is s a b o n h.validity i _ _ mask l (λ e.
          let z = get_or ks (o + i) (pos 0) in
          let at = key_place z (len_of c) (fits i l e) in
          ap (λ j. slice_index_or (values_slots s id) (size j) null_slot) (key i l)
          ∙ ap (λ j. slice_index_or (values_slots s id) j null_slot) at.0
          ∙ ap (λ (ss : List Slot). slice_index_or ss (place_of z) null_slot) kn.1
          ∙ slots_at_place (array_slot c) 0 (len_of c) (place_of z) at.1
          ∙ (let f : 0 + place_of z ≡ place_of z = omega arith in ap (array_slot c) f));
    })
keys_mean s h k ks (more_layouts c no_layouts) o n a b limit id is _ fit kn r = absurd r.are
