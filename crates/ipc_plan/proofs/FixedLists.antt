-- Levels of fixed-size lists.
use Rattle.std.proofs.Common.{arith, ◌≡◌, ℕ, ℤ, ◌+◌, ◌-◌, ◌*◌, ◌<◌, ◌≤◌, List, [], ◌∷◌, length, map, Option, Some, None, refl, sym, ap, ◌∙◌, subst}
use Rattle.std.specs.List.{range_with_len}
use Rattle.std.proofs.Math.Nat.{add-mul, mul-le-mul_left}
use Rattle.std.proofs.lemmas.Nat.{mul-le}
use Rattle.lower.specs.declared.datatypes.physical_type.PhysicalType.TheVariants as Physicals
use Rattle.lower_flat_arrays.specs.Validities.{is_valid as array_valid}
use Rattle.lower_validation.specs.Fields.{child_fields}
use Rattle.lower_validation.specs.ListTypes.{list_size}
use Rattle.lower_arrays.specs.Layouts.{fixed_lists, Level, Layouts, no_layouts, more_layouts, len_of, type_of}
use Rattle.lower_arrays.specs.Slots.{list_slot, slots_of, slots_from, slot_where, slot_at as array_slot, PartsFit}
use Rattle.ipc_base.specs.IdTrees.{IdTrees}
use Rattle.ipc_table_views.specs.declared.message.FieldNode.{FieldNode}
use Rattle.ipc_model.specs.Columns.{Begins, WithRows, IsWell, slot_at}
use Rattle.ipc_model.specs.Entries.{Entries, Limit, limited, rows, times}
use Rattle.ipc_model.specs.Kinds.{Kind, fixed_list_kind}
use Rattle.ipc_model.specs.Offers.{own_id, inner_ids, written_levels, levels_below}
use Rattle.ipc_model.specs.TypeKinds.{first_ids, kind_of}
use Rattle.ipc_plan.specs.Meaning.{Means, StandsAmong}
use Rattle.ipc_plan.proofs.KindForms.{means_by, never_childless}
use Rattle.ipc_plan.proofs.Lists.{shifted_slots, first_kind_is}
use Rattle.ipc_plan.proofs.ValidityRows.{begins, rows_of, masked_is}
use Rattle.ipc_plan.proofs.Rows.{Row, RowMeans, ChildrenMean, masked_row}
use Rattle.ipc_plan.proofs.Standing.{stands_both}

times_full : (limit : Limit) (n z : ℕ) → limited limit n ≡ n → limited (times limit z) (n * z) ≡ n * z
times_full None n z h = refl
times_full (Some l) n z h = let le = mul-le n z l z (omega (arith, h)) (omega arith) in omega (arith, le)

pub fixed_lists_mean : (s : Entries) (h : Level) (z : ℕ) (cs : Layouts) (o n a b : ℕ) (limit : Limit) (id : Option ℤ) (is : IdTrees) (own : List (List ℕ)) → PartsFit h (fixed_lists z) cs
    → ChildrenMean s cs is → Row s h (fixed_lists z) o n a b limit own → StandsAmong s (a + 1) (b + length own) (levels_below cs (fixed_lists z) o n)
    → RowMeans s h (fixed_lists z) cs o n a b limit id is
fixed_lists_mean s h z (more_layouts c cs) o n a b limit id is (m ∷ []) fit mean r st =
    let mask = masked_row s h o n a b m r.fits r.inside r.node_is r.stand.0 r.are in
    let rows_are = rows_of s a n limit (ap (λ (x : FieldNode). x.length) r.node_is) r.full in
    let t = kind_of (type_of c) (own_id (first_ids is)) (inner_ids (first_ids is)) in
    let g = λ (j : ℕ). array_slot c j in
    let f = λ (i : ℕ). slot_where (array_valid h.validity (o + i)) (list_slot (slots_of (slots_from g ((o + i) * z) z))) in
    let inside : o * z + n * z ≤ len_of c = let le = mul-le (o + n) z h.len z r.inside (omega arith) in let e = add-mul o n z in omega (arith, le, e, fit.4.0) in
    let child = mean.0 (o * z) (n * z) (a + 1) (b + 1) (times limit z) inside (times_full limit n z r.full)
    (stands_both s (a + 1) (b + 1) (written_levels c (o * z) (n * z)) (levels_below cs (fixed_lists z) o n) st).here in
    let slot = λ (j : ℕ). slot_at s t (a + 1) (b + 1) j in
    means_by s Physicals.FixedSizeList h.type id is a b limit n f fit.0
    (subst (λ (q : Kind). Means s q a b limit n f) (sym (ap (fixed_list_kind (list_size h.type)) (first_kind_is (child_fields h.type) is c cs fit.3)))
    (subst (λ (k : ℕ). Means s (fixed_list_kind k t) a b limit n f) (sym fit.1)
    (record {
      well = subst (λ (k : ℕ). (0 < z) × Begins s a b k × WithRows (IsWell s t (a + 1) (b + 1) (times limit z)) (rows s (a + 1) (times limit z)) (k * z)) (sym rows_are)
          (fit.2, begins s a b n _ mask, (child.well, child.rows_are));
      rows_are = rows_are;
      each = λ i l. masked_is s a b o n h.validity i _ _ mask l (λ _.
          let up : z * (i + 1) ≤ z * n = let le : i + 1 ≤ n = omega arith in mul-le-mul_left z le in
          let more : z * (i + 1) ≡ z * i + z = omega arith in
          let turned : z * n ≡ n * z = omega arith in
          let wide : z * (i + 1) - z * i ≡ z = omega (arith, more) in
          let there : o * z + z * i ≡ (o + i) * z = let e = add-mul o i z in let q : z * i ≡ i * z = omega arith in omega (arith, e, q) in
          ap (λ k. list_slot (slots_of (map slot (range_with_len (z * i) k)))) wide
          ∙ ap (λ ss. list_slot (slots_of ss)) (shifted_slots slot g (z * i) ((o + i) * z) z (λ j k.
          child.each (z * i + j) (omega (arith, up, more, turned, k)) ∙ (let e : o * z + (z * i + j) ≡ (o + i) * z + j = omega (arith, there) in ap g e))));
    })))
fixed_lists_mean s h z no_layouts o n a b limit id is own fit mean r st = absurd (never_childless h.type Physicals.FixedSizeList refl fit.0 fit.3)
fixed_lists_mean s h z cs o n a b limit id is _ fit mean r st = absurd r.are
