-- Levels of lists and of maps, with any child.
use Rattle.std.proofs.Common.{arith, ◌≡◌, ℕ, zero, suc, ℤ, ◌+◌, ◌-◌, ◌<◌, ◌≤◌, true, List, [], ◌∷◌, length, map, min, Option, Some, refl, sym, ap, ap₂, ◌∙◌, subst}
use Rattle.std.specs.Prelude.{slice_index}
use Rattle.std.specs.List.{range_with_len}
use Rattle.lower.specs.TypeTrees.{structure, choice, TypeTree, plain, single, group, dictionary, extension, FieldTrees, no_fields, more_fields}
use Rattle.lower.specs.declared.datatypes.physical_type.PhysicalType.TheVariants as Physicals
use Rattle.lower_types.specs.declared.PrimitiveType.{PrimitiveType}
use Rattle.lower_types.specs.declared.PrimitiveType.TheVariants.{Int32, Int64}
use Rattle.lower_flat_arrays.specs.Validities.{is_valid as array_valid}
use Rattle.lower_validation.specs.Fields.{child_fields, IsPair as IsPairType}
use Rattle.lower_validation.specs.ListTypes.{list_with}
use Rattle.lower_arrays.specs.Children.{ChildTypes}
use Rattle.lower_arrays.specs.Layouts.{lists, maps, Level, Layout, Layouts, no_layouts, more_layouts, len_of, type_of}
use Rattle.lower_arrays.specs.Slots.{Slot, list_slot, slots_of, slots_from, slot_where, slot_at as array_slot, PartsFit, ItemsFit}
use Rattle.ipc_base.specs.IdTrees.{IdTrees}
use Rattle.ipc_table_views.specs.declared.message.FieldNode.{FieldNode}
use Rattle.ipc_model.specs.Columns.{Begins, WithRows, IsList, IsPairKind, IsWell, list_at, slot_at}
use Rattle.ipc_model.specs.Entries.{Entries, Limit, rows, offset}
use Rattle.ipc_model.specs.Kinds.{offsets_32, offset_width, Kind, list_kind, map_kind}
use Rattle.ipc_model.specs.Offers.{own_id, inner_ids, written_levels, levels_below}
use Rattle.ipc_model.specs.TypeKinds.{first_ids, kind_of}
use Rattle.ipc_plan.specs.Levels.{wide_of}
use Rattle.ipc_plan.specs.Meaning.{Means, StandsAmong}
use Rattle.ipc_plan.proofs.Cutting.{rises, CutOffsets, cut_offsets}
use Rattle.ipc_plan.proofs.KindForms.{one_child, first_kind, kind_by, means_by, field_kind_is, never_childless}
use Rattle.ipc_plan.proofs.ValidityRows.{begins, rows_of, masked_is}
use Rattle.ipc_plan.proofs.Rows.{Row, RowMeans, ChildrenMean, masked_row}
use Rattle.ipc_plan.proofs.Standing.{stands_both}

-- Slots of a child that are x indices from where they were.
pub shifted_slots : (g f : ℕ → Slot) (x y m : ℕ) → ((j : ℕ) → j < m → g (x + j) ≡ f (y + j)) → map g (range_with_len x m) ≡ slots_from f y m
shifted_slots g f x y zero h = refl
shifted_slots g f x y (suc m) h =
    let first : g x ≡ f y = (let e : x ≡ x + 0 = omega arith in ap g e) ∙ h 0 (omega arith) ∙ (let e : y + 0 ≡ y = omega arith in ap f e) in
    let rest = shifted_slots g f (x + 1) (y + 1) m (λ j l.
    (let e : x + 1 + j ≡ x + suc j = omega arith in ap g e) ∙ h (suc j) (omega (arith, l)) ∙ (let e : y + suc j ≡ y + 1 + j = omega arith in ap f e)) in
    ap₂ (λ s ss. s ∷ ss) first rest

-- offsets of slots within the child
pub record Reach (os : List ℕ) (o n k : ℕ) : Type 0 where
  pub few : o + n < length os
  pub inside : slice_index os o + (slice_index os (o + n) - slice_index os o) ≤ k

pub reach : (os : List ℕ) (o n m : ℕ) (c : Layout) (cs : Layouts) → ItemsFit os m (more_layouts c cs) → o + n ≤ m → Reach os o n (len_of c)
reach os o n m c cs fit h =
    let few : o + n < length os = omega (arith, fit.count, fit.offsets.some, h) in
    let e : o + n + (length os - 1 - (o + n)) ≡ length os - 1 = omega (arith, few) in
    let up : slice_index os (o + n) ≤ slice_index os (length os - 1) =
    subst (λ (j : ℕ). slice_index os (o + n) ≤ slice_index os j) e (rises os (o + n) (length os - 1 - (o + n)) fit.offsets.rising (omega (arith, few))) in
    let low : slice_index os o ≤ slice_index os (o + n) = rises os o n fit.offsets.rising few in
    record { few = few; inside = omega (arith, up, low, fit.within.0) }

-- the list kind of the offsets' width
list_by : (p : PrimitiveType) (t : TypeTree) (id : Option ℤ) (is : IdTrees) → kind_by (list_with p) t id is ≡ list_kind (wide_of p) (first_kind (child_fields t) is)
list_by Int64 t id is = refl
list_by _ t id is = refl

one_list : (p : PrimitiveType) → one_child (list_with p) ≡ true
one_list Int64 = refl
one_list _ = refl

-- the kind of the first child
pub first_kind_is : (fs : FieldTrees) (is : IdTrees) (c : Layout) (cs : Layouts) → ChildTypes fs (more_layouts c cs)
    → first_kind fs is ≡ kind_of (type_of c) (own_id (first_ids is)) (inner_ids (first_ids is))
first_kind_is no_fields is c cs h = absurd h
first_kind_is (more_fields f fs) is c cs h = field_kind_is f (first_ids is) ∙ ap (λ t. kind_of t (own_id (first_ids is)) (inner_ids (first_ids is))) (sym h.0)

-- What lists with one child are, whose offsets are in buffer b + 1 and whose child comes after it.
record Items (s : Entries) (a b w : ℕ) (t : Kind) (os : List ℕ) (o n : ℕ) (g : ℕ → Slot) : Type 0 where
  pub offsets : CutOffsets s (b + 1) w os o n
  pub child : Means s t (a + 1) (b + 2) (Some (slice_index os (o + n) - slice_index os o)) (slice_index os (o + n) - slice_index os o) (λ j. g (slice_index os o + j))

list_well : (s : Entries) (a b w : ℕ) (t : Kind) (os : List ℕ) (o n : ℕ) (g : ℕ → Slot) → Begins s a b n → Items s a b w t os o n g → IsList s w a b n (λ l. IsWell s t (a + 1) (b + 2) l)
list_well s a b w t os o n g start i =
    (start, i.offsets.offsets, subst (λ (k : ℕ). WithRows (IsWell s t (a + 1) (b + 2) (Some k)) (rows s (a + 1) (Some k)) k) (sym i.offsets.last) (i.child.well, i.child.rows_are))

list_slots : (s : Entries) (a b w : ℕ) (t : Kind) (os : List ℕ) (o n : ℕ) (g : ℕ → Slot) → Items s a b w t os o n g → (i : ℕ) → i < n
    → list_at s w (b + 1) i (λ j. slot_at s t (a + 1) (b + 2) j) ≡ list_slot (slots_of (slots_from g (slice_index os (o + i)) (slice_index os (o + i + 1) - slice_index os (o + i))))
list_slots s a b w t os o n g it i h =
    let c = it.offsets in
    let child = λ (j : ℕ). slot_at s t (a + 1) (b + 2) j in
    let f = slice_index os o in
    let u = slice_index os (o + i) in
    let v = slice_index os (o + (i + 1)) in
    let next : v ≡ slice_index os (o + i + 1) = (let k : o + (i + 1) ≡ o + i + 1 = omega arith in ap (slice_index os) k) in
    let here = c.each i (omega (arith, h)) in
    let then = c.each (i + 1) (omega (arith, h)) in
    let low = c.first_low i (omega (arith, h)) in
    let high = c.last_high (i + 1) (omega (arith, h)) in
    let up = c.first_low (i + 1) (omega (arith, h)) in
    let wide : offset s (b + 1) w (i + 1) - offset s (b + 1) w i ≡ v - u = omega (arith, here, then, low, up) in
    ap (λ k. list_slot (slots_of (map child (range_with_len (offset s (b + 1) w i) k)))) wide
    ∙ ap (λ x. list_slot (slots_of (map child (range_with_len x (v - u))))) here
    ∙ ap (λ ss. list_slot (slots_of ss)) (shifted_slots child g (u - f) u (v - u) (λ j l.
    it.child.each (u - f + j) (omega (arith, low, high, l)) ∙ (let e : f + (u - f + j) ≡ u + j = omega (arith, low) in ap g e)))
    ∙ ap (λ k. list_slot (slots_of (slots_from g u (k - u)))) next

one_full : (k : ℕ) → min k k ≡ k
one_full k = omega arith

pub lists_mean : (s : Entries) (h : Level) (named p : PrimitiveType) (os : List ℕ) (cs : Layouts) (o n a b : ℕ) (limit : Limit) (id : Option ℤ) (is : IdTrees) (own : List (List ℕ)) → PartsFit h (lists named p os) cs
    → ChildrenMean s cs is → Row s h (lists named p os) o n a b limit own → StandsAmong s (a + 1) (b + length own) (levels_below cs (lists named p os) o n) → RowMeans s h (lists named p os) cs o n a b limit id is
lists_mean s h named p os (more_layouts c cs) o n a b limit id is (m ∷ x ∷ []) fit mean r st =
    let w = offset_width (wide_of p) in
    let mask = masked_row s h o n a b m r.fits r.inside r.node_is r.stand.0 r.are.0 in
    let rows_are = rows_of s a n limit (ap (λ (x : FieldNode). x.length) r.node_is) r.full in
    let has = reach os o n h.len c cs fit.2 r.inside in
    let first = slice_index os o in
    let k = slice_index os (o + n) - first in
    let t = kind_of (type_of c) (own_id (first_ids is)) (inner_ids (first_ids is)) in
    let g = λ (j : ℕ). array_slot c j in
    let f = λ (i : ℕ). slot_where (array_valid h.validity (o + i)) (list_slot (slots_of (slots_from g (slice_index os (o + i)) (slice_index os (o + i + 1) - slice_index os (o + i))))) in
    let items : Items s a b w t os o n g = record {
      offsets = cut_offsets s (b + 1) p os o n x fit.2.offsets.rising has.few r.stand.1.0 r.are.1;
      child = mean.0 first k (a + 1) (b + 2) (Some k) has.inside (one_full k) (stands_both s (a + 1) (b + 2) (written_levels c first k) (levels_below cs (lists named p os) o n) st).here;
    } in
    means_by s (list_with p) h.type id is a b limit n f fit.0
    (subst (λ (q : Kind). Means s q a b limit n f) (sym (list_by p h.type id is ∙ ap (list_kind (wide_of p)) (first_kind_is (child_fields h.type) is c cs fit.1)))
    (record {
      well = subst (λ (j : ℕ). IsList s w a b j (λ l. IsWell s t (a + 1) (b + 2) l)) (sym rows_are) (list_well s a b w t os o n g (begins s a b n _ mask) items);
      rows_are = rows_are;
      each = λ i l. masked_is s a b o n h.validity i _ _ mask l (λ _. list_slots s a b w t os o n g items i l);
    }))
lists_mean s h named p os no_layouts o n a b limit id is own fit mean r st = absurd (never_childless h.type (list_with p) (one_list p) fit.0 fit.1)
lists_mean s h named p os cs o n a b limit id is _ fit mean r st = absurd r.are

-- The child of a map is a struct of two fields.
pair_kind : (t : TypeTree) (id : Option ℤ) (is : IdTrees) → IsPairType t → IsPairKind (kind_of t id is)
pair_kind (plain p) id is h = absurd h
pair_kind (single k f) id is h = absurd h
pair_kind (group (choice ids mode) fs) id is h = absurd h
pair_kind (dictionary k t ordered) id is h = absurd h
pair_kind (extension name t text) id is h = absurd h
pair_kind (group structure no_fields) id is h = absurd (omega (arith, h))
pair_kind (group structure (more_fields f no_fields)) id is h = absurd (omega (arith, h))
pair_kind (group structure (more_fields f (more_fields g no_fields))) id is h = tt
pair_kind (group structure (more_fields f (more_fields g (more_fields e fs)))) id is h = absurd (omega (arith, h))

pub maps_mean : (s : Entries) (h : Level) (os : List ℕ) (cs : Layouts) (o n a b : ℕ) (limit : Limit) (id : Option ℤ) (is : IdTrees) (own : List (List ℕ)) → PartsFit h (maps os) cs
    → ChildrenMean s cs is → Row s h (maps os) o n a b limit own → StandsAmong s (a + 1) (b + length own) (levels_below cs (maps os) o n) → RowMeans s h (maps os) cs o n a b limit id is
maps_mean s h os (more_layouts c cs) o n a b limit id is (m ∷ x ∷ []) fit mean r st =
    let w = offset_width offsets_32 in
    let mask = masked_row s h o n a b m r.fits r.inside r.node_is r.stand.0 r.are.0 in
    let rows_are = rows_of s a n limit (ap (λ (x : FieldNode). x.length) r.node_is) r.full in
    let has = reach os o n h.len c cs fit.3 r.inside in
    let first = slice_index os o in
    let k = slice_index os (o + n) - first in
    let t = kind_of (type_of c) (own_id (first_ids is)) (inner_ids (first_ids is)) in
    let g = λ (j : ℕ). array_slot c j in
    let f = λ (i : ℕ). slot_where (array_valid h.validity (o + i)) (list_slot (slots_of (slots_from g (slice_index os (o + i)) (slice_index os (o + i + 1) - slice_index os (o + i))))) in
    let items : Items s a b w t os o n g = record {
      offsets = cut_offsets s (b + 1) Int32 os o n x fit.3.offsets.rising has.few r.stand.1.0 r.are.1;
      child = mean.0 first k (a + 1) (b + 2) (Some k) has.inside (one_full k) (stands_both s (a + 1) (b + 2) (written_levels c first k) (levels_below cs (maps os) o n) st).here;
    } in
    means_by s Physicals.Map h.type id is a b limit n f fit.0
    (subst (λ (q : Kind). Means s q a b limit n f) (sym (ap map_kind (first_kind_is (child_fields h.type) is c cs fit.2)))
    (record {
      well = subst (λ (j : ℕ). IsPairKind t × IsList s w a b j (λ l. IsWell s t (a + 1) (b + 2) l)) (sym rows_are)
          (pair_kind (type_of c) (own_id (first_ids is)) (inner_ids (first_ids is)) fit.1.0, list_well s a b w t os o n g (begins s a b n _ mask) items);
      rows_are = rows_are;
      each = λ i l. masked_is s a b o n h.validity i _ _ mask l (λ _. list_slots s a b w t os o n g items i l);
    }))
maps_mean s h os no_layouts o n a b limit id is own fit mean r st = absurd (never_childless h.type Physicals.Map refl fit.0 fit.2)
maps_mean s h os cs o n a b limit id is _ fit mean r st = absurd r.are
