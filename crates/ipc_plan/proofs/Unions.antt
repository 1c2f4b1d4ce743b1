-- Levels of unions: sparse ones, whose children correspond slot by slot, and dense
-- ones, whose children are whole.
use Rattle.std.proofs.Common.{arith, ◌≡◌, ◌≢◌, ℕ, zero, suc, ℤ, pos, negsuc, ◌+◌, ◌*◌, ◌<◌, ◌≤◌, true, false, List, [], ◌∷◌, ◌++◌, length, map, drop, get_or, Option, Some, None, refl, sym, ap, ap₂, ◌∙◌, subst, All, cond, inl, inr}
use Rattle.std.specs.Prelude.{nat_lt}
use Rattle.std.specs.List.{IsDistinct, AllByRecursion, position_or_len}
use Rattle.std.specs.Ordering.{int_eq}
use Rattle.std.proofs.lemmas.Bool.{cases_Bool}
use Rattle.std.proofs.lemmas.Bool.Decides.{nat_tests, Decides-int_eq}
use Rattle.std.proofs.lemmas.List.Elements.{All-cons}
use Rattle.std.proofs.lemmas.List.{get_or-map, length-map}
use Rattle.std.proofs.lemmas.List.Recursion.{is_position_or_len}
use Rattle.lower.specs.TypeTrees.{FieldTrees, no_fields, more_fields}
use Rattle.lower.specs.declared.datatypes.UnionMode.{UnionMode}
use Rattle.lower.specs.declared.datatypes.UnionMode.TheVariants.{Sparse, Dense}
use Rattle.lower.specs.declared.datatypes.physical_type.PhysicalType.TheVariants as Physicals
use Rattle.lower_types.specs.NumberTypes.{whole, width_of, number_in}
use Rattle.lower_types.specs.declared.PrimitiveType.{PrimitiveType}
use Rattle.lower_types.specs.declared.PrimitiveType.TheVariants.{Int8, Int32}
use Rattle.lower_flat_arrays.specs.Validities.{part, is_valid as array_valid}
use Rattle.lower_flat_arrays.proofs.Cuts.{get_or-part, length-part}
use Rattle.lower_validation.specs.Fields.{child_fields}
use Rattle.lower_validation.specs.Ids.{TypeIds, IdsFit, NamesChild, OffsetsGiven, place_among, child_number, union_ids, union_mode}
use Rattle.lower_validation.specs.Keys.{place_of, KeyFits}
use Rattle.lower_validation.specs.Places.{AllAre}
use Rattle.lower_arrays.specs.Children.{ChildTypes, child_count, lens_of}
use Rattle.lower_arrays.specs.Layouts.{choices, records, Level, Layout, Layouts, no_layouts, more_layouts, len_of, type_of}
use Rattle.lower_arrays.specs.Slots.{Slot, Slots, no_slots, more_slots, null_slot, variant_slot, slots_of, slot_where, slot_at as array_slot, each_at, children_at, variant_at, PartsFit, AreArrays}
use Rattle.ipc_base.specs.IdTrees.{IdTrees}
use Rattle.ipc_table_views.specs.declared.message.FieldNode.{FieldNode}
use Rattle.ipc_model.specs.Columns.{AreUnionIds, IsUnionKind, child_named, child_rows, type_at, child_at, HasTypes, place_at, Reaches, AllHaveRows, AllWell, slots_at, child_slot}
use Rattle.ipc_model.specs.Entries.{Entries, IsSize, IsIndex, size, node, buffer, Need, Limit, integer}
use Rattle.ipc_model.specs.Kinds.{Kind, Kinds, no_kinds, more_kinds, count, nodes, buffers, union_kind}
use Rattle.ipc_model.specs.Numbers.{integer_of}
use Rattle.ipc_model.specs.Offers.{own_id, inner_ids, written_levels, levels_below}
use Rattle.ipc_model.specs.TypeKinds.{first_ids, other_ids, kind_of, kinds_of}
use Rattle.ipc_plan.specs.Levels.{AreNumberBytes}
use Rattle.ipc_plan.specs.Meaning.{IsBufferOf, Means, StandsAmong}
use Rattle.ipc_plan.proofs.Dictionaries.{key_index, key_place}
use Rattle.ipc_plan.proofs.KindForms.{means_by}
use Rattle.ipc_plan.proofs.ValidityRows.{length_pos, rows_of}
use Rattle.ipc_plan.proofs.Rows.{Row, RowMeans, ChildrenMean}
use Rattle.ipc_plan.proofs.Standing.{need_part, stands_both, stands_at}
use Rattle.ipc_plan.proofs.Structs.{counted, child_kind, beside}

-- ---- ids

kinds_count : (fs : FieldTrees) (is : IdTrees) (cs : Layouts) → ChildTypes fs cs → count (kinds_of fs is) ≡ child_count cs
kinds_count no_fields is no_layouts h = refl
kinds_count no_fields is (more_layouts c cs) h = absurd h
kinds_count (more_fields f fs) is no_layouts h = absurd h
kinds_count (more_fields f fs) is (more_layouts c cs) h = let rest = kinds_count fs (other_ids is) cs h.1 in omega (arith, rest)

int_eq-differ : (x y : ℤ) → x ≢ y → int_eq x y ≡ false
int_eq-differ x y h = elim (cases_Bool (int_eq x y)) [ inl e ↦ absurd (h ((Decides-int_eq x y).0 e)) | inr e ↦ e ]

others_differ : (x : ℤ) (xs : List ℤ) → ((j : ℕ) → j < length xs → x ≢ get_or xs j (pos 0)) → AllByRecursion (λ y. int_eq x y ≡ false) xs
others_differ x [] h = tt
others_differ x (y ∷ ys) h = (int_eq-differ x y (h 0 (omega arith)), others_differ x ys (λ j l. h (suc j) (omega (arith, l))))

distinct : (xs : List ℤ) → ((i j : ℕ) → i < j → j < length xs → get_or xs i (pos 0) ≢ get_or xs j (pos 0)) → IsDistinct int_eq xs
unfolding IsDistinct
distinct [] h = tt
distinct (x ∷ xs) h = (others_differ x xs (λ j l. h 0 (suc j) (omega arith) (omega (arith, l))), distinct xs (λ i j a b. h (suc i) (suc j) (omega (arith, a)) (omega (arith, b))))

in_range : (xs : List ℤ) → ((i : ℕ) → i < length xs → KeyFits (get_or xs i (pos 0)) 127) → All (λ x. IsIndex x 127) xs
in_range [] h = λ i d l. absurd (omega (arith, l))
in_range (x ∷ xs) h = All-cons (λ z. IsIndex z 127) x xs (key_index x 127 (h 0 (omega arith))) (in_range xs (λ i l. h (suc i) (omega (arith, l))))

ids_are : (ids : TypeIds) (n : ℕ) → IdsFit ids n → AreUnionIds ids n
ids_are None n h = tt
ids_are (Some xs) n h = (h.count, distinct xs h.distinct, in_range xs h.range)

first_is : (z : ℤ) (xs : List ℤ) → place_among z xs ≡ position_or_len (λ x. int_eq x z) xs
first_is z xs = is_position_or_len (place_among z) (λ x. int_eq x z) refl (λ x ys. ap (λ k. cond (int_eq x z) 0 k) (let e : place_among z ys + 1 ≡ 1 + place_among z ys = omega arith in e)) xs

named : (ids : TypeIds) (n : ℕ) (z : ℤ) → IdsFit ids n → NamesChild ids n z → (child_named ids n z ≡ child_number ids z) × (child_number ids z < n)
named None n (pos m) fit h = (refl, h)
named None n (negsuc m) fit h = absurd h
named (Some xs) n z fit h =
    let at = first_is z xs in
    let low : position_or_len (λ x. int_eq x z) xs < length xs = omega (arith, at, h, fit.count) in
    let test : nat_lt (position_or_len (λ x. int_eq x z) xs) (length xs) ≡ true = grind (arith, nat_tests) in
    (rw test (sym at), h)

-- ---- numbers of a union

integer_at : (s : Entries) (b : ℕ) (p : PrimitiveType) (zs : List ℤ) (o n : ℕ) (x : List ℕ) (i : ℕ) → IsBufferOf (buffer s b) x → AreNumberBytes s.order p (map (λ z. whole z) (part o n zs)) x → o + n ≤ length zs → i < n
    → integer s b p i ≡ get_or zs (o + i) (pos 0)
integer_at s b p zs o n x i q are h l =
    let count : length (part o n zs) ≡ n = length-part o n zs h in
    let many : length (map (λ z. whole z) (part o n zs)) ≡ n = length-map (part o n zs) (λ z. whole z) ∙ count in
    ap (λ (xs : List ℕ). integer_of (number_in p s.order (drop (width_of p * i) xs))) q.bytes_are
    ∙ ap integer_of (are.each i (omega (arith, l, many)))
    ∙ ap integer_of (get_or-map (λ z. whole z) (part o n zs) i (pos 0) (whole (pos 0)) (omega (arith, l, count)))
    ∙ get_or-part o n zs i (pos 0) l

integers_need : (s : Entries) (b : ℕ) (p : PrimitiveType) (zs : List ℤ) (o n : ℕ) (x : List ℕ) → IsBufferOf (buffer s b) x → AreNumberBytes s.order p (map (λ z. whole z) (part o n zs)) x → o + n ≤ length zs → Need s b (width_of p * n)
integers_need s b p zs o n x q are h =
    let many : length (map (λ z. whole z) (part o n zs)) ≡ n = length-map (part o n zs) (λ z. whole z) ∙ length-part o n zs h in
    let e : width_of p * length (map (λ z. whole z) (part o n zs)) ≡ width_of p * n = ap (λ k. width_of p * k) many in
    need_part s b x (width_of p * n) q (omega (arith, e, are.count))

-- ---- slots of one of some children

nth : Slots → ℕ → Slot
nth no_slots k = null_slot
nth (more_slots x xs) zero = x
nth (more_slots x xs) (suc k) = nth xs k

nth-slots_at : (s : Entries) (ts : Kinds) (a b k i : ℕ) → child_slot s ts a b k i ≡ nth (slots_at s ts a b i) k
unfolding nth
nth-slots_at s no_kinds a b k i = refl
nth-slots_at s (more_kinds t ts) a b zero i = refl
nth-slots_at s (more_kinds t ts) a b (suc k) i = nth-slots_at s ts (a + nodes t) (b + buffers s.extra t) k i

nth-slots_of : (xs : List Slot) (k : ℕ) → nth (slots_of xs) k ≡ get_or xs k null_slot
unfolding nth
nth-slots_of [] k = refl
nth-slots_of (x ∷ xs) zero = refl
nth-slots_of (x ∷ xs) (suc k) = nth-slots_of xs k

-- ---- sparse

side_by_side : (cs : Layouts) (ids : TypeIds) (ts : List ℤ) (o n : ℕ) → levels_below cs (choices ids ts None) o n ≡ levels_below cs records o n
side_by_side no_layouts ids ts o n = refl
side_by_side (more_layouts c cs) ids ts o n = ap (λ hs. written_levels c o n ++ hs) (side_by_side cs ids ts o n)

-- ---- dense

pub record WholeChildren (s : Entries) (ts : Kinds) (cs : Layouts) (a b : ℕ) : Type 0 where
  pub well : AllWell s ts a b
  pub rows_are : (k : ℕ) → child_rows s ts a k ≡ get_or (lens_of cs) k 0
  pub each : (k i : ℕ) → i < get_or (lens_of cs) k 0 → child_slot s ts a b k i ≡ get_or (each_at (children_at cs) i) k null_slot

whole_rows : (s : Entries) (t : Kind) (ts : Kinds) (c : Layout) (cs : Layouts) (a b : ℕ) → Means s t a b None (len_of c) (λ i. array_slot c (0 + i)) → WholeChildren s ts cs (a + nodes t) (b + buffers s.extra t)
    → (k : ℕ) → child_rows s (more_kinds t ts) a k ≡ get_or (lens_of (more_layouts c cs)) k 0
whole_rows s t ts c cs a b here rest zero = here.rows_are
whole_rows s t ts c cs a b here rest (suc k) = rest.rows_are k

whole_slots : (s : Entries) (t : Kind) (ts : Kinds) (c : Layout) (cs : Layouts) (a b : ℕ) → Means s t a b None (len_of c) (λ i. array_slot c (0 + i)) → WholeChildren s ts cs (a + nodes t) (b + buffers s.extra t)
    → (k i : ℕ) → i < get_or (lens_of (more_layouts c cs)) k 0 → child_slot s (more_kinds t ts) a b k i ≡ get_or (each_at (children_at (more_layouts c cs)) i) k null_slot
whole_slots s t ts c cs a b here rest zero i h = here.each i h ∙ (let e : 0 + i ≡ i = omega arith in ap (array_slot c) e)
whole_slots s t ts c cs a b here rest (suc k) i h = rest.each k i h

whole_more : (s : Entries) (t : Kind) (ts : Kinds) (c : Layout) (cs : Layouts) (a b : ℕ) → Means s t a b None (len_of c) (λ i. array_slot c (0 + i)) → WholeChildren s ts cs (a + nodes t) (b + buffers s.extra t)
    → WholeChildren s (more_kinds t ts) (more_layouts c cs) a b
whole_more s t ts c cs a b here rest = record { well = (here.well, rest.well); rows_are = whole_rows s t ts c cs a b here rest; each = whole_slots s t ts c cs a b here rest }

whole_children : (s : Entries) (cs : Layouts) (fs : FieldTrees) (is : IdTrees) (ids : TypeIds) (zs os : List ℤ) (o n a b : ℕ) → s.extra ≡ 0 → ChildTypes fs cs → AreArrays cs → ChildrenMean s cs is
    → StandsAmong s a b (levels_below cs (choices ids zs (Some os)) o n) → WholeChildren s (kinds_of fs is) cs a b
whole_children s no_layouts no_fields is ids zs os o n a b extra types are mean st = record { well = tt; rows_are = λ k. refl; each = λ k i l. refl }
whole_children s no_layouts (more_fields f fs) is ids zs os o n a b extra types are mean st = absurd types
whole_children s (more_layouts c cs) no_fields is ids zs os o n a b extra types are mean st = absurd types
whole_children s (more_layouts c cs) (more_fields f fs) is ids zs os o n a b extra types are mean st =
    let t = kind_of (type_of c) (own_id (first_ids is)) (inner_ids (first_ids is)) in
    let both = stands_both s a b (written_levels c 0 (len_of c)) (levels_below cs (choices ids zs (Some os)) o n) st in
    let count = counted s c (own_id (first_ids is)) (inner_ids (first_ids is)) 0 (len_of c) are.0 extra in
    let here = mean.0 0 (len_of c) a b None (omega arith) refl both.here in
    let behind = stands_at s _ _ (a + nodes t) (b + buffers s.extra t) (levels_below cs (choices ids zs (Some os)) o n) (ap (λ k. a + k) count.node_count) (ap (λ k. b + k) count.buffer_count) both.behind in
    let rest = whole_children s cs fs (other_ids is) ids zs os o n (a + nodes t) (b + buffers s.extra t) extra types.1 are.1 mean.1 behind in
    subst (λ (k : Kind). WholeChildren s (more_kinds k (kinds_of fs (other_ids is))) (more_layouts c cs) a b) (sym (child_kind f fs is c cs types)) (whole_more s t (kinds_of fs (other_ids is)) c cs a b here rest)

-- ---- unions

sparse_mode : (m : UnionMode) (k : ℕ) → OffsetsGiven m None k → m ≡ Sparse
sparse_mode Sparse k h = refl
sparse_mode Dense k h = absurd h

dense_mode : (m : UnionMode) (os : List ℤ) (k : ℕ) → OffsetsGiven m (Some os) k → m ≡ Dense
dense_mode Sparse os k h = absurd h
dense_mode Dense os k h = refl

given_count : (m : UnionMode) (os : List ℤ) (k : ℕ) → OffsetsGiven m (Some os) k → length os ≡ k
given_count Sparse os k h = absurd h
given_count Dense os k h = h

-- The type ids of n slots, which are in buffer u.
pub record Types (s : Entries) (h : Level) (ids : TypeIds) (zs : List ℤ) (cs : Layouts) (is : IdTrees) (o n u : ℕ) : Type 0 where
  pub union : IsUnionKind (union_ids h.type) (count (kinds_of (child_fields h.type) is))
  pub types : HasTypes s (union_ids h.type) (count (kinds_of (child_fields h.type) is)) u n
  pub type_is : (i : ℕ) → i < n → type_at s u i ≡ get_or zs (o + i) (pos 0)
  pub child_is : (i : ℕ) → i < n → child_at s (union_ids h.type) (count (kinds_of (child_fields h.type) is)) u i ≡ child_number ids (get_or zs (o + i) (pos 0))

types_stand : (s : Entries) (h : Level) (ids : TypeIds) (zs : List ℤ) (os : Option (List ℤ)) (cs : Layouts) (is : IdTrees) (o n u : ℕ) (x : List ℕ) → PartsFit h (choices ids zs os) cs → o + n ≤ h.len
    → IsBufferOf (buffer s u) x → AreNumberBytes s.order Int8 (map (λ z. whole z) (part o n zs)) x → Types s h ids zs cs is o n u
types_stand s h ids zs os cs is o n u x fit inside q are =
    let c = fit.2 in
    let m = count (kinds_of (child_fields h.type) is) in
    let same : m ≡ child_count cs = kinds_count (child_fields h.type) is cs c.types in
    let room : o + n ≤ length zs = omega (arith, inside, fit.1) in
    let type_is : (i : ℕ) → i < n → type_at s u i ≡ get_or zs (o + i) (pos 0) = λ i l. integer_at s u Int8 zs o n x i q are room l in
    let name : (i : ℕ) → i < n → (child_named ids m (get_or zs (o + i) (pos 0)) ≡ child_number ids (get_or zs (o + i) (pos 0))) × (child_number ids (get_or zs (o + i) (pos 0)) < m) = λ i l.
    named ids m (get_or zs (o + i) (pos 0)) (subst (λ (k : ℕ). IdsFit ids k) (sym same) c.ids)
    (subst (λ (k : ℕ). NamesChild ids k (get_or zs (o + i) (pos 0))) (sym same) (c.names.each (o + i) (omega (arith, room, l)))) in
    let child_is : (i : ℕ) → i < n → child_at s (union_ids h.type) m u i ≡ child_number ids (get_or zs (o + i) (pos 0)) = λ i l.
    ap (λ (z : ℤ). child_named (union_ids h.type) m z) (type_is i l) ∙ ap (λ (js : TypeIds). child_named js m (get_or zs (o + i) (pos 0))) (sym c.named) ∙ (name i l).0 in
    let need = integers_need s u Int8 zs o n x q are room in
    record {
      union = record {
        some = omega (arith, same, c.some);
        few = omega (arith, same, c.few);
        distinct = subst (λ (js : TypeIds). AreUnionIds js m) c.named (ids_are ids m (subst (λ (k : ℕ). IdsFit ids k) (sym same) c.ids));
      };
      types = record {
        types = (let e : 1 * n ≡ n = omega arith in subst (λ (k : ℕ). Need s u k) e need);
        named = λ i l. let a = child_is i l in let b = (name i l).1 in omega (arith, a, b);
      };
      type_is = type_is;
      child_is = child_is;
    }

-- a union has no validity
unmasked : (h : Level) (i : ℕ) (x : Slot) → h.validity ≡ None → x ≡ slot_where (array_valid h.validity i) x
unmasked h i x e = sym (ap (λ v. slot_where (array_valid v i) x) e)

pub sparse_mean : (s : Entries) (h : Level) (ids : TypeIds) (zs : List ℤ) (cs : Layouts) (o n a b : ℕ) (limit : Limit) (id : Option ℤ) (is : IdTrees) (own : List (List ℕ)) → PartsFit h (choices ids zs None) cs
    → AreArrays cs → ChildrenMean s cs is → Row s h (choices ids zs None) o n a b limit own → StandsAmong s (a + 1) (b + length own) (levels_below cs (choices ids zs None) o n)
    → RowMeans s h (choices ids zs None) cs o n a b limit id is
sparse_mean s h ids zs cs o n a b limit id is (x ∷ []) fit arrays mean r st =
    let c = fit.2 in
    let u = b + s.extra in
    let here : b ≡ u = let e = r.extra_is in omega (arith, e) in
    let behind : b + 1 ≡ u + 1 = omega (arith, here) in
    let ts = kinds_of (child_fields h.type) is in
    let long : (node s a).length ≡ pos n = ap (λ (y : FieldNode). y.length) r.node_is in
    let rows_are = rows_of s a n limit long r.full in
    let all = types_stand s h ids zs None cs is o n u x fit r.inside (subst (λ (k : ℕ). IsBufferOf (buffer s k) x) here r.stand.0) r.are in
    let places = subst (λ (k : ℕ). AllAre k (lens_of cs)) fit.1 c.places in
    let children = beside s cs (child_fields h.type) is h.len o n (a + 1) (u + 1) limit r.extra_is c.types places r.inside arrays mean r.full
    (stands_at s (a + 1) (b + 1) (a + 1) (u + 1) _ refl behind (subst (λ hs. StandsAmong s (a + 1) (b + 1) hs) (side_by_side cs ids zs o n) st)) in
    let f = λ (i : ℕ). slot_where (array_valid h.validity (o + i)) (variant_at (children_at cs) (get_or zs (o + i) (pos 0)) (child_number ids (get_or zs (o + i) (pos 0))) (o + i)) in
    means_by s Physicals.Union h.type id is a b limit n f c.lies
    (subst (λ (m : UnionMode). Means s (union_kind m (union_ids h.type) ts) a b limit n f) (sym (sparse_mode (union_mode h.type) (length zs) c.given))
    (record {
      well = subst (λ (k : ℕ). IsSize (node s a).length × IsUnionKind (union_ids h.type) (count ts) × HasTypes s (union_ids h.type) (count ts) u k × AllHaveRows s ts (a + 1) (u + 1) limit k) (sym rows_are)
          (length_pos s a n long, all.union, all.types, children.well);
      rows_are = rows_are;
      each = λ i l.
          let z = get_or zs (o + i) (pos 0) in
          let k = child_number ids z in
          ap₂ (λ t j. variant_slot t (child_slot s ts (a + 1) (u + 1) j i)) (all.type_is i l) (all.child_is i l)
          ∙ ap (variant_slot z) (nth-slots_at s ts (a + 1) (u + 1) k i ∙ ap (λ ss. nth ss k) (children.each i l) ∙ nth-slots_of (each_at (children_at cs) (o + i)) k)
          ∙ unmasked h (o + i) (variant_at (children_at cs) z k (o + i)) fit.0;
    }))
sparse_mean s h ids zs cs o n a b limit id is _ fit arrays mean r st = absurd r.are

pub dense_mean : (s : Entries) (h : Level) (ids : TypeIds) (zs os : List ℤ) (cs : Layouts) (o n a b : ℕ) (limit : Limit) (id : Option ℤ) (is : IdTrees) (own : List (List ℕ)) → PartsFit h (choices ids zs (Some os)) cs
    → AreArrays cs → ChildrenMean s cs is → Row s h (choices ids zs (Some os)) o n a b limit own → StandsAmong s (a + 1) (b + length own) (levels_below cs (choices ids zs (Some os)) o n)
    → RowMeans s h (choices ids zs (Some os)) cs o n a b limit id is
dense_mean s h ids zs os cs o n a b limit id is (x ∷ y ∷ []) fit arrays mean r st =
    let c = fit.2 in
    let u = b + s.extra in
    let here : b ≡ u = let e = r.extra_is in omega (arith, e) in
    let next : b + 1 ≡ u + 1 = omega (arith, here) in
    let behind : b + 2 ≡ u + 2 = omega (arith, here) in
    let ts = kinds_of (child_fields h.type) is in
    let m = count ts in
    let long : (node s a).length ≡ pos n = ap (λ (w : FieldNode). w.length) r.node_is in
    let rows_are = rows_of s a n limit long r.full in
    let all = types_stand s h ids zs (Some os) cs is o n u x fit r.inside (subst (λ (k : ℕ). IsBufferOf (buffer s k) x) here r.stand.0) r.are.0 in
    let room : o + n ≤ length os = let e = given_count (union_mode h.type) os (length zs) c.given in omega (arith, r.inside, fit.1, e) in
    let q : IsBufferOf (buffer s (u + 1)) y = subst (λ (k : ℕ). IsBufferOf (buffer s k) y) next r.stand.1.0 in
    let place_is : (i : ℕ) → i < n → place_at s (u + 1) i ≡ get_or os (o + i) (pos 0) = λ i l. integer_at s (u + 1) Int32 os o n y i q r.are.1 room l in
    let children = whole_children s cs (child_fields h.type) is ids zs os o n (a + 1) (u + 2) r.extra_is c.types arrays mean (stands_at s (a + 1) (b + 2) (a + 1) (u + 2) _ refl behind st) in
    let reach : (i : ℕ) → i < n → KeyFits (get_or os (o + i) (pos 0)) (get_or (lens_of cs) (child_number ids (get_or zs (o + i) (pos 0))) 0) = λ i l. c.places.each (o + i) (omega (arith, r.inside, fit.1, l)) in
    let f = λ (i : ℕ). slot_where (array_valid h.validity (o + i)) (variant_at (children_at cs) (get_or zs (o + i) (pos 0)) (child_number ids (get_or zs (o + i) (pos 0))) (place_of (get_or os (o + i) (pos 0)))) in
    let reaches : Reaches s (union_ids h.type) ts (a + 1) u n = record {
      offsets = integers_need s (u + 1) Int32 os o n y q r.are.1 room;
      inside = λ i l.
          subst (λ (z : ℤ). IsIndex z (child_rows s ts (a + 1) (child_at s (union_ids h.type) m u i))) (sym (place_is i l))
          (subst (λ (k : ℕ). IsIndex (get_or os (o + i) (pos 0)) (child_rows s ts (a + 1) k)) (sym (all.child_is i l))
          (subst (λ (k : ℕ). IsIndex (get_or os (o + i) (pos 0)) k) (sym (children.rows_are (child_number ids (get_or zs (o + i) (pos 0))))) (key_index _ _ (reach i l))));
    } in
    means_by s Physicals.Union h.type id is a b limit n f c.lies
    (subst (λ (w : UnionMode). Means s (union_kind w (union_ids h.type) ts) a b limit n f) (sym (dense_mode (union_mode h.type) os (length zs) c.given))
    (record {
      well = subst (λ (k : ℕ). IsSize (node s a).length × IsUnionKind (union_ids h.type) m × HasTypes s (union_ids h.type) m u k × Reaches s (union_ids h.type) ts (a + 1) u k × AllWell s ts (a + 1) (u + 2)) (sym rows_are)
          (length_pos s a n long, all.union, all.types, reaches, children.well);
      rows_are = rows_are;
      each = λ i l.
          let z = get_or zs (o + i) (pos 0) in
          let k = child_number ids z in
          let p = get_or os (o + i) (pos 0) in
          let at = key_place p _ (reach i l) in
          ap₂ (λ t j. variant_slot t (child_slot s ts (a + 1) (u + 2) j (size (place_at s (u + 1) i)))) (all.type_is i l) (all.child_is i l)
          ∙ ap (λ j. variant_slot z (child_slot s ts (a + 1) (u + 2) k j)) (ap size (place_is i l) ∙ at.0)
          ∙ ap (variant_slot z) (children.each k (place_of p) at.1)
          ∙ unmasked h (o + i) (variant_at (children_at cs) z k (place_of p)) fit.0;
    }))
dense_mean s h ids zs os cs o n a b limit id is _ fit arrays mean r st = absurd r.are
