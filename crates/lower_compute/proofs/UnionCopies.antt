-- Unions, run by run.
use Rattle.std.proofs.Common.{arith, refl, ◌≡◌, ℕ, ℤ, pos, ◌<◌, List, [], ◌∷◌, length, map, get_or, sym, ap, ap₂, subst, ◌∙◌}
use Rattle.std.specs.Prelude.{Option}
use Rattle.std.specs.List.{All}
use Rattle.std.proofs.lemmas.List.{length-map, get_or-map}
use Rattle.lower.specs.declared.error.Error.{Error}
use Rattle.lower.specs.declared.error.Error.TheVariants.{OutOfSpec}
use Rattle.lower.specs.declared.error.Rule.TheVariants.{ChildCount, ChildType, ChildLength, UnionChildren, UnionIds, UnionType, UnionOffsets, UnionOffset, PhysicalType as WrongType}
use Rattle.lower_flat_arrays.specs.Columns.{variant_slot}
use Rattle.lower_validation.specs.Ids.{union_ids, union_mode, child_number, NamesChild, IdsFit, OffsetsGiven}
use Rattle.lower_validation.specs.Places.{PlacesFit}
use Rattle.lower_validation.proofs.ChildNumbers.{number_below}
use Rattle.lower_arrays.specs.Layouts.{Layout, layouts, children, len_of}
use Rattle.lower_arrays.specs.Children.{child_fields, child_count, ChildTypes, FieldTypes, lens_of}
use Rattle.lower_arrays.specs.Choices.{child, no_child, place_in, ChoicesFit}
use Rattle.lower_arrays.specs.Slots.{slot_at, IsArray}
use Rattle.lower_arrays.specs.Unions.{UnionSeen, union_seen, union_layout, BreaksUnion}
use Rattle.lower_arrays.proofs.Children.{count_children}
use Rattle.lower_arrays.proofs.Choices.{child_slot}
use Rattle.lower_compute.specs.declared.runs.Run.{Run}
use Rattle.lower_compute.specs.Runs.{RunFits, items_of_runs, origins, origin_at}
use Rattle.lower_compute.specs.Copies.{HasTypeOf, AllHaveTypeOf, AreWithin, IsCopy, each_child, AreCopies}
use Rattle.lower_compute.proofs.RunPlaces.{map-map, item_at, items-count}
use Rattle.lower_compute.proofs.Likes.{counts, same_ids, same_mode}
use Rattle.lower_compute.proofs.ChildPlaces.{child_layouts, types-same}
use Rattle.lower_compute.proofs.StructCopies.{types_counted}
use Rattle.lower_compute.proofs.CopySlots.{first_there, second_there, copy_slot, copy_made, viewed_within, viewed_all}

union_kept : (a : UnionSeen) (e : Error) → ChoicesFit a.type (union_ids a.type) a.types a.offsets (layouts a.children) → BreaksUnion a e → ⊥
union_kept a (OutOfSpec WrongType) fit breaks = breaks fit.lies
union_kept a (OutOfSpec UnionChildren) fit breaks = breaks (fit.some, fit.few)
union_kept a (OutOfSpec ChildCount) fit breaks = breaks (types_counted (child_fields a.type) (layouts a.children) fit.types)
union_kept a (OutOfSpec ChildType) fit breaks = breaks fit.types
union_kept a (OutOfSpec UnionIds) fit breaks = breaks fit.ids
union_kept a (OutOfSpec UnionType) fit breaks = breaks fit.names
union_kept a (OutOfSpec UnionOffsets) fit breaks = breaks fit.given
union_kept a (OutOfSpec ChildLength) fit breaks = breaks fit.places
union_kept a (OutOfSpec UnionOffset) fit breaks = breaks fit.places
union_kept a (OutOfSpec _) fit breaks = breaks

-- an element of a list that has one
first_of : {X : Type 0} (ys : List X) (k : ℕ) → k < length ys → X
first_of [] k lt = absurd (omega (arith, lt))
first_of (y ∷ ys) k lt = y

-- The number of the child that slot j is in, and the slot's index there.
abbrev pub child_of : UnionSeen → ℕ → ℕ
child_of a j = child_number (union_ids a.type) (get_or a.types j (pos 0))

-- slot j of a union
pub union_slot : (a : UnionSeen) (j : ℕ) → slot_at (union_layout a) j ≡ variant_slot (get_or a.types j (pos 0)) (slot_at (child (layouts a.children) (child_of a j)) (place_in a.offsets j))
union_slot a j = ap (variant_slot (get_or a.types j (pos 0))) (child_slot (layouts a.children) (child_of a j) (place_in a.offsets j))

-- Unions like b, and copies cs of the runs rs of their children.
module _ {X : Type 0} (seen : X → UnionSeen) (xs : List X) (b : UnionSeen) (runs : List Run)
    (like : AllHaveTypeOf (union_layout b) (map (λ x. union_layout (seen x)) xs)) (within : AreWithin (map (λ x. union_layout (seen x)) xs) runs)
    (rs : ℕ → List Run) (cs : List Layout) (rooms : (k : ℕ) → k < length b.children → AreWithin (each_child k (map (λ x. union_layout (seen x)) xs)) (rs k))
    (copies : AreCopies b.children (map (λ x. union_layout (seen x)) xs) rs cs) where
  abbrev ls : List Layout
  ls = map (λ x. union_layout (seen x)) xs

  pub types-fit : All (RunFits (map (λ x. length (seen x).types) xs)) runs
  types-fit = viewed_within (λ x. union_layout (seen x)) xs ls runs refl within

  abbrev ts : List ℤ
  ts = items_of_runs (map (λ x. (seen x).types) xs) runs

  lens_are : (ys : List X) → map (λ l. length l) (map (λ x. (seen x).types) ys) ≡ map (λ x. length (seen x).types) ys
  lens_are ys = map-map (λ l. length l) (λ x. (seen x).types) ys

  lists-fit : All (RunFits (map (λ l. length l) (map (λ x. (seen x).types) xs))) runs
  lists-fit = subst (λ ns. All (RunFits ns) runs) (sym (lens_are xs)) types-fit

  pub types_count : length ts ≡ length (origins runs)
  types_count = items-count (map (λ x. (seen x).types) xs) runs lists-fit

  many : length cs ≡ length b.children
  many = copies.count

  made : child_count (layouts cs) ≡ child_count (layouts b.children)
  made = count_children cs ∙ many ∙ sym (count_children b.children)

  module _ (d : X) (i : ℕ) (lt : i < length (origins runs)) where
    -- the array that slot i is from
    abbrev x : UnionSeen
    x = seen (get_or xs (origin_at runs i).0 d)

    abbrev j : ℕ
    j = (origin_at runs i).1

    pub first : (origin_at runs i).0 < length xs
    first = subst (λ m. (origin_at runs i).0 < m) (length-map xs (λ x. union_layout (seen x))) (first_there ls runs within i lt)

    pub array_there : (e : Layout) → get_or ls (origin_at runs i).0 e ≡ union_layout x
    array_there e = get_or-map (λ x. union_layout (seen x)) xs (origin_at runs i).0 d e first

    pub inner : j < length x.types
    inner = subst (λ l. j < len_of l) (array_there (union_layout b)) (second_there ls runs within (union_layout b) i lt)

    pub is_there : IsArray (union_layout x)
    is_there = viewed_all IsArray (λ x. union_layout (seen x)) xs ls refl like.1 (origin_at runs i).0 d first

    pub type_there : get_or ts i (pos 0) ≡ get_or x.types j (pos 0)
    type_there =
        item_at (map (λ x. (seen x).types) xs) (pos 0) runs i lists-fit lt
        ∙ ap (λ l. get_or l j (pos 0)) (get_or-map (λ x. (seen x).types) xs (origin_at runs i).0 d [] first)

    ids_there : union_ids x.type ≡ union_ids b.type
    ids_there = same_ids x.type b.type (viewed_all (HasTypeOf (union_layout b)) (λ x. union_layout (seen x)) xs ls refl like.2 (origin_at runs i).0 d first)

    mode_there : union_mode x.type ≡ union_mode b.type
    mode_there = same_mode x.type b.type (viewed_all (HasTypeOf (union_layout b)) (λ x. union_layout (seen x)) xs ls refl like.2 (origin_at runs i).0 d first)

    -- the same child
    pub number_there : child_number (union_ids b.type) (get_or ts i (pos 0)) ≡ child_of x j
    number_there = ap₂ (λ ids z. child_number ids z) (sym ids_there) type_there

    pub count_there : child_count (layouts x.children) ≡ child_count (layouts b.children)
    count_there = subst (λ l. child_count (children l) ≡ child_count (layouts b.children)) (array_there (union_layout b)) (counts (union_layout b) ls like (omega arith) (origin_at runs i).0 (union_layout b) (first_there ls runs within i lt))

    pub number_low : child_of x j < length b.children
    number_low =
        let low = number_below (union_ids x.type) (child_count (layouts x.children)) (get_or x.types j (pos 0)) (is_there.1.2.names.each j inner) in
        let same = count_there in
        let count = count_children b.children in
        omega (arith, low, same, count)

    -- The slot of the copy at offset o of the child is the slot that it is from.
    slot_there : (o : ℕ) → o < length (origins (rs (child_of x j))) → origin_at (rs (child_of x j)) o ≡ ((origin_at runs i).0, place_in x.offsets j)
        → variant_slot (get_or ts i (pos 0)) (slot_at (child (layouts cs) (child_number (union_ids b.type) (get_or ts i (pos 0)))) o) ≡ slot_at (union_layout x) j
    slot_there o low at =
        let k = child_of x j in
        let ks = each_child k ls in
        ap₂ (λ z n. variant_slot z (slot_at (child (layouts cs) n) o)) type_there number_there
        ∙ ap (λ c. variant_slot (get_or x.types j (pos 0)) (slot_at c o)) (child_layouts cs k)
        ∙ ap (variant_slot (get_or x.types j (pos 0)))
        (copy_slot ks (rs k) (rooms k number_low) (get_or b.children k no_child) (get_or cs k no_child) no_child o (copies.each k number_low) low
        ∙ ap (λ (p : ℕ × ℕ). slot_at (get_or ks p.0 no_child) p.1) at
        ∙ ap (λ c. slot_at c (place_in x.offsets j))
        (get_or-map (λ l. child (children l) k) ls (origin_at runs i).0 (union_layout b) no_child (first_there ls runs within i lt)
        ∙ ap (λ l. child (children l) k) (array_there (union_layout b))))
        ∙ sym (union_slot x j)

  -- ---- a union of the copies
  module _ (os : Option (List ℤ)) (given : OffsetsGiven (union_mode b.type) os (length ts)) (fit : PlacesFit (union_ids b.type) ts os (lens_of (layouts cs)))
      (low : (d : X) (i : ℕ) (lt : i < length (origins runs)) → (place_in os i < length (origins (rs (child_of (seen (get_or xs (origin_at runs i).0 d)) (origin_at runs i).1))))
      × (origin_at (rs (child_of (seen (get_or xs (origin_at runs i).0 d)) (origin_at runs i).1)) (place_in os i) ≡ ((origin_at runs i).0, place_in (seen (get_or xs (origin_at runs i).0 d)).offsets (origin_at runs i).1))) where
    abbrev made_union : UnionSeen
    made_union = union_seen b.type ts cs os

    types : ChildTypes (child_fields b.type) (layouts cs)
    types =
        subst (FieldTypes (child_fields b.type))
        (sym (types-same cs b.children many (λ k lt. ap (λ c. c.type) (copies.each k lt))))
        like.0.1.2.types

    choices : ChoicesFit b.type (union_ids b.type) ts os (layouts cs)
    choices = record {
      lies = like.0.1.2.lies;
      named = refl;
      some = let h = like.0.1.2.some in omega (arith, made, h);
      few = let h = like.0.1.2.few in omega (arith, made, h);
      types = types;
      ids = subst (IdsFit (union_ids b.type)) (sym made) like.0.1.2.ids;
      names = record {
        each = λ i lt.
            let below : i < length (origins runs) = omega (arith, types_count, lt) in
            let d = first_of xs (origin_at runs i).0 (first_any i below) in
            let name = (is_there d i below).1.2.names.each (j d i below) (inner d i below) in
            subst (NamesChild (union_ids b.type) (child_count (layouts cs))) (sym (type_there d i below))
            (subst (λ n. NamesChild (union_ids b.type) n (get_or (x d i below).types (j d i below) (pos 0))) (count_there d i below ∙ sym made)
            (subst (λ ids. NamesChild ids (child_count (layouts (x d i below).children)) (get_or (x d i below).types (j d i below) (pos 0))) (ids_there d i below) name));
      };
      given = given;
      places = fit;
    }
      where
        first_any : (i : ℕ) → i < length (origins runs) → (origin_at runs i).0 < length xs
        first_any i lt = subst (λ m. (origin_at runs i).0 < m) (length-map xs (λ x. union_layout (seen x))) (first_there ls runs within i lt)

    pub union_unbroken : (e : Error) → BreaksUnion made_union e → ⊥
    union_unbroken e breaks = union_kept made_union e choices breaks

    pub union_copied : IsCopy (union_layout b) ls runs (union_layout made_union)
    union_copied = copy_made ls runs within b.type (union_layout made_union) refl types_count (λ e i lt.
        let d = first_of xs (origin_at runs i).0 (subst (λ m. (origin_at runs i).0 < m) (length-map xs (λ x. union_layout (seen x))) (first_there ls runs within i lt)) in
        let here = low d i lt in
        union_slot made_union i
        ∙ slot_there d i lt (place_in os i) here.0 here.1
        ∙ ap (λ l. slot_at l (origin_at runs i).1) (sym (array_there d i lt e)))
