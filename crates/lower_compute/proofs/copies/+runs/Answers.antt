use Rattle.std.proofs.Common.{arith, refl, ◌≡◌, ℕ, List, ◌<◌, [], length, map, get_or, sym, ap, subst, ◌∙◌}
use Rattle.lower_types.specs.declared.PrimitiveType.TheVariants.{Int32}
use Rattle.lower_arrays.specs.Layouts.{layouts, children, len_of, type_of, height, heights}
use Rattle.lower_arrays.specs.AnyLayouts.{layout_of}
use Rattle.lower_arrays.specs.FixedLists.{fixed_list_layout}
use Rattle.lower_arrays.specs.Lists.{list_layout}
use Rattle.lower_arrays.specs.Maps.{map_layout}
use Rattle.lower_arrays.specs.Unions.{union_layout}
use Rattle.lower_arrays.specs.Dictionaries.{DictionarySeen, dictionary_layout}
use Rattle.lower_arrays.proofs.Children.{height_at, children_counted}
use Rattle.lower_compute.specs.Runs.{origins, scaled, run_of_items, whole_runs}
use Rattle.lower_compute.specs.Copies.{AllHaveTypeOf, AreWithin, IsCopy, NoCopy, each_child, HaveChildren, AreCopies}
use Rattle.lower_compute.proofs.CopySlots.{validities-fit, viewed_all}
use Rattle.lower_compute.proofs.CopySteps.{CopiesUpTo, no_copies, copy_more, all_copies, copy_moved}
use Rattle.lower_compute.proofs.ChildPlaces.{layout_at}
use Rattle.lower.specs.TypeViews.{type_view}
use Rattle.lower_compute.proofs.Likes.{like_child, have_child, counts}
use Rattle.lower_compute.proofs.Alike.{lists_like, maps_like, sizes_like, have_items, keys_like, choices_like}
use Rattle.lower_compute.proofs.ListCopies.{off, spans-fit, items-within, list_unbroken, list_copied, map_unbroken, map_copied}
use Rattle.lower_compute.proofs.FixedListCopies.{scaled-within, fixed_list_unbroken, fixed_list_copied}
use Rattle.lower_compute.proofs.StructCopies.{structs_have, struct_unbroken, struct_copied}
use Rattle.lower_compute.proofs.TakenRuns.{whole_within}
use Rattle.lower_compute.proofs.SparseCopies.{sparse_have, dense_have}
use Rattle.lower_compute.proofs.KeyCopies.{value_types, start_layouts, start_begin, end_layouts, end_begin}
use Rattle.lower_compute.proofs.Steps.{none_of, some_of}
use Rattle.lower_compute.specs.Keyed.{one_after_other}
use Rattle.lower_compute.specs.Variants.{AreDense}
use Rattle.lower.specs.Normal.{norm}
use Rattle.lower_validation.specs.Keys.{values_type}
use Rattle.lower_arrays.specs.Children.{child_count}
use Rattle.lower_arrays.specs.Slots.{slots}
use Rattle.std.specs.Prelude.{None, MatchResult}
use Rattle.std.specs.List.{All}
use Rattle.std.specs.Option.{option_copied}
use Rattle.std.proofs.lemmas.List.{length-map, get_or-map}
use Rattle.lower_arrays.specs.declared.array.AnyArray.{AnyArray}
use Rattle.lower_compute.proofs.copies.+runs.Goals as goal

pub copy_child-copy_runs-requires : goal.copy_child-copy_runs-requires
copy_child-copy_runs-requires t c =
    let same : map (λ a. layout_of a.now) c.deref.result.now ≡ each_child c.args.number (map (λ a. layout_of a.now) c.args.arrays.now) =
    ap (map (λ a. layout_of a.now)) c.deref.ensures.value ∙ c.in_ok-children.ensures
    in (
      omega arith,
      (subst (AllHaveTypeOf (layout_of c.args.like.now)) (sym same) c.requires.alike, subst (λ ls. AreWithin ls c.args.runs.now) (sym same) c.requires.within),
    )

pub copy_child-returns : goal.copy_child-returns
copy_child-returns t c =
    let same : map (λ a. layout_of a.now) c.deref.result.now ≡ each_child c.args.number (map (λ a. layout_of a.now) c.args.arrays.now) =
    ap (map (λ a. layout_of a.now)) c.deref.ensures.value ∙ c.in_ok-children.ensures
    in
    subst (λ ks. MatchResult c.copy_runs.result (λ copy. IsCopy (layout_of c.args.like.now) ks c.args.runs.now (layout_of copy)) NoCopy) same c.copy_runs.ensures

pub copy_children-copy_child-requires : goal.copy_children-copy_child-requires
copy_children-copy_child-requires t c =
    let xs = c.args.likes.now in
    let k = c.loop-number.number in
    let x = c.index-likes-number.result in
    let lt : k < length xs = omega (arith, c.loop-number-test.true) in
    let low = height_at xs k x lt c.index-likes-number.is in
    let at = layout_at xs k x lt c.index-likes-number.is in
    let count = length-map xs layout_of in
    let inner : k < length (map layout_of xs) = omega (arith, count, lt) in (
      omega (arith, low),
      (
        subst (λ m. AllHaveTypeOf m (each_child k (map (λ a. layout_of a.now) c.args.arrays.now))) at (c.requires.like k inner),
        (c.requires.have k inner, c.requires.within k inner),
      ),
    )

pub copy_fields-copy_child-requires : goal.copy_fields-copy_child-requires
copy_fields-copy_child-requires t c =
    let ls = map (λ a. layout_of a.now) c.args.arrays.now in
    let xs = c.args.likes.now in
    let k = c.loop-number.number in
    let x = c.index-likes-number.result in
    let lt : k < length xs = omega (arith, c.loop-number-test.true) in
    let low = height_at xs k x lt c.index-likes-number.is in
    let at = layout_at xs k x lt c.index-likes-number.is in
    let count = length-map xs layout_of in
    let inner : k < length (map layout_of xs) = omega (arith, count, lt) in
    let many = c.requires.count in
    let room : k < length c.args.parts.now = omega (arith, many, lt) in
    let there : get_or (map (λ v. v.items) c.args.parts.now) k [] ≡ c.deref.result.now =
    get_or-map (λ v. v.items) c.args.parts.now k c.index-parts-number.result [] room ∙ ap (λ v. v.items) (sym c.index-parts-number.is) ∙ sym c.deref.ensures.value
    in (
      omega (arith, low),
      (
        subst (λ m. AllHaveTypeOf m (each_child k ls)) at (c.requires.have.like k inner),
        (c.requires.have.have k inner, subst (AreWithin (each_child k ls)) there (c.requires.have.within k inner)),
      ),
    )

pub copy_fields-loop-number-preserved : goal.copy_fields-loop-number-preserved
copy_fields-loop-number-preserved t c =
    let ls = map (λ a. layout_of a.now) c.args.arrays.now in
    let likes = c.args.likes.now in
    let k = c.loop-number.number in
    let x = c.index-likes-number.result in
    let lt : k < length likes = omega (arith, c.loop-number-test.true) in
    let many = c.requires.count in
    let room : k < length c.args.parts.now = omega (arith, many, lt) in
    let there : get_or (map (λ v. v.items) c.args.parts.now) k [] ≡ c.deref.result.now =
    get_or-map (λ v. v.items) c.args.parts.now k c.index-parts-number.result [] room ∙ ap (λ v. v.items) (sym c.index-parts-number.is) ∙ sym c.deref.ensures.value
    in
    copy_more k (map layout_of likes) ls (λ i. get_or (map (λ v. v.items) c.args.parts.now) i []) c.loop-number.copies.items c.push.new.self.items
    c.in_ok-copy.copy (layout_of x) (layout_at likes k x lt c.index-likes-number.is)
    (subst (λ rs. IsCopy (layout_of x) (each_child k ls) rs (layout_of c.in_ok-copy.copy)) (sym there) c.in_ok-copy.ensures)
    c.in_ok-push.ensures.items c.loop-number.invariant

pub copy_fields-returns : goal.copy_fields-returns
copy_fields-returns t c =
    let count = length-map c.args.likes.now layout_of in
    all_copies c.loop-number.number (map layout_of c.args.likes.now) (map (λ a. layout_of a.now) c.args.arrays.now) (λ k. get_or (map (λ v. v.items) c.args.parts.now) k [])
    (map layout_of c.loop-number.copies.items) (omega (arith, count, c.loop-number-test.false, c.loop-number.auto.number-end)) c.loop-number.invariant

pub copy_struct-copy_children-requires : goal.copy_struct-copy_children-requires
copy_struct-copy_children-requires t c =
    let ls = map (λ a. layout_of a.now) c.args.arrays.now in
    let same = c.values.ensures.children in
    let tall : heights (layouts (map layout_of c.values.result.now)) ≡ heights (layouts c.args.like.now.children) = ap (λ cs. heights (layouts cs)) same in (
      omega (arith, tall),
      subst (λ ms. HaveChildren ms ls (λ k. c.args.runs.now)) (sym same) (structs_have c.args.like.now ls c.args.runs.now c.requires.alike c.requires.within),
    )

pub copy_struct-validity_of_runs-requires : goal.copy_struct-validity_of_runs-requires
copy_struct-validity_of_runs-requires t c =
    validities-fit (map (λ a. layout_of a.now) c.args.arrays.now) c.args.runs.now c.requires.alike.1 c.requires.within

pub copy_struct-unreachable-requires : goal.copy_struct-unreachable-requires
copy_struct-unreachable-requires t c =
    let ls = map (λ a. layout_of a.now) c.args.arrays.now in
    let runs = c.args.runs.now in
    let copies = subst (λ ms. AreCopies ms ls (λ k. runs) (map layout_of c.in_ok-children.children.items)) c.values.ensures.children c.in_ok-children.ensures in
    struct_unbroken c.args.like.now ls runs c.requires.alike c.requires.within (map layout_of c.in_ok-children.children.items) copies
    c.in_ok-validity.validity c.in_ok-validity.ensures (type_view c.in_ok-clone.field-0) c.in-Err.field-0 (c.in_ok-clone.ensures ∙ c.data_type.ensures.tree) c.in-Err.ensures

pub copy_struct-returns : goal.copy_struct-returns
copy_struct-returns t c =
    let ls = map (λ a. layout_of a.now) c.args.arrays.now in
    let runs = c.args.runs.now in
    let copies = subst (λ ms. AreCopies ms ls (λ k. runs) (map layout_of c.in_ok-children.children.items)) c.values.ensures.children c.in_ok-children.ensures in
    struct_copied c.args.like.now ls runs c.requires.alike c.requires.within (map layout_of c.in_ok-children.children.items) copies
    c.in_ok-validity.validity c.in_ok-validity.ensures (type_view c.in_ok-clone.field-0) c.in-Ok.array (c.in_ok-clone.ensures ∙ c.data_type.ensures.tree) c.in-Ok.ensures.0

pub copy_fixed_size_list-slot_runs-requires : goal.copy_fixed_size_list-slot_runs-requires
copy_fixed_size_list-slot_runs-requires t c =
    let b = c.args.like.now in
    let ls = map (λ a. layout_of a.now) c.args.arrays.now in
    let runs = c.args.runs.now in
    let m = fixed_list_layout b in
    let like = c.requires.alike in
    let some = have_child m ls like (omega arith) 0 (omega arith) in
    record {
      have = some;
      within = subst (λ n. AreWithin (each_child 0 ls) (map (scaled n) runs)) (sym c.size.ensures.size)
          (scaled-within m ls runs b.size like c.requires.within (sizes_like m ls like b.size refl like.0.1.1) some);
    }

pub copy_fixed_size_list-copy_child-requires : goal.copy_fixed_size_list-copy_child-requires
copy_fixed_size_list-copy_child-requires t c =
    let b = c.args.like.now in
    let ls = map (λ a. layout_of a.now) c.args.arrays.now in
    let runs = c.args.runs.now in
    let m = fixed_list_layout b in
    let like = c.requires.alike in
    let some = have_child m ls like (omega arith) 0 (omega arith) in
    let parts_are : c.deref.result.now ≡ map (scaled b.size) runs = c.deref.ensures.value ∙ c.in_ok-parts.ensures ∙ ap (λ n. map (scaled n) runs) c.size.ensures.size in
    let tall : height (layout_of c.values.result.now) ≡ height b.child = ap height c.values.ensures.child in (
      omega (arith, tall),
      (
        subst (λ l. AllHaveTypeOf l (each_child 0 ls)) (sym c.values.ensures.child) (like_child m ls like (omega arith) 0),
        (some, subst (AreWithin (each_child 0 ls)) (sym parts_are) (scaled-within m ls runs b.size like c.requires.within (sizes_like m ls like b.size refl like.0.1.1) some)),
      ),
    )

pub copy_fixed_size_list-validity_of_runs-requires : goal.copy_fixed_size_list-validity_of_runs-requires
copy_fixed_size_list-validity_of_runs-requires t c =
    validities-fit (map (λ a. layout_of a.now) c.args.arrays.now) c.args.runs.now c.requires.alike.1 c.requires.within

pub copy_list-copy_list_offsets-requires : goal.copy_list-copy_list_offsets-requires
copy_list-copy_list_offsets-requires t c =
    let b = c.args.like.now in
    let ls = map (λ a. layout_of a.now) c.args.arrays.now in
    let m = list_layout b in
    let like = c.requires.alike in
    let kinds = lists_like m ls like b.width refl like.0.1.0 in
    record {
      kinds = kinds;
      fits = spans-fit m ls c.args.runs.now like c.requires.within (have_items b.width ls kinds) (have_child m ls like (omega arith) 0 (omega arith));
    }

pub copy_list-copy_child-requires : goal.copy_list-copy_child-requires
copy_list-copy_child-requires t c =
    let b = c.args.like.now in
    let ls = map (λ a. layout_of a.now) c.args.arrays.now in
    let runs = c.args.runs.now in
    let m = list_layout b in
    let like = c.requires.alike in
    let kinds = lists_like m ls like b.width refl like.0.1.0 in
    let some = have_child m ls like (omega arith) 0 (omega arith) in
    let parts_are : c.deref.result.now ≡ map (run_of_items (map off ls)) runs = c.deref.ensures.value ∙ c.in_ok-offsets.ensures.2 in
    let tall : height (layout_of c.values.result.now) ≡ height b.child = ap height c.values.ensures.child in (
      omega (arith, tall),
      (
        subst (λ l. AllHaveTypeOf l (each_child 0 ls)) (sym c.values.ensures.child) (like_child m ls like (omega arith) 0),
        (some, subst (AreWithin (each_child 0 ls)) (sym parts_are) (items-within m ls runs like c.requires.within (have_items b.width ls kinds) some)),
      ),
    )

pub copy_list-validity_of_runs-requires : goal.copy_list-validity_of_runs-requires
copy_list-validity_of_runs-requires t c =
    validities-fit (map (λ a. layout_of a.now) c.args.arrays.now) c.args.runs.now c.requires.alike.1 c.requires.within

pub copy_map-copy_spans-requires : goal.copy_map-copy_spans-requires
copy_map-copy_spans-requires t c =
    let b = c.args.like.now in
    let ls = map (λ a. layout_of a.now) c.args.arrays.now in
    let m = map_layout b in
    let like = c.requires.alike in
    let kinds = maps_like m ls like refl in
    record {
      kinds = kinds;
      fits = spans-fit m ls c.args.runs.now like c.requires.within (have_items Int32 ls kinds) (have_child m ls like (omega arith) 0 (omega arith));
    }

pub copy_map-copy_child-requires : goal.copy_map-copy_child-requires
copy_map-copy_child-requires t c =
    let b = c.args.like.now in
    let ls = map (λ a. layout_of a.now) c.args.arrays.now in
    let runs = c.args.runs.now in
    let m = map_layout b in
    let like = c.requires.alike in
    let kinds = maps_like m ls like refl in
    let some = have_child m ls like (omega arith) 0 (omega arith) in
    let parts_are : c.deref.result.now ≡ map (run_of_items (map off ls)) runs = c.deref.ensures.value ∙ c.in_ok-offsets.ensures.1 in
    let tall : height (layout_of c.field.result.now) ≡ height b.child = ap height c.field.ensures.child in (
      omega (arith, tall),
      (
        subst (λ l. AllHaveTypeOf l (each_child 0 ls)) (sym c.field.ensures.child) (like_child m ls like (omega arith) 0),
        (some, subst (AreWithin (each_child 0 ls)) (sym parts_are) (items-within m ls runs like c.requires.within (have_items Int32 ls kinds) some)),
      ),
    )

pub copy_map-validity_of_runs-requires : goal.copy_map-validity_of_runs-requires
copy_map-validity_of_runs-requires t c =
    validities-fit (map (λ a. layout_of a.now) c.args.arrays.now) c.args.runs.now c.requires.alike.1 c.requires.within

pub copy_dictionary-all_of-requires : goal.copy_dictionary-all_of-requires
copy_dictionary-all_of-requires t c = keys_like (dictionary_layout c.args.like.now) (map (λ a. layout_of a.now) c.args.arrays.now) c.requires.alike refl

pub copy_dictionary-children_of-requires : goal.copy_dictionary-children_of-requires
copy_dictionary-children_of-requires t c =
    have_child (dictionary_layout c.args.like.now) (map (λ a. layout_of a.now) c.args.arrays.now) c.requires.alike (omega arith) 0 (omega arith)

pub copy_dictionary-copy_keys-requires-clause-named : goal.copy_dictionary-copy_keys-requires-clause-named
copy_dictionary-copy_keys-requires-clause-named t c =
    let b = c.args.like.now in
    let ls = map (λ a. layout_of a.now) c.args.arrays.now in
    let xs = c.deref.result.now in
    let first = c.in-Some.first in
    let same : map (λ a. dictionary_layout a.now) xs ≡ ls = ap (map (λ a. dictionary_layout a.now)) c.deref.ensures.value ∙ c.in_ok-typed.ensures in
    ap (λ l. norm (type_of l)) c.in_ok-values.ensures.values
    ∙ subst (λ a. norm (type_of a.now.values) ≡ norm (values_type b.type)) (sym c.in-Some.ensures.1) (value_types (λ a. a.now) xs b ls same c.requires.alike 0 first c.in-Some.ensures.0)

pub copy_dictionary-copy_keys-requires-clause-placed : goal.copy_dictionary-copy_keys-requires-clause-placed
copy_dictionary-copy_keys-requires-clause-placed t c =
    let xs = c.deref-in-Some.result.now in
    let qs = c.deref-in-Some-2.result.now in
    let vals = layout_of c.in_ok-values.values.value in
    let same : map (λ a. dictionary_layout a.now) xs ≡ map (λ a. layout_of a.now) c.args.arrays.now =
    ap (map (λ a. dictionary_layout a.now)) c.deref-in-Some.ensures.value ∙ c.in_ok-typed.ensures
    in
    let placed : map {B = ℕ × DictionarySeen} (λ p. (p.0, p.1.now)) qs ≡ map {B = ℕ × DictionarySeen} (λ a. (0, a.now)) xs =
    ap (map {B = ℕ × DictionarySeen} (λ p. (p.0, p.1.now))) c.deref-in-Some-2.ensures.value ∙ c.in_ok-placed.ensures
    in
    let alike : All (λ a. slots a.now.values ≡ slots c.in-Some.first.now.values) xs =
    subst (All (λ a. slots a.now.values ≡ slots c.in-Some.first.now.values)) (c.deref.ensures.value ∙ sym c.deref-in-Some.ensures.value) c.in-Some.ensures.2
    in (
      start_layouts (λ a. a.now) xs (λ p. p.0) (λ p. p.1.now) qs placed ∙ same,
      start_begin (λ a. a.now) xs (λ p. p.0) (λ p. p.1.now) qs placed vals (λ k d lt. alike k d lt ∙ ap slots (sym c.in_ok-values.ensures.values)),
    )

pub copy_dictionary-copy_runs-requires : goal.copy_dictionary-copy_runs-requires
copy_dictionary-copy_runs-requires t c =
    let b = c.args.like.now in
    let ls = map (λ a. layout_of a.now) c.args.arrays.now in
    let m = dictionary_layout b in
    let tall : height (layout_of c.values.result.now) ≡ height b.values = ap height c.values.ensures.values in
    let whole : c.deref-5.result.now ≡ whole_runs 0 (map len_of (each_child 0 ls)) =
    c.deref-5.ensures.value ∙ c.in_ok-whole.ensures ∙ ap (λ ks. whole_runs 0 (map len_of ks)) (ap (map (λ a. layout_of a.now)) c.deref-3.ensures.value ∙ c.in_ok-children.ensures)
    in
    let below : map (λ a. layout_of a.now) c.deref-4.result.now ≡ each_child 0 ls = ap (map (λ a. layout_of a.now)) c.deref-4.ensures.value ∙ c.in_ok-children.ensures in (
      omega (arith, tall),
      (
        subst (λ l. AllHaveTypeOf l (map (λ a. layout_of a.now) c.deref-4.result.now)) (sym c.values.ensures.values)
            (subst (AllHaveTypeOf b.values) (sym below) (like_child m ls c.requires.alike (omega arith) 0)),
        subst (λ ks. AreWithin ks c.deref-5.result.now) (sym below) (subst (AreWithin (each_child 0 ls)) (sym whole) (whole_within (each_child 0 ls))),
      ),
    )

pub copy_dictionary-copy_keys-requires-2-clause-placed : goal.copy_dictionary-copy_keys-requires-2-clause-placed
copy_dictionary-copy_keys-requires-2-clause-placed t c =
    let ls = map (λ a. layout_of a.now) c.args.arrays.now in
    let xs = c.deref-2.result.now in
    let qs = c.deref-6.result.now in
    let m = layout_of c.values.result.now in
    let copy = c.in_ok-values-2.values in
    let vals = layout_of c.in_ok-values-3.values.value in
    let same : map (λ a. dictionary_layout a.now) xs ≡ ls = ap (map (λ a. dictionary_layout a.now)) c.deref-2.ensures.value ∙ c.in_ok-typed.ensures in
    let placed : map {B = ℕ × DictionarySeen} (λ p. (p.0, p.1.now)) qs ≡ one_after_other 0 (map (λ a. a.now) xs) =
    ap (map {B = ℕ × DictionarySeen} (λ p. (p.0, p.1.now))) c.deref-6.ensures.value ∙ c.in_ok-placed-2.ensures
    in
    let whole : c.deref-5.result.now ≡ whole_runs 0 (map len_of (each_child 0 ls)) =
    c.deref-5.ensures.value ∙ c.in_ok-whole.ensures ∙ ap (λ ks. whole_runs 0 (map len_of ks)) (ap (map (λ a. layout_of a.now)) c.deref-3.ensures.value ∙ c.in_ok-children.ensures)
    in
    let below : map (λ a. layout_of a.now) c.deref-4.result.now ≡ each_child 0 ls = ap (map (λ a. layout_of a.now)) c.deref-4.ensures.value ∙ c.in_ok-children.ensures in
    let joined : IsCopy m (each_child 0 ls) (whole_runs 0 (map len_of (each_child 0 ls))) vals =
    subst (λ l. IsCopy m (each_child 0 ls) (whole_runs 0 (map len_of (each_child 0 ls))) (layout_of l)) (sym c.in_ok-values-3.ensures.ok)
    (subst (λ ks. IsCopy m ks (whole_runs 0 (map len_of (each_child 0 ls))) (layout_of copy)) below
    (subst (λ rs. IsCopy m (map (λ a. layout_of a.now) c.deref-4.result.now) rs (layout_of copy)) whole c.in_ok-values-2.ensures))
    in (
      end_layouts (λ a. a.now) xs (λ p. p.0) (λ p. p.1.now) qs placed ∙ same,
      end_begin (λ a. a.now) xs (λ p. p.0) (λ p. p.1.now) qs placed vals m ls same joined,
    )

pub copy_union-all_of-requires : goal.copy_union-all_of-requires
copy_union-all_of-requires t c = choices_like (union_layout c.args.like.now) (map (λ a. layout_of a.now) c.args.arrays.now) c.requires.alike refl

pub copy_children-loop-number-init : goal.copy_children-loop-number-init
copy_children-loop-number-init t c =
    let ms = map layout_of c.args.likes.now in
    let ls = map (λ a. layout_of a.now) c.args.arrays.now in
    subst (λ (xs : List AnyArray). CopiesUpTo 0 ms ls (λ k. c.args.runs.now) (map layout_of xs)) (sym c.new-copies.ensures.items) (no_copies ms ls (λ k. c.args.runs.now))

pub copy_children-loop-number-preserved : goal.copy_children-loop-number-preserved
copy_children-loop-number-preserved t c =
    let likes = c.args.likes.now in
    let k = c.loop-number.number in
    let x = c.index-likes-number.result in
    copy_more k (map layout_of likes) (map (λ a. layout_of a.now) c.args.arrays.now) (λ i. c.args.runs.now) c.loop-number.copies.items c.push.new.self.items
    c.in_ok-copy.copy (layout_of x) (layout_at likes k x (omega (arith, c.loop-number-test.true)) c.index-likes-number.is) c.in_ok-copy.ensures c.in_ok-push.ensures.items c.loop-number.invariant

pub copy_children-returns : goal.copy_children-returns
copy_children-returns t c =
    let count = length-map c.args.likes.now layout_of in
    all_copies c.loop-number.number (map layout_of c.args.likes.now) (map (λ a. layout_of a.now) c.args.arrays.now) (λ k. c.args.runs.now)
    (map layout_of c.loop-number.copies.items) (omega (arith, count, c.loop-number-test.false, c.loop-number.auto.number-end)) c.loop-number.invariant

pub copy_fixed_size_list-unreachable-requires : goal.copy_fixed_size_list-unreachable-requires
copy_fixed_size_list-unreachable-requires t c =
    let b = c.args.like.now in
    let ls = map (λ a. layout_of a.now) c.args.arrays.now in
    let runs = c.args.runs.now in
    let m = fixed_list_layout b in
    let like = c.requires.alike in
    let some = have_child m ls like (omega arith) 0 (omega arith) in
    let has = sizes_like m ls like b.size refl like.0.1.1 in
    let parts_are : c.deref.result.now ≡ map (scaled b.size) runs = c.deref.ensures.value ∙ c.in_ok-parts.ensures ∙ ap (λ n. map (scaled n) runs) c.size.ensures.size in
    let copy = copy_moved (layout_of c.values.result.now) b.child (each_child 0 ls) c.deref.result.now (map (scaled b.size) runs) (layout_of c.in_ok-child.child)
    (layout_of c.in_ok-child-2.child.value) c.values.ensures.child parts_are (ap layout_of c.in_ok-child-2.ensures.ok) c.in_ok-child.ensures
    in
    fixed_list_unbroken b ls runs like c.requires.within has some (layout_of c.in_ok-child-2.child.value) copy c.in_ok-validity.validity c.in_ok-validity.ensures
    (type_view c.in_ok-clone.field-0) c.in-Err.field-0 (c.in_ok-clone.ensures ∙ c.data_type.ensures.tree) c.in-Err.ensures

pub copy_fixed_size_list-returns : goal.copy_fixed_size_list-returns
copy_fixed_size_list-returns t c =
    let b = c.args.like.now in
    let ls = map (λ a. layout_of a.now) c.args.arrays.now in
    let runs = c.args.runs.now in
    let m = fixed_list_layout b in
    let like = c.requires.alike in
    let some = have_child m ls like (omega arith) 0 (omega arith) in
    let has = sizes_like m ls like b.size refl like.0.1.1 in
    let parts_are : c.deref.result.now ≡ map (scaled b.size) runs = c.deref.ensures.value ∙ c.in_ok-parts.ensures ∙ ap (λ n. map (scaled n) runs) c.size.ensures.size in
    let copy = copy_moved (layout_of c.values.result.now) b.child (each_child 0 ls) c.deref.result.now (map (scaled b.size) runs) (layout_of c.in_ok-child.child)
    (layout_of c.in_ok-child-2.child.value) c.values.ensures.child parts_are (ap layout_of c.in_ok-child-2.ensures.ok) c.in_ok-child.ensures
    in
    fixed_list_copied b ls runs like c.requires.within has some (layout_of c.in_ok-child-2.child.value) copy c.in_ok-validity.validity c.in_ok-validity.ensures
    (type_view c.in_ok-clone.field-0) c.in-Ok.array (c.in_ok-clone.ensures ∙ c.data_type.ensures.tree) c.in-Ok.ensures.0 c.in-Ok.ensures.1

pub copy_list-unreachable-requires : goal.copy_list-unreachable-requires
copy_list-unreachable-requires t c =
    let b = c.args.like.now in
    let ls = map (λ a. layout_of a.now) c.args.arrays.now in
    let runs = c.args.runs.now in
    let m = list_layout b in
    let like = c.requires.alike in
    let has = have_items b.width ls (lists_like m ls like b.width refl like.0.1.0) in
    let some = have_child m ls like (omega arith) 0 (omega arith) in
    let made = c.in_ok-offsets.ensures in
    let parts_are : c.deref.result.now ≡ map (run_of_items (map off ls)) runs = c.deref.ensures.value ∙ made.2 in
    let copy = copy_moved (layout_of c.values.result.now) b.child (each_child 0 ls) c.deref.result.now (map (run_of_items (map off ls)) runs) (layout_of c.in_ok-child.child)
    (layout_of c.in_ok-child-2.child.value) c.values.ensures.child parts_are (ap layout_of c.in_ok-child-2.ensures.ok) c.in_ok-child.ensures
    in
    list_unbroken b ls runs like c.requires.within has some _ made.1 (layout_of c.in_ok-child-2.child.value) copy c.in_ok-validity.validity c.in_ok-validity.ensures
    (type_view c.in_ok-clone.field-0) _ c.in-Err.field-0 (c.in_ok-clone.ensures ∙ c.data_type.ensures.tree) made.0 c.in-Err.ensures

pub copy_list-returns : goal.copy_list-returns
copy_list-returns t c =
    let b = c.args.like.now in
    let ls = map (λ a. layout_of a.now) c.args.arrays.now in
    let runs = c.args.runs.now in
    let m = list_layout b in
    let like = c.requires.alike in
    let has = have_items b.width ls (lists_like m ls like b.width refl like.0.1.0) in
    let some = have_child m ls like (omega arith) 0 (omega arith) in
    let made = c.in_ok-offsets.ensures in
    let parts_are : c.deref.result.now ≡ map (run_of_items (map off ls)) runs = c.deref.ensures.value ∙ made.2 in
    let copy = copy_moved (layout_of c.values.result.now) b.child (each_child 0 ls) c.deref.result.now (map (run_of_items (map off ls)) runs) (layout_of c.in_ok-child.child)
    (layout_of c.in_ok-child-2.child.value) c.values.ensures.child parts_are (ap layout_of c.in_ok-child-2.ensures.ok) c.in_ok-child.ensures
    in
    subst (IsCopy m ls runs) (sym c.boxed.ensures.layout)
    (list_copied b ls runs like c.requires.within has some _ made.1 (layout_of c.in_ok-child-2.child.value) copy c.in_ok-validity.validity c.in_ok-validity.ensures
    (type_view c.in_ok-clone.field-0) _ c.in-Ok.array (c.in_ok-clone.ensures ∙ c.data_type.ensures.tree) made.0 c.in-Ok.ensures.0 c.in-Ok.ensures.1)

pub copy_map-unreachable-requires : goal.copy_map-unreachable-requires
copy_map-unreachable-requires t c =
    let b = c.args.like.now in
    let ls = map (λ a. layout_of a.now) c.args.arrays.now in
    let runs = c.args.runs.now in
    let m = map_layout b in
    let like = c.requires.alike in
    let has = have_items Int32 ls (maps_like m ls like refl) in
    let some = have_child m ls like (omega arith) 0 (omega arith) in
    let made = c.in_ok-offsets.ensures in
    let parts_are : c.deref.result.now ≡ map (run_of_items (map off ls)) runs = c.deref.ensures.value ∙ made.1 in
    let copy = copy_moved (layout_of c.field.result.now) b.child (each_child 0 ls) c.deref.result.now (map (run_of_items (map off ls)) runs) (layout_of c.in_ok-child.child)
    (layout_of c.in_ok-child-2.child.value) c.field.ensures.child parts_are (ap layout_of c.in_ok-child-2.ensures.ok) c.in_ok-child.ensures
    in
    map_unbroken b ls runs like c.requires.within has some _ made.0 (layout_of c.in_ok-child-2.child.value) copy c.in_ok-validity.validity c.in_ok-validity.ensures
    (type_view c.in_ok-clone.field-0) c.in-Err.field-0 (c.in_ok-clone.ensures ∙ c.data_type.ensures.tree) c.in-Err.ensures

pub copy_map-returns : goal.copy_map-returns
copy_map-returns t c =
    let b = c.args.like.now in
    let ls = map (λ a. layout_of a.now) c.args.arrays.now in
    let runs = c.args.runs.now in
    let m = map_layout b in
    let like = c.requires.alike in
    let has = have_items Int32 ls (maps_like m ls like refl) in
    let some = have_child m ls like (omega arith) 0 (omega arith) in
    let made = c.in_ok-offsets.ensures in
    let parts_are : c.deref.result.now ≡ map (run_of_items (map off ls)) runs = c.deref.ensures.value ∙ made.1 in
    let copy = copy_moved (layout_of c.field.result.now) b.child (each_child 0 ls) c.deref.result.now (map (run_of_items (map off ls)) runs) (layout_of c.in_ok-child.child)
    (layout_of c.in_ok-child-2.child.value) c.field.ensures.child parts_are (ap layout_of c.in_ok-child-2.ensures.ok) c.in_ok-child.ensures
    in
    map_copied b ls runs like c.requires.within has some _ made.0 (layout_of c.in_ok-child-2.child.value) copy c.in_ok-validity.validity c.in_ok-validity.ensures
    (type_view c.in_ok-clone.field-0) c.in-Ok.array (c.in_ok-clone.ensures ∙ c.data_type.ensures.tree) c.in-Ok.ensures.0 c.in-Ok.ensures.1

pub copy_union-copy_children-requires : goal.copy_union-copy_children-requires
copy_union-copy_children-requires t c =
    let b = c.args.like.now in
    let xs = c.in_ok-typed.typed.items in
    let ls = map (λ a. layout_of a.now) c.args.arrays.now in
    let runs = c.args.runs.now in
    let same : map (λ x. union_layout x.now) xs ≡ ls = c.in_ok-typed.ensures in
    let like = subst (AllHaveTypeOf (union_layout b)) (sym same) c.requires.alike in
    let within = subst (λ ks. AreWithin ks runs) (sym same) c.requires.within in
    let sparse : b.offsets ≡ None = sym c.offsets.ensures.places ∙ ap option_copied (none_of c.offsets.result c.if-is_none.ensures) in
    let tall : heights (layouts (map layout_of c.fields.result.now)) ≡ heights (layouts b.children) = ap (λ cs. heights (layouts cs)) c.fields.ensures.children in (
      omega (arith, tall),
      subst (λ ms. HaveChildren ms ls (λ k. runs)) (sym c.fields.ensures.children)
          (subst (λ ks. HaveChildren b.children ks (λ k. runs)) same (sparse_have (λ x. x.now) xs b runs like within sparse)),
    )

pub copy_union-dense_runs-requires-clause-counts : goal.copy_union-dense_runs-requires-clause-counts
copy_union-dense_runs-requires-clause-counts t c =
    let b = c.args.like.now in
    let xs = c.deref-2.result.now in
    let ls = map (λ a. layout_of a.now) c.args.arrays.now in
    let same : map (λ x. union_layout x.now) xs ≡ ls = ap (map (λ x. union_layout x.now)) c.deref-2.ensures.value ∙ c.in_ok-typed.ensures in
    let count : child_count (layouts b.children) ≡ length c.fields-2.result.now = ap (λ ks. child_count (layouts ks)) (sym c.fields-2.ensures.children) ∙ children_counted c.fields-2.result.now in
    λ k d lt. viewed_all (λ l. child_count (children l) ≡ child_count (layouts b.children)) (λ x. union_layout x.now) xs ls same (counts (union_layout b) ls c.requires.alike (omega arith)) k d lt ∙ count

pub copy_union-copy_fields-requires : goal.copy_union-copy_fields-requires
copy_union-copy_fields-requires t c =
    let b = c.args.like.now in
    let xs = c.deref-2.result.now in
    let ls = map (λ a. layout_of a.now) c.args.arrays.now in
    let runs = c.args.runs.now in
    let parts = map (λ v. v.items) c.deref-3.result.now in
    let same : map (λ x. union_layout x.now) xs ≡ ls = ap (map (λ x. union_layout x.now)) c.deref-2.ensures.value ∙ c.in_ok-typed.ensures in
    let like = subst (AllHaveTypeOf (union_layout b)) (sym same) c.requires.alike in
    let within = subst (λ ks. AreWithin ks runs) (sym same) c.requires.within in
    let dense : b.offsets ≡ None → ⊥ = λ e. some_of c.offsets.result c.if-is_none.ensures (c.offsets.ensures.places ∙ e) in
    let are : AreDense (map (λ x. union_layout x.now) xs) (origins runs) parts c.in_ok-offsets.offsets.items =
    subst (λ vs. AreDense (map (λ x. union_layout x.now) xs) (origins runs) (map (λ v. v.items) vs) c.in_ok-offsets.offsets.items) (sym c.deref-3.ensures.value) c.in_ok-offsets.ensures.0
    in
    let fields : length c.fields-2.result.now ≡ length c.fields-3.result.now =
    sym (length-map c.fields-2.result.now layout_of) ∙ ap (λ l. length l) (c.fields-2.ensures.children ∙ sym c.fields-3.ensures.children) ∙ length-map c.fields-3.result.now layout_of
    in
    let tall : heights (layouts (map layout_of c.fields-3.result.now)) ≡ heights (layouts b.children) = ap (λ cs. heights (layouts cs)) c.fields-3.ensures.children in (
      omega (arith, tall),
      (
        subst (λ ms. HaveChildren ms ls (λ k. get_or parts k [])) (sym c.fields-3.ensures.children)
            (subst (λ ks. HaveChildren b.children ks (λ k. get_or parts k [])) same (dense_have (λ x. x.now) xs b runs like within dense parts c.in_ok-offsets.offsets.items are)),
        ap (λ l. length l) c.deref-3.ensures.value ∙ c.in_ok-offsets.ensures.1 ∙ fields,
      ),
    )
