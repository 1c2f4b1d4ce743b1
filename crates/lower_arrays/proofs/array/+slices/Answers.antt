use Rattle.std.proofs.Common.{arith, ◌≡◌, ℕ, ◌≤◌, ◌<◌, ◌+◌, ◌*◌, ◌^◌, length, map, get_or, subst, sym, ap, ◌∙◌, None}
use Rattle.lower.specs.TypeViews.{type_view}
use Rattle.lower_arrays.specs.Layouts.{len_of, layouts, height, heights}
use Rattle.lower_arrays.specs.AnyLayouts.{layout_of}
use Rattle.lower_arrays.specs.Children.{lens_of, AllHave}
use Rattle.lower_arrays.specs.FixedLists.{FixedListSeen, fixed_list_layout}
use Rattle.lower_arrays.specs.Structs.{StructSeen}
use Rattle.lower_arrays.specs.Slots.{IsArray}
use Rattle.lower_arrays.specs.Cuts.{cut}
use Rattle.lower_arrays.proofs.Children.{CutUpTo, reach_at, height_at, all_cut}
use Rattle.lower_arrays.proofs.CutRules.{sizes_within, have-reach}
use Rattle.lower_arrays.proofs.NestedParts.{cut_struct_is, cut_fixed_list_is}
use Rattle.lower_arrays.proofs.array.+slices.Goals as goal
use Rattle.lower_validation.specs.Ids.{union_ids}
use Rattle.lower_validation.specs.Places.{PlacesFit}
use Rattle.lower_arrays.specs.Unions.{union_seen, IsUnion}
use Rattle.lower_arrays.proofs.Unions.{cut_union_is}

pub children::sliced_each-slice-requires : goal.children::sliced_each-slice-requires
children::sliced_each-slice-requires t c =
    let xs = c.args.children.items in
    let y = c.index_mut.result.now in
    let i = c.loop-i.i in
    let old : y ≡ get_or xs i y = c.index_mut.ensures.value ∙ c.loop-i.invariant.rest i y (omega arith) in
    let lt : i < length xs = omega (arith, c.loop-i-test.true, c.len-i-end.ensures, c.args.children.ok.0) in
    let low = height_at xs i y lt old in
    let room = reach_at xs (c.args.offset + c.args.len) i y lt old c.requires in
    (omega (arith, low), room)

pub children::sliced_each-returns : goal.children::sliced_each-returns
children::sliced_each-returns t c =
    let xs = c.args.children.items in
    let e : c.loop-i.i ≡ length xs = omega (arith, c.loop-i-test.false, c.loop-i.auto.i-end, c.len-i-end.ensures, c.args.children.ok.0) in
    all_cut c.args.offset c.args.len xs c.loop-i.children.items
    (subst (λ i. CutUpTo c.args.offset c.args.len i xs c.loop-i.children.items) e c.loop-i.invariant.cut)

-- The requested slots of the child are within it, and so below 2 ^ 64.
fixed_room :
    (a b : FixedListSeen) (o n k : ℕ) → b ≡ a → IsArray (fixed_list_layout b) → o + n ≤ a.len → k ≡ len_of b.child → k < 2 ^ 64
    → (o * b.size + n * b.size ≤ len_of b.child) × (o * b.size < 2 ^ 64) × (n * b.size < 2 ^ 64)
fixed_room a b o n k e is h l small =
    let count : b.len ≡ a.len = ap (λ s. s.len) e in
    let all : o * b.size + n * b.size ≤ b.len * b.size = sizes_within o n b.len b.size (omega (arith, count, h)) in
    let whole = is.1.4.0 in
    (omega (arith, all, whole), omega (arith, all, whole, l, small), omega (arith, all, whole, l, small))

pub fixed_size_list::FixedSizeListArray::sliced-overflow_mul-offset : goal.fixed_size_list::FixedSizeListArray::sliced-overflow_mul-offset
fixed_size_list::FixedSizeListArray::sliced-overflow_mul-offset t c =
    let s = c.self.inside in
    let b : FixedListSeen = record { type = type_view s.data_type; size = s.size; len = s.len; child = layout_of s.values.value; validity = s.validity } in
    let l : c.len-slots.result ≡ len_of b.child = c.len-slots.ensures.len ∙ ap (λ a. len_of (layout_of a)) c.deref.ensures in
    let room = fixed_room c.args.self b c.args.offset c.args.len c.len-slots.result c.self.view_is c.self.invariant c.requires l c.len-slots.type_inv in
    omega (arith, room.1)

pub fixed_size_list::FixedSizeListArray::sliced-overflow_mul-len : goal.fixed_size_list::FixedSizeListArray::sliced-overflow_mul-len
fixed_size_list::FixedSizeListArray::sliced-overflow_mul-len t c =
    let s = c.self.inside in
    let b : FixedListSeen = record { type = type_view s.data_type; size = s.size; len = s.len; child = layout_of s.values.value; validity = s.validity } in
    let l : c.len-slots.result ≡ len_of b.child = c.len-slots.ensures.len ∙ ap (λ a. len_of (layout_of a)) c.deref.ensures in
    let room = fixed_room c.args.self b c.args.offset c.args.len c.len-slots.result c.self.view_is c.self.invariant c.requires l c.len-slots.type_inv in
    omega (arith, room.2)

pub fixed_size_list::FixedSizeListArray::sliced-slice-requires : goal.fixed_size_list::FixedSizeListArray::sliced-slice-requires
fixed_size_list::FixedSizeListArray::sliced-slice-requires t c =
    let s = c.self.inside in
    let b : FixedListSeen = record { type = type_view s.data_type; size = s.size; len = s.len; child = layout_of s.values.value; validity = s.validity } in
    let l : c.len-slots.result ≡ len_of b.child = c.len-slots.ensures.len ∙ ap (λ a. len_of (layout_of a)) c.deref.ensures in
    let room = fixed_room c.args.self b c.args.offset c.args.len c.len-slots.result c.self.view_is c.self.invariant c.requires l c.len-slots.type_inv in
    let there : len_of (layout_of c.deref_mut.result.now) ≡ len_of b.child = ap (λ a. len_of (layout_of a)) c.deref_mut.ensures.value in
    let low : height (layout_of c.deref_mut.result.now) ≡ height c.args.self.child =
    ap (λ a. height (layout_of a)) c.deref_mut.ensures.value ∙ ap (λ a. height a.child) c.self.view_is
    in
    (omega (arith, low), omega (arith, room.0, there))

pub fixed_size_list::FixedSizeListArray::sliced-invariant_of-result : goal.fixed_size_list::FixedSizeListArray::sliced-invariant_of-result
fixed_size_list::FixedSizeListArray::sliced-invariant_of-result t c =
    let s = c.self.inside in
    let o = c.args.offset in
    let n = c.args.len in
    let b : FixedListSeen = record { type = type_view s.data_type; size = s.size; len = s.len; child = layout_of s.values.value; validity = s.validity } in
    let count : b.len ≡ c.args.self.len = ap (λ a. a.len) c.self.view_is in
    let child : layout_of c.slice.new.self ≡ cut (o * b.size) (n * b.size) b.child =
    c.slice.ensures ∙ ap (λ a. cut (o * b.size) (n * b.size) (layout_of a)) c.deref_mut.ensures.value
    in
    let is = cut_fixed_list_is b o n c.self.invariant (omega (arith, count, c.requires)) in
    rw (child, c.sliced_validity.ensures) is

pub struct_::StructArray::sliced-sliced_each-requires : goal.struct_::StructArray::sliced-sliced_each-requires
struct_::StructArray::sliced-sliced_each-requires t c =
    let s = c.self.inside in
    let count : s.len ≡ c.args.self.len = ap (λ a. a.len) c.self.view_is in
    let low : heights (layouts (map layout_of s.values.items)) ≡ heights (layouts c.args.self.children) = ap (λ a. heights (layouts a.children)) c.self.view_is in
    let all = c.self.invariant.1.3 in (
      omega (arith, low),
      have-reach (layouts (map layout_of s.values.items)) (c.args.offset + c.args.len) s.len (omega (arith, count, c.requires)) all,
    )

pub struct_::StructArray::sliced-invariant_of-result : goal.struct_::StructArray::sliced-invariant_of-result
struct_::StructArray::sliced-invariant_of-result t c =
    let s = c.self.inside in
    let o = c.args.offset in
    let n = c.args.len in
    let b : StructSeen = record { type = type_view s.data_type; len = s.len; children = map layout_of s.values.items; validity = s.validity } in
    let count : b.len ≡ c.args.self.len = ap (λ a. a.len) c.self.view_is in
    let is = cut_struct_is b o n c.self.invariant (omega (arith, count, c.requires)) in
    rw (c.sliced_each.ensures, c.sliced_validity.ensures) is

pub union::UnionArray::sliced-sliced_each-requires : goal.union::UnionArray::sliced-sliced_each-requires
union::UnionArray::sliced-sliced_each-requires t c =
    let s = c.self.inside in
    let cs = layouts (map layout_of s.fields.items) in
    let have : AllHave (length s.types) cs =
    subst (λ os. PlacesFit (union_ids (type_view s.data_type)) s.types os (lens_of cs)) c.in-None.is c.self.invariant.fits.places
    in
    let room : c.args.offset + c.args.len ≤ length s.types =
    subst (λ a. c.args.offset + c.args.len ≤ length a.types) (sym c.self.view_is) c.requires
    in
    let same : heights cs ≡ heights (layouts c.args.self.children) = ap (λ a. heights (layouts a.children)) c.self.view_is in
    (omega (arith, same), have-reach cs (c.args.offset + c.args.len) (length s.types) room have)

pub union::UnionArray::sliced-invariant_of-t-11 : goal.union::UnionArray::sliced-invariant_of-t-11
union::UnionArray::sliced-invariant_of-t-11 t c =
    let s = c.self.inside in
    let cs = map layout_of s.fields.items in
    let room : c.args.offset + c.args.len ≤ length s.types =
    subst (λ a. c.args.offset + c.args.len ≤ length a.types) (sym c.self.view_is) c.requires
    in
    let is : IsUnion (union_seen (type_view s.data_type) s.types cs None) =
    subst (λ os. IsUnion (union_seen (type_view s.data_type) s.types cs os)) c.in-None.is c.self.invariant
    in
    rw (c.sliced-types.ensures, c.sliced_each.ensures) (cut_union_is (type_view s.data_type) s.types None cs c.args.offset c.args.len room is)
