-- Some slots of the arrays with children.
use Rattle.std.proofs.Common.{arith, ◌≡◌, ℕ, ◌+◌, ◌<◌, ◌≤◌, List, length, subst, sym, ap, ◌∙◌}
use Rattle.lower_types.specs.declared.PrimitiveType.{PrimitiveType}
use Rattle.lower_types.specs.declared.PrimitiveType.TheVariants.{Int32, Int64}
use Rattle.lower_flat_arrays.specs.Validities.{part, cut_validity}
use Rattle.lower_flat_arrays.specs.Spans.{span_count}
use Rattle.lower_flat_arrays.proofs.Cuts.{length-part}
use Rattle.lower_arrays.specs.Layouts.{lists, maps, records, Layout, layout, no_layouts, more_layouts}
use Rattle.lower_arrays.specs.Slots.{IsArray}
use Rattle.lower_arrays.specs.Cuts.{cut, cut_level}
use Rattle.lower_arrays.specs.Lists.{ListSeen, list_layout, list_layout_as, cut_list}
use Rattle.lower_arrays.specs.FixedLists.{FixedListSeen, fixed_list_layout, cut_fixed_list}
use Rattle.lower_arrays.specs.Structs.{StructSeen, struct_layout, cut_struct}
use Rattle.lower_arrays.specs.Maps.{MapSeen, map_layout, cut_map}
use Rattle.lower_arrays.proofs.CutRules.{IsArray-cut}
use Rattle.lower_arrays.proofs.Children.{layouts-cut}

-- As many slots as are requested.
count-part : (o n : ℕ) (os : List ℕ) → 0 < length os → o + n ≤ span_count os → span_count (part o (n + 1) os) ≡ n
count-part o n os some h = let count = length-part o (n + 1) os (omega (arith, some, h)) in omega (arith, count)

-- each kind's part is the part of its tree
layout-cut_list : (named : PrimitiveType) (o n : ℕ) (a : ListSeen) → 0 < length a.offsets → o + n ≤ span_count a.offsets
    → list_layout_as named (cut_list o n a) ≡ cut o n (list_layout_as named a)
layout-cut_list named o n a some h = λ i. layout
    (record { type = a.type; len = count-part o n a.offsets some h i; validity = cut_validity o n a.validity; parts = lists named a.width (part o (n + 1) a.offsets) })
    (more_layouts a.child no_layouts)

layout-cut_map : (o n : ℕ) (a : MapSeen) → 0 < length a.offsets → o + n ≤ span_count a.offsets → map_layout (cut_map o n a) ≡ cut o n (map_layout a)
layout-cut_map o n a some h = λ i. layout
    (record { type = a.type; len = count-part o n a.offsets some h i; validity = cut_validity o n a.validity; parts = maps (part o (n + 1) a.offsets) })
    (more_layouts a.child no_layouts)

layout-cut_struct : (o n : ℕ) (a : StructSeen) → struct_layout (cut_struct o n a) ≡ cut o n (struct_layout a)
layout-cut_struct o n a = ap (layout (cut_level o n (record { type = a.type; len = a.len; validity = a.validity; parts = records }))) (layouts-cut o n a.children)

-- the part keeps the rules
pub cut_list_is : (a : ListSeen) (o n : ℕ) → IsArray (list_layout a) → o + n ≤ span_count a.offsets → IsArray (list_layout (cut_list o n a))
cut_list_is a o n is h = subst IsArray (sym (layout-cut_list a.width o n a is.1.2.offsets.some h)) (IsArray-cut (list_layout a) o n h is)

pub cut_map_is : (a : MapSeen) (o n : ℕ) → IsArray (map_layout a) → o + n ≤ span_count a.offsets → IsArray (map_layout (cut_map o n a))
cut_map_is a o n is h = subst IsArray (sym (layout-cut_map o n a is.1.3.offsets.some h)) (IsArray-cut (map_layout a) o n h is)

pub cut_struct_is : (a : StructSeen) (o n : ℕ) → IsArray (struct_layout a) → o + n ≤ a.len → IsArray (struct_layout (cut_struct o n a))
cut_struct_is a o n is h = subst IsArray (sym (layout-cut_struct o n a)) (IsArray-cut (struct_layout a) o n h is)

pub cut_fixed_list_is : (a : FixedListSeen) (o n : ℕ) → IsArray (fixed_list_layout a) → o + n ≤ a.len → IsArray (fixed_list_layout (cut_fixed_list o n a))
cut_fixed_list_is a o n is h = IsArray-cut (fixed_list_layout a) o n h is

-- some slots b of an array a, which l is the tree of
pub list_part : (o n : ℕ) (a b : ListSeen) (l : Layout) → b ≡ cut_list o n a → l ≡ list_layout_as Int32 a → 0 < length a.offsets → o + n ≤ span_count a.offsets
    → list_layout_as Int32 b ≡ cut o n l
list_part o n a b l e d some h = ap (list_layout_as Int32) e ∙ layout-cut_list Int32 o n a some h ∙ ap (cut o n) (sym d)

pub large_list_part : (o n : ℕ) (a b : ListSeen) (l : Layout) → b ≡ cut_list o n a → l ≡ list_layout_as Int64 a → 0 < length a.offsets → o + n ≤ span_count a.offsets
    → list_layout_as Int64 b ≡ cut o n l
large_list_part o n a b l e d some h = ap (list_layout_as Int64) e ∙ layout-cut_list Int64 o n a some h ∙ ap (cut o n) (sym d)

pub map_part : (o n : ℕ) (a b : MapSeen) (l : Layout) → b ≡ cut_map o n a → l ≡ map_layout a → 0 < length a.offsets → o + n ≤ span_count a.offsets → map_layout b ≡ cut o n l
map_part o n a b l e d some h = ap map_layout e ∙ layout-cut_map o n a some h ∙ ap (cut o n) (sym d)

pub struct_part : (o n : ℕ) (a b : StructSeen) (l : Layout) → b ≡ cut_struct o n a → l ≡ struct_layout a → struct_layout b ≡ cut o n l
struct_part o n a b l e d = ap struct_layout e ∙ layout-cut_struct o n a ∙ ap (cut o n) (sym d)

pub fixed_list_part : (o n : ℕ) (a b : FixedListSeen) (l : Layout) → b ≡ cut_fixed_list o n a → l ≡ fixed_list_layout a → fixed_list_layout b ≡ cut o n l
fixed_list_part o n a b l e d = ap fixed_list_layout e ∙ ap (cut o n) (sym d)
