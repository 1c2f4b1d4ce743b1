use Rattle.std.proofs.Common.{◌*◌, ◌+◌, [], get_or, map}
use Rattle.lower_arrays.specs.Layouts.{layouts, height, heights}
use Rattle.lower_arrays.specs.AnyLayouts.{layout_of}
use Rattle.lower_arrays.specs.Structs.{struct_layout}
use Rattle.lower_arrays.specs.FixedLists.{fixed_list_layout}
use Rattle.lower_arrays.specs.Lists.{list_layout}
use Rattle.lower_arrays.specs.Maps.{map_layout}
use Rattle.lower_arrays.specs.Unions.{union_layout}
use Rattle.lower_arrays.specs.Dictionaries.{dictionary_layout}
use Rattle.lower_compute.proofs.CopySteps.{CopiesUpTo}
use Rattle.lower_compute.proofs.copies.+runs.Given as goal

abbrev pub decreases-copy_runs : goal.decreases-copy_runs
decreases-copy_runs l = 8 * height (layout_of l.like.now) + 7

abbrev pub decreases-copy_child : goal.decreases-copy_child
decreases-copy_child l = 8 * height (layout_of l.like.now) + 8

abbrev pub decreases-copy_children : goal.decreases-copy_children
decreases-copy_children l = 8 * heights (layouts (map layout_of l.likes.now)) + 5

abbrev pub decreases-copy_fields : goal.decreases-copy_fields
decreases-copy_fields l = 8 * heights (layouts (map layout_of l.likes.now)) + 5

abbrev pub decreases-copy_struct : goal.decreases-copy_struct
decreases-copy_struct l = 8 * height (struct_layout l.like.now) + 6

abbrev pub decreases-copy_fixed_size_list : goal.decreases-copy_fixed_size_list
decreases-copy_fixed_size_list l = 8 * height (fixed_list_layout l.like.now) + 6

abbrev pub decreases-copy_list : goal.decreases-copy_list
decreases-copy_list l = 8 * height (list_layout l.like.now) + 6

abbrev pub decreases-copy_map : goal.decreases-copy_map
decreases-copy_map l = 8 * height (map_layout l.like.now) + 6

abbrev pub decreases-copy_dictionary : goal.decreases-copy_dictionary
decreases-copy_dictionary l = 8 * height (dictionary_layout l.like.now) + 6

abbrev pub decreases-copy_union : goal.decreases-copy_union
decreases-copy_union l = 8 * height (union_layout l.like.now) + 6

abbrev pub invariant-copy_children-loop-number : goal.invariant-copy_children-loop-number
invariant-copy_children-loop-number l =
    CopiesUpTo l.number (map layout_of l.likes) (map (λ a. layout_of a.now) l.arrays) (λ k. l.runs) (map layout_of l.copies.items)

abbrev pub invariant-copy_fields-loop-number : goal.invariant-copy_fields-loop-number
invariant-copy_fields-loop-number l =
    CopiesUpTo l.number (map layout_of l.likes) (map (λ a. layout_of a.now) l.arrays) (λ k. get_or (map (λ v. v.items) l.parts) k []) (map layout_of l.copies.items)
