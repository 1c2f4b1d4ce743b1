use Rattle.std.proofs.Common.{◌≡◌, ◌*◌, ◌+◌, map, take, All}
use Rattle.std.specs.List.{flat_map}
use Rattle.lower_arrays.specs.AnyLayouts.{layout_of}
use Rattle.lower_arrays.specs.Layouts.{height, heights, layouts, records}
use Rattle.lower_arrays.specs.Slots.{IsArray}
use Rattle.ipc_model.specs.Accepted.{body_length}
use Rattle.ipc_model.specs.Offers.{body_lengths, levels_below, whole_levels}
use Rattle.ipc_plan.specs.Plans.{Adds}
use Rattle.ipc_plan.specs.Taking.{AreShort}
use Rattle.ipc_plan.proofs.serialize.+plans.Given as goal

abbrev pub decreases-plan_array : goal.decreases-plan_array
decreases-plan_array l = 4 * height (layout_of l.array.now) + 3

abbrev pub decreases-list::plan_list : goal.decreases-list::plan_list
decreases-list::plan_list l = 4 * height l.array.now.child + 4

abbrev pub decreases-map::plan_map : goal.decreases-map::plan_map
decreases-map::plan_map l = 4 * height l.array.now.child + 4

abbrev pub decreases-fixed_size_list::plan_fixed_size_list : goal.decreases-fixed_size_list::plan_fixed_size_list
decreases-fixed_size_list::plan_fixed_size_list l = 4 * height l.array.now.child + 4

abbrev pub decreases-struct_::plan_struct : goal.decreases-struct_::plan_struct
decreases-struct_::plan_struct l = 4 * heights (layouts l.array.now.children) + 2

abbrev pub decreases-union::plan_union : goal.decreases-union::plan_union
decreases-union::plan_union l = 4 * heights (layouts l.array.now.children) + 2

abbrev pub decreases-plan_beside : goal.decreases-plan_beside
decreases-plan_beside l = 4 * heights (layouts (map layout_of l.children.now)) + 1

abbrev pub decreases-plan_whole : goal.decreases-plan_whole
decreases-plan_whole l = 4 * heights (layouts (map layout_of l.arrays.now)) + 1

-- the children so far
abbrev pub invariant-plan_beside-loop-child : goal.invariant-plan_beside-loop-child
invariant-plan_beside-loop-child l = record {
  adds : Adds l.fn.plan l.plan (levels_below (layouts (map layout_of (take l.child-index l.children))) records l.offset l.len);
  short : AreShort (levels_below (layouts (map layout_of (take l.child-index l.children))) records l.offset l.len);
  end : l.plan.end ≡ l.fn.plan.end + body_length (body_lengths (levels_below (layouts (map layout_of (take l.child-index l.children))) records l.offset l.len));
}

-- the arrays so far
abbrev pub invariant-plan_whole-loop-array : goal.invariant-plan_whole-loop-array
invariant-plan_whole-loop-array l = record {
  adds : Adds l.fn.plan l.plan (flat_map whole_levels (map layout_of (take l.array-index l.arrays)));
  short : AreShort (flat_map whole_levels (map layout_of (take l.array-index l.arrays)));
  end : l.plan.end ≡ l.fn.plan.end + body_length (body_lengths (flat_map whole_levels (map layout_of (take l.array-index l.arrays))));
  arrays : All (λ x. IsArray (layout_of x)) (take l.array-index l.arrays);
}
