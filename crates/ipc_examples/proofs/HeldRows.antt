-- Each case is computed.
use Rattle.std.proofs.Common.{◌≤◌, refl, arith}
use Rattle.ipc_examples.specs.HeldRows.{HeldRows}

pub held_rows : HeldRows
held_rows = record {
  lists = refl;
  whole_list = refl;
  first_lists = refl;
  first_slots = refl;
  two_maps = refl;
  map_slots = refl;
  sliced_union = refl;
  one_offset = refl;
  none_needed = refl;
  omitted_offset = refl;
  bits = refl;
  five_of_them = refl;
  keys_alone = refl;
  slice = refl;
  slice_slots = refl;
  slice_needs = refl;
  more_than_needed = λ h. let e : 32 ≤ 16 = h in absurd (omega arith);
}
