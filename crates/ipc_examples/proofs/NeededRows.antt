-- Each case is computed.
use Rattle.std.proofs.Common.{refl}
use Rattle.ipc_examples.specs.NeededRows.{NeededRows}

pub needed_rows : NeededRows
needed_rows = record {
  whole_list = refl;
  first_lists = refl;
  a_null = refl;
  fixed_list = refl;
  two_maps = refl;
  sliced_union = refl;
  omitted = refl;
  both_columns = refl;
  second_column = refl;
  second_listed = refl;
  chosen_twice = refl;
}
