-- Each case is computed.
use Rattle.std.proofs.Common.{◌≤◌, refl, arith}
use Rattle.ipc_read_nested.specs.HeldListedRows.{HeldListedRows}

pub held_listed_rows : HeldListedRows
held_listed_rows = record {
  none_listed = refl;
  one_listed = refl;
  large = refl;
  both_levels = refl;
  inner_level = refl;
  outer_level = refl;
  below_sizes = refl;
  second_field = refl;
  sparse = refl;
  dense = refl;
  before_5 = refl;
  as_much = refl;
  more_than_listed = λ h. let e : 4 ≤ 0 = h in absurd (omega arith);
}
