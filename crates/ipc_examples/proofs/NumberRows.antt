-- Each case is computed.
use Rattle.std.proofs.Common.{refl}
use Rattle.ipc_examples.specs.NumberRows.{NumberRows, PartRows, WideRows}

pub number_rows : NumberRows
number_rows = record {
  minus_one = refl;
  five_little = refl;
  five_big = refl;
  other_order = refl;
  unsigned_byte = refl;
  signed_byte = refl;
  past_the_end = refl;
}

pub part_rows : PartRows
part_rows = record {
  days_little = refl;
  days_big = refl;
  days_other_order = refl;
  months_big = refl;
  months_other_order = refl;
  months_cut = refl;
}

pub wide_rows : WideRows
wide_rows = record { minus_two = refl; lowest_first = refl }
