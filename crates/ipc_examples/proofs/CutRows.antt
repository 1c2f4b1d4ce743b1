-- Each case is computed.
use Rattle.std.proofs.Common.{refl}
use Rattle.std.specs.Str.{is_utf8, chars}
use lib.Utf8.{encode}
use Rattle.ipc_examples.specs.CutRows.{BitRows, ListCutRows, ChildCutRows, LengthCutRows}

pub bit_rows : BitRows
bit_rows = record {
  packed = refl;
  its_slots = refl;
  as_they_stood = refl;
  not_listed = refl;
}

pub list_cut_rows : ListCutRows
unfolding is_utf8 chars encode
list_cut_rows = record {
  second_bytes = refl;
  offset_kept = refl;
  middle_lists = refl;
  offsets_kept = refl;
  first_lists = refl;
  second_pair_alone = refl;
  half_a_pair = refl;
  first_nulls = refl;
  null_count = refl;
  both_maps = refl;
}

pub child_cut_rows : ChildCutRows
child_cut_rows = record {
  records = refl;
  few_numbers = refl;
  sparse_slice = refl;
  sparse_whole = refl;
  dense_whole = refl;
  dense_slice = refl;
}

pub length_cut_rows : LengthCutRows
length_cut_rows = record {
  bits = refl;
  second_bytes = refl;
  middle_lists = refl;
  all_lists = refl;
  second_pair_alone = refl;
  sparse_slice = refl;
  dense_slice = refl;
  body_of_bytes = refl;
  body_of_lists = refl;
  body_of_a_pair = refl;
  body_of_sparse = refl;
  body_of_dense = refl;
  second_map = refl;
}
