-- Each case is computed.
use Rattle.std.proofs.Common.{refl}
use Rattle.std.specs.Str.{is_utf8, chars}
use lib.Utf8.{encode}
use Rattle.ipc_examples.specs.KindRows.{WidthRows, FixedRows, OffsetRows, KeyRows, UnionEdgeRows, PairRows, NestedKindRows}

pub width_rows : WidthRows
width_rows = record {
  signed_8 = refl;
  signed_16 = refl;
  signed_32 = refl;
  signed_64 = refl;
  unsigned_8 = refl;
  unsigned_16 = refl;
  unsigned_32 = refl;
  unsigned_64 = refl;
  half_floats = refl;
  floats = refl;
  double_floats = refl;
  points_in_time = refl;
  days = refl;
  milliseconds = refl;
  short_times = refl;
  long_times = refl;
  durations = refl;
  months = refl;
  days_and_milliseconds = refl;
  three_parts = refl;
  decimals = refl;
  wide_decimals = refl;
  three_of_four_bytes = refl;
  seven_of_eight_bytes = refl;
  fifteen_of_sixteen = refl;
}

pub fixed_rows : FixedRows
fixed_rows = record {
  three_bytes = refl;
  five_of_six = refl;
  of_no_bytes = refl;
  eight_bits = refl;
  nine_bits = refl;
  eight_of_nine = refl;
  eighth_and_ninth_null = refl;
  negative_null_count = refl;
  negative_place = refl;
  nulls_not_counted = refl;
}

pub offset_rows : OffsetRows
unfolding is_utf8 chars encode
offset_rows = record {
  greatest = refl;
  past_the_greatest = refl;
  greatest_large = refl;
  past_the_greatest_large = refl;
  large_lists = refl;
  short_for_large = refl;
  large_for_short = refl;
  large_bytes = refl;
  large_texts = refl;
  short_bytes = refl;
  short_texts = refl;
  no_text = refl;
  bytes_without_a_text = refl;
  highest_first = refl;
  not_from_0 = refl;
  one_offset = refl;
  part_of_an_offset = refl;
  none_read = refl;
  first_one_falls = refl;
}

pub key_rows : KeyRows
key_rows = record {
  last_value = refl;
  past_the_last = refl;
  negative_key = refl;
  negative_128 = refl;
  unsigned_128 = refl;
  two_bytes = refl;
  one_of_two = refl;
  second_of_two = refl;
  two_unsigned_bytes = refl;
  one_of_two_unsigned = refl;
  second_of_two_unsigned = refl;
  four_bytes = refl;
  three_of_four = refl;
  fourth_of_four = refl;
  four_unsigned_bytes = refl;
  three_of_four_unsigned = refl;
  fourth_of_four_unsigned = refl;
  eight_bytes = refl;
  seven_of_eight = refl;
  eighth_of_eight = refl;
  eight_unsigned_bytes = refl;
  seven_of_eight_unsigned = refl;
  eighth_of_eight_unsigned = refl;
  highest_first = refl;
  lowest_first = refl;
}

pub union_edge_rows : UnionEdgeRows
union_edge_rows = record {
  no_children = refl;
  most_children = refl;
  one_child_more = refl;
  greatest_id = refl;
  past_the_greatest = refl;
  negative_id = refl;
  all_ids = refl;
  few_ids = refl;
  many_ids = refl;
  last_child = refl;
  no_such_child = refl;
  negative_type = refl;
  given_id = refl;
  not_given = refl;
  all_there = refl;
  highest_first = refl;
  lowest_first = refl;
  few_offsets = refl;
  whole_child = refl;
  first_of_two = refl;
  few_types = refl;
  second_child = refl;
  past_the_second = refl;
  negative_length = refl;
  negative_dense_length = refl;
}

pub pair_rows : PairRows
pair_rows = record {
  two_fields = refl;
  one_field = refl;
  three_fields = refl;
  an_extension = refl;
  no_struct = refl;
  second_field = refl;
  an_extended_column = refl;
}

pub nested_kind_rows : NestedKindRows
nested_kind_rows = record {
  a_list = refl;
  no_map = refl;
  no_sorted_map = refl;
  a_map = refl;
  two_each = refl;
  with_its_ids = refl;
  id_of_the_stored = refl;
}
