-- Each case is computed.
use Rattle.std.proofs.Common.{refl}
use Rattle.std.specs.Str.{is_utf8, chars}
use lib.Utf8.{encode}
use Rattle.ipc_table_views.specs.Tables.{number_at, table_at, slot_at, spot_at, target_at, text_at, vector_at, table_in}
use Rattle.ipc_table_views.specs.Structs.{structs_at, signed32, signed64}
use Rattle.ipc_model.specs.Schemas.{integer_at, decimal_at, plain_at, single_at, group_at, pairs_at, encoding_at, field_from, field_at, schema_at, schema_of, head_of}
use Rattle.ipc_examples.specs.SchemaRows.{IntegerRows, PlainRows, TimeRows, SizeRows, ChildRows, EncodingRows, FieldRows, LevelRows, LastLevelRows, PastLevelRows}

pub integer_rows : IntegerRows
unfolding number_at table_at slot_at spot_at target_at text_at vector_at table_in structs_at signed32 signed64 is_utf8 chars encode integer_at decimal_at plain_at single_at group_at pairs_at encoding_at field_from field_at schema_at schema_of head_of
integer_rows = record {
  signed_8 = refl;
  signed_16 = refl;
  signed_32 = refl;
  signed_64 = refl;
  unsigned_8 = refl;
  unsigned_16 = refl;
  unsigned_32 = refl;
  unsigned_64 = refl;
  no_sign = refl;
  no_width = refl;
  seven_bits = refl;
  wide = refl;
}

pub plain_rows : PlainRows
unfolding number_at table_at slot_at spot_at target_at text_at vector_at table_in structs_at signed32 signed64 is_utf8 chars encode integer_at decimal_at plain_at single_at group_at pairs_at encoding_at field_from field_at schema_at schema_of head_of
plain_rows = record {
  nulls = refl;
  bytes = refl;
  texts = refl;
  bits = refl;
  large_bytes = refl;
  large_texts = refl;
  half = refl;
  single_float = refl;
  double = refl;
  no_float = refl;
  days = refl;
  milliseconds = refl;
  no_date_unit = refl;
  no_such_tag = refl;
  no_tag = refl;
}

pub time_rows : TimeRows
unfolding number_at table_at slot_at spot_at target_at text_at vector_at table_in structs_at signed32 signed64 is_utf8 chars encode integer_at decimal_at plain_at single_at group_at pairs_at encoding_at field_from field_at schema_at schema_of head_of
time_rows = record {
  seconds = refl;
  milliseconds = refl;
  microseconds = refl;
  nanoseconds = refl;
  no_slots = refl;
  wide_seconds = refl;
  wide_milliseconds = refl;
  short_microseconds = refl;
  short_nanoseconds = refl;
  points = refl;
  points_in_a_zone = refl;
  durations = refl;
  microsecond_durations = refl;
  no_such_unit = refl;
  months = refl;
  days_and_milliseconds = refl;
  three_parts = refl;
}

pub size_rows : SizeRows
unfolding number_at table_at slot_at spot_at target_at text_at vector_at table_in structs_at signed32 signed64 is_utf8 chars encode integer_at decimal_at plain_at single_at group_at pairs_at encoding_at field_from field_at schema_at schema_of head_of
size_rows = record {
  sixteen_bytes = refl;
  no_bytes = refl;
  greatest_size = refl;
  past_the_greatest = refl;
  negative_size = refl;
  decimals = refl;
  wide_decimals = refl;
  no_decimal_width = refl;
  short_decimals = refl;
  negative_precision = refl;
  negative_scale = refl;
}

pub child_rows : ChildRows
unfolding number_at table_at slot_at spot_at target_at text_at vector_at table_in structs_at signed32 signed64 is_utf8 chars encode integer_at decimal_at plain_at single_at group_at pairs_at encoding_at field_from field_at schema_at schema_of head_of
child_rows = record {
  lists = refl;
  large_lists = refl;
  fixed_lists = refl;
  negative_lists = refl;
  maps = refl;
  unsorted_maps = refl;
  first_alone = refl;
  first_ill_made = refl;
  no_child = refl;
  records = refl;
  second_ill_made = refl;
  no_fields_in_it = refl;
  sparse = refl;
  dense_with_ids = refl;
  child_of_an_integer = refl;
}

pub encoding_rows : EncodingRows
unfolding number_at table_at slot_at spot_at target_at text_at vector_at table_in structs_at signed32 signed64 is_utf8 chars encode integer_at decimal_at plain_at single_at group_at pairs_at encoding_at field_from field_at schema_at schema_of head_of
encoding_rows = record {
  keys_signed_8 = refl;
  keys_unsigned_64 = refl;
  keys_of_7_bits = refl;
  no_keys_type = refl;
  in_order_under_minus_one = refl;
  extended = refl;
  without_a_text = refl;
  without_a_name = refl;
  extended_values = refl;
}

pub level_rows : LevelRows
unfolding number_at table_at slot_at spot_at target_at text_at vector_at table_in structs_at signed32 signed64 is_utf8 chars encode integer_at decimal_at plain_at single_at group_at pairs_at encoding_at field_from field_at schema_at schema_of head_of
level_rows = record {
  lowest_first = refl;
  highest_first = refl;
  no_such_order = refl;
  two_fields = refl;
  three_levels = refl;
  values_count = refl;
  in_values = refl;
  in_an_extension = refl;
  as_many_as_bytes = refl;
  one_more = refl;
  two_short_levels = refl;
}

pub last_level_rows : LastLevelRows
unfolding number_at table_at slot_at spot_at target_at text_at vector_at table_in structs_at signed32 signed64 is_utf8 chars encode integer_at decimal_at plain_at single_at group_at pairs_at encoding_at field_from field_at schema_at schema_of head_of
last_level_rows = record { level_64 = refl }

pub past_level_rows : PastLevelRows
unfolding number_at table_at slot_at spot_at target_at text_at vector_at table_in structs_at signed32 signed64 is_utf8 chars encode integer_at decimal_at plain_at single_at group_at pairs_at encoding_at field_from field_at schema_at schema_of head_of
past_level_rows = record { level_65 = refl }

pub field_rows : FieldRows
unfolding number_at table_at slot_at spot_at target_at text_at vector_at table_in structs_at signed32 signed64 is_utf8 chars encode integer_at decimal_at plain_at single_at group_at pairs_at encoding_at field_from field_at schema_at schema_of head_of
field_rows = record {
  nullable = refl;
  not_nullable = refl;
  nothing_said = refl;
  metadata = refl;
  metadata_of_a_child = refl;
  no_key = refl;
  ids_in_a_list = refl;
  ids_in_a_struct = refl;
}
