-- Each case is computed.
use Rattle.std.proofs.Common.{refl}
use Rattle.std.specs.Str.{is_utf8, chars}
use lib.Utf8.{encode}
use Rattle.ipc_table_views.specs.Tables.{number_at, table_at, slot_at, spot_at, target_at, text_at, vector_at, table_in}
use Rattle.ipc_table_views.specs.Structs.{structs_at, signed32, signed64}
use Rattle.ipc_model.specs.Frame.{frame, sized, marked}
use Rattle.ipc_model.specs.Batches.{lists_of, entries_of, batch, record_meaning, dictionary_meaning}
use Rattle.ipc_model.specs.Streams.{header_of, body_item, item, meant_within, meaning}
use Rattle.ipc_model.specs.Schemas.{integer_at, decimal_at, plain_at, single_at, group_at, pairs_at, encoding_at, field_from, field_at, schema_at, schema_of, head_of}
use Rattle.ipc_examples.specs.MessageRows.{FrameRows, RecordRows, VersionRows, CountRows, FirstPlaceRows, WhereRows}

pub frame_rows : FrameRows
unfolding frame sized marked
frame_rows = record {
  three_begun = refl;
  nothing = refl;
  negative = λ bytes. refl;
  minus_one = λ bytes. refl;
  one_byte_short = refl;
  to_the_last = refl;
  a_byte_behind = refl;
  behind_the_marker = refl;
  cut_length = refl;
  behind_a_mark = refl;
}

pub record_rows : RecordRows
unfolding number_at table_at slot_at spot_at target_at text_at vector_at table_in structs_at signed32 signed64 is_utf8 chars encode frame sized marked lists_of entries_of batch record_meaning dictionary_meaning header_of body_item item meant_within meaning
record_rows = record {
  as_it_stands = refl;
  compressed = refl;
  no_nodes = refl;
  no_buffers = refl;
  few_nodes = refl;
  few_buffers = refl;
  negative_rows = refl;
  left_over = refl;
  negative_left_over = refl;
  more_left_over = refl;
  listed_past_the_body = refl;
  one_byte_past = refl;
  past_the_end = refl;
  listed_past_the_end = refl;
  reaches_past_the_end = refl;
  shorter_body = refl;
  body_a_byte_short = refl;
  longer_body = refl;
  negative_body = refl;
  values_to_the_last = refl;
  values_a_byte_short = refl;
  a_schema = refl;
  a_tensor = refl;
  a_sparse_tensor = refl;
  no_header = refl;
  ill_made_compression = refl;
}

pub version_rows : VersionRows
unfolding number_at table_at slot_at spot_at target_at text_at vector_at table_in structs_at signed32 signed64 is_utf8 chars encode integer_at decimal_at plain_at single_at group_at pairs_at encoding_at field_from field_at schema_at schema_of head_of
version_rows = record {
  first = refl;
  second = refl;
  third = refl;
  fourth = refl;
  fifth = refl;
  sixth = refl;
  in_order = refl;
}

pub count_rows : CountRows
unfolding number_at table_at slot_at spot_at target_at text_at vector_at table_in structs_at signed32 signed64 is_utf8 chars encode frame sized marked lists_of entries_of batch record_meaning dictionary_meaning header_of body_item item meant_within meaning
count_rows = record {
  first = refl;
  most = refl;
  one_more = refl;
  no_data = refl;
}

pub first_place_rows : FirstPlaceRows
unfolding number_at table_at slot_at spot_at target_at text_at vector_at table_in structs_at signed32 signed64 is_utf8 chars encode frame sized marked lists_of entries_of batch record_meaning dictionary_meaning header_of body_item item meant_within meaning
first_place_rows = record {
  texts_first = refl;
  bytes_in_texts = refl;
  normal_values = refl;
  one_normal_form = refl;
  other_metadata = refl;
  no_id_first = refl;
  no_values_without_an_id = refl;
}

pub where_rows : WhereRows
where_rows = record {
  behind_an_extension = refl;
  in_a_struct = refl;
  in_its_values = refl;
}
