-- Each case is computed.
use Rattle.std.proofs.Common.{refl}
use Rattle.std.specs.Str.{is_utf8, chars}
use lib.Utf8.{encode}
use Rattle.ipc_table_views.specs.Tables.{number_at, table_at, slot_at, spot_at, target_at, text_at, vector_at, table_in}
use Rattle.ipc_table_views.specs.Structs.{structs_at, signed32, signed64}
use Rattle.ipc_model.specs.Frame.{frame, sized, marked}
use Rattle.ipc_model.specs.Batches.{lists_of, entries_of, batch, record_meaning, dictionary_meaning}
use Rattle.ipc_model.specs.Streams.{header_of, body_item, item, meant_within, meaning}
use Rattle.ipc_model.specs.Schemas.{integer_at, decimal_at, plain_at, single_at, group_at, pairs_at, encoding_at, field_from, field_at, schema_at, schema_of, head_of}
use Rattle.ipc_model.specs.WholeStreams.{stream_of}
use Rattle.ipc_examples.specs.StreamRows.{SmallestRows, MetadataRows, DemoRows, AloneRows, ChosenRows}

pub smallest_rows : SmallestRows
unfolding number_at table_at slot_at spot_at target_at text_at vector_at table_in structs_at signed32 signed64 is_utf8 chars encode integer_at decimal_at plain_at single_at group_at pairs_at encoding_at field_from field_at schema_at schema_of head_of
smallest_rows = record {
  smallest_schema = refl;
  its_version = refl;
  older_version = refl;
  unknown_version = refl;
  cut_off = refl;
  no_header = refl;
  a_record = refl;
  no_kind = refl;
  no_fields_slot = refl;
  in_no_version = refl;
}

pub metadata_rows : MetadataRows
unfolding number_at table_at slot_at spot_at target_at text_at vector_at table_in structs_at signed32 signed64 is_utf8 chars encode integer_at decimal_at plain_at single_at group_at pairs_at encoding_at field_from field_at schema_at schema_of head_of
metadata_rows = record {
  later_wins = refl;
  earlier_loses = refl;
  three_pairs = refl;
  another_order = refl;
  no_text = refl;
  extended_values = refl;
  normal_form = refl;
  other_keys = refl;
}

pub demo_rows : DemoRows
unfolding number_at table_at slot_at spot_at target_at text_at vector_at table_in structs_at signed32 signed64 is_utf8 chars encode integer_at decimal_at plain_at single_at group_at pairs_at encoding_at field_from field_at schema_at schema_of head_of frame sized marked lists_of entries_of batch record_meaning dictionary_meaning header_of body_item item meant_within meaning stream_of
demo_rows = record {
  schema = refl;
  unknown_type = refl;
  no_such_width = refl;
  no_name = refl;
  marked_end = refl;
  behind_the_mark = refl;
  older_prefix = refl;
  no_more = refl;
  begun_prefix = refl;
  begun_alone = refl;
  gone_on = refl;
  longer_column = refl;
  cut_marker = refl;
  cut_metadata = refl;
  cut_body = refl;
  whole = refl;
  five_chunks = refl;
  no_schema = refl;
  another_schema = refl;
}

pub alone_rows : AloneRows
unfolding number_at table_at slot_at spot_at target_at text_at vector_at table_in structs_at signed32 signed64 is_utf8 chars encode integer_at decimal_at plain_at single_at group_at pairs_at encoding_at field_from field_at schema_at schema_of head_of frame sized marked lists_of entries_of batch record_meaning dictionary_meaning header_of body_item item meant_within meaning stream_of
alone_rows = record {
  newer_prefix = refl;
  older_prefix = refl;
  marked_end = refl;
  longer_prefix = refl;
  no_prefix = refl;
}

pub chosen_rows : ChosenRows
unfolding batch
chosen_rows = record {
  first_alone = refl;
  none = refl;
  no_columns = refl;
  in_order = refl;
  no_such_column = refl;
  last_column = refl;
  chosen_twice = refl;
  unequal = refl;
  beyond_the_size = refl;
}
