-- Each case is computed.
use Rattle.std.proofs.Common.{refl}
use Rattle.std.specs.Str.{is_utf8, chars}
use lib.Utf8.{encode}
use Rattle.ipc_table_views.specs.Tables.{number_at, table_at, slot_at, spot_at, target_at, text_at, vector_at, table_in}
use Rattle.ipc_table_views.specs.Structs.{structs_at, signed32, signed64}
use Rattle.ipc_model.specs.Frame.{frame, sized, marked}
use Rattle.ipc_model.specs.Batches.{lists_of, entries_of, batch, record_meaning, dictionary_meaning}
use Rattle.ipc_model.specs.Streams.{header_of, body_item, item, meant_within, meaning}
use Rattle.ipc_model.specs.Schemas.{integer_at, decimal_at, plain_at, single_at, group_at, pairs_at, encoding_at, field_from, field_at, schema_at, schema_of, head_of}
use Rattle.ipc_model.specs.WholeStreams.{stream_of}
use Rattle.ipc_model.specs.Files.{footer_at, metadata_of, block_header, chunk_at, dictionaries_at}
use Rattle.ipc_examples.specs.BatchRows.{VersionBatchRows, OrderBatchRows, BehindRows, BodyRows}

pub version_batch_rows : VersionBatchRows
unfolding number_at table_at slot_at spot_at target_at text_at vector_at table_in structs_at signed32 signed64 is_utf8 chars encode integer_at decimal_at plain_at single_at group_at pairs_at encoding_at field_from field_at schema_at schema_of head_of frame sized marked lists_of entries_of batch record_meaning dictionary_meaning header_of body_item item meant_within meaning stream_of footer_at metadata_of block_header chunk_at dictionaries_at
version_batch_rows = record {
  newer_stream = refl;
  older_stream = refl;
  older_batch = refl;
  older_buffers_alone = refl;
  older_values = refl;
  newer_values = refl;
  newer_block = refl;
  older_block = refl;
  newer_buffers_of_older = refl;
  older_block_of_values = refl;
  newer_block_of_values = refl;
  no_such_version = refl;
}

pub order_batch_rows : OrderBatchRows
unfolding number_at table_at slot_at spot_at target_at text_at vector_at table_in structs_at signed32 signed64 is_utf8 chars encode integer_at decimal_at plain_at single_at group_at pairs_at encoding_at field_from field_at schema_at schema_of head_of frame sized marked lists_of entries_of batch record_meaning dictionary_meaning header_of body_item item meant_within meaning stream_of footer_at metadata_of block_header chunk_at dictionaries_at
order_batch_rows = record {
  highest_first = refl;
  lowest_first = refl;
  values_highest_first = refl;
  values_lowest_first = refl;
}

pub behind_rows : BehindRows
unfolding number_at table_at slot_at spot_at target_at text_at vector_at table_in structs_at signed32 signed64 is_utf8 chars encode integer_at decimal_at plain_at single_at group_at pairs_at encoding_at field_from field_at schema_at schema_of head_of frame sized marked lists_of entries_of batch record_meaning dictionary_meaning header_of body_item item meant_within meaning stream_of footer_at metadata_of block_header chunk_at dictionaries_at
behind_rows = record {
  behind_a_list = refl;
  behind_a_union = refl;
  behind_an_older_union = refl;
  other_numbers_of_rows = refl;
  as_many_under_a_limit = refl;
}

pub body_rows : BodyRows
unfolding number_at table_at slot_at spot_at target_at text_at vector_at table_in structs_at signed32 signed64 is_utf8 chars encode integer_at decimal_at plain_at single_at group_at pairs_at encoding_at field_from field_at schema_at schema_of head_of frame sized marked lists_of entries_of batch record_meaning dictionary_meaning header_of body_item item meant_within meaning stream_of footer_at metadata_of block_header chunk_at dictionaries_at
body_rows = record {
  behind_the_message = refl;
  four_further = refl;
  as_long_as_listed = refl;
  shorter_than_listed = refl;
}
