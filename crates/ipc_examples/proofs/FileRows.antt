-- Each case is computed.
use Rattle.std.proofs.Common.{refl, ◌≡◌, ◌+◌, Bool, true, false, cond, nat_lt, length, Option, None}
use Rattle.std.specs.Str.{is_utf8, chars}
use lib.Utf8.{encode}
use Rattle.ipc_table_views.specs.Tables.{number_at, table_at, slot_at, spot_at, target_at, text_at, vector_at, table_in}
use Rattle.ipc_table_views.specs.Structs.{structs_at, signed32, signed64}
use Rattle.ipc_model.specs.Frame.{frame, sized, marked}
use Rattle.ipc_model.specs.Batches.{lists_of, entries_of, batch, record_meaning, dictionary_meaning}
use Rattle.ipc_model.specs.Streams.{header_of, body_item, item, meant_within, meaning}
use Rattle.ipc_model.specs.Schemas.{integer_at, decimal_at, plain_at, single_at, group_at, pairs_at, encoding_at, field_from, field_at, schema_at, schema_of, head_of}
use Rattle.ipc_model.specs.WholeStreams.{stream_of}
use Rattle.ipc_model.specs.Files.{footer_at, metadata_of, block_header, chunk_at, dictionaries_at}
use Rattle.ipc_examples.specs.FileRows.{FileRows, FooterRows, FooterPairRows, BlockRows}
use Rattle.std.proofs.lemmas.Bool.{lt-ltb}

pub file_rows : FileRows
unfolding number_at table_at slot_at spot_at target_at text_at vector_at table_in structs_at signed32 signed64 is_utf8 chars encode integer_at decimal_at plain_at single_at group_at pairs_at encoding_at field_from field_at schema_at schema_of head_of frame sized marked lists_of entries_of batch record_meaning dictionary_meaning header_of body_item item meant_within meaning stream_of footer_at metadata_of block_header chunk_at dictionaries_at
file_rows = record {
  its_metadata = refl;
  its_dictionaries = refl;
  its_chunk = refl;
  pruned = refl;
  another_head = refl;
  another_tail = refl;
  too_long = refl;
  negative = refl;
  no_record = refl;
  no_block = refl;
}

either_none : {A : Type 0} (b c : Bool) (o : Option A) → c ≡ true → cond b (cond c None o) None ≡ None
either_none true c o e = rw e refl
either_none false c o e = refl

pub footer_rows : FooterRows
unfolding number_at table_at slot_at spot_at target_at text_at vector_at table_in structs_at signed32 signed64 is_utf8 chars encode integer_at decimal_at plain_at single_at group_at pairs_at encoding_at field_from field_at schema_at schema_of head_of frame sized marked lists_of entries_of batch record_meaning dictionary_meaning header_of body_item item meant_within meaning stream_of footer_at metadata_of block_header chunk_at dictionaries_at
footer_rows = record {
  cut_off = refl;
  cut_by_a_byte = refl;
  a_byte_before = refl;
  negative_length = λ bytes. refl;
  no_schema = refl;
  no_dictionaries = refl;
  no_records = refl;
  short_file = refl;
  longer_than_the_file = λ bytes n h. either_none (nat_lt n 2147483648) (nat_lt (length bytes) (n + 10)) _ (lt-ltb (length bytes) (n + 10) h);
}

pub block_rows : BlockRows
unfolding number_at table_at slot_at spot_at target_at text_at vector_at table_in structs_at signed32 signed64 is_utf8 chars encode integer_at decimal_at plain_at single_at group_at pairs_at encoding_at field_from field_at schema_at schema_of head_of frame sized marked lists_of entries_of batch record_meaning dictionary_meaning header_of body_item item meant_within meaning stream_of footer_at metadata_of block_header chunk_at dictionaries_at
block_rows = record {
  in_order = refl;
  in_other_order = refl;
  first_record = refl;
  second_record = refl;
  last_counts = refl;
  older_prefix = refl;
  a_dictionary = refl;
  a_record = refl;
  negative_offset = refl;
  negative_length = refl;
  negative_body = refl;
  fifth_version = refl;
  fourth_version = refl;
  first_version = refl;
  no_version = refl;
  to_the_last_byte = refl;
  a_byte_short = refl;
  negative_in_the_message = refl;
}

pub footer_pair_rows : FooterPairRows
unfolding number_at table_at slot_at spot_at target_at text_at vector_at table_in structs_at signed32 signed64 is_utf8 chars encode integer_at decimal_at plain_at single_at group_at pairs_at encoding_at field_from field_at schema_at schema_of head_of frame sized marked lists_of entries_of batch record_meaning dictionary_meaning header_of body_item item meant_within meaning stream_of footer_at metadata_of block_header chunk_at dictionaries_at
footer_pair_rows = record {
  none_there = refl;
  later_wins = refl;
  no_text = refl;
}
