-- Each case is computed.
use Rattle.std.proofs.Common.{refl}
use Rattle.std.specs.Str.{is_utf8, chars}
use lib.Utf8.{encode}
use Rattle.ipc_table_views.specs.Tables.{number_at, table_at, slot_at, spot_at, target_at, text_at, vector_at, table_in}
use Rattle.ipc_table_views.specs.Structs.{structs_at, signed32, signed64}
use Rattle.ipc_model.specs.Frame.{frame, sized, marked}
use Rattle.ipc_model.specs.Batches.{lists_of, entries_of, batch, record_meaning, dictionary_meaning}
use Rattle.ipc_model.specs.Streams.{header_of, body_item, item, meant_within, meaning}
use Rattle.ipc_examples.specs.DictionaryRows.{DictionaryRows, SharedRows, NestedRows}

pub dictionary_rows : DictionaryRows
unfolding number_at table_at slot_at spot_at target_at text_at vector_at table_in structs_at signed32 signed64 is_utf8 chars encode frame sized marked lists_of entries_of batch record_meaning dictionary_meaning header_of body_item item meant_within meaning
dictionary_rows = record {
  dictionary_alone = refl;
  first_record = refl;
  replaced = refl;
  never_sent = refl;
  delta = refl;
  no_place = refl;
  key_past_the_values = refl;
  key_of_replaced_values = refl;
  no_keys = refl;
  no_keys_never_sent = refl;
}

pub shared_rows : SharedRows
unfolding number_at table_at slot_at spot_at target_at text_at vector_at table_in structs_at signed32 signed64 is_utf8 chars encode frame sized marked lists_of entries_of batch record_meaning dictionary_meaning header_of body_item item meant_within meaning
shared_rows = record {
  one_for_both = refl;
  last_for_both = refl;
}

pub nested_rows : NestedRows
unfolding number_at table_at slot_at spot_at target_at text_at vector_at table_in structs_at signed32 signed64 is_utf8 chars encode frame sized marked lists_of entries_of batch record_meaning dictionary_meaning header_of body_item item meant_within meaning
nested_rows = record {
  two_records = refl;
  outer_first = refl;
}
