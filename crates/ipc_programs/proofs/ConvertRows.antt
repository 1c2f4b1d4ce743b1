-- Each case is computed.
use Rattle.std.proofs.Common.{refl}
use Rattle.ipc_programs.specs.ConvertRows.{SourceRows, TargetRows, OrderRows, CopyRows, CopyFormRows, AppendFormRows, HeldRows, PlaceRows}

pub source_rows : SourceRows
source_rows = record {
  dash = refl;
  two_dashes = refl;
  path = refl;
  name_of_target = refl;
  empty_word = refl;
}

pub target_rows : TargetRows
target_rows = record {
  a_stream = refl;
  stream_cut = refl;
  stream_longer = refl;
  a_file = refl;
  file_cut = refl;
  file_upper = refl;
  dash = refl;
  empty_word = refl;
}

pub order_rows : OrderRows
order_rows = record {
  little_word = refl;
  little_cut = refl;
  big_word = refl;
  big_longer = refl;
  big_upper = refl;
  empty_word = refl;
}

pub copy_rows : CopyRows
copy_rows = record {
  input_to_stream = refl;
  path_to_file = refl;
  no_target = refl;
}

pub copy_form_rows : CopyFormRows
copy_form_rows = record {
  no_words = refl;
  source_alone = refl;
  target_alone = refl;
  input_to_stream = refl;
  input_to_file = refl;
  path_to_stream = refl;
  path_to_file = refl;
  no_target = refl;
  target_first = refl;
  in_little = refl;
  in_big = refl;
  path_in_big = refl;
  no_order = refl;
  empty_order = refl;
  no_target_in_big = refl;
  order_first = refl;
  order_before_target = refl;
  word_too_many = refl;
  words_too_many = refl;
  path_as_target = refl;
  path_empty = refl;
}

pub append_form_rows : AppendFormRows
append_form_rows = record {
  append_alone = refl;
  append_path = refl;
  append_dash = refl;
  append_stream = refl;
  append_append = refl;
  append_empty = refl;
  append_in_big = refl;
  append_paths = refl;
  append_many = refl;
  append_behind = refl;
  append_cut = refl;
  append_longer = refl;
  append_upper = refl;
}

pub held_rows : HeldRows
held_rows = record {
  of_input = refl;
  of_file = λ path. refl;
  of_append = λ path. refl;
}

pub place_rows : PlaceRows
place_rows = record {
  for_input = refl;
  for_copy = refl;
  for_stream = refl;
  for_append = refl;
}
