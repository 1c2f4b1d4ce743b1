-- Each case is computed.
use Rattle.std.proofs.Common.{refl}
use Rattle.ipc_programs.specs.CatRows.{DecimalRows, ColumnRows, LimitRows, NameRows, FormRows, HeldRows, OpenedRows}

pub decimal_rows : DecimalRows
decimal_rows = record {
  first_digit = refl;
  last_digit = refl;
  byte_before = refl;
  byte_behind = refl;
  leading_zeros = refl;
  no_digit = refl;
  plus_sign = refl;
  blank_behind = refl;
  letter_inside = refl;
  other_script = refl;
}

pub column_rows : ColumnRows
column_rows = record {
  one_piece = refl;
  two_pieces = refl;
  all_columns = refl;
  one_position = refl;
  as_named = refl;
  leading_zeros = refl;
  repeated = refl;
  too_great = refl;
  no_position = refl;
  no_first = refl;
  no_last = refl;
  none_between = refl;
  byte_before_comma = refl;
  byte_behind_comma = refl;
  blank_between = refl;
  last_no_number = refl;
  two_dashes = refl;
  dash_among = refl;
}

pub limit_rows : LimitRows
limit_rows = record {
  no_row = refl;
  ten = refl;
  leading_zero = refl;
  greatest = refl;
  one_more = refl;
  no_digit = refl;
  dash = refl;
  plus_sign = refl;
  two_numbers = refl;
}

pub name_rows : NameRows
name_rows = record {
  no_words = refl;
  empty_word = refl;
  other_word = refl;
  demo_cut = refl;
  demo_longer = refl;
  demo_upper = refl;
  stream_cut = refl;
  stream_longer = refl;
  stream_upper = refl;
  file_cut = refl;
  file_longer = refl;
  file_upper = refl;
  name_behind = refl;
}

pub form_rows : FormRows
form_rows = record {
  demo_alone = refl;
  demo_and_word = refl;
  demo_and_words = refl;
  stream_alone = refl;
  stream_all = refl;
  stream_columns = refl;
  stream_path = refl;
  stream_limit = refl;
  stream_many = refl;
  file_alone = refl;
  file_path = refl;
  file_all = refl;
  file_columns = refl;
  file_limit = refl;
  file_both = refl;
  file_no_columns = refl;
  file_no_columns_before_limit = refl;
  file_no_limit = refl;
  file_limit_before_columns = refl;
  file_columns_before_path = refl;
  file_word_too_many = refl;
  file_words_too_many = refl;
  path_dash = refl;
  path_digit = refl;
  path_name = refl;
  path_empty = refl;
}

pub held_rows : HeldRows
held_rows = record {
  columns_all = refl;
  columns_at = λ word. refl;
  of_demo = refl;
  of_stream = refl;
  of_columns = λ word. refl;
  of_path = λ path. refl;
  numbers = refl;
  no_number = λ h. cc;
  names_all = tt;
  names_word = λ word h. h;
  has_of_stream = λ word h. h;
  has_of_file = λ path word h. h;
  of_file = λ path word. refl;
}

pub opened_rows : OpenedRows
opened_rows = record {
  for_demo = refl;
  for_stream = refl;
  for_columns = refl;
  for_path = refl;
  for_file = refl;
  for_dash = refl;
}
