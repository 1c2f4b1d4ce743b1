-- Arguments of `ipcat`. Beside each form are arguments that differ from it
-- by one argument, or by one byte.
use Rattle.std.specs.Prelude.{◌≡◌, ℕ, ◌-◌, ◌^◌, eqb, true, false, List, [], ◌∷◌, codes, Option, Some, None}
use Rattle.std.specs.Borrow.{Bor}
use Rattle.std.specs.List.{slice_split}
use Rattle.ipc_programs.specs.declared.cat.forms.Columns.TheVariants.{All, At}
use Rattle.ipc_programs.specs.declared.cat.forms.Form.TheVariants.{Demo, Stream, File}
use Rattle.ipc_programs.specs.CatWords.{Wanted, demo, stream, file, asked, wanted_by, columns_by, columns_named, is_decimal, limit_named, opened_for, pieces, positions_named, AreNumbers, HasNumbers, NamesNumbers}

-- The first and the last digit, and the bytes next to them. A number has no sign, no blank,
-- and no digit of another script.
pub record DecimalRows : Type 0 where
  pub first_digit : is_decimal (codes "0") ≡ true
  pub last_digit : is_decimal (codes "9") ≡ true
  pub byte_before : is_decimal (codes "/") ≡ false
  pub byte_behind : is_decimal (codes ":") ≡ false
  pub leading_zeros : is_decimal (codes "007") ≡ true
  pub no_digit : is_decimal [] ≡ false
  pub plus_sign : is_decimal (codes "+1") ≡ false
  pub blank_behind : is_decimal (codes "1 ") ≡ false
  pub letter_inside : is_decimal (codes "1e3") ≡ false
  pub other_script : is_decimal (0xD9 ∷ 0xA3 ∷ []) ≡ false

-- Positions stay as they are named; whether they repeat, or are too great, is checked
-- by the schema. They are separated by commas, and by neither of the bytes next to
-- that. `-` alone means all columns.
pub record ColumnRows : Type 0 where
  pub one_piece : pieces (codes "10") ≡ codes "10" ∷ []
  pub two_pieces : pieces (codes "10,2") ≡ codes "10" ∷ codes "2" ∷ []
  pub all_columns : columns_named (codes "-") ≡ Some None
  pub one_position : columns_named (codes "3") ≡ Some (Some (3 ∷ []))
  pub as_named : columns_named (codes "2,0,10") ≡ Some (Some (2 ∷ 0 ∷ 10 ∷ []))
  pub leading_zeros : columns_named (codes "007") ≡ Some (Some (7 ∷ []))
  pub repeated : columns_named (codes "0,0") ≡ Some (Some (0 ∷ 0 ∷ []))
  pub too_great : columns_named (codes "18446744073709551616") ≡ Some (Some (2 ^ 64 ∷ []))
  pub no_position : columns_named [] ≡ None
  pub no_first : columns_named (codes ",1") ≡ None
  pub no_last : columns_named (codes "1,") ≡ None
  pub none_between : columns_named (codes "0,,1") ≡ None
  pub byte_before_comma : columns_named (codes "0+1") ≡ None
  pub byte_behind_comma : columns_named (codes "0-1") ≡ None
  pub blank_between : columns_named (codes "0, 1") ≡ None
  pub last_no_number : columns_named (codes "0,x") ≡ None
  pub two_dashes : columns_named (codes "--") ≡ None
  pub dash_among : columns_named (codes "0,-") ≡ None

-- No row, the most that can be counted, and one more.
pub record LimitRows : Type 0 where
  pub no_row : limit_named (codes "0") ≡ Some 0
  pub ten : limit_named (codes "10") ≡ Some 10
  pub leading_zero : limit_named (codes "010") ≡ Some 10
  pub greatest : limit_named (codes "18446744073709551615") ≡ Some (2 ^ 64 - 1)
  pub one_more : limit_named (codes "18446744073709551616") ≡ None
  pub no_digit : limit_named [] ≡ None
  pub dash : limit_named (codes "-") ≡ None
  pub plus_sign : limit_named (codes "+1") ≡ None
  pub two_numbers : limit_named (codes "1,2") ≡ None

-- What the arguments of a line request, which are separated by one blank.
abbrev pub asked_in : List ℕ → Option Wanted
asked_in line = asked (slice_split (λ byte. eqb byte 32) line)

-- No argument, and arguments next to those that name a form.
pub record NameRows : Type 0 where
  pub no_words : asked [] ≡ None
  pub empty_word : asked ([] ∷ []) ≡ None
  pub other_word : asked_in (codes "show numbers.arrow") ≡ None
  pub demo_cut : asked_in (codes "dem") ≡ None
  pub demo_longer : asked_in (codes "demos") ≡ None
  pub demo_upper : asked_in (codes "Demo") ≡ None
  pub stream_cut : asked_in (codes "strea") ≡ None
  pub stream_longer : asked_in (codes "streams") ≡ None
  pub stream_upper : asked_in (codes "STREAM") ≡ None
  pub file_cut : asked_in (codes "fil numbers.arrow") ≡ None
  pub file_longer : asked_in (codes "files numbers.arrow") ≡ None
  pub file_upper : asked_in (codes "File numbers.arrow") ≡ None
  pub name_behind : asked_in (codes "numbers.arrow file") ≡ None

-- The example takes no argument, a stream at most its columns, and a file its path, then columns,
-- then a limit. Any argument can be a path, also one that has a meaning elsewhere.
pub record FormRows : Type 0 where
  pub demo_alone : asked_in (codes "demo") ≡ Some demo
  pub demo_and_word : asked_in (codes "demo -") ≡ None
  pub demo_and_words : asked_in (codes "demo - 1") ≡ None
  pub stream_alone : asked_in (codes "stream") ≡ Some (stream None)
  pub stream_all : asked_in (codes "stream -") ≡ Some (stream None)
  pub stream_columns : asked_in (codes "stream 1,0") ≡ Some (stream (Some (1 ∷ 0 ∷ [])))
  pub stream_path : asked_in (codes "stream numbers.arrow") ≡ None
  pub stream_limit : asked_in (codes "stream - 5") ≡ None
  pub stream_many : asked_in (codes "stream - 5 5") ≡ None
  pub file_alone : asked_in (codes "file") ≡ None
  pub file_path : asked_in (codes "file numbers.arrow") ≡ Some (file (codes "numbers.arrow") None None)
  pub file_all : asked_in (codes "file numbers.arrow -") ≡ Some (file (codes "numbers.arrow") None None)
  pub file_columns : asked_in (codes "file numbers.arrow 5") ≡ Some (file (codes "numbers.arrow") (Some (5 ∷ [])) None)
  pub file_limit : asked_in (codes "file numbers.arrow - 5") ≡ Some (file (codes "numbers.arrow") None (Some 5))
  pub file_both : asked_in (codes "file numbers.arrow 1,0 5") ≡ Some (file (codes "numbers.arrow") (Some (1 ∷ 0 ∷ [])) (Some 5))
  pub file_no_columns : asked_in (codes "file numbers.arrow x") ≡ None
  pub file_no_columns_before_limit : asked_in (codes "file numbers.arrow x 5") ≡ None
  pub file_no_limit : asked_in (codes "file numbers.arrow - x") ≡ None
  pub file_limit_before_columns : asked_in (codes "file numbers.arrow 5 -") ≡ None
  pub file_columns_before_path : asked_in (codes "file - numbers.arrow") ≡ None
  pub file_word_too_many : asked_in (codes "file numbers.arrow - 5 5") ≡ None
  pub file_words_too_many : asked_in (codes "file numbers.arrow - 5 5 5") ≡ None
  pub path_dash : asked_in (codes "file -") ≡ Some (file (codes "-") None None)
  pub path_digit : asked_in (codes "file 5") ≡ Some (file (codes "5") None None)
  pub path_name : asked_in (codes "file demo") ≡ Some (file (codes "demo") None None)
  pub path_empty : asked (codes "file" ∷ [] ∷ []) ≡ Some (file [] None None)

-- Whatever the arguments of a form are.
pub record HeldRows : Type 0 where
  pub columns_all : columns_by All ≡ None
  pub columns_at : (word : Bor (List ℕ)) → columns_by (At word) ≡ Some (positions_named word.now)
  pub of_demo : wanted_by Demo ≡ demo
  pub of_stream : wanted_by (Stream All) ≡ stream None
  pub of_columns : (word : Bor (List ℕ)) → wanted_by (Stream (At word)) ≡ stream (Some (positions_named word.now))
  pub of_path : (path : Bor (List ℕ)) → wanted_by (File (record { path = path; columns = All; limit = None })) ≡ file path.now None None
  pub numbers : AreNumbers (codes "2,0,10")
  pub no_number : ¬ AreNumbers (codes "2,+1")
  pub names_all : NamesNumbers All
  pub names_word : (word : Bor (List ℕ)) → NamesNumbers (At word) → AreNumbers word.now
  pub has_of_stream : (word : Bor (List ℕ)) → HasNumbers (Stream (At word)) → AreNumbers word.now
  pub has_of_file : (path word : Bor (List ℕ)) → HasNumbers (File (record { path = path; columns = At word; limit = None })) → AreNumbers word.now
  pub of_file : (path word : Bor (List ℕ)) → wanted_by (File (record { path = path; columns = At word; limit = Some 5 })) ≡ file path.now (Some (positions_named word.now)) (Some 5)

-- Only a file has to be opened, also one whose name means the input elsewhere.
pub record OpenedRows : Type 0 where
  pub for_demo : opened_for demo ≡ None
  pub for_stream : opened_for (stream None) ≡ None
  pub for_columns : opened_for (stream (Some (0 ∷ []))) ≡ None
  pub for_path : opened_for (file (codes "numbers.arrow") None None) ≡ Some (codes "numbers.arrow")
  pub for_file : opened_for (file (codes "numbers.arrow") (Some (0 ∷ [])) (Some 5)) ≡ Some (codes "numbers.arrow")
  pub for_dash : opened_for (file (codes "-") None None) ≡ Some (codes "-")
