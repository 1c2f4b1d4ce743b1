-- Arguments of `ipconvert`. Beside each form are arguments that differ from it
-- by one argument, or by one byte.
use Rattle.std.specs.Prelude.{◌≡◌, ℕ, eqb, true, false, List, [], ◌∷◌, codes, Option, Some, None}
use Rattle.std.specs.Borrow.{Bor}
use Rattle.std.specs.List.{slice_split}
use Rattle.ipc_encode.specs.declared.common.WriteOptions.{WriteOptions}
use Rattle.ipc_programs.specs.declared.convert.forms.Form.TheVariants.{Convert, Append}
use Rattle.ipc_programs.specs.declared.convert.forms.Source.TheVariants.{Input, File}
use Rattle.ipc_programs.specs.declared.convert.forms.Target.TheVariants.{Stream, File as FileTarget}
use Rattle.ipc_programs.specs.ConvertWords.{Wanted, copy, append, asked, wanted_by, copy_named, options_named, place_for, source_named, target_named}

abbrev pub little : WriteOptions
little = record { big_endian = false }

abbrev pub big : WriteOptions
big = record { big_endian = true }

-- Only `-` is the input: any other argument, also an empty one, is a path.
pub record SourceRows : Type 0 where
  pub dash : source_named (codes "-") ≡ None
  pub two_dashes : source_named (codes "--") ≡ Some (codes "--")
  pub path : source_named (codes "numbers.arrow") ≡ Some (codes "numbers.arrow")
  pub name_of_target : source_named (codes "stream") ≡ Some (codes "stream")
  pub empty_word : source_named [] ≡ Some []

-- Both names of targets, and texts next to them. The argument for the input names no target.
pub record TargetRows : Type 0 where
  pub a_stream : target_named (codes "stream") ≡ Some Stream
  pub stream_cut : target_named (codes "strea") ≡ None
  pub stream_longer : target_named (codes "streams") ≡ None
  pub a_file : target_named (codes "file") ≡ Some FileTarget
  pub file_cut : target_named (codes "fil") ≡ None
  pub file_upper : target_named (codes "File") ≡ None
  pub dash : target_named (codes "-") ≡ None
  pub empty_word : target_named [] ≡ None

-- Both byte orders, as they are spelled. No other argument, not even an
-- empty one, means the default order.
pub record OrderRows : Type 0 where
  pub little_word : options_named (codes "little") ≡ Some little
  pub little_cut : options_named (codes "littl") ≡ None
  pub big_word : options_named (codes "big") ≡ Some big
  pub big_longer : options_named (codes "bigger") ≡ None
  pub big_upper : options_named (codes "BIG") ≡ None
  pub empty_word : options_named [] ≡ None

-- The options stay as they are, and a source may have any name.
pub record CopyRows : Type 0 where
  pub input_to_stream : copy_named (codes "-") (codes "stream") big ≡ Some (copy None Stream big)
  pub path_to_file : copy_named (codes "numbers.arrow") (codes "file") little ≡ Some (copy (Some (codes "numbers.arrow")) FileTarget little)
  pub no_target : copy_named (codes "-") (codes "-") little ≡ None

-- What the arguments of a line request, which are separated by one blank.
abbrev pub asked_in : List ℕ → Option Wanted
asked_in line = asked (slice_split (λ byte. eqb byte 32) line)

-- A copy takes a source, a target and at most a byte order, in this order.
-- The default byte order is little.
pub record CopyFormRows : Type 0 where
  pub no_words : asked [] ≡ None
  pub source_alone : asked_in (codes "-") ≡ None
  pub target_alone : asked_in (codes "stream") ≡ None
  pub input_to_stream : asked_in (codes "- stream") ≡ Some (copy None Stream little)
  pub input_to_file : asked_in (codes "- file") ≡ Some (copy None FileTarget little)
  pub path_to_stream : asked_in (codes "numbers.arrow stream") ≡ Some (copy (Some (codes "numbers.arrow")) Stream little)
  pub path_to_file : asked_in (codes "numbers.arrow file") ≡ Some (copy (Some (codes "numbers.arrow")) FileTarget little)
  pub no_target : asked_in (codes "- numbers.arrow") ≡ None
  pub target_first : asked_in (codes "stream -") ≡ None
  pub in_little : asked_in (codes "- stream little") ≡ Some (copy None Stream little)
  pub in_big : asked_in (codes "- file big") ≡ Some (copy None FileTarget big)
  pub path_in_big : asked_in (codes "numbers.arrow stream big") ≡ Some (copy (Some (codes "numbers.arrow")) Stream big)
  pub no_order : asked_in (codes "- stream native") ≡ None
  pub empty_order : asked (codes "-" ∷ codes "stream" ∷ [] ∷ []) ≡ None
  pub no_target_in_big : asked_in (codes "- numbers.arrow big") ≡ None
  pub order_first : asked_in (codes "big - stream") ≡ None
  pub order_before_target : asked_in (codes "- big stream") ≡ None
  pub word_too_many : asked_in (codes "- stream big big") ≡ None
  pub words_too_many : asked_in (codes "- stream big big big") ≡ None
  pub path_as_target : asked_in (codes "stream file") ≡ Some (copy (Some (codes "stream")) FileTarget little)
  pub path_empty : asked ([] ∷ codes "file" ∷ []) ≡ Some (copy (Some []) FileTarget little)

-- A first argument `append` always requests appending, so a file of that name isn't copied. The
-- argument after it is a path, whatever it means elsewhere.
pub record AppendFormRows : Type 0 where
  pub append_alone : asked_in (codes "append") ≡ None
  pub append_path : asked_in (codes "append numbers.arrow") ≡ Some (append (codes "numbers.arrow"))
  pub append_dash : asked_in (codes "append -") ≡ Some (append (codes "-"))
  pub append_stream : asked_in (codes "append stream") ≡ Some (append (codes "stream"))
  pub append_append : asked_in (codes "append append") ≡ Some (append (codes "append"))
  pub append_empty : asked (codes "append" ∷ [] ∷ []) ≡ Some (append [])
  pub append_in_big : asked_in (codes "append stream big") ≡ None
  pub append_paths : asked_in (codes "append numbers.arrow others.arrow") ≡ None
  pub append_many : asked_in (codes "append stream big big") ≡ None
  pub append_behind : asked_in (codes "numbers.arrow append") ≡ None
  pub append_cut : asked_in (codes "appen stream") ≡ Some (copy (Some (codes "appen")) Stream little)
  pub append_longer : asked_in (codes "append/ stream") ≡ Some (copy (Some (codes "append/")) Stream little)
  pub append_upper : asked_in (codes "Append stream") ≡ Some (copy (Some (codes "Append")) Stream little)

-- Whatever the arguments of a form are.
pub record HeldRows : Type 0 where
  pub of_input : wanted_by (Convert Input Stream big) ≡ copy None Stream big
  pub of_file : (path : Bor (List ℕ)) → wanted_by (Convert (File path) FileTarget little) ≡ copy (Some path.now) FileTarget little
  pub of_append : (path : Bor (List ℕ)) → wanted_by (Append path) ≡ append path.now

-- The source of a copy is only read, and the file to append to is
-- written to. No other file is opened.
pub record PlaceRows : Type 0 where
  pub for_input : place_for (copy None FileTarget big) ≡ None
  pub for_copy : place_for (copy (Some (codes "numbers.arrow")) FileTarget big) ≡ Some (codes "numbers.arrow", false)
  pub for_stream : place_for (copy (Some (codes "-")) Stream little) ≡ Some (codes "-", false)
  pub for_append : place_for (append (codes "numbers.arrow")) ≡ Some (codes "numbers.arrow", true)
