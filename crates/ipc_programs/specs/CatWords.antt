-- What the arguments of `ipcat` request.
use Rattle.std.specs.Prelude.{◌≡◌, ℕ, List, [], ◌∷◌, Option, None, Some, Bool, true, false, codes, if◌then◌else◌, bytes_eq, map, option_and_then, option_map, eqb, ltb, ◌==◌, not, ◌&&◌, ◌^◌, length}
use Rattle.std.specs.Char.{is_ascii_digit}
use Rattle.std.specs.List.{list_all, slice_split}
use Rattle.std.specs.Str.Parse.{digits_value}
use Rattle.ipc_programs.specs.declared.cat.forms.Form.{Form}
use Rattle.ipc_programs.specs.declared.cat.forms.Form.TheVariants.{Demo, Stream, File}
use Rattle.ipc_programs.specs.declared.cat.forms.Columns.{Columns}
use Rattle.ipc_programs.specs.declared.cat.forms.Columns.TheVariants.{All, At}

-- What is requested: the example; the columns of the input's stream at these positions, or all; or
-- those of the file at a path, and at most so many rows.
pub data Wanted : Type 0 where
  demo : Wanted
  stream : Option (List ℕ) → Wanted
  file : List ℕ → Option (List ℕ) → Option ℕ → Wanted

-- The text is decimal digits alone, at least one.
abbrev pub is_decimal : List ℕ → Bool
is_decimal word = not (length word == 0) && list_all is_ascii_digit word

-- The pieces between the commas.
abbrev pub pieces : List ℕ → List (List ℕ)
pieces = slice_split (λ byte. eqb byte 44)

-- The numbers in the pieces of a text.
abbrev pub positions_named : List ℕ → List ℕ
positions_named word = map (digits_value 10) (pieces word)

-- All columns, or those at these positions; none if the argument names no columns.
abbrev pub columns_named : List ℕ → Option (Option (List ℕ))
columns_named word =
    if bytes_eq word (codes "-") then Some None
    else (if list_all is_decimal (pieces word) then Some (Some (positions_named word)) else None)

-- The row limit of an argument; none if it is no number of 64 bits.
abbrev pub limit_named : List ℕ → Option ℕ
limit_named word = if is_decimal word && ltb (digits_value 10 word) (2 ^ 64) then Some (digits_value 10 word) else None

-- What the arguments of the form `stream` request.
abbrev pub stream_asked : List (List ℕ) → Option Wanted
stream_asked [] = Some (stream None)
stream_asked (columns ∷ []) = option_map stream (columns_named columns)
stream_asked (columns ∷ second ∷ others) = None

-- What the arguments of the form `file` request.
abbrev pub file_asked : List (List ℕ) → Option Wanted
file_asked [] = None
file_asked (path ∷ []) = Some (file path None None)
file_asked (path ∷ columns ∷ []) = option_map (λ chosen. file path chosen None) (columns_named columns)
file_asked (path ∷ columns ∷ limit ∷ []) =
    option_and_then (λ chosen. option_map (λ rows. file path chosen (Some rows)) (limit_named limit)) (columns_named columns)
file_asked (path ∷ columns ∷ limit ∷ fourth ∷ others) = None

-- What the arguments of the form `demo` request.
abbrev pub demo_asked : List (List ℕ) → Option Wanted
demo_asked [] = Some demo
demo_asked (second ∷ others) = None

-- What the arguments request; none if they have no form.
abbrev pub asked : List (List ℕ) → Option Wanted
asked [] = None
asked (name ∷ others) =
    if bytes_eq name (codes "demo") then demo_asked others
    else (if bytes_eq name (codes "stream") then stream_asked others
    else (if bytes_eq name (codes "file") then file_asked others else None))

-- Each piece of an argument is a number.
abbrev pub AreNumbers : List ℕ → Type 0
AreNumbers word = list_all is_decimal (pieces word) ≡ true

-- Each piece of the argument that names columns is a number.
abbrev pub NamesNumbers : Columns → Type 0
NamesNumbers All = Unit {0}
NamesNumbers (At word) = AreNumbers word.now

-- The columns of a form are numbers.
abbrev pub HasNumbers : Form → Type 0
HasNumbers Demo = Unit {0}
HasNumbers (Stream columns) = NamesNumbers columns
HasNumbers (File words) = NamesNumbers words.columns

-- The positions of the columns that an argument names; none if it names all.
abbrev pub columns_by : Columns → Option (List ℕ)
columns_by All = None
columns_by (At word) = Some (positions_named word.now)

-- What a form requests.
abbrev pub wanted_by : Form → Wanted
wanted_by Demo = demo
wanted_by (Stream columns) = stream (columns_by columns)
wanted_by (File words) = file words.path.now (columns_by words.columns) words.limit

-- Whether the input is read.
abbrev pub reads_input : Wanted → Bool
reads_input demo = false
reads_input (stream columns) = true
reads_input (file path columns limit) = false

-- The path of the file that has to be opened.
abbrev pub opened_for : Wanted → Option (List ℕ)
opened_for demo = None
opened_for (stream columns) = None
opened_for (file path columns limit) = Some path
