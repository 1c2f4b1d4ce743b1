-- What the arguments of `ipconvert` request.
use Rattle.std.specs.Prelude.{◌≡◌, ℕ, IsSome, List, [], ◌∷◌, Option, None, Some, Bool, true, false, codes, if◌then◌else◌, bytes_eq, option_and_then}
use Rattle.ipc_encode.specs.declared.common.WriteOptions.{WriteOptions}
use Rattle.ipc_programs.specs.declared.convert.forms.Form.{Form}
use Rattle.ipc_programs.specs.declared.convert.forms.Form.TheVariants.{Convert, Append}
use Rattle.ipc_programs.specs.declared.convert.forms.Source.TheVariants.{Input, File}
use Rattle.ipc_programs.specs.declared.convert.forms.Target.{Target}
use Rattle.ipc_programs.specs.declared.convert.forms.Target.TheVariants.{Stream, File as FileTarget}

-- What is requested: a copy of the input's stream, or of the file at a path; or
-- to append to the file at a path.
pub data Wanted : Type 0 where
  copy : Option (List ℕ) → Target → WriteOptions → Wanted
  append : List ℕ → Wanted

-- The path that a source names; none if it is the input, `-`.
abbrev pub source_named : List ℕ → Option (List ℕ)
source_named from = if bytes_eq from (codes "-") then None else Some from

-- The target that an argument names.
abbrev pub target_named : List ℕ → Option Target
target_named to = if bytes_eq to (codes "stream") then Some Stream else (if bytes_eq to (codes "file") then Some FileTarget else None)

-- The byte order that an argument names.
abbrev pub options_named : List ℕ → Option WriteOptions
options_named order =
    if bytes_eq order (codes "little") then Some (record { big_endian = false })
    else (if bytes_eq order (codes "big") then Some (record { big_endian = true }) else None)

-- The copy that a source, a target and a byte order request.
abbrev pub copy_named : List ℕ → List ℕ → WriteOptions → Option Wanted
copy_named from to options = option_and_then (λ target. Some (copy (source_named from) target options)) (target_named to)

-- What the arguments request; none if they have no form. The default byte order is `little`.
abbrev pub asked : List (List ℕ) → Option Wanted
asked [] = None
asked (first ∷ []) = None
asked (first ∷ second ∷ []) =
    if bytes_eq first (codes "append") then Some (append second)
    else copy_named first second (record { big_endian = false })
asked (first ∷ second ∷ third ∷ []) =
    if bytes_eq first (codes "append") then None
    else option_and_then (copy_named first second) (options_named third)
asked (first ∷ second ∷ third ∷ fourth ∷ others) = None

-- What a form requests.
abbrev pub wanted_by : Form → Wanted
wanted_by (Convert Input target options) = copy None target options
wanted_by (Convert (File path) target options) = copy (Some path.now) target options
wanted_by (Append path) = append path.now

-- Whether the input is read: not if a file is copied.
abbrev pub reads_input : Wanted → Bool
reads_input (copy None target options) = true
reads_input (copy (Some path) target options) = false
reads_input (append path) = true

-- Whether the output is written to: not if a file is appended to.
abbrev pub writes_output : Wanted → Bool
writes_output (copy from target options) = true
writes_output (append path) = false

-- The path of the file that has to be opened, and whether it is written to.
abbrev pub place_for : Wanted → Option (List ℕ × Bool)
place_for (copy None target options) = None
place_for (copy (Some path) target options) = Some (path, false)
place_for (append path) = Some (path, true)

-- The file wasn't opened: the one that is read, or the one that is written to.
abbrev pub IsMissing : {F A : Type 0} → (is_written : Bool) → Option F → Option A → Type 0
IsMissing false file append_to = file ≡ None
IsMissing true file append_to = append_to ≡ None

-- The file was opened: the one that is read, or the one that is written to.
abbrev pub IsOpened : {F A : Type 0} → (is_written : Bool) → Option F → Option A → Type 0
IsOpened false file append_to = IsSome file
IsOpened true file append_to = IsSome append_to
