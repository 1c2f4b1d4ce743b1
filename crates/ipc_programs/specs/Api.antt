-- What the runs of `ipcat` and of `ipconvert` do.
use Rattle.std.specs.Prelude.{◌≡◌, ℕ, codes, false, IfSome, IsTrue, List, None, Option, option_and_then, true}
use Rattle.ipc_devices.specs.Device.{Device}
use Rattle.ipc_devices.specs.Faults.{OwnFault}
use Rattle.ipc_devices.specs.Gives.{Gives}
use Rattle.ipc_convert.specs.Chunks.{NoneFailed}
use Rattle.ipc_convert.specs.Copies.{TakesStream}
use Rattle.ipc_programs.specs.CatRefusals.{AsksForOthers, ShowCause}
use Rattle.ipc_programs.specs.CatWords as cat
use Rattle.ipc_programs.specs.ConvertWords as convert
use Rattle.ipc_programs.specs.ConvertWords.{IsMissing}
use Rattle.ipc_programs.specs.Lines.{WritesCause, Told}
use Rattle.ipc_programs.specs.Printing.{Printed}
use Rattle.ipc_programs.specs.Refusals.{AskedCause}
use Rattle.ipc_programs.specs.Shown.{Shows}
use Rattle.ipc_programs.specs.Written.{Appended, CopiesAsAsked}

-- ---- ipcat

-- `run` of `ipcat` ended with status 0: the arguments request q, the input was in state a, the
-- output went from v to w, and the error output from x to y.
pub record RunsCat {R F O E : Type 0} (gives : Gives R) (contents : Device F) (d : Device O) (q : Option cat.Wanted) (a : R) (file : Option F) (v w : O) (x y : E) : Type 0 where
  -- What was read is valid.
  pub shown : IfSome q (λ form. Shows gives contents form a file)
  -- All was written to the output and flushed, and no call of it failed.
  pub printed : Printed d v w
  -- Nothing was written to the error output.
  pub silent : y ≡ x

-- What the status of `ipcat` and its line say; `text` is the usage.
pub record CatCause {R F E : Type 0} (gives : Gives R) (source : Device R) (contents : Device F) (errors : Device E) (q : Option cat.Wanted) (a : R) (file : Option F) (status : ℕ) (x y : E) (text : List ℕ) : Type 0 where
  -- With status 1 the class of an error was written, and the error names a true condition.
  pub line : status ≡ 1 → WritesCause (codes "ipcat") (λ e. IfSome q (λ form. OwnFault e (ShowCause gives source contents form a file e))) errors x y
  -- With status 2 and arguments of a form, the schema doesn't have the columns.
  pub wrong : status ≡ 2 → IfSome q (λ form. AsksForOthers gives source contents form a file)
  -- Arguments without a form give status 2.
  pub usage : q ≡ None → status ≡ 2
  -- With status 2 the usage was written.
  pub told : status ≡ 2 → Told errors x y text
  -- A file that couldn't be opened gives status 1.
  pub unopened : IfSome (option_and_then cat.opened_for q) (λ path. file ≡ None → status ≡ 1)

-- What `ipcat` leaves as it was.
pub record CatState {R O : Type 0} (q : Option cat.Wanted) (a b : R) (v w : O) : Type 0 where
  -- The input is read only by the form `stream`.
  pub unread : IfSome q (λ form. cat.reads_input form ≡ false → b ≡ a)
  -- Arguments without a form: nothing was read or printed.
  pub untouched : q ≡ None → (b ≡ a) × (w ≡ v)

-- ---- ipconvert

-- `run` of `ipconvert` ended with status 0: the arguments request q, the input went from a to b,
-- the output from v to w, and the error output from x to y.
pub record RunsConvert {R F A O E : Type 0} (gives : Gives R) (source : Device R) (contents : Device F) (kept : Device A) (d : Device O) (q : Option convert.Wanted)
    (a b : R) (file : Option F) (append_to : Option A) (v w : O) (x y : E) : Type 0 where
  -- If a copy to memory was requested, it was written.
  pub copied : IsTrue d.is_memory → IfSome q (λ form. CopiesAsAsked gives contents form a b file (d.memory v) (d.memory w))
  -- If appending was requested, the file has the chunks of the input more.
  pub appended : IfSome q (λ form. Appended gives kept form a b append_to)
  -- If a copy was requested, the output keeps nothing back.
  pub flushed : IfSome q (λ form. convert.writes_output form ≡ true → IsTrue (d.is_flushed w))
  -- If the input is read, it was a valid stream, and no byte more was read.
  pub taken : IfSome q (λ form. convert.reads_input form ≡ true → TakesStream gives a b)
  -- No call of the input or the output failed.
  pub done : NoneFailed source.failures d.failures a v b w
  -- Nothing was written to the error output.
  pub silent : y ≡ x

-- What the status of `ipconvert` and its line say; `text` is the usage.
pub record ConvertCause {R F A O E : Type 0} (gives : Gives R) (source : Device R) (contents : Device F) (kept : Device A) (d : Device O) (errors : Device E) (q : Option convert.Wanted)
    (a : R) (file : Option F) (append_to : Option A) (v : O) (status : ℕ) (x y : E) (text : List ℕ) : Type 0 where
  -- With status 1 the class of an error was written, and the error names a true condition.
  pub line : status ≡ 1 → WritesCause (codes "ipconvert") (λ e. IfSome q (λ form. OwnFault e (AskedCause gives source contents kept d form a file append_to v e))) errors x y
  -- Arguments without a form give status 2.
  pub usage : q ≡ None → status ≡ 2
  -- No others do.
  pub alone : status ≡ 2 → q ≡ None
  -- The usage was written then.
  pub told : q ≡ None → Told errors x y text
  -- A file that couldn't be opened gives status 1.
  pub unopened : IfSome (option_and_then convert.place_for q) (λ place. IsMissing place.1 file append_to → status ≡ 1)

-- What `ipconvert` leaves as it was.
pub record ConvertState {R F A O : Type 0} (q : Option convert.Wanted) (file : Option F) (append_to : Option A) (a b : R) (v w : O) : Type 0 where
  -- The input isn't read if a file is copied.
  pub unread : IfSome q (λ form. convert.reads_input form ≡ false → b ≡ a)
  -- The output isn't written to if a file is appended to.
  pub unwritten : IfSome q (λ form. convert.writes_output form ≡ false → w ≡ v)
  -- If the file couldn't be opened, nothing was read or written.
  pub spared : IfSome (option_and_then convert.place_for q) (λ place. IsMissing place.1 file append_to → (b ≡ a) × (w ≡ v))
  -- Arguments without a form: nothing was read or written.
  pub untouched : q ≡ None → (b ≡ a) × (w ≡ v)
