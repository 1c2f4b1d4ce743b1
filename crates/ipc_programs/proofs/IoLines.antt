-- The line of a file that isn't there.
use Rattle.ipc_devices.specs.Device.{Device}
use Rattle.std.proofs.Common.{◌≡◌, ℕ, Bool, false, true, List, ◌++◌, codes, refl, option_and_then, subst, Option, None, Some, IfSome, Result}
use Rattle.std.proofs.lemmas.Bool.{false≢true}
use Rattle.ipc_devices.specs.Faults.{IsIo}
use Rattle.ipc_devices.specs.declared.fault.Fault.{Fault}
use Rattle.ipc_devices.specs.declared.fault.Fault.TheVariants.{OutOfSpec, Ended, NotYetImplemented, Schema, Argument, State, TooManyDictionaries, Io, Memory as NoMemory, Lower}
use Rattle.ipc_plan.specs.Sending.{Sends}
use Rattle.ipc_programs.specs.ConvertWords.{IsMissing, IsOpened}
use Rattle.ipc_programs.specs.Lines.{Told, line_of}

-- The line is the same for each error of a device.
io_line : {W : Type 0} (d : Device W) (w w' : W) (answer : Result (Unit {0}) Fault) (program : List ℕ) (fault : Fault) → IsIo fault → Sends d (line_of program fault) w answer w'
    → Sends d (program ++ codes ": input or output failed\n") w answer w'
io_line d w w' answer program (Io e) io h = h
io_line d w w' answer program (OutOfSpec kind) io h = absurd io
io_line d w w' answer program Ended io h = absurd io
io_line d w w' answer program (NotYetImplemented form) io h = absurd io
io_line d w w' answer program (Schema fault) io h = absurd io
io_line d w w' answer program (Argument fault) io h = absurd io
io_line d w w' answer program (State fault) io h = absurd io
io_line d w w' answer program TooManyDictionaries io h = absurd io
io_line d w w' answer program NoMemory io h = absurd io
io_line d w w' answer program (Lower error) io h = absurd io

if_some : {P : Type 0} (o : Option P) (A B : P → Type 0) → ((p : P) → A p → B p) → IfSome o A → IfSome o B
if_some None A B f h = tt
if_some (Some p) A B f h = f p h

-- What holds of each value holds of an optional one.
pub for_some : {P : Type 0} (o : Option P) (A : P → Type 0) → ((p : P) → A p) → IfSome o A
for_some None A f = tt
for_some (Some p) A f = f p

-- A status that is n is n whichever value is missing.
pub same_status : {P : Type 0} (o : Option P) (Missing : P → Type 0) (n : ℕ) → IfSome o (λ p. Missing p → n ≡ n)
same_status o Missing n = for_some o (λ p. Missing p → n ≡ n) (λ p missing. refl)

-- It is printed if the requested file is missing, and the device returned an error.
pub unopened_line : {Asked Path : Type 0} (path_of : Asked → Option Path) (Missing : Path → Type 0) (asked : Option Asked) (form : Asked) (fault : Fault) {W : Type 0} (d : Device W) (w w' : W) (answer : Result (Unit {0}) Fault) (program : List ℕ)
    → Some form ≡ asked → IfSome (path_of form) (λ path. Missing path → IsIo fault) → Sends d (line_of program fault) w answer w'
    → IfSome (option_and_then path_of asked) (λ path. Missing path → Told d w w' (program ++ codes ": input or output failed\n"))
unopened_line {Asked = Asked} path_of Missing asked form fault d w w' answer program e missing sends =
    let told : Type 0 = Told d w w' (program ++ codes ": input or output failed\n") in
    subst (λ (o : Option Asked). IfSome (option_and_then path_of o) (λ path. Missing path → told)) e
    (if_some (path_of form) (λ path. Missing path → IsIo fault) (λ path. Missing path → told)
    (λ path io none. record { answer = answer; sends = io_line d w w' answer program fault (io none) sends }) missing)

-- What holds of the path of a form holds of the path that the arguments name.
pub of_place : {Asked Path : Type 0} (path_of : Asked → Option Path) (P : Path → Type 0) (asked : Option Asked) (form : Asked) → Some form ≡ asked → IfSome (path_of form) P → IfSome (option_and_then path_of asked) P
of_place {Asked = Asked} path_of P asked form e h = subst (λ (o : Option Asked). IfSome (option_and_then path_of o) P) e h

-- A file that was opened isn't missing: anything holds then.
pub none_missing : {Asked Path : Type 0} (path_of : Asked → Option Path) (Opened Missing Q : Path → Type 0) (asked : Option Asked) (form : Asked) → Some form ≡ asked → ((path : Path) → Opened path → Missing path → ⊥)
    → IfSome (path_of form) Opened → IfSome (option_and_then path_of asked) (λ path. Missing path → Q path)
none_missing path_of Opened Missing Q asked form e never opened =
    of_place path_of (λ path. Missing path → Q path) asked form e
    (if_some (path_of form) Opened (λ path. Missing path → Q path) (λ path there missing. absurd (never path there missing)) opened)

-- The file to read, or the one to append to, was opened and so isn't missing.
pub opened_there : {F A : Type 0} (is_written : Bool) (file : Option F) (append_to : Option A) → IsOpened is_written file append_to → IsMissing is_written file append_to → ⊥
opened_there false None append_to opened missing = false≢true opened
opened_there false (Some device) append_to opened missing = let none : Some device ≡ None = missing in absurd cc
opened_there true file None opened missing = false≢true opened
opened_there true file (Some device) opened missing = let none : Some device ≡ None = missing in absurd cc
