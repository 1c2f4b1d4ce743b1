-- What the programs report of an error.
use Rattle.ipc_devices.specs.Device.{Device}
use Rattle.std.specs.Prelude.{ℕ, List, ◌++◌, codes, Result}
use Rattle.ipc_devices.specs.declared.fault.Fault.{Fault}
use Rattle.ipc_plan.specs.Sending.{Sends}
use Rattle.ipc_programs.specs.Classes.{class}

-- The line that a program reports when an error ends it.
abbrev pub line_of : List ℕ → Fault → List ℕ
line_of program fault = program ++ (codes ": " ++ (class fault ++ codes "\n"))

-- These bytes were sent to a device, or the first of them until it failed, and nothing else.
pub record Told {W : Type 0} (d : Device W) (w w' : W) (bytes : List ℕ) : Type 0 where
  pub answer : Result Unit Fault
  pub sends : Sends d bytes w answer w'

-- The line of an error was sent to a device, and `Why` holds of the error.
pub record WritesCause (program : List ℕ) (Why : Fault → Type 0) {W : Type 0} (d : Device W) (w w' : W) : Type 0 where
  pub fault : Fault
  pub why : Why fault
  pub answer : Result Unit Fault
  pub sends : Sends d (line_of program fault) w answer w'
