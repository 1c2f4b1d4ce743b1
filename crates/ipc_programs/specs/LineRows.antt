-- Lines that report errors.
use Rattle.ipc_devices.specs.Device.{Device}
use Rattle.std.specs.Prelude.{◌≡◌, codes}
use Rattle.ipc_devices.specs.declared.fault.Fault.TheVariants.{Ended, Io, Memory}
use Rattle.ipc_programs.specs.Lines.{WritesCause, Told, line_of}

-- An error of either program: the name, a colon, a blank, the class, and the end of the line.
pub record LineRows : Type 0 where
  pub ended : line_of (codes "ipcat") Ended ≡ codes "ipcat: input ended\n"
  pub input_or_output : (error : _) → line_of (codes "ipconvert") (Io error) ≡ codes "ipconvert: input or output failed\n"
  pub no_memory : line_of (codes "ipconvert") Memory ≡ codes "ipconvert: no memory\n"

-- The reported line is that of the error that the reason names, and of no other;
-- without a reason nothing is reported.
pub record ReasonRows {W : Type 0} (d : Device W) (w w' : W) : Type 0 where
  pub of_one : WritesCause (codes "ipconvert") (λ e. e ≡ Ended) d w w' → Told d w w' (codes "ipconvert: input ended\n")
  pub of_none : ¬ WritesCause (codes "ipconvert") (λ e. ⊥) d w w'
