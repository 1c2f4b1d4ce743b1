-- Each case is computed.
use Rattle.ipc_devices.specs.Device.{Device}
use Rattle.std.proofs.Common.{codes, refl, subst}
use Rattle.ipc_devices.specs.declared.fault.Fault.{Fault}
use Rattle.ipc_plan.specs.Sending.{Sends}
use Rattle.ipc_programs.specs.LineRows.{LineRows, ReasonRows}
use Rattle.ipc_programs.specs.Lines.{line_of}

pub line_rows : LineRows
line_rows = record { ended = refl; input_or_output = λ error. refl; no_memory = refl }

pub reason_rows : {W : Type 0} (d : Device W) (w w' : W) → ReasonRows d w w'
reason_rows d w w' = record {
  of_one = λ h. record { answer = h.answer; sends = subst (λ (e : Fault). Sends d (line_of (codes "ipconvert") e) w h.answer w') h.why h.sends };
  of_none = λ h. h.why;
}
