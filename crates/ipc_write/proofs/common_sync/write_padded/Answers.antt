use Rattle.std.proofs.Common.{rules, ◌≡◌, Err}
use Rattle.ipc_write.specs.Framing.{padded}
use Rattle.ipc_plan.proofs.Sends.{sends_stop}
use Rattle.ipc_write.proofs.Sends.{both_sent}
use Rattle.ipc_write.proofs.common_sync.write_padded.Goals as goal

pub returns-in_err-send_bytes : goal.returns-in_err-send_bytes
unfolding padded
returns-in_err-send_bytes g c =
    let e : c.from_residual.result ≡ Err c.in_err-send_bytes.field-0.0 = search rules in
    record { sends = rw e (sends_stop {X = Unit {0}} {Y = Unit {0}} _ _ _ _ c.args.bytes.now _ c.in_err-send_bytes.ensures) }

pub returns : goal.returns
unfolding padded
returns g c =
    record {
      sends = both_sent {X = Unit {0}} {Y = Unit {0}} _ _ _ _ _ _ c.args.bytes.now _ c.in_ok-send_bytes.ensures
          (rw (← c.padding.ensures.value, ← c.zeros.ensures) c.send_bytes-2.ensures);
    }
