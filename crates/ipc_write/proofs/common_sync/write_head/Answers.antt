use Rattle.std.proofs.Common.{rules, ◌≡◌, ◌≤◌, ◌^◌, Err, Ok, ℕ, List, length, subst}
use Rattle.std.specs.Int.{next_multiple_of}
use Rattle.ipc_plan.specs.Sending.{Sends}
use Rattle.ipc_write.specs.Framing.{head_bytes}
use Rattle.ipc_write.specs.Sending.{SendsOrRefuses}
use Rattle.ipc_write.proofs.MessageSends.{head_is_message}
use Rattle.ipc_write.proofs.Sends.{or_fail, sent_as}
use Rattle.ipc_write.proofs.common_sync.write_head.Goals as goal

pub returns-in_err-write_metadata : goal.returns-in_err-write_metadata
returns-in_err-write_metadata g c =
    let bytes = c.args.metadata.now in
    let fault = c.in_err-write_metadata.field-0.0 in
    let e : c.from_residual.result ≡ Err fault = search rules in
    record {
      sends = rw e
          (subst (λ (xs : List ℕ). SendsOrRefuses {X = Unit {0}} g.W.Failures.device c.args.writer.now (Err fault) c.write_metadata.new.writer xs
          (2 ^ 31 ≤ next_multiple_of (length bytes) 8)) (head_is_message bytes)
          (or_fail ℕ (Unit {0}) g.W.Failures.device c.args.writer.now fault c.write_metadata.new.writer (head_bytes bytes) _
          c.in_err-write_metadata.ensures.sends));
    }

pub returns : goal.returns
returns g c =
    let bytes = c.args.metadata.now in
    record {
      sends =
          subst (λ (xs : List ℕ). Sends {X = Unit {0}} g.W.Failures.device xs c.args.writer.now (Ok tt) c.write_metadata.new.writer) (head_is_message bytes)
          (sent_as {X = ℕ} {Y = Unit {0}} _ _ _ _ tt (head_bytes bytes) c.in_ok-write_metadata.ensures.sends);
    }
