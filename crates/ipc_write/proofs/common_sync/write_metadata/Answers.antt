use Rattle.std.proofs.Common.{rules, ◌≡◌, ◌≤◌, ◌^◌, Err, ℕ, length}
use Rattle.std.specs.Int.{next_multiple_of}
use Rattle.ipc_write.specs.Framing.{head_bytes}
use Rattle.ipc_write.proofs.Messages.{head_sent, prefix_stop}
use Rattle.ipc_write.proofs.Sends.{failed_as, sends_or, sent_as}
use Rattle.ipc_write.proofs.common_sync.write_metadata.Goals as goal

pub returns-in_err-write_continuation-clause-sends : goal.returns-in_err-write_continuation-clause-sends
returns-in_err-write_continuation-clause-sends g c =
    let e : c.from_residual.result ≡ Err c.in_err-write_continuation.field-0.0 = search rules in
    rw e (sends_or {X = ℕ} g.W.Failures.device c.args.writer.now (Err c.in_err-write_continuation.field-0.0) c.write_continuation.new.writer
    (head_bytes c.args.metadata.now) (2 ^ 31 ≤ next_multiple_of (length c.args.metadata.now) 8) (prefix_stop {X = ℕ} {Y = ℕ} _ _ _ _ c.args.metadata.now _ (search rules) c.in_err-write_continuation.ensures.sends))

pub returns-in_err-write_padded-clause-sends : goal.returns-in_err-write_padded-clause-sends
returns-in_err-write_padded-clause-sends g c =
    let e : c.from_residual-in_err-write_padded.result ≡ Err c.in_err-write_padded.field-0.0 = search rules in
    rw e (sends_or {X = ℕ} g.W.Failures.device c.args.writer.now (Err c.in_err-write_padded.field-0.0) c.write_padded.new.writer
    (head_bytes c.args.metadata.now) (2 ^ 31 ≤ next_multiple_of (length c.args.metadata.now) 8) (failed_as {X = Unit {0}} {Y = ℕ} _ _ _ _ _
    (head_sent {X = ℕ} {Y = Unit {0}} _ _ _ _ _ _ c.args.metadata.now _ (search rules) c.in_ok-write_continuation.ensures.sends c.in_err-write_padded.ensures.sends)))

pub returns-clause-sends : goal.returns-clause-sends
returns-clause-sends g c =
    sent_as {X = Unit {0}} {Y = ℕ} _ _ _ tt _ _
    (head_sent {X = ℕ} {Y = Unit {0}} _ _ _ _ _ _ c.args.metadata.now _ (search rules) c.in_ok-write_continuation.ensures.sends c.in_ok-write_padded.ensures.sends)
