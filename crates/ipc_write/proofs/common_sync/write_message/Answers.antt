use Rattle.std.proofs.Common.{rules, ◌≡◌, ◌++◌, ◌≤◌, ◌^◌, Err, ℕ, length}
use Rattle.std.specs.Int.{next_multiple_of}
use Rattle.ipc_write.specs.Framing.{head_bytes, message_bytes, padded}
use Rattle.ipc_write.proofs.Sends.{both_sent, failed_as, or_stop, sends_or, sent_as}
use Rattle.ipc_write.proofs.common_sync.write_message.Goals as goal

pub returns-in_err-head_len-clause-sends : goal.returns-in_err-head_len-clause-sends
unfolding message_bytes
returns-in_err-head_len-clause-sends g c =
    let e : c.from_residual.result ≡ Err c.in_err-head_len.field-0.0 = search rules in
    rw e (or_stop ℕ (ℕ × ℕ) g.W.Failures.device c.args.writer.now c.in_err-head_len.field-0.0 c.write_metadata.new.writer
    (head_bytes c.args.encoded.now.ipc_message.items) (padded c.args.encoded.now.arrow_data.items 64) (2 ^ 31 ≤ next_multiple_of (length c.args.encoded.now.ipc_message.items) 8) (rw c.deref.ensures.value at c.in_err-head_len.ensures.sends))

pub returns-in_err-write_padded-clause-sends : goal.returns-in_err-write_padded-clause-sends
unfolding message_bytes
returns-in_err-write_padded-clause-sends g c =
    let e : c.from_residual-in_err-write_padded.result ≡ Err c.in_err-write_padded.field-0.0 = search rules in
    rw e (sends_or {X = ℕ × ℕ} g.W.Failures.device c.args.writer.now (Err c.in_err-write_padded.field-0.0) c.write_padded.new.writer
    (head_bytes c.args.encoded.now.ipc_message.items ++ padded c.args.encoded.now.arrow_data.items 64) (2 ^ 31 ≤ next_multiple_of (length c.args.encoded.now.ipc_message.items) 8) (failed_as {X = Unit {0}} {Y = ℕ × ℕ} _ _ _ _ _
    (both_sent {X = ℕ} {Y = Unit {0}} _ _ _ _ _ _ _ _ (rw c.deref.ensures.value at c.in_ok-head_len.ensures.sends)
    (rw c.deref-2.ensures.value at c.in_err-write_padded.ensures.sends))))

pub returns-clause-sends : goal.returns-clause-sends
unfolding message_bytes
returns-clause-sends g c =
    sent_as {X = Unit {0}} {Y = ℕ × ℕ} _ _ _ tt _ _
    (both_sent {X = ℕ} {Y = Unit {0}} _ _ _ _ _ _ _ _ (rw c.deref.ensures.value at c.in_ok-head_len.ensures.sends)
    (rw c.deref-2.ensures.value at c.in_ok-write_padded.ensures.sends))
