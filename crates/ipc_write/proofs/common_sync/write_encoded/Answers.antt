use Rattle.std.proofs.Common.{rules, ◌≡◌, Err, ℕ}
use Rattle.ipc_chunks.specs.Messages.{message_seen}
use Rattle.ipc_write.proofs.MessageSends.{body_after, head_unsent}
use Rattle.ipc_write.proofs.Sends.{failed_as, sent_as}
use Rattle.ipc_write.proofs.common_sync.write_encoded.Goals as goal

pub returns-in_err-head_len-clause-sends : goal.returns-in_err-head_len-clause-sends
returns-in_err-head_len-clause-sends g c =
    let m = message_seen c.args.encoded.now in
    let fault = c.in_err-head_len.field-0.0 in
    let e : c.from_residual.result ≡ Err fault = search rules in
    rw e
    (head_unsent ℕ (ℕ × ℕ) g.W.Failures.device c.args.writer.now fault c.write_metadata.new.writer m.metadata m.body
    c.requires.short c.requires.whole (rw c.deref.ensures.value at c.in_err-head_len.ensures.sends))

pub returns-in_err-send_pieces-clause-sends : goal.returns-in_err-send_pieces-clause-sends
returns-in_err-send_pieces-clause-sends g c =
    let m = message_seen c.args.encoded.now in
    let fault = c.in_err-send_pieces.field-0.0 in
    let e : c.from_residual-in_err-send_pieces.result ≡ Err fault = search rules in
    rw e
    (failed_as {X = Unit {0}} {Y = ℕ × ℕ} _ _ _ _ _
    (body_after ℕ (Unit {0}) g.W.Failures.device c.args.writer.now c.write_metadata.new.writer c.send_pieces.new.writer _ (Err fault) m.metadata m.body
    c.requires.short c.requires.whole (rw c.deref.ensures.value at c.in_ok-head_len.ensures.sends) (rw c.deref-2.ensures.value at c.in_err-send_pieces.ensures)))

pub returns-clause-sends : goal.returns-clause-sends
returns-clause-sends g c =
    let m = message_seen c.args.encoded.now in
    sent_as {X = Unit {0}} {Y = ℕ × ℕ} _ _ _ tt _ _
    (body_after ℕ (Unit {0}) g.W.Failures.device c.args.writer.now c.write_metadata.new.writer c.send_pieces.new.writer _ _ m.metadata m.body
    c.requires.short c.requires.whole (rw c.deref.ensures.value at c.in_ok-head_len.ensures.sends) (rw c.deref-2.ensures.value at c.in_ok-send_pieces.ensures))
