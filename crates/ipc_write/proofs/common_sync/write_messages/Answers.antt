use Rattle.std.proofs.Common.{rules, ◌≡◌, Err, ℕ}
use Rattle.ipc_chunks.specs.Messages.{dictionaries_seen, message_seen}
use Rattle.ipc_write.proofs.MessageSends.{all_unsent, last_after}
use Rattle.ipc_write.proofs.Sends.{failed_as, sent_as}
use Rattle.ipc_write.proofs.common_sync.write_messages.Goals as goal

pub returns-in_err-write_all_encoded : goal.returns-in_err-write_all_encoded
returns-in_err-write_all_encoded g c =
    let ms = c.args.messages.now in
    let fault = c.in_err-write_all_encoded.field-0.0 in
    let e : c.from_residual.result ≡ Err fault = search rules in
    rw e (all_unsent (Unit {0}) (Unit {0}) _ _ _ fault (dictionaries_seen ms) (message_seen ms.record_batch) (rw c.deref.ensures.value at c.in_err-write_all_encoded.ensures))

pub returns-in_err-write_encoded : goal.returns-in_err-write_encoded
returns-in_err-write_encoded g c =
    let ms = c.args.messages.now in
    let fault = c.in_err-write_encoded.field-0.0 in
    let e : c.from_residual-in_err-write_encoded.result ≡ Err fault = search rules in
    rw e
    (failed_as {X = ℕ × ℕ} {Y = Unit {0}} _ _ _ _ _
    (last_after (Unit {0}) (ℕ × ℕ) _ _ _ _ _ _ (dictionaries_seen ms) (message_seen ms.record_batch) (rw c.deref.ensures.value at c.in_ok-write_all_encoded.ensures) c.in_err-write_encoded.ensures.sends))

pub returns : goal.returns
returns g c =
    let ms = c.args.messages.now in
    sent_as {X = ℕ × ℕ} {Y = Unit {0}} _ _ _ _ tt _
    (last_after (Unit {0}) (ℕ × ℕ) _ _ _ _ _ _ (dictionaries_seen ms) (message_seen ms.record_batch) (rw c.deref.ensures.value at c.in_ok-write_all_encoded.ensures) c.in_ok-write_encoded.ensures.sends)
