use Rattle.std.proofs.Common.{rules, ◌≡◌, ◌++◌, [], ◌∷◌, Err, List, map, subst, sym, inl, inr}
use Rattle.lower_types.specs.declared.Endianness.{Endianness}
use Rattle.lower_arrays.specs.AnyLayouts.{layout_of}
use Rattle.ipc_chunks.specs.Messages.{AreMessages, dictionaries_seen, message_seen}
use Rattle.ipc_schema_write.specs.WriterAnswers.{byte_order}
use Rattle.ipc_tracker.specs.Listings.{listed}
use Rattle.ipc_file_lemmas.specs.FileBytes.{Sent}
use Rattle.ipc_write.proofs.MessageSends.{same_order}
use Rattle.ipc_file_write.specs.Blocks.{HasBlocksFrom, RefusesBlockRoom, sent, sent_seen}
use Rattle.ipc_file_write.proofs.EncodedMessages.{bytes_sent, seen_sent}
use Rattle.ipc_file_write.proofs.Writes.{hands_all, hands_failed, hands_refused, messages_not_io, places_not_io}
use Rattle.ipc_file_write.proofs.sending.send_chunk.Goals as goal

pub returns-in_err-messages : goal.returns-in_err-messages
returns-in_err-messages g c =
    let columns = map layout_of c.args.columns.now in
    let list = map listed c.args.dictionaries.now in
    let fault = c.in_err-messages.field-0.0 in
    let e : c.from_residual.result ≡ Err fault = search rules in
    rw e
    (hands_refused g.W.Failures.device (byte_order c.args.is_little_endian) columns list c.args.place c.args.writer.now c.args.writer.now c.args.state.now c.args.state.now
    fault (inl c.in_err-messages.ensures.takes) (messages_not_io list columns fault c.in_err-messages.ensures.takes))

pub returns-in_err-placed : goal.returns-in_err-placed
returns-in_err-placed g c =
    let columns = map layout_of c.args.columns.now in
    let list = map listed c.args.dictionaries.now in
    let messages = c.in_ok-messages.messages in
    let fault = c.in_err-placed.field-0.0 in
    let e : c.from_residual-in_err-placed.result ≡ Err fault = search rules in
    let order = byte_order c.args.is_little_endian in
    let are : AreMessages order columns list (dictionaries_seen messages) (message_seen messages.record_batch) =
    subst (λ (o : Endianness). AreMessages o columns list (dictionaries_seen messages) (message_seen messages.record_batch)) (same_order c.args.is_little_endian) c.in_ok-messages.ensures.encodes in
    let refused : RefusesBlockRoom c.args.place (map sent (dictionaries_seen messages) ++ sent (message_seen messages.record_batch) ∷ []) fault =
    subst (λ (ws : List Sent). RefusesBlockRoom c.args.place (ws ++ sent_seen messages.record_batch ∷ []) fault) (sym (seen_sent messages.dictionaries.items)) c.in_err-placed.ensures.only in
    rw e
    (hands_refused g.W.Failures.device order columns list c.args.place c.args.writer.now c.args.writer.now c.args.state.now c.args.state.now fault
    (inr (record { dictionaries = dictionaries_seen messages; own = message_seen messages.record_batch; are = are; refused = refused }))
    (places_not_io c.args.place _ fault refused))

pub returns-in_err-send_messages : goal.returns-in_err-send_messages
returns-in_err-send_messages g c =
    let columns = map layout_of c.args.columns.now in
    let list = map listed c.args.dictionaries.now in
    let messages = c.in_ok-messages.messages in
    let fault = c.in_err-send_messages.field-0.0 in
    let e : c.from_residual-in_err-send_messages.result ≡ Err fault = search rules in
    let order = byte_order c.args.is_little_endian in
    let are : AreMessages order columns list (dictionaries_seen messages) (message_seen messages.record_batch) =
    subst (λ (o : Endianness). AreMessages o columns list (dictionaries_seen messages) (message_seen messages.record_batch)) (same_order c.args.is_little_endian) c.in_ok-messages.ensures.encodes in
    rw e
    (hands_failed g.W.Failures.device order columns list c.args.place c.args.writer.now c.send_messages.new.writer c.args.state.now c.send_messages.new.state fault
    (dictionaries_seen messages) (message_seen messages.record_batch) are (bytes_sent order columns list (dictionaries_seen messages) (message_seen messages.record_batch) are) c.in_err-send_messages.ensures.sends
    c.in_err-send_messages.ensures.failed)

pub returns : goal.returns
returns g c =
    let columns = map layout_of c.args.columns.now in
    let list = map listed c.args.dictionaries.now in
    let messages = c.in_ok-messages.messages in
    let order = byte_order c.args.is_little_endian in
    let are : AreMessages order columns list (dictionaries_seen messages) (message_seen messages.record_batch) =
    subst (λ (o : Endianness). AreMessages o columns list (dictionaries_seen messages) (message_seen messages.record_batch)) (same_order c.args.is_little_endian) c.in_ok-messages.ensures.encodes in
    let placed : HasBlocksFrom c.args.place (map sent (dictionaries_seen messages)) (sent (message_seen messages.record_batch)) c.in_ok-placed.placed =
    subst (λ (ws : List Sent). HasBlocksFrom c.args.place ws (sent_seen messages.record_batch) c.in_ok-placed.placed) (sym (seen_sent messages.dictionaries.items)) c.in_ok-placed.ensures.ok in
    hands_all g.W.Failures.device order columns list c.args.place c.args.writer.now c.send_messages.new.writer c.args.state.now c.send_messages.new.state c.in_ok-placed.placed
    (dictionaries_seen messages) (message_seen messages.record_batch) are (bytes_sent order columns list (dictionaries_seen messages) (message_seen messages.record_batch) are) c.in_ok-messages.ensures.takes placed
    c.in_ok-send_messages.ensures.sends c.in_ok-send_messages.ensures.stays
