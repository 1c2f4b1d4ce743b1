use Rattle.std.proofs.Common.{rules, ◌≡◌, ◌∙◌, Err, map, subst}
use Rattle.lower_types.specs.declared.Endianness.{Endianness}
use Rattle.lower_arrays.specs.AnyLayouts.{layout_of}
use Rattle.ipc_tracker.specs.Listings.{listed}
use Rattle.ipc_chunks.specs.Messages.{AreMessages, dictionaries_seen, message_seen}
use Rattle.ipc_write.proofs.MessageSends.{handing_refused, handing_sent, hands_refused, hands_sent, leaves_refused, leaves_sent, same_order}
use Rattle.ipc_write.proofs.Refusals.{of_messages}
use Rattle.ipc_write.proofs.stream.send_chunk.Goals as goal

pub returns-in_err-messages-clause-sends : goal.returns-in_err-messages-clause-sends
returns-in_err-messages-clause-sends g c =
    let columns = map layout_of c.args.columns.now in
    let list = map listed c.args.dictionaries.now in
    let fault = c.in_err-messages.field-0.0 in
    let e : c.from_residual.result ≡ Err fault = search rules in
    rw e
    (hands_refused g.W.Failures.device c.args.order columns list c.args.writer.now fault
    (of_messages list columns fault c.in_err-messages.ensures.takes))

pub returns-in_err-messages-clause-takes : goal.returns-in_err-messages-clause-takes
returns-in_err-messages-clause-takes g c =
    let columns = map layout_of c.args.columns.now in
    let list = map listed c.args.dictionaries.now in
    let fault = c.in_err-messages.field-0.0 in
    let e : c.from_residual.result ≡ Err fault = search rules in
    rw e (handing_refused list columns fault c.in_err-messages.ensures.takes)

pub returns-in_err-messages-clause-state : goal.returns-in_err-messages-clause-state
returns-in_err-messages-clause-state g c =
    let columns = map layout_of c.args.columns.now in
    let list = map listed c.args.dictionaries.now in
    let fault = c.in_err-messages.field-0.0 in
    let e : c.from_residual.result ≡ Err fault = search rules in
    rw e (leaves_refused c.args.state.now fault (of_messages list columns fault c.in_err-messages.ensures.takes))

pub returns-clause-sends : goal.returns-clause-sends
returns-clause-sends g c =
    let columns = map layout_of c.args.columns.now in
    let list = map listed c.args.dictionaries.now in
    let messages = c.in_ok-messages.messages in
    let are : AreMessages c.args.order columns list (dictionaries_seen messages) (message_seen messages.record_batch) =
    subst (λ (o : Endianness). AreMessages o columns list (dictionaries_seen messages) (message_seen messages.record_batch)) (same_order c.is_little_endian.result ∙ c.is_little_endian.ensures)
    c.in_ok-messages.ensures.encodes in
    rw c.note_failure.ensures.same
    (hands_sent g.W.Failures.device c.args.order columns list (dictionaries_seen messages) (message_seen messages.record_batch) c.args.writer.now
    c.write_messages-sent.new.writer c.write_messages-sent.result are c.write_messages-sent.ensures)

pub returns-clause-takes : goal.returns-clause-takes
returns-clause-takes g c =
    rw c.note_failure.ensures.same
    (handing_sent g.W.Failures.device (map listed c.args.dictionaries.now) (map layout_of c.args.columns.now) c.write_messages-sent.result _ c.write_messages-sent.ensures.only c.in_ok-messages.ensures.takes)

pub returns-clause-state : goal.returns-clause-state
returns-clause-state g c =
    rw c.note_failure.ensures.same (leaves_sent g.W.Failures.device c.args.state.now c.note_failure.new.state c.write_messages-sent.result c.write_messages-sent.ensures.only c.note_failure.ensures.stays c.note_failure.ensures.failed)
