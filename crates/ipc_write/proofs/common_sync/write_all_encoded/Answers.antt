use Rattle.std.proofs.Common.{rules, ◌≡◌, ◌+◌, ◌++◌, Err, ap, drop, map, sym, ◌∙◌, List}
use Rattle.std.proofs.lemmas.List.{drop_more}
use Rattle.ipc_encode.specs.declared.batches.Encoded.{Encoded}
use Rattle.ipc_plan.proofs.Sends.{before_more, before_stop}
use Rattle.ipc_write.specs.Framing.{message_bytes}
use Rattle.ipc_write.specs.Messages.{messages_bytes}
use Rattle.ipc_chunks.specs.Messages.{message_seen}
use Rattle.ipc_write.proofs.common_sync.write_all_encoded.Goals as goal

pub loop-message-preserved : goal.loop-message-preserved
loop-message-preserved g c =
    let i = c.loop-message.message-index in
    let xs = c.args.messages.now in
    let e = c.message-item.result in
    let left : messages_bytes (map message_seen (drop i xs)) ≡ message_bytes (message_seen e).metadata (message_seen e).body ++ messages_bytes (map message_seen (drop (i + 1) xs)) =
    ap (λ (es : List Encoded). messages_bytes (map message_seen es)) (drop_more xs i e c.loop-message-test.true)
    ∙ ap (λ (x : Encoded). message_bytes (message_seen x).metadata (message_seen x).body ++ messages_bytes (map message_seen (drop (i + 1) xs))) (sym c.message-item.is) in
    before_more _ _ _ _ _ _ _ _ _ c.loop-message.invariant left c.in_ok-write_encoded.ensures.sends

pub returns-in_err-write_encoded : goal.returns-in_err-write_encoded
returns-in_err-write_encoded g c =
    let i = c.loop-message.message-index in
    let xs = c.args.messages.now in
    let x = c.message-item.result in
    let left : messages_bytes (map message_seen (drop i xs)) ≡ message_bytes (message_seen x).metadata (message_seen x).body ++ messages_bytes (map message_seen (drop (i + 1) xs)) =
    ap (λ (es : List Encoded). messages_bytes (map message_seen es)) (drop_more xs i x c.loop-message-test.true)
    ∙ ap (λ (y : Encoded). message_bytes (message_seen y).metadata (message_seen y).body ++ messages_bytes (map message_seen (drop (i + 1) xs))) (sym c.message-item.is) in
    let e : c.from_residual.result ≡ Err c.in_err-write_encoded.field-0.0 = search rules in
    rw e (before_stop _ _ _ _ _ _ _ _ _ c.loop-message.invariant left c.in_err-write_encoded.ensures.sends)
