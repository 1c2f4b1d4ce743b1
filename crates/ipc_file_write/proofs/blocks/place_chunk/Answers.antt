use Rattle.std.proofs.Common.{rules, ◌≡◌, [], ◌∷◌, Err, map, refl}
use Rattle.ipc_file_write.specs.Blocks.{sent_seen}
use Rattle.ipc_file_write.proofs.PlacedMessages.{chunk-placed, placed-front, refused-front}
use Rattle.ipc_file_write.proofs.blocks.place_chunk.Goals as goal

pub returns-in_err-dictionaries-clause-only : goal.returns-in_err-dictionaries-clause-only
returns-in_err-dictionaries-clause-only c =
    let messages = c.args.messages.now in
    let fault = c.in_err-dictionaries.field-0.0 in
    let e : c.from_residual.result ≡ Err fault = search rules in
    rw e (refused-front c.args.place (map sent_seen messages.dictionaries.items) (sent_seen messages.record_batch ∷ []) fault (rw c.deref.ensures.value at c.in_err-dictionaries.ensures.only))

pub returns-in_err-record_batch-clause-only : goal.returns-in_err-record_batch-clause-only
returns-in_err-record_batch-clause-only c =
    let messages = c.args.messages.now in
    let fault = c.in_err-record_batch.field-0.0 in
    let e : c.from_residual-in_err-record_batch.result ≡ Err fault = search rules in
    rw e (placed-front c.args.place c.in_ok-dictionaries.behind (map sent_seen messages.dictionaries.items) (sent_seen messages.record_batch) fault (rw c.deref.ensures.value at c.in_ok-dictionaries.ensures.end) c.in_err-record_batch.ensures.only)

pub returns-clause-ok : goal.returns-clause-ok
returns-clause-ok c =
    let messages = c.args.messages.now in
    chunk-placed c.args.place c.in_ok-dictionaries.behind c.in_ok-record_batch.end (map sent_seen messages.dictionaries.items) (sent_seen messages.record_batch) c.in_ok-dictionaries.dictionaries.items c.in_ok-record_batch.record_batch _
    (rw c.deref.ensures.value at c.in_ok-dictionaries.ensures.places) (rw c.deref.ensures.value at c.in_ok-dictionaries.ensures.end) c.in_ok-record_batch.ensures.block c.in_ok-record_batch.ensures.end c.in_ok-record_batch.ensures.short refl refl refl
