use Rattle.std.proofs.Common.{rules, [], ◌∷◌}
use Rattle.lower_arrays.specs.Layouts.{len_of}
use Rattle.ipc_encode.specs.declared.batches.BatchKind.TheVariants.{Dictionary}
use Rattle.ipc_tracker.specs.Listings.{listed}
use Rattle.ipc_encode.specs.Appending.{order_of}
use Rattle.ipc_chunks.proofs.MessageLists.{seen_encoded, whole_encoded}
use Rattle.ipc_chunks.proofs.messages.encode_dictionary.Goals as goal

pub returns-clause-encodes : goal.returns-clause-encodes
returns-clause-encodes c =
    let made = c.in_ok-encoded.ensures in
    let p = listed c.args.dictionary.now in
    seen_encoded _ (Dictionary p.id) (order_of c.args.is_little_endian) _ (p.values ∷ []) _ (len_of p.values) c.in_ok-encoded.encoded made.batch.content made.batch.order_is (search rules) (search rules) (search rules)

pub returns-clause-whole : goal.returns-clause-whole
returns-clause-whole c = whole_encoded (order_of c.args.is_little_endian) c.in_ok-encoded.encoded c.in_ok-encoded.ensures.batch.end c.in_ok-encoded.ensures.batch.order_is
