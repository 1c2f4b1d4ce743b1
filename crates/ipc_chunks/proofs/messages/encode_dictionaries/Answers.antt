use Rattle.std.proofs.Common.{rules, ◌≡◌, Err, inl}
use Rattle.std.proofs.lemmas.List.Elements.{All-push}
use Rattle.ipc_encode.specs.Appending.{order_of}
use Rattle.ipc_chunks.specs.Messages.{HasWholeBody}
use Rattle.ipc_chunks.proofs.MessageLists.{refused_at, values_next}
use Rattle.ipc_chunks.proofs.messages.encode_dictionaries.Goals as goal

pub loop-dictionary-preserved : goal.loop-dictionary-preserved
loop-dictionary-preserved c = record {
  values =
      rw c.in_ok-push.ensures.items
      (values_next (order_of c.args.is_little_endian) c.args.dictionaries.now c.loop-dictionary.dictionary-index c.dictionary-item.result _ c.loop-dictionary.encoded.items
      c.in_ok-encode_dictionary.field-0 c.loop-dictionary-test.true c.dictionary-item.is c.loop-dictionary.invariant.values c.in_ok-encode_dictionary.ensures.encodes);
  whole =
      rw c.in_ok-push.ensures.items
      (All-push HasWholeBody c.loop-dictionary.encoded.items c.in_ok-encode_dictionary.field-0 c.loop-dictionary.invariant.whole c.in_ok-encode_dictionary.ensures.whole);
}

pub returns-in_err-encode_dictionary-clause-refused : goal.returns-in_err-encode_dictionary-clause-refused
returns-in_err-encode_dictionary-clause-refused c =
    let fault = c.in_err-encode_dictionary.field-0.0 in
    let e : c.from_residual.result ≡ Err fault = search rules in
    rw e
    (inl
    (refused_at c.args.dictionaries.now c.loop-dictionary.dictionary-index c.dictionary-item.result _ fault c.loop-dictionary-test.true c.dictionary-item.is
    c.in_err-encode_dictionary.ensures.refused))
