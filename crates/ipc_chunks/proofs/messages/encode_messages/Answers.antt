use Rattle.std.proofs.Common.{rules, ◌≡◌, ◌∙◌, Err, ℕ, map, inr, subst}
use Rattle.lower_arrays.specs.AnyLayouts.{layout_of}
use Rattle.lower_arrays.specs.Layouts.{len_of}
use Rattle.ipc_base.specs.Chunks.{row_count}
use Rattle.ipc_chunks.proofs.Rows.{have_rows, rows_same}
use Rattle.ipc_encode.specs.Appending.{order_of}
use Rattle.ipc_encode.specs.Encoding.{IsEncodable, RefusesBatch, levels_of}
use Rattle.ipc_encode.specs.declared.batches.BatchKind.TheVariants.{Record}
use Rattle.ipc_chunks.proofs.MessageLists.{all_sendable, seen_encoded, sendable, whole_encoded}
use Rattle.ipc_chunks.proofs.messages.encode_messages.Goals as goal

pub returns-clause-encodes : goal.returns-clause-encodes
returns-clause-encodes c =
    let made = c.in_ok-record_batch.ensures in
    record {
      values = search rules;
      rows = have_rows c.args.columns.now c.len-rows.ensures.equal;
      record_is =
          seen_encoded _ Record (order_of c.args.is_little_endian) _ (map layout_of c.args.columns.now) _ (row_count len_of (map layout_of c.args.columns.now)) c.in_ok-record_batch.record_batch made.batch.content made.batch.order_is (search rules) (search rules)
          (c.len-rows.ensures.rows ∙ rows_same c.args.columns.now);
    }

pub returns-clause-sendable : goal.returns-clause-sendable
returns-clause-sendable c =
    let made = returns-clause-encodes c in
    record {
      dictionaries = all_sendable (order_of c.args.is_little_endian) _ c.in_ok-dictionaries.dictionaries.items made.values;
      record_batch = sendable Record (order_of c.args.is_little_endian) _ _ c.in_ok-record_batch.record_batch made.record_is;
    }

pub returns-clause-whole : goal.returns-clause-whole
returns-clause-whole c = record {
  dictionaries = c.in_ok-dictionaries.ensures.whole;
  record_batch = whole_encoded (order_of c.args.is_little_endian) c.in_ok-record_batch.record_batch c.in_ok-record_batch.ensures.batch.end c.in_ok-record_batch.ensures.batch.order_is;
}

pub returns-clause-takes : goal.returns-clause-takes
returns-clause-takes c =
    let ls = map layout_of c.args.columns.now in
    let rows = c.len-rows.ensures.rows ∙ rows_same c.args.columns.now in
    subst (λ (n : ℕ). IsEncodable Record n (levels_of ls)) rows (rw c.arrays.ensures.columns at c.in_ok-record_batch.ensures.exact)

pub returns-in_err-record_batch-clause-takes : goal.returns-in_err-record_batch-clause-takes
returns-in_err-record_batch-clause-takes c =
    let ls = map layout_of c.args.columns.now in
    let rows = c.len-rows.ensures.rows ∙ rows_same c.args.columns.now in
    let fault = c.in_err-record_batch.field-0.0 in
    let e : c.from_residual-in_err-record_batch.result ≡ Err fault = search rules in
    rw e (inr (subst (λ (n : ℕ). RefusesBatch Record n (levels_of ls) fault) rows (rw c.arrays.ensures.columns at c.in_err-record_batch.ensures.exact)))
