use Rattle.std.proofs.Common.{ℕ, ◌^◌, ◌<◌, map, length, rules, subst, ◌∙◌}
use Rattle.std.proofs.lemmas.Result.{err_from_is_err_and}
use Rattle.lower_types.specs.declared.Endianness.{Endianness}
use Rattle.lower_arrays.specs.AnyLayouts.{layout_of}
use Rattle.ipc_plan.specs.Bodies.{PlansColumns}
use Rattle.ipc_encode.specs.Appending.{order_of}
use Rattle.ipc_encode.specs.Encoding.{levels_of}
use Rattle.ipc_encode.proofs.Encoded.{encoded, kept_end, kept_few, message_length, refused_message, short_metadata}
use Rattle.ipc_encode.proofs.batches.encode_batch.Goals as goal

pub returns-in_err-metadata-clause-exact : goal.returns-in_err-metadata-clause-exact
returns-in_err-metadata-clause-exact c =
    let ls = map layout_of c.args.columns.now in
    let made = c.plan_to_message-message in
    let e = err_from_is_err_and c.from_residual-in_err-metadata.result c.from_residual-in_err-metadata.ensures.1 in
    rw (e.1, e.2)
    (refused_message c.args.kind c.args.rows _ (levels_of ls) c.in_err-metadata.field-0.0
    (message_length c.args.kind c.byte_order.result ls c.in_ok-plan.plan made.result _ c.in_ok-plan.ensures.plans made.ensures.value) c.in_err-metadata.ensures.encodes)

pub returns-clause-batch : goal.returns-clause-batch
returns-clause-batch c =
    let ls = map layout_of c.args.columns.now in
    let p = c.in_ok-plan.plan in
    let order = order_of c.args.is_little_endian in
    let made = c.plan_to_message-message in
    let plans : PlansColumns order ls p = subst (λ (o : Endianness). PlansColumns o ls p) c.byte_order.ensures c.in_ok-plan.ensures.plans in
    let takes = c.in_ok-plan.ensures.takes in
    record {
      content =
          encoded c.args.kind order ls c.args.rows p made.new.plan made.result _ c.in_ok-metadata.metadata.items c.in_ok-plan.ensures.arrays plans takes.0 takes.1 takes.2 made.ensures.value made.ensures.fits
          (search rules) (search rules) c.in_ok-metadata.ensures.encodes (c.in_ok-metadata.ensures.reads 0) made.ensures.pieces;
      order_is = made.ensures.order ∙ plans.order_is;
      end = kept_end order ls p made.new.plan plans made.ensures.pieces made.ensures.end;
      few = kept_few order ls p made.new.plan plans made.ensures.pieces;
      moved = made.ensures.moved;
    }

pub returns-clause-exact : goal.returns-clause-exact
returns-clause-exact c =
    let ls = map layout_of c.args.columns.now in
    let p = c.in_ok-plan.plan in
    let made = c.plan_to_message-message in
    let takes = c.in_ok-plan.ensures.takes in
    let encodes = c.in_ok-metadata.ensures.encodes in
    record {
      few_rows = search rules;
      short = takes.0;
      body = subst (λ (n : ℕ). n < 2 ^ 63) takes.1 takes.2;
      metadata =
          short_metadata (length c.in_ok-metadata.metadata.items) _ _ encodes.size encodes.small
          (message_length c.args.kind c.byte_order.result ls p made.result _ c.in_ok-plan.ensures.plans made.ensures.value);
    }
