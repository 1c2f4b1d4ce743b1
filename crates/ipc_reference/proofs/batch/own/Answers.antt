use Rattle.std.proofs.Common.{ap, ◌∙◌, arith}
use Rattle.ipc_model.specs.Kinds.{nodes, buffers}
use Rattle.ipc_reference.proofs.Places.{own_is, part_long}
use Rattle.ipc_reference.specs.PlainKinds.{kinds_view}
use Rattle.ipc_reference.proofs.batch.own.Goals as goal

pub returns-clause-own : goal.returns-clause-own
returns-clause-own c =
    own_is c.args.entries.now.nodes.now c.args.entries.now.parts.now c.args.entries.now.order c.args.entries.now.extra (kinds_view c.args.kinds.now) c.args.index
    c.nodes_before-node.result c.node_count.result c.buffers_before-buffer.result c.buffer_count.result
    c.nodes_before-node.ensures.before (c.node_count.ensures ∙ ap nodes c.kind_at-kind.ensures)
    c.buffers_before-buffer.ensures.before (c.buffer_count.ensures ∙ ap (buffers c.args.entries.now.extra) c.kind_at-kind.ensures)

pub returns-clause-room : goal.returns-clause-room
returns-clause-room c = record {
  nodes_in =
      part_long c.args.entries.now.nodes.now c.nodes_before-node.result c.node_count.result _ (c.node_count.ensures ∙ ap nodes c.kind_at-kind.ensures)
      (omega (arith, c.nodes_before-node.ensures.inside, c.requires.enough.nodes_enough));
  buffers_in =
      part_long c.args.entries.now.parts.now c.buffers_before-buffer.result c.buffer_count.result _
      (c.buffer_count.ensures ∙ ap (buffers c.args.entries.now.extra) c.kind_at-kind.ensures)
      (omega (arith, c.buffers_before-buffer.ensures.inside, c.requires.enough.buffers_enough));
}
