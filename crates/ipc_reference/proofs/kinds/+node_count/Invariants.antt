use Rattle.std.proofs.Common.{◌≡◌, ◌+◌, drop}
use Rattle.ipc_model.specs.Kinds.{nodes, all_nodes}
use Rattle.ipc_reference.specs.PlainKinds.{kind_view, kinds_view}
use Rattle.ipc_reference.proofs.kinds.+node_count.Given as goal

abbrev pub invariant-loop-field : goal.invariant-loop-field
invariant-loop-field l =
    l.count + all_nodes (kinds_view (drop l.field-index l.field-items)) ≡ nodes (kind_view l.kind)
