use Rattle.std.proofs.Common.{◌≡◌, ◌+◌, drop}
use Rattle.ipc_model.specs.Kinds.{all_nodes}
use Rattle.ipc_reference.specs.PlainKinds.{kinds_view}
use Rattle.ipc_reference.proofs.batch.are_nodes_enough.Given as goal

abbrev pub invariant-loop-kind : goal.invariant-loop-kind
invariant-loop-kind l =
    l.rest + all_nodes (kinds_view l.kinds) ≡ l.count + all_nodes (kinds_view (drop l.kind-index l.kinds))
