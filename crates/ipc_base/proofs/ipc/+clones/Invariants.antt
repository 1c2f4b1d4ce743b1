use Rattle.std.proofs.Common.{◌≡◌, map, take}
use Rattle.ipc_base.specs.IdTrees.{ids_view}
use Rattle.ipc_base.proofs.ipc.+clones.Given as goal

abbrev pub invariant-clone_ipc_fields-loop-field : goal.invariant-clone_ipc_fields-loop-field
invariant-clone_ipc_fields-loop-field l = map ids_view l.copies.items ≡ map ids_view (take l.field-index l.field-items)
