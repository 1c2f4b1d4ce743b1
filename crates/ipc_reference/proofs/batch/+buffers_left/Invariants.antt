use Rattle.std.proofs.Common.{◌≡◌, ◌+◌, drop}
use Rattle.ipc_model.specs.Kinds.{buffers, all_buffers}
use Rattle.ipc_reference.specs.PlainKinds.{kind_view, kinds_view}
use Rattle.ipc_reference.proofs.batch.+buffers_left.Given as goal

abbrev pub invariant-loop-field : goal.invariant-loop-field
invariant-loop-field l =
    l.rest + buffers l.extra (kind_view l.kind) ≡ l.count + all_buffers l.extra (kinds_view (drop l.field-index l.field-items))
