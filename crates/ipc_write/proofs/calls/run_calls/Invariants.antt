use Rattle.std.proofs.Common.{◌≡◌, take}
use Rattle.lower.specs.TypeViews.{fields_view, pairs_of}
use Rattle.ipc_write.specs.Calls.{AreMade}
use Rattle.ipc_write.specs.Writers.{chosen_ids, seen}
use Rattle.ipc_write.proofs.calls.run_calls.Given as goal

-- The calls so far are made, and the ids are as they were.
abbrev pub invariant-loop-call : goal.invariant-loop-call
invariant-loop-call g l =
    (l.ipc_fields ≡ l.fn.ipc_fields) ×
    AreMade g.W.Failures.device (fields_view l.schema.fields.items) (pairs_of l.schema.metadata.entries)
    (chosen_ids l.fn.ipc_fields (fields_view l.schema.fields.items)) (seen l.fn.writer) (take l.call-index l.calls) l.answers.items (seen l.writer)
