use Rattle.std.proofs.Common.{◌≡◌, drop}
use Rattle.std.specs.List.{list_all}
use Rattle.ipc_model.specs.Tests.{is_index}
use Rattle.ipc_schema_write.proofs.writable.are_indices.Given as goal

abbrev pub invariant-loop-id : goal.invariant-loop-id
invariant-loop-id l = list_all (λ x. is_index x 127) (drop l.id-index l.ids) ≡ list_all (λ x. is_index x 127) l.ids
