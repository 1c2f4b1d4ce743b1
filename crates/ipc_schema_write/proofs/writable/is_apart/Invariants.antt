use Rattle.std.proofs.Common.{◌≡◌, drop, not}
use Rattle.std.specs.List.{list_all}
use Rattle.std.specs.Ordering.{int_eq}
use Rattle.ipc_schema_write.proofs.writable.is_apart.Given as goal

abbrev pub invariant-loop-other : goal.invariant-loop-other
invariant-loop-other l = list_all (λ y. not (int_eq l.id y)) (drop l.other-index l.others) ≡ list_all (λ y. not (int_eq l.id y)) l.others
