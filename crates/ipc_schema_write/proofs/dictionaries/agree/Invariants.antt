use Rattle.std.specs.HashMap.{get}
use Rattle.std.specs.Ordering.{int_eq}
use Rattle.ipc_schema_write.specs.Places.{places_view}
use Rattle.ipc_schema_write.proofs.PlaceAgreement.{AreFirst}
use Rattle.ipc_schema_write.proofs.dictionaries.agree.Given as goal

abbrev pub invariant-loop-i : goal.invariant-loop-i
invariant-loop-i l = AreFirst (places_view l.places) (get int_eq l.firsts) l.i
