-- The message of a schema reads as the schema.
use Rattle.std.proofs.Common.{◌≡◌, ℕ, List, Some, Ok, ap, ◌∙◌, arith}
use Rattle.ipc_table_bytes.specs.Holds.{HoldsPart, HoldsRoot, spot}
use Rattle.ipc_table_bytes.specs.Tree.{Slots, absent, no_slots, number, offset, table}
use Rattle.ipc_table_views.specs.MessageSlots.{message_header}
use Rattle.ipc_table_views.specs.Tables.{and_then, root_at, spot_at}
use Rattle.ipc_model.specs.Batches.{Schema}
use Rattle.ipc_model.specs.Schemas.{schema_at, schema_of}
use Rattle.ipc_schema_write.proofs.SlotReads.{number-read, offset-read, union-read, spot-held}

-- a message whose header is the table of a schema
pub message-reads : (m : List ℕ) (version length : ℕ) (slots : Slots) (seen : Schema) → ((p : ℕ) → HoldsPart m p (table slots) → schema_at (spot m p) ≡ Some seen)
    → HoldsRoot m (number 2 version (number 1 1 (offset (table slots) (number 8 length (absent no_slots))))) → schema_of m ≡ Some seen
unfolding schema_of
message-reads m version length slots seen read (p, root, (v, size, opened, sized, ((q0, e0, f0, g0), ((q1, e1, f1, g1), ((q2, t2, e2, f2, g2, h2), rest))))) =
    let at_root : root_at m ≡ Ok (spot m p) =
    ap (λ r. and_then r (spot_at m)) root
    ∙ spot-held m p (number 2 version (number 1 1 (offset (table slots) (number 8 length (absent no_slots)))))
    (v, size, opened, sized, ((q0, e0, f0, g0), ((q1, e1, f1, g1), ((q2, t2, e2, f2, g2, h2), rest)))) in
    let header : message_header (spot m p) ≡ Ok (Some (1, spot m t2)) =
    union-read 5 m p 1 1 (spot m t2) (number-read 1 0 m p 1 q1 1 e1 f1) (omega arith) (omega arith)
    (offset-read m p 2 q2 t2 (spot_at m) (spot m t2) e2 f2 (spot-held m t2 slots h2)) in
    rw (at_root, header) (read t2 h2)
