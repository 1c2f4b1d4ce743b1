-- The schema message that was written begins a stream: its version is 5, and
-- its length is a multiple of 8.
use Rattle.std.proofs.Common.{◌≡◌, ℕ, ◌+◌, ◌*◌, ◌%◌, List, length, Some, Ok, refl, ap, ◌∙◌, arith}
use Rattle.ipc_table_bytes.specs.Holds.{HoldsRoot, count_parts, count_slots, spot}
use Rattle.ipc_table_bytes.specs.Sizes.{message_size, parts_size, size_of, slots_size, whole}
use Rattle.ipc_table_bytes.specs.Tree.{Part, text, elements, table, tables, Slots, no_slots, absent, number, offset, Parts, no_parts, part}
use Rattle.ipc_table_views.specs.Enumerations.{version_of}
use Rattle.ipc_table_views.specs.MessageSlots.{message_version}
use Rattle.ipc_table_views.specs.Tables.{and_then, root_at, spot_at}
use Rattle.ipc_table_views.specs.declared.schema.MetadataVersion.TheVariants.{V5}
use Rattle.ipc_model.specs.Batches.{Schema}
use Rattle.ipc_model.specs.Schemas.{head_of, schema_of}
use Rattle.ipc_schema_write.proofs.SlotReads.{number-read, spot-held}

-- ---- sizes

whole-eighth : (n : ℕ) → whole n % 8 ≡ 0
whole-eighth n = omega arith

mutual
  pub size-eighth : (x : Part) → size_of x % 8 ≡ 0
  size-eighth (text bytes) = whole-eighth (4 + length bytes + 1)
  size-eighth (elements align size count bytes) = whole-eighth (8 + length bytes)
  size-eighth (table slots) = omega (arith, whole-eighth (4 + 2 * count_slots slots), slots-eighth slots)
  size-eighth (tables parts) = omega (arith, whole-eighth (4 + 4 * count_parts parts), parts-eighth parts)

  slots-eighth : (slots : Slots) → slots_size slots % 8 ≡ 0
  slots-eighth no_slots = refl
  slots-eighth (absent rest) = slots-eighth rest
  slots-eighth (number width x rest) = slots-eighth rest
  slots-eighth (offset x rest) = omega (arith, size-eighth x, slots-eighth rest)

  parts-eighth : (parts : Parts) → parts_size parts % 8 ≡ 0
  parts-eighth no_parts = refl
  parts-eighth (part x rest) = omega (arith, size-eighth x, parts-eighth rest)

-- a message has a multiple of 8 bytes
pub message-eighth : (slots : Slots) → message_size slots % 8 ≡ 0
message-eighth slots = omega (arith, size-eighth (table slots))

-- ---- versions

-- a schema message of version 5 begins a stream
pub head-written : (m : List ℕ) (slots : Slots) (long : ℕ) (schema : Schema) → schema_of m ≡ Some schema
    → HoldsRoot m (number 2 4 (number 1 1 (offset (table slots) (number 8 long (absent no_slots))))) → head_of m ≡ Some (record { schema = schema; version = V5 })
unfolding head_of
head-written m slots long schema means (p, root, (v, size, opened, sized, ((q0, e0, f0, g0), rest))) =
    let at_root : root_at m ≡ Ok (spot m p) =
    ap (λ r. and_then r (spot_at m)) root
    ∙ spot-held m p (number 2 4 (number 1 1 (offset (table slots) (number 8 long (absent no_slots))))) (v, size, opened, sized, ((q0, e0, f0, g0), rest)) in
    let version : message_version (spot m p) ≡ Ok V5 = ap (λ r. and_then r version_of) (number-read 2 0 m p 0 q0 4 e0 f0) in
    rw (means, at_root, version) refl
