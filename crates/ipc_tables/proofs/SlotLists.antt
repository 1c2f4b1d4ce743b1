-- The fields of a table, one by one.
use Rattle.std.proofs.Common.{◌≡◌, ℕ, ◌^◌, ◌<◌, List, ◌∷◌, Option, None, Some, refl, arith}
use Rattle.ipc_table_bytes.specs.declared.build.Slot.{Slot}
use Rattle.ipc_table_bytes.specs.declared.build.Slot.TheVariants.{Absent, Number, Offset}
use Rattle.ipc_table_bytes.specs.Parts.{AreSlots, is_absent, is_number, is_offset}
use Rattle.ipc_table_bytes.specs.Tree.{Part, Slots, number}
use Rattle.ipc_tables.specs.Slots.{IsOptional, optional}

pub is_optional : (slot : Slot) (x : Option Part) {slots : List Slot} {rest : Slots} → IsOptional slot x → AreSlots slots rest → AreSlots (slot ∷ slots) (optional x rest)
is_optional Absent None is a = is_absent a
is_optional Absent (Some x) is a = absurd is
is_optional (Number n) x is a = absurd is
is_optional (Offset y) None is a = absurd is
is_optional (Offset y) (Some x) is a = is_offset is a

-- a number of 1, 2, 4 or 8 bytes
pub is_byte : {slots : List Slot} {rest : Slots} {x y : ℕ} → x ≡ y → x < 256 → AreSlots slots rest → AreSlots (Number x ∷ slots) (number 1 y rest)
is_byte e h a = is_number e (omega arith) refl (omega arith) a

pub is_short : {slots : List Slot} {rest : Slots} {x y : ℕ} → x ≡ y → x < 2 ^ 16 → AreSlots slots rest → AreSlots (Number x ∷ slots) (number 2 y rest)
is_short e h a = is_number e (omega arith) refl (omega arith) a

pub is_word : {slots : List Slot} {rest : Slots} {x y : ℕ} → x ≡ y → x < 2 ^ 32 → AreSlots slots rest → AreSlots (Number x ∷ slots) (number 4 y rest)
is_word e h a = is_number e (omega arith) refl (omega arith) a

pub is_long : {slots : List Slot} {rest : Slots} {x y : ℕ} → x ≡ y → x < 2 ^ 64 → AreSlots slots rest → AreSlots (Number x ∷ slots) (number 8 y rest)
is_long e h a = is_number e (omega arith) refl (omega arith) a
