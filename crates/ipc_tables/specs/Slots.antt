-- Numbers in fields of tables, and fields that may be absent.
-- (Flatbuffers, "Internals".)
use Rattle.std.specs.Prelude.{ℕ, ℤ, Bool, List, [], ◌∷◌, Option, Some, None, if◌then◌else◌}
use Rattle.std.specs.Int.{w32, w64, cast_signed, cast_unsigned}
use Rattle.byteorder.specs.Endian.{little_number}
use Rattle.ipc_table_bytes.specs.declared.build.Built.{Built}
use Rattle.ipc_table_bytes.specs.declared.build.Slot.{Slot}
use Rattle.ipc_table_bytes.specs.declared.build.Slot.TheVariants.{Absent, Number, Offset}
use Rattle.ipc_table_bytes.specs.Pads.{le}
use Rattle.ipc_table_bytes.specs.Parts.{IsPart}
pub use Rattle.ipc_table_bytes.specs.Readers.{optional, parts_of}
use Rattle.ipc_table_bytes.specs.Tree.{Part, Slots, no_slots, number}

-- A boolean as a number.
abbrev pub bit : Bool → ℕ
bit b = if b then 1 else 0

-- The bits of a signed 32-bit number.
abbrev pub bits32 : ℤ → ℕ
bits32 z = cast_unsigned w32 z

-- The bits of a signed 64-bit number.
abbrev pub bits64 : ℤ → ℕ
bits64 z = cast_unsigned w64 z

-- A table of one number.
abbrev pub number_slots : ℕ → ℕ → Slots
number_slots width x = number width x no_slots

-- The number that 32 bits have; a number of that width stays the same.
abbrev pub kept32 : ℤ → ℤ
kept32 z = cast_signed w32 (bits32 z)

-- The number that 64 bits have.
abbrev pub kept64 : ℤ → ℤ
kept64 z = cast_signed w64 (bits64 z)

-- The number that is read from the 4 bytes of another.
abbrev pub kept_bytes32 : ℤ → ℤ
kept_bytes32 z = cast_signed w32 (little_number 4 (le 4 (bits32 z)))

-- The number that is read from the 8 bytes of another.
abbrev pub kept_bytes64 : ℤ → ℤ
kept_bytes64 z = cast_signed w64 (little_number 8 (le 8 (bits64 z)))

-- The field must have the part, or be absent.
abbrev pub IsOptional : Slot → Option Part → Type 0
IsOptional Absent None = Unit {0}
IsOptional Absent (Some x) = ⊥
IsOptional (Number n) x = ⊥
IsOptional (Offset y) None = ⊥
IsOptional (Offset y) (Some x) = IsPart y x

-- The bytes at each index are the part there.
abbrev pub AreBuilt : List Built → List Part → Type 0
AreBuilt [] [] = Unit {0}
AreBuilt [] (x ∷ xs) = ⊥
AreBuilt (y ∷ ys) [] = ⊥
AreBuilt (y ∷ ys) (x ∷ xs) = IsPart y x × AreBuilt ys xs
