-- How many bytes a part takes with all parts that it leads to.
-- (Flatbuffers, "Internals".)
use Rattle.std.specs.Prelude.{ℕ, ◌+◌, ◌*◌, length}
use Rattle.ipc_table_bytes.specs.Holds.{count_slots, count_parts}
use Rattle.ipc_table_bytes.specs.Pads.{missing}
use Rattle.ipc_table_bytes.specs.Tree.{Part, text, elements, table, tables, Slots, no_slots, absent, number, offset, Parts, no_parts, part}

-- A size rounded up to a multiple of 8.
abbrev pub whole : ℕ → ℕ
whole n = n + missing n

abbrev mutual
  -- How many bytes a part takes.
  pub size_of : Part → ℕ
  size_of (text bytes) = whole (4 + length bytes + 1)
  size_of (elements align size count bytes) = whole (8 + length bytes)
  -- The vtable, the offset to it, 8 bytes for each field, and the parts below.
  size_of (table slots) = whole (4 + 2 * count_slots slots) + (8 + (8 * count_slots slots + slots_size slots))
  -- The count, the offsets, and the parts.
  size_of (tables parts) = whole (4 + 4 * count_parts parts) + parts_size parts

  -- How many bytes the parts of some fields take.
  pub slots_size : Slots → ℕ
  slots_size no_slots = 0
  slots_size (absent rest) = slots_size rest
  slots_size (number width x rest) = slots_size rest
  slots_size (offset x rest) = size_of x + slots_size rest

  -- How many bytes some parts take.
  pub parts_size : Parts → ℕ
  parts_size no_parts = 0
  parts_size (part x rest) = size_of x + parts_size rest

-- How many bytes a message takes whose root is this table.
abbrev pub message_size : Slots → ℕ
message_size slots = 8 + size_of (table slots)
