-- A message has a part: each reader gives what the part says, texts end in a zero byte, and
-- the sizes in vtables are right.
-- (Flatbuffers, "Internals".)
use Rattle.std.specs.Prelude.{ℕ, ◌+◌, ◌*◌, ◌≡◌, ◌≤◌, List, length, Some, None, Ok}
use Rattle.ipc_table_views.specs.Spot.{Spot, Vector}
use Rattle.ipc_table_views.specs.Tables.{bytes_at, number_at, slot_at, table_at, target_at, text_at, vector_at}
use Rattle.ipc_table_bytes.specs.Tree.{Part, text, elements, table, tables, Slots, no_slots, absent, number, offset, Parts, no_parts, part}

-- How many fields a table has.
abbrev pub count_slots : Slots → ℕ
count_slots no_slots = 0
count_slots (absent rest) = count_slots rest + 1
count_slots (number w x rest) = count_slots rest + 1
count_slots (offset x rest) = count_slots rest + 1

-- How many parts there are.
abbrev pub count_parts : Parts → ℕ
count_parts no_parts = 0
count_parts (part x xs) = count_parts xs + 1

-- The table at offset p of a message.
abbrev pub spot : List ℕ → ℕ → Spot
spot m p = record { message = m; place = p }

-- The vector at offset p of a message.
abbrev pub vector : List ℕ → ℕ → ℕ → Vector
vector m p count = record { message = m; place = p; count = count }

abbrev mutual
  -- The message has this part at offset t.
  pub HoldsPart : List ℕ → ℕ → Part → Type 0
  HoldsPart m t (text bytes) = (text_at m t ≡ Ok bytes) × (number_at 1 m (t + 4 + length bytes) ≡ Ok 0)
  HoldsPart m t (elements align size count bytes) =
      (vector_at size m t ≡ Ok (vector m (t + 4) count)) × (bytes_at (size * count) m (t + 4) ≡ Ok bytes)
  HoldsPart m t (table slots) =
      (v : ℕ) × (size : ℕ) × (table_at m t ≡ Ok (v, 4 + 2 * count_slots slots)) × (number_at 2 m (v + 2) ≡ Ok size) × HoldsSlots m t size 0 slots
  HoldsPart m t (tables parts) =
      (vector_at 4 m t ≡ Ok (vector m (t + 4) (count_parts parts))) × HoldsParts m (t + 4) parts

  -- The table at offset p, of `size` bytes, has these fields from field i on.
  pub HoldsSlots : List ℕ → ℕ → ℕ → ℕ → Slots → Type 0
  HoldsSlots m p size i no_slots = (k : ℕ) → slot_at m p (i + k) ≡ Ok None
  HoldsSlots m p size i (absent rest) = (slot_at m p i ≡ Ok None) × HoldsSlots m p size (i + 1) rest
  HoldsSlots m p size i (number width x rest) =
      ((q : ℕ) × (slot_at m p i ≡ Ok (Some q)) × (number_at width m q ≡ Ok x) × (q + width ≤ p + size)) × HoldsSlots m p size (i + 1) rest
  HoldsSlots m p size i (offset x rest) =
      ((q : ℕ) × (t : ℕ) × (slot_at m p i ≡ Ok (Some q)) × (target_at m q ≡ Ok t) × (q + 4 ≤ p + size) × HoldsPart m t x) × HoldsSlots m p size (i + 1) rest

  -- The offsets from offset q on lead to these parts.
  pub HoldsParts : List ℕ → ℕ → Parts → Type 0
  HoldsParts m q no_parts = Unit {0}
  HoldsParts m q (part x rest) =
      ((t : ℕ) × (target_at m q ≡ Ok t) × HoldsPart m t x) × HoldsParts m (q + 4) rest

-- The root of the message is a table with these fields.
abbrev pub HoldsRoot : List ℕ → Slots → Type 0
HoldsRoot m slots = (p : ℕ) × (number_at 4 m 0 ≡ Ok p) × HoldsPart m p (table slots)
