-- The regions that a message's parts take, in the order in which they are written.
-- (Flatbuffers, "Internals": tables, vtables, vectors, strings; alignment.)
use Rattle.std.specs.Prelude.{ℕ, ◌≡◌, ◌+◌, ◌*◌, ◌%◌, ◌≤◌, List, [], ◌∷◌, ◌++◌, ◌⊎◌, length, Option, Some, None, Result, Ok, Err}
use Rattle.std.specs.List.{All, AllPairs}
use Rattle.ipc_devices.specs.declared.fault.TableFault.{TableFault}
use Rattle.ipc_table_bytes.specs.Holds.{count_parts, count_slots}
use Rattle.ipc_table_bytes.specs.Tree.{Part, text, elements, table, tables, Slots, no_slots, absent, number, offset, Parts, no_parts, part}
use Rattle.ipc_table_views.specs.Tables.{Opened, number_at, slot_at, target_at, table_at}

-- Some bytes from an offset on, which must be a multiple of `align`.
pub record Region : Type 0 where
  pub align : ℕ
  pub from : ℕ
  pub size : ℕ

-- The region of these bytes.
abbrev pub region : ℕ → ℕ → ℕ → Region
region align from size = record { align = align; from = from; size = size }

-- The offset of a field's value; 0 if it is absent or invalid.
abbrev pub slot_place : Result (Option ℕ) TableFault → ℕ
slot_place (Ok (Some q)) = q
slot_place (Ok None) = 0
slot_place (Err e) = 0

-- The offset that another offset leads to; 0 if it is invalid.
abbrev pub target_place : Result ℕ TableFault → ℕ
target_place (Ok t) = t
target_place (Err e) = 0

-- The offset of a table's vtable; 0 if it is invalid.
abbrev pub vtable_place : Result Opened TableFault → ℕ
vtable_place (Ok v) = v.0
vtable_place (Err e) = 0

-- How many bytes a table's vtable says that it has; 0 if it is invalid.
abbrev pub vtable_stated : Result Opened TableFault → ℕ
vtable_stated (Ok v) = v.1
vtable_stated (Err e) = 0

-- How many bytes a table has, by its vtable.
abbrev pub stated_size : List ℕ → ℕ → ℕ
stated_size m t = target_place (number_at 2 m (vtable_place (table_at m t) + 2))

-- The regions of the values in the fields from field i on of the table at t.
abbrev pub inline_regions : List ℕ → ℕ → ℕ → Slots → List Region
inline_regions m t i no_slots = []
inline_regions m t i (absent rest) = inline_regions m t (i + 1) rest
inline_regions m t i (number w x rest) = region w (slot_place (slot_at m t i)) w ∷ inline_regions m t (i + 1) rest
inline_regions m t i (offset x rest) = region 4 (slot_place (slot_at m t i)) 4 ∷ inline_regions m t (i + 1) rest

-- The regions of the offsets of a vector from offset q on.
abbrev pub offset_regions : ℕ → Parts → List Region
offset_regions q no_parts = []
offset_regions q (part x rest) = region 4 q 4 ∷ offset_regions (q + 4) rest

-- A message is checked part by part, or value by value.
pub data Grain : Type 0 where
  by_part : Grain
  by_value : Grain

-- The regions of the part at t itself. By parts: vtable and table by their stated sizes, and a
-- vector as a whole. By values: each number, offset and element.
abbrev pub own_regions : Grain → List ℕ → ℕ → Part → List Region
own_regions g m t (text bytes) = region 4 t (4 + length bytes + 1) ∷ []
own_regions by_part m t (elements align size count bytes) = region 4 t (4 + size * count) ∷ []
own_regions by_value m t (elements align size count bytes) = region 4 t 4 ∷ (region align (t + 4) (size * count) ∷ [])
own_regions by_part m t (table slots) = region 2 (vtable_place (table_at m t)) (vtable_stated (table_at m t)) ∷ (region 4 t (stated_size m t) ∷ [])
own_regions by_value m t (table slots) = region 2 (vtable_place (table_at m t)) (4 + 2 * count_slots slots) ∷ (region 4 t 4 ∷ inline_regions m t 0 slots)
own_regions by_part m t (tables xs) = region 4 t (4 + 4 * count_parts xs) ∷ []
own_regions by_value m t (tables xs) = region 4 t 4 ∷ offset_regions (t + 4) xs

abbrev mutual
  -- The regions of the part at t and of all parts that it leads to.
  pub regions : Grain → List ℕ → ℕ → Part → List Region
  regions g m t (text bytes) = own_regions g m t (text bytes)
  regions g m t (elements align size count bytes) = own_regions g m t (elements align size count bytes)
  regions g m t (table slots) = own_regions g m t (table slots) ++ child_regions g m t 0 slots
  regions g m t (tables xs) = own_regions g m t (tables xs) ++ part_regions g m (t + 4) xs

  -- The regions of the parts that the fields from field i on lead to.
  pub child_regions : Grain → List ℕ → ℕ → ℕ → Slots → List Region
  child_regions g m t i no_slots = []
  child_regions g m t i (absent rest) = child_regions g m t (i + 1) rest
  child_regions g m t i (number w x rest) = child_regions g m t (i + 1) rest
  child_regions g m t i (offset x rest) = regions g m (target_place (target_at m (slot_place (slot_at m t i)))) x ++ child_regions g m t (i + 1) rest

  -- The regions of the parts that the offsets from offset q on lead to.
  pub part_regions : Grain → List ℕ → ℕ → Parts → List Region
  part_regions g m q no_parts = []
  part_regions g m q (part x rest) = regions g m (target_place (target_at m q)) x ++ part_regions g m (q + 4) rest

-- The regions of a message: the root's offset, and the parts of the root's table.
abbrev pub message_regions : Grain → List ℕ → Slots → List Region
message_regions g m slots = region 4 0 4 ∷ regions g m (target_place (number_at 4 m 0)) (table slots)

-- One region ends before the other begins.
abbrev pub AreApart : Region → Region → Type 0
AreApart r s = (r.from + r.size ≤ s.from) ⊎ (s.from + s.size ≤ r.from)

-- By parts and by values: each region is aligned and inside the message, and no two overlap. They
-- are also in the order in which they are written.
pub record IsLaidOut (m : List ℕ) (slots : Slots) : Type 0 where
  pub aligned : (g : Grain) → All (λ r. r.from % r.align ≡ 0) (message_regions g m slots)
  pub inside : (g : Grain) → All (λ r. r.from + r.size ≤ length m) (message_regions g m slots)
  pub apart : (g : Grain) → AllPairs AreApart (message_regions g m slots)
  pub in_order : (g : Grain) → AllPairs (λ r s. r.from + r.size ≤ s.from) (message_regions g m slots)

-- Each region is aligned, is between lo and hi, and begins after the one before it: the
-- same as `IsLaidOut`, step by step.
abbrev pub AreLaidOut : ℕ → List Region → ℕ → Type 0
AreLaidOut lo [] hi = lo ≤ hi
AreLaidOut lo (r ∷ rs) hi = (lo ≤ r.from) × (r.from % r.align ≡ 0) × AreLaidOut (r.from + r.size) rs hi
