-- Theorems on the definitions of columns: nodes, bytes that are present, numbers, and limits.
-- (Arrow columnar format, "Physical Memory Layout".)
use Rattle.std.specs.Prelude.{◌≡◌, ◌≤◌, ℕ, ◌+◌, ◌*◌, ◌<◌, ◌↔◌, Some, None, List, length, take}
use Rattle.std.specs.Option.{option_map}
use Rattle.ipc_table_views.specs.declared.schema.Buffer.{Buffer}
use Rattle.lower_types.specs.NumberTypes.{width_of, number_in}
use Rattle.lower_types.specs.declared.PrimitiveType.{PrimitiveType}
use Rattle.ipc_model.specs.Numbers.{integer_of, number_at}
use Rattle.ipc_model.specs.Kinds.{Kind, nodes}
use Rattle.ipc_model.specs.Entries.{Entries, Part, IsSize, size, part_at, bytes, Need, value_bytes, integer, Limit, rows}
use Rattle.ipc_model.specs.Columns.{IsWell, column}

-- Each column takes at least one node.
abbrev pub NodeLaw : Type 0
NodeLaw = (t : Kind) → 1 ≤ nodes t

-- At least d bytes of a part are encoded and present.
abbrev pub IsThere : Part → ℕ → Type 0
IsThere p d = IsSize p.offset × (d ≤ size p.length) × (d ≤ length p.bytes)

-- At least d bytes of a buffer are encoded and present, by its source. If d isn't 0, so many bytes
-- are encoded, and the source reaches so far.
abbrev pub IsInside : List ℕ → ℕ → Buffer → ℕ → Type 0
IsInside source base r d = IsSize r.offset
    × (0 < d → (d ≤ size r.length) × (base + size r.offset + d ≤ length source))

-- The bytes of a part that are present are those that are encoded and that the source has.
abbrev pub NeedLaw : Type 0
NeedLaw = (source : List ℕ) (base : ℕ) (r : Buffer) (d : ℕ)
    → IsThere (part_at source base r) d ↔ IsInside source base r d

-- Value i of a buffer is the number at its offset in the buffer's bytes, and
-- the integer that this number is.
pub record IsRead (s : Entries) (f : PrimitiveType) (b i : ℕ) : Type 0 where
  pub number : number_at f s.order (bytes s b) (width_of f * i) ≡ Some (number_in f s.order (value_bytes s b (width_of f) i))
  pub integer_is : option_map integer_of (number_at f s.order (bytes s b) (width_of f * i)) ≡ Some (integer s b f i)

-- Each of k values whose bytes are present is the number at its offset.
abbrev pub NumberLaw : Type 0
NumberLaw = (s : Entries) (f : PrimitiveType) (b k i : ℕ) → Need s b (width_of f * k) → i < k → IsRead s f b i

-- The limit m is at most n; no limit is the greatest.
abbrev pub IsLower : Limit → Limit → Type 0
IsLower None None = Unit {0}
IsLower None (Some n) = ⊥
IsLower (Some m) None = Unit {0}
IsLower (Some m) (Some n) = m ≤ n

-- A column that is well formed under a limit is so under each smaller
-- one, with the first of its slots.
abbrev pub LimitLaw : Type 0
LimitLaw = (s : Entries) (t : Kind) (a b : ℕ) (low high : Limit) → IsLower low high → IsWell s t a b high
    → IsWell s t a b low × (column s t a b low ≡ take (rows s a low) (column s t a b high))
