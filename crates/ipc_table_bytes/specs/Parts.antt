-- The bytes of one part, given the bytes of the parts below it.
-- (Flatbuffers, "Internals".)
use Rattle.std.specs.Prelude.{ℕ, ◌+◌, ◌*◌, ◌%◌, ◌^◌, ◌≡◌, ◌<◌, ◌≤◌, List, [], ◌∷◌, ◌++◌, length}
use Rattle.ipc_table_bytes.specs.Pads.{le, missing, padded, short, zeros}
use Rattle.ipc_table_bytes.specs.declared.build.Built.{Built}
use Rattle.ipc_table_bytes.specs.declared.build.Slot.{Slot}
use Rattle.ipc_table_bytes.specs.declared.build.Slot.TheVariants.{Absent, Number, Offset}
use Rattle.ipc_table_bytes.specs.Tree.{Part, Slots, no_slots, absent, number, offset, Parts, no_parts, part}
use Rattle.ipc_table_bytes.specs.Holds.{HoldsPart}
use Rattle.ipc_table_bytes.specs.Sizes.{size_of}
use Rattle.ipc_table_bytes.specs.Strict.{AreLaidOut, Grain, regions}

-- How many bytes the vtable of a table of n fields has.
abbrev pub vtable_size : ℕ → ℕ
vtable_size n = 4 + 2 * n + missing (4 + 2 * n)

-- The vtable entry of field i.
abbrev pub entry_of : ℕ → Slot → ℕ
entry_of i Absent = 0
entry_of i (Number x) = 8 + 8 * i
entry_of i (Offset x) = 8 + 8 * i

-- The vtable entries of the fields from field i on.
abbrev pub entries : ℕ → List Slot → List ℕ
entries i [] = []
entries i (x ∷ rest) = le 2 (entry_of i x) ++ entries (i + 1) rest

-- The bytes that a field adds after the table.
abbrev pub tail_of : Slot → List ℕ
tail_of Absent = []
tail_of (Number x) = []
tail_of (Offset x) = x.bytes.items

-- The bytes that some fields add after the table.
abbrev pub tails : List Slot → List ℕ
tails [] = []
tails (x ∷ rest) = tail_of x ++ tails rest

-- The number in a field; the parts of later fields are `ahead` bytes further on.
abbrev pub number_in : ℕ → Slot → ℕ
number_in ahead Absent = 0
number_in ahead (Number x) = x
number_in ahead (Offset x) = ahead + x.entry

-- The numbers of the last fields; the parts of the earlier ones take t bytes.
abbrev pub numbers : ℕ → List Slot → List ℕ
numbers t [] = []
numbers t (x ∷ rest) = le 8 (number_in (8 * (length rest + 1) + t) x) ++ numbers (t + length (tail_of x)) rest

-- The bytes of a vtable.
abbrev pub vtable_bytes : List Slot → List ℕ
vtable_bytes slots =
    (le 2 (4 + 2 * length slots) ++ (le 2 (8 + 8 * length slots) ++ entries 0 slots)) ++ zeros (missing (4 + 2 * length slots))

-- The bytes of a table, with its vtable before it and its parts after it.
unfoldable pub table_bytes : List Slot → List ℕ
table_bytes slots =
    vtable_bytes slots ++ (le 8 (vtable_size (length slots)) ++ (numbers 0 slots ++ tails slots))

-- The bytes of the parts, one after the other.
abbrev pub joined_parts : List Built → List ℕ
joined_parts [] = []
joined_parts (x ∷ rest) = x.bytes.items ++ joined_parts rest

-- The offsets of the last elements, after a gap; the parts of the earlier ones take t bytes.
abbrev pub offsets : ℕ → ℕ → List Built → List ℕ
offsets gap t [] = []
offsets gap t (x ∷ rest) =
    le 4 (short (4 * (length rest + 1) + (gap + t) + x.entry)) ++ offsets gap (t + length x.bytes.items) rest

-- The gap between the offsets of a vector and its parts.
abbrev pub gap_after : List Built → ℕ
gap_after parts = missing (4 + 4 * length parts)

-- The bytes of a vector of parts.
unfoldable pub vector_bytes : List Built → List ℕ
vector_bytes parts =
    (le 4 (short (length parts)) ++ offsets (gap_after parts) 0 parts) ++ (zeros (gap_after parts) ++ joined_parts parts)

-- The bytes of a text.
unfoldable pub text_bytes : List ℕ → List ℕ
text_bytes s = padded ((le 4 (short (length s)) ++ s) ++ 0 ∷ [])

-- The bytes before the elements of a vector of elements that have no offset.
abbrev pub elements_header : ℕ → List ℕ
elements_header count = le 4 0 ++ le 4 (short count)

-- The bytes of a vector of elements that have no offset.
unfoldable pub elements_bytes : ℕ → List ℕ → List ℕ
elements_bytes count raw = padded (elements_header count ++ raw)

-- A message has these bytes at offset p.
pub record Stands (m : List ℕ) (p : ℕ) (xs : List ℕ) : Type 0 where
  pub front : List ℕ
  pub back : List ℕ
  pub parts : m ≡ front ++ (xs ++ back)
  pub here : length front ≡ p

-- The bytes are the part, if they are no longer than a message may be. In any message, at any
-- multiple of 8, they have the part and are laid out as required.
pub record IsPart (built : Built) (x : Part) : Type 0 where
  pub size : length built.bytes.items ≡ size_of x
  pub holds : length built.bytes.items < 2 ^ 31 → (m : List ℕ) (p : ℕ) → Stands m (8 * p) built.bytes.items → HoldsPart m (8 * p + built.entry) x
  pub laid : (g : Grain) → length built.bytes.items < 2 ^ 31 → (m : List ℕ) (p : ℕ) → Stands m (8 * p) built.bytes.items
      → AreLaidOut (8 * p) (regions g m (8 * p + built.entry) x) (8 * p + length built.bytes.items)

-- Each field is what the table must have there.
pub data AreSlots : List Slot → Slots → Type 0 where
  no_more : AreSlots [] no_slots
  is_absent : {slots : List Slot} {rest : Slots} → AreSlots slots rest → AreSlots (Absent ∷ slots) (absent rest)
  is_number : {slots : List Slot} {rest : Slots} {w x y : ℕ} → x ≡ y → w ≤ 8 → 8 % w ≡ 0 → y < 256 ^ w → AreSlots slots rest → AreSlots (Number x ∷ slots) (number w y rest)
  is_offset : {slots : List Slot} {rest : Slots} {y : Built} {x : Part} → IsPart y x → AreSlots slots rest → AreSlots (Offset y ∷ slots) (offset x rest)

-- Each part is what the element of the vector must be.
pub data AreParts : List Built → Parts → Type 0 where
  end_parts : AreParts [] no_parts
  is_part : {parts : List Built} {rest : Parts} {y : Built} {x : Part} → IsPart y x → AreParts parts rest → AreParts (y ∷ parts) (part x rest)
