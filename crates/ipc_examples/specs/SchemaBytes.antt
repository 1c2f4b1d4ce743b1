-- Schema messages as bytes, part by part, for the cases. Each table comes after its vtable, and
-- what its fields point to comes after the table.
-- (Arrow columnar format, "Schema message"; Schema.fbs and Message.fbs.)
use Rattle.std.specs.Prelude.{ℕ, ◌+◌, ◌-◌, ◌*◌, List, [], ◌∷◌, ◌++◌, length, codes, flat_map}
use Rattle.std.specs.Int.{w16, w32, to_le_bytes}

-- A number as two bytes.
abbrev pub short : ℕ → List ℕ
short n = to_le_bytes w16 n

-- A number as four bytes.
abbrev pub four : ℕ → List ℕ
four n = to_le_bytes w32 n

-- A vtable with these entries, and its table: the bytes inline in it, after its first four.
abbrev pub table_bytes : List ℕ → List ℕ → List ℕ
table_bytes entries inline =
    short (4 + 2 * length entries) ++ short (4 + length inline) ++ flat_map short entries ++ four (4 + 2 * length entries) ++ inline

-- A table of three fields, which begins 10 bytes after its vtable.
abbrev pub three_slots : ℕ → ℕ → ℕ → List ℕ → List ℕ
three_slots a b c inline = table_bytes (a ∷ b ∷ c ∷ []) inline

-- A text or a vector of bytes with its length in front.
abbrev pub counted : List ℕ → List ℕ
counted bytes = four (length bytes) ++ bytes

-- Offsets to the tables of some parts. `start` is where each table is in its part, and the first
-- part is `ahead` bytes further on.
abbrev pub offsets_to : ℕ → ℕ → List (List ℕ) → List ℕ
offsets_to start ahead [] = []
offsets_to start ahead (p ∷ ps) = four (ahead + start) ++ offsets_to start (ahead + length p - 4) ps

-- A vector of tables, each of which begins at offset `start` of its part.
abbrev pub tables_bytes : ℕ → List (List ℕ) → List ℕ
tables_bytes start ps = four (length ps) ++ offsets_to start (4 * length ps) ps ++ flat_map (λ p. p) ps

-- The vtable entry of a part that may be absent: n, or 0 if the part is empty.
abbrev pub entry_of : List ℕ → ℕ → ℕ
entry_of [] n = 0
entry_of (x ∷ xs) n = n

-- A field "f" whose type has a tag and a table of three fields. It has a dictionary encoding,
-- children and metadata if these aren't empty. Its vtable has 18 bytes.
abbrev pub field_bytes : ℕ → List ℕ → List ℕ → List ℕ → List ℕ → List ℕ
field_bytes tag type_ encoding children metadata =
    table_bytes (4 ∷ 24 ∷ 25 ∷ 8 ∷ entry_of encoding 12 ∷ entry_of children 16 ∷ entry_of metadata 20 ∷ [])
    (four 24 ++ four 38 ++ four (34 + length type_) ++ four (20 + length type_ + length encoding)
    ++ four (16 + length type_ + length encoding + length children) ++ 1 ∷ tag ∷ 0 ∷ 0 ∷ [] ++ four 1 ++ codes "f" ++ 0 ∷ 0 ∷ 0 ∷ []
    ++ type_ ++ encoding ++ children ++ metadata)

-- A vector of fields.
abbrev pub all_fields : List (List ℕ) → List ℕ
all_fields fs = tables_bytes 18 fs

-- A key and a value of the metadata.
abbrev pub pair_bytes : List ℕ → List ℕ → List ℕ
pair_bytes key value = table_bytes (4 ∷ 8 ∷ []) (four 8 ++ four (8 + length key) ++ counted key ++ counted value)

-- A vector of pairs of metadata.
abbrev pub all_pairs : List (List ℕ) → List ℕ
all_pairs ps = tables_bytes 8 ps

-- A schema message of version 5, with the number of a byte order.
abbrev pub schema_bytes : ℕ → List ℕ → List ℕ → List ℕ
schema_bytes order fields metadata =
    four 14 ++ three_slots 8 10 4 (four 18 ++ 4 ∷ 0 ∷ 1 ∷ 0 ∷ [])
    ++ three_slots 12 4 (entry_of metadata 8) (four 10 ++ four (6 + length fields) ++ short order) ++ fields ++ metadata
