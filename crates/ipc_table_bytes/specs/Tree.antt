-- What a message has, apart from the offsets of its parts.
-- (Flatbuffers, "Internals".)
use Rattle.std.specs.Prelude.{ℕ, List}

mutual
  -- What an offset leads to.
  pub data Part : Type 0 where
    text : List ℕ → Part
    -- Elements that have no offset, one after the other: their alignment,
    -- size and count, and their bytes.
    elements : ℕ → ℕ → ℕ → List ℕ → Part
    table : Slots → Part
    tables : Parts → Part

  -- The fields of a table, from one field on.
  pub data Slots : Type 0 where
    no_slots : Slots
    absent : Slots → Slots
    -- A number of so many bytes.
    number : ℕ → ℕ → Slots → Slots
    offset : Part → Slots → Slots

  -- Some parts.
  pub data Parts : Type 0 where
    no_parts : Parts
    part : Part → Parts → Parts
