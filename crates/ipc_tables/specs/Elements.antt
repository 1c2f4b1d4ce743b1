-- A vector of elements that have no offset: structs, and numbers.
-- (Flatbuffers, "Internals": structs and vectors.)
use Rattle.std.specs.Prelude.{ℕ, List, length}
use Rattle.std.specs.List.{flat_map}
use Rattle.ipc_table_bytes.specs.Tree.{Part, elements}

-- The vector of some values, each encoded by `spelt`.
abbrev pub elements_of : {S : Type 0} → ℕ → ℕ → (S → List ℕ) → List S → Part
elements_of align size spelt xs = elements align size (length xs) (flat_map spelt xs)
