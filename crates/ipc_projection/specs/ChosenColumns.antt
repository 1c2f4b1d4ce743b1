-- The columns of a schema that a reader is requested to read, with the schema of what it returns.
use Rattle.std.specs.Prelude.{◌≡◌, ℕ, List, map, length, Option, None, Some, option_map, Vec, IsTrue}
use Rattle.std.specs.List.Sorted.{IsPermutation}
use Rattle.std.specs.declared.alloc.Global.{Global}
use Rattle.lower.specs.TypeViews.{field_view, pairs_of}
use Rattle.lower.specs.declared.datatypes.schema.Schema.{Schema}
use Rattle.ipc_model.specs.Batches.{is_projection}
use Rattle.ipc_projection.specs.AskedOrder.{IsInAskedOrder}
use Rattle.ipc_projection.specs.Preparing.{selected}
use Rattle.ipc_projection.specs.Projections.{IsIncreasing}
use Rattle.ipc_projection.specs.declared.read.chosen.ChosenColumns.{ChosenColumns}

-- The numbers in a vector, if there is one.
abbrev pub items_of : Option (Vec ℕ Global) → Option (List ℕ)
items_of p = option_map (λ js. js.items) p

-- The indices of the columns in the requested order; none if all are read.
abbrev pub asked_by : Option ChosenColumns → Option (List ℕ)
asked_by c = option_map (λ x. x.columns.columns) c

-- The indices of the columns in ascending order; none if all are read.
abbrev pub rising_by : Option ChosenColumns → Option (List ℕ)
rising_by c = option_map (λ x. x.columns.rising) c

-- The requested columns are some of n columns, none of them twice.
abbrev pub AreThere : Option ChosenColumns → ℕ → Type 0
AreThere c n = IsTrue (is_projection (asked_by c) n)

-- The ascending columns are the requested ones in ascending order.
abbrev pub AreShuffled : Option ChosenColumns → Type 0
AreShuffled None = Unit {0}
AreShuffled (Some c) = IsPermutation c.columns.columns c.columns.rising × IsIncreasing c.columns.rising

-- n columns are as many as are requested.
abbrev pub AreAsMany : Option ChosenColumns → ℕ → Type 0
AreAsMany None n = Unit {0}
AreAsMany (Some c) n = n ≡ length c.columns.rising

-- What was read of each column is returned in the requested order.
abbrev pub AreOrdered : {X : Type 0} → Option ChosenColumns → (read given : List X) → Type 0
AreOrdered None read given = given ≡ read
AreOrdered (Some c) read given = IsInAskedOrder c.columns read given

-- The schema of what is returned.
abbrev pub shown_by : Schema → Option ChosenColumns → Schema
shown_by s None = s
shown_by s (Some c) = c.schema

-- The schema t has the requested columns of s, in this order, with the metadata of s.
abbrev pub ShowsColumns : Option (List ℕ) → (s t : Schema) → Type 0
ShowsColumns None s t = t ≡ s
ShowsColumns (Some js) s t = (map field_view t.fields.items ≡ selected (map field_view s.fields.items) js) × (pairs_of t.metadata.entries ≡ pairs_of s.metadata.entries)
