-- Columns of a schema by their names and their indices.
-- (Arrow columnar format, "Schema message": columns are in the order of the fields.)
use Rattle.std.specs.Prelude.{◌≡◌, ℕ, ◌<◌, ◌≤◌, ◌==◌, List, map, length, take, slice_get, Option, Some, None, string_bytes}
use Rattle.std.specs.List.{AllByRecursion, IsDistinct, Contains, position}
use Rattle.lower.specs.Same.{same_text}
use Rattle.lower.specs.declared.datatypes.Field.{Field}
use Rattle.lower.specs.TypeTrees.{FieldTree}
use Rattle.lower.specs.declared.datatypes.columns.NameError.{NameError}
use Rattle.lower.specs.declared.datatypes.columns.NameError.TheVariants as Names
use Rattle.lower.specs.declared.datatypes.columns.ProjectError.{ProjectError}
use Rattle.lower.specs.declared.datatypes.columns.ProjectError.TheVariants as Projects

-- The index of the first field of this name, if there is one.
abbrev pub index_of : List Field → List ℕ → Option ℕ
index_of fields name = position (λ f. same_text (string_bytes f.name) name) fields

-- These are the indices of the first fields of these names, in the order of the names.
abbrev pub HaveNames : List Field → List (List ℕ) → List ℕ → Type 0
HaveNames fields names columns = map (index_of fields) names ≡ map Some columns

-- Each index is below n, and none is repeated.
abbrev pub AreDistinct : List ℕ → ℕ → Type 0
AreDistinct columns n = AllByRecursion (λ j. j < n) columns × IsDistinct (λ i j. i == j) columns

-- The first i names are those of different columns.
abbrev pub AreNamedBefore : List Field → List (List ℕ) → ℕ → Type 0
AreNamedBefore fields names i =
    (columns : List ℕ) × HaveNames fields (take i names) columns × AreDistinct columns (length fields)

-- What an error says: the names before index i are those of different columns, and the name at
-- index i is that of no column, or is equal to one of them.
abbrev pub NameCause : List Field → List (List ℕ) → NameError → Type 0
NameCause fields names (Names.Missing i) =
    AreNamedBefore fields names i × ((name : List ℕ) × (slice_get names i ≡ Some name) × (index_of fields name ≡ None))
NameCause fields names (Names.Repeated i) =
    AreNamedBefore fields names i × ((name : List ℕ) × (slice_get names i ≡ Some name) × Contains (take i names) name)
NameCause fields names Names.Memory = Unit {0}

-- Each index is that of a field, and these are the fields at the indices, in order.
abbrev pub FieldsAt : List FieldTree → List ℕ → List FieldTree → Type 0
FieldsAt fields indices chosen = map (slice_get fields) indices ≡ map Some chosen

-- What an error says, for n fields: index i of the indices is n or more, and those before are less.
abbrev pub ProjectCause : ℕ → List ℕ → ProjectError → Type 0
ProjectCause n indices (Projects.Missing i) =
    AllByRecursion (λ j. j < n) (take i indices) × ((j : ℕ) × (slice_get indices i ≡ Some j) × (n ≤ j))
ProjectCause n indices Projects.Memory = Unit {0}
