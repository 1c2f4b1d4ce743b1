-- Theorems on batches: tests, projections and limits, and sources that agree where they are read.
-- (Arrow columnar format, "RecordBatch message".)
use Rattle.std.specs.Prelude.{◌≡◌, ℕ, List, [], map, length, take, drop, slice_index_or, Option, Some, None}
use Rattle.std.specs.Bool.{Decides}
use Rattle.std.specs.List.{AllByRecursion}
use Rattle.lower.specs.TypeTrees.{plain, null}
use Rattle.lower_types.specs.declared.Endianness.{Endianness}
use Rattle.ipc_table_views.specs.declared.schema.Buffer.{Buffer}
use Rattle.ipc_model.specs.Kinds.{Kinds, count, buffers}
use Rattle.ipc_model.specs.Entries.{Entries, part_at, Dictionaries, Limit}
use Rattle.ipc_model.specs.Batches.{Schema, kinds, Body, Lists, entries_of, kind_at, buffers_before, chosen, is_projection, IsProjection, is_batch, IsBatch, Column, Chunk, batch}

-- Whether entries are a valid batch can be computed.
abbrev pub BatchTestLaw : Type 0
BatchTestLaw = (s : Entries) (most : ℕ) (ts : Kinds) (js : List ℕ) (limit : Limit)
    → Decides (is_batch s most ts js limit) (IsBatch s most ts js limit)

-- Whether a projection names only columns that exist, each once, can be computed.
abbrev pub ProjectionTestLaw : Type 0
ProjectionTestLaw = (projection : Option (List ℕ)) (n : ℕ) → Decides (is_projection projection n) (IsProjection projection n)

-- ---- projection and limit

-- The first slots of a column, up to the limit.

abbrev pub cut : Limit → Column → Column
cut None c = c
cut (Some n) c = record { type = c.type; slots = take n c.slots }

-- Column j of a chunk; without one, an empty column of nulls.
abbrev pub column_at : Chunk → ℕ → Column
column_at c j = slice_index_or c j (record { type = plain null; slots = [] })

-- The chosen columns of a chunk, each up to the limit, in the order in which they are chosen.
abbrev pub pruned : Option (List ℕ) → Limit → Chunk → Chunk
pruned projection limit c = map (λ j. cut limit (column_at c j)) (chosen projection (length c))

-- A batch with a meaning has one for each limit and each projection to columns that exist, each
-- once: the first slots of the chosen columns.
abbrev pub PruneLaw : Type 0
PruneLaw = (s : Entries) (most : ℕ) (schema : Schema) (projection : Option (List ℕ)) (limit : Limit) (c : Chunk)
    → IsProjection projection (count (kinds schema))
    → batch s most schema None None ≡ Some c → batch s most schema projection limit ≡ Some (pruned projection limit c)

-- A batch has no meaning by a projection that names a column twice, or one that doesn't exist.
abbrev pub NoProjectionLaw : Type 0
NoProjectionLaw = (s : Entries) (most : ℕ) (schema : Schema) (projection : Option (List ℕ)) (limit : Limit)
    → ¬ IsProjection projection (count (kinds schema)) → batch s most schema projection limit ≡ None

-- ---- sources that agree

-- The buffers of column j.
abbrev pub own_buffers : List Buffer → ℕ → Kinds → ℕ → List Buffer
own_buffers bs extra ts j = take (buffers extra (kind_at ts j)) (drop (buffers_before extra ts j) bs)

-- The byte ranges of the chosen columns' buffers are equal in two
-- bodies, as far as the sources reach.
abbrev pub Agree : List Buffer → ℕ → Kinds → Body → Body → List ℕ → Type 0
Agree bs extra ts x y js =
    AllByRecursion (λ j. map (part_at x.source x.base) (own_buffers bs extra ts j)
    ≡ map (part_at y.source y.base) (own_buffers bs extra ts j)) js

-- Two bodies of one size that agree for the chosen columns give the same meaning, or both none.
abbrev pub AgreeLaw : Type 0
AgreeLaw = (lists : Lists) (x y : Body) (order : Endianness) (extra : ℕ) (ds : Dictionaries) (schema : Schema)
    (projection : Option (List ℕ)) (limit : Limit)
    → x.size ≡ y.size → Agree lists.buffers extra (kinds schema) x y (chosen projection (count (kinds schema)))
    → batch (entries_of lists x order extra ds) x.size schema projection limit
    ≡ batch (entries_of lists y order extra ds) y.size schema projection limit
