-- What a record batch of columns means whose entries and body are those of a plan.
-- (Arrow columnar format, "RecordBatch message".)
use Rattle.std.specs.Prelude.{◌≡◌, ℕ, List, [], ◌∷◌, length, None, Some}
use Rattle.lower.specs.Normal.{norm}
use Rattle.lower.specs.TypeTrees.{FieldTrees, no_fields, more_fields}
use Rattle.lower_arrays.specs.Layouts.{Layout, Layouts, no_layouts, more_layouts, layouts, len_of, type_of}
use Rattle.lower_arrays.specs.Slots.{slots, AreArrays}
use Rattle.ipc_model.specs.Batches.{Schema, Lists, entries_of, Chunk, batch, field_type}
use Rattle.ipc_model.specs.Entries.{Dictionaries}
use Rattle.ipc_model.specs.Streams.{whole}
use Rattle.ipc_plan.specs.Bodies.{PlansColumns}
use Rattle.ipc_plan.specs.Meaning.{KnowsAll}
use Rattle.ipc_plan.specs.Pieces.{pieces_bytes}
use Rattle.ipc_plan.specs.declared.plan.Plan.{Plan}

-- ---- columns and fields

-- The columns have the types of the fields, in the normal form.
abbrev pub AreLike : FieldTrees → Layouts → Type 0
AreLike no_fields no_layouts = Unit {0}
AreLike (more_fields f fs) (more_layouts c cs) = (norm (type_of c) ≡ norm (field_type f)) × AreLike fs cs
AreLike _ _ = ⊥

-- Each column has k slots.
abbrev pub HaveRows : ℕ → List Layout → Type 0
HaveRows k [] = Unit {0}
HaveRows k (l ∷ ls) = (len_of l ≡ k) × HaveRows k ls

-- The columns as a chunk, with the types of the fields.
abbrev pub chunk_named : FieldTrees → List Layout → Chunk
chunk_named (more_fields f fs) (l ∷ ls) = record { type = field_type f; slots = slots l } ∷ chunk_named fs ls
chunk_named _ _ = []

-- ---- the theorem

-- The nodes and buffers of a plan.
abbrev pub lists_of_plan : Plan → Lists
lists_of_plan p = record { nodes = p.nodes.items; buffers = p.buffers.items }

-- The body of a plan.
abbrev pub body_of_plan : Plan → List ℕ
body_of_plan p = pieces_bytes p.order p.pieces.items

-- A batch with the nodes, buffers and body of a plan for some columns means these columns, if the
-- values of their dictionaries are known.
abbrev pub ColumnsBatchLaw : Type 0
ColumnsBatchLaw = (schema : Schema) (p : Plan) (ls : List Layout) (k : ℕ) (known : Dictionaries)
    → PlansColumns schema.order ls p → AreArrays (layouts ls) → AreLike schema.fields (layouts ls) → HaveRows k ls
    → KnowsAll (entries_of (lists_of_plan p) (whole (body_of_plan p)) schema.order 0 known) (layouts ls) schema.ids
    → batch (entries_of (lists_of_plan p) (whole (body_of_plan p)) schema.order 0 known) (length (body_of_plan p)) schema None None
    ≡ Some (chunk_named schema.fields ls)
