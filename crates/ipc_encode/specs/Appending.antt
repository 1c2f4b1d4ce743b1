-- What an array adds to the parts of a batch.
-- (Arrow columnar format, "RecordBatch message".)
use Rattle.std.specs.Prelude.{◌≡◌, ℕ, ℤ, pos, ◌+◌, Bool, true, false, List, [], ◌++◌, length, map, Option, None, Result, MatchResult}
use Rattle.lower_types.specs.declared.Endianness.{Endianness}
use Rattle.lower_types.specs.declared.Endianness.TheVariants.{Little, Big}
use Rattle.lower_arrays.specs.Layouts.{Level, Layout, type_of}
use Rattle.lower_arrays.specs.Slots.{Slot, slots}
use Rattle.ipc_base.specs.IdTrees.{IdTrees}
use Rattle.ipc_devices.specs.declared.fault.Fault.{Fault}
use Rattle.ipc_table_views.specs.declared.message.FieldNode.{FieldNode}
use Rattle.ipc_table_views.specs.declared.schema.Buffer.{Buffer}
use Rattle.ipc_model.specs.Accepted.{IsSayable, body_length}
use Rattle.ipc_model.specs.Batches.{Body, Lists, entries_of}
use Rattle.ipc_model.specs.Columns.{IsWell, column}
use Rattle.ipc_model.specs.Entries.{Dictionaries, Entries, size}
use Rattle.ipc_model.specs.Kinds.{Kind}
use Rattle.ipc_model.specs.Offers.{body_lengths, whole_levels}
use Rattle.ipc_model.specs.TypeKinds.{kind_of}
use Rattle.ipc_plan.specs.Levels.{HaveBuffers, joined_buffers, node_of}
use Rattle.ipc_plan.specs.Meaning.{Knows}
use Rattle.ipc_plan.specs.Plans.{Adds, body, entries_from}
use Rattle.ipc_plan.specs.Taking.{AreShort, RefusesLength}
use Rattle.ipc_plan.specs.declared.plan.Plan.{Plan}

-- The parts of a batch: its nodes, its buffers, the bytes of its body, and the offset of the next
-- buffer, counted from the body's first byte.
pub record BatchParts : Type 0 where
  pub nodes : List FieldNode
  pub buffers : List Buffer
  pub bytes : List ℕ
  pub offset : ℤ

-- The byte order that a flag means.
abbrev pub order_of : Bool → Endianness
order_of true = Little
order_of false = Big

-- ---- a plan

-- The plan has nothing yet, and its first buffer begins at offset `start`.
pub record IsBegun (order : Endianness) (start : ℕ) (p : Plan) : Type 0 where
  pub order_is : p.order ≡ order
  pub no_nodes : p.nodes.items ≡ []
  pub no_buffers : p.buffers.items ≡ []
  pub no_pieces : p.pieces.items ≡ []
  pub end_is : p.end ≡ start

-- A plan of levels, whose first buffer begins at offset `start`.
pub record PlansFrom (order : Endianness) (start : ℕ) (hs : List Level) (p : Plan) : Type 0 where
  pub begun : Plan
  pub is_begun : IsBegun order start begun
  pub adds : Adds begun p hs

-- Levels are appended exactly if each length, and the offset after them, fits in a signed 64-bit
-- integer, unless an allocation fails.
abbrev pub TakesSayable : {X : Type 0} → Result X Fault → List Level → ℕ → Type 0
TakesSayable r hs start =
    MatchResult r (λ _. AreShort hs × IsSayable (start + body_length (body_lengths hs))) (RefusesLength (AreShort hs) (start + body_length (body_lengths hs)))

-- ---- what is appended, and what it means

-- The list `all` has the elements of `part` from index k on.
pub record Has {A : Type 0} (all : List A) (k : ℕ) (part : List A) : Type 0 where
  pub before : List A
  pub behind : List A
  pub all_is : all ≡ before ++ (part ++ behind)
  pub place_is : length before ≡ k

-- The column at node a and buffer b is well formed, without a limit, and has exactly these slots.
pub record MeansSlots (s : Entries) (t : Kind) (a b : ℕ) (xs : List Slot) : Type 0 where
  pub well : IsWell s t a b None
  pub slots_are : column s t a b None ≡ xs

-- Nodes, buffers and bytes mean an array, in any batch that has these nodes and buffers from some
-- position on, and whose body has the bytes at `offset`. There they are a column of the array's
-- type with its slots, if the values of its dictionaries are known under the ids of their fields.
abbrev pub MeansArray : Endianness → Layout → ℕ → List FieldNode → List Buffer → List ℕ → Type 0
MeansArray order l offset nodes buffers bytes =
    (lists : Lists) (body : Body) (a b : ℕ) (known : Dictionaries) (id : Option ℤ) (is : IdTrees)
    → Has lists.nodes a nodes → Has lists.buffers b buffers → Has body.source (body.base + offset) bytes
    → Knows (entries_of lists body order 0 known) l id is
    → MeansSlots (entries_of lists body order 0 known) (kind_of (type_of l) id is) a b (slots l)

-- To the parts of a batch are appended the nodes of an array's levels and their buffers. They begin
-- at the old offset, one after the other, each padded with zeros to a multiple of 64 bytes; the new
-- offset is after them. They mean the array.
pub record JoinsParts (order : Endianness) (l : Layout) (old new : BatchParts) : Type 0 where
  pub buffers : List (List (List ℕ))
  pub have : HaveBuffers order (whole_levels l) buffers
  pub nodes_are : new.nodes ≡ old.nodes ++ map node_of (whole_levels l)
  pub buffers_are : new.buffers ≡ old.buffers ++ entries_from (size old.offset) (joined_buffers buffers)
  pub bytes_are : new.bytes ≡ old.bytes ++ body (joined_buffers buffers)
  pub offset_is : new.offset ≡ pos (size old.offset + length (body (joined_buffers buffers)))
  pub means : MeansArray order l (size old.offset) (map node_of (whole_levels l)) (entries_from (size old.offset) (joined_buffers buffers)) (body (joined_buffers buffers))

-- ---- equal arrays

-- Theorem: two arrays of one type with the same slots mean the same column, however they are laid
-- out. It is of the same kind under the same ids, and has the same slots.
abbrev pub SameMeaningLaw : Type 0
SameMeaningLaw = (s s' : Entries) (a b a' b' : ℕ) (l l' : Layout) (id : Option ℤ) (is : IdTrees) → type_of l ≡ type_of l' → slots l ≡ slots l'
    → MeansSlots s (kind_of (type_of l) id is) a b (slots l) → MeansSlots s' (kind_of (type_of l') id is) a' b' (slots l')
    → (kind_of (type_of l) id is ≡ kind_of (type_of l') id is)
    × (column s (kind_of (type_of l) id is) a b None ≡ column s' (kind_of (type_of l') id is) a' b' None)
