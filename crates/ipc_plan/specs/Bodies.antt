-- What a plan of columns means, wherever its body is in a source.
-- (Arrow columnar format, "RecordBatch message".)
use Rattle.std.specs.Prelude.{◌≡◌, ℕ, ◌+◌, ◌*◌, ◌≤◌, List, [], ◌∷◌, ◌++◌, length, map, None}
use Rattle.std.specs.List.{flat_map}
use Rattle.lower_types.specs.declared.Endianness.{Endianness}
use Rattle.lower_arrays.specs.Layouts.{Layout, type_of}
use Rattle.lower_arrays.specs.Slots.{slots}
use Rattle.ipc_base.specs.IdTrees.{IdTrees}
use Rattle.ipc_model.specs.Columns.{IsWell, column}
use Rattle.ipc_model.specs.Entries.{Entries, Dictionaries, part_at}
use Rattle.ipc_model.specs.Kinds.{nodes, buffers}
use Rattle.ipc_model.specs.Offers.{own_id, inner_ids, whole_levels, body_lengths}
use Rattle.ipc_model.specs.TypeKinds.{first_ids, other_ids, kind_of}
use Rattle.ipc_plan.specs.Levels.{node_of, HaveBuffers, joined_buffers}
use Rattle.ipc_plan.specs.Meaning.{Knows}
use Rattle.ipc_plan.specs.Pieces.{pieces_bytes}
use Rattle.ipc_plan.specs.Plans.{entries_from, body}
use Rattle.ipc_plan.specs.declared.plan.Plan.{Plan}

-- The entries of a plan whose body is after `before` in a source, with any bytes after it.
abbrev pub entries_of_plan : Plan → Dictionaries → List ℕ → List ℕ → Entries
entries_of_plan p known before rest = record {
  nodes = p.nodes.items;
  parts = map (part_at (before ++ (pieces_bytes p.order p.pieces.items ++ rest)) (length before)) p.buffers.items;
  order = p.order;
  extra = 0;
  dictionaries = known;
}

-- Each column at its position, from node a and buffer b on, is well formed and
-- has exactly the array's slots.
abbrev pub AllMean : Entries → List Layout → IdTrees → ℕ → ℕ → Type 0
AllMean s [] is a b = Unit {0}
AllMean s (l ∷ ls) is a b =
    (Knows s l (own_id (first_ids is)) (inner_ids (first_ids is))
    → IsWell s (kind_of (type_of l) (own_id (first_ids is)) (inner_ids (first_ids is))) a b None
    × (column s (kind_of (type_of l) (own_id (first_ids is)) (inner_ids (first_ids is))) a b None ≡ slots l))
    × AllMean s ls (other_ids is) (a + nodes (kind_of (type_of l) (own_id (first_ids is)) (inner_ids (first_ids is))))
    (b + buffers 0 (kind_of (type_of l) (own_id (first_ids is)) (inner_ids (first_ids is))))

-- A plan of these columns. Its nodes are those of their levels, its buffers are one after
-- the other, each padded, and are those of the levels; its pieces are these bytes. So it has
-- as many nodes and buffers as the levels, and at most two pieces for each buffer. It means
-- the columns wherever its body is.
pub record PlansColumns (order : Endianness) (ls : List Layout) (p : Plan) : Type 0 where
  pub order_is : p.order ≡ order
  pub buffers : List (List (List ℕ))
  pub have : HaveBuffers order (flat_map whole_levels ls) buffers
  pub nodes_are : p.nodes.items ≡ map node_of (flat_map whole_levels ls)
  pub entries_are : p.buffers.items ≡ entries_from 0 (joined_buffers buffers)
  pub end_is : p.end ≡ length (body (joined_buffers buffers))
  pub body_is : pieces_bytes order p.pieces.items ≡ body (joined_buffers buffers)
  pub node_count : length p.nodes.items ≡ length (flat_map whole_levels ls)
  pub buffer_count : length p.buffers.items ≡ length (body_lengths (flat_map whole_levels ls))
  pub piece_count : length p.pieces.items ≤ length p.buffers.items
  pub means : (known : Dictionaries) (before rest : List ℕ) (is : IdTrees) → AllMean (entries_of_plan p known before rest) ls is 0 0
