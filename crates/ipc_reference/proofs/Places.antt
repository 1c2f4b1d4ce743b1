-- Where the columns of a batch are.
use Rattle.std.proofs.Common.{◌≡◌, ℕ, zero, suc, ◌+◌, ◌-◌, ◌<◌, ◌≤◌, ◌&&◌, ◌==◌, List, [], ◌∷◌, map, take, drop, refl, ap, sym, ◌∙◌, subst, arith, add-one, get_or, length, slice_range, length-take, length-drop}
use Rattle.std.proofs.lemmas.List.{take-map, drop-map}
use Rattle.lower_types.specs.declared.Endianness.{Endianness}
use Rattle.ipc_model.specs.Batches.{kind_at, nodes_before, buffers_before, own, slots_of_column}
use Rattle.ipc_model.specs.Columns.{column}
use Rattle.ipc_model.specs.Entries.{Entries, Limit, Part, rows}
use Rattle.ipc_model.specs.Kinds.{Kind, Kinds, no_kinds, more_kinds, nodes, all_nodes, buffers, all_buffers}
use Rattle.ipc_model.specs.Tests.{is_well}
use Rattle.ipc_table_views.specs.declared.message.FieldNode.{FieldNode}
use Rattle.ipc_reference.specs.PlainBatches.{reads}
use Rattle.ipc_reference.specs.PlainEntries.{part_view}
use Rattle.ipc_reference.specs.PlainKinds.{kind_view, kinds_view}
use Rattle.ipc_reference.specs.Rooms.{HasEntries}
use Rattle.ipc_reference.specs.declared.entries.PlainEntries.{PlainEntries}
use Rattle.ipc_reference.specs.declared.entries.PlainPart.{PlainPart}
use Rattle.ipc_reference.specs.declared.kinds.PlainKind.{PlainKind}

-- the kind of a column
pub kind_is : (ks : List PlainKind) (j : ℕ) (k : PlainKind) → k ≡ get_or ks j k → j < length ks → kind_view k ≡ kind_at (kinds_view ks) j
kind_is [] j k e h = absurd (omega arith)
kind_is (x ∷ ks) zero k e h = ap kind_view e
kind_is (x ∷ ks) (suc j) k e h = kind_is ks j k e (omega arith)

pub none_before : (ts : Kinds) → nodes_before ts 0 ≡ 0
none_before no_kinds = refl
none_before (more_kinds t ts) = refl

pub no_buffer_before : (extra : ℕ) (ts : Kinds) → buffers_before extra ts 0 ≡ 0
no_buffer_before extra no_kinds = refl
no_buffer_before extra (more_kinds t ts) = refl

nodes_next : (ks : List PlainKind) (j : ℕ) → j < length ks
    → nodes_before (kinds_view ks) (suc j) ≡ nodes_before (kinds_view ks) j + nodes (kind_at (kinds_view ks) j)
nodes_next [] j h = absurd (omega arith)
nodes_next (x ∷ ks) zero h = omega (arith, none_before (kinds_view ks))
nodes_next (x ∷ ks) (suc j) h = omega (arith, nodes_next ks j (omega arith))

-- the nodes before the next column are those before this one and its own
pub nodes_step : (ks : List PlainKind) (j : ℕ) → j < length ks
    → nodes_before (kinds_view ks) (j + 1) ≡ nodes_before (kinds_view ks) j + nodes (kind_at (kinds_view ks) j)
nodes_step ks j h = rw add-one (nodes_next ks j h)

buffers_next : (extra : ℕ) (ks : List PlainKind) (j : ℕ) → j < length ks
    → buffers_before extra (kinds_view ks) (suc j) ≡ buffers_before extra (kinds_view ks) j + buffers extra (kind_at (kinds_view ks) j)
buffers_next extra [] j h = absurd (omega arith)
buffers_next extra (x ∷ ks) zero h = omega (arith, no_buffer_before extra (kinds_view ks))
buffers_next extra (x ∷ ks) (suc j) h = omega (arith, buffers_next extra ks j (omega arith))

pub buffers_step : (extra : ℕ) (ks : List PlainKind) (j : ℕ) → j < length ks
    → buffers_before extra (kinds_view ks) (j + 1) ≡ buffers_before extra (kinds_view ks) j + buffers extra (kind_at (kinds_view ks) j)
buffers_step extra ks j h = rw add-one (buffers_next extra ks j h)

-- a column's entries are among all
pub nodes_inside : (ks : List PlainKind) (j : ℕ) → j < length ks
    → nodes_before (kinds_view ks) j + nodes (kind_at (kinds_view ks) j) ≤ all_nodes (kinds_view ks)
nodes_inside [] j h = absurd (omega arith)
nodes_inside (x ∷ ks) zero h = omega arith
nodes_inside (x ∷ ks) (suc j) h = omega (arith, nodes_inside ks j (omega arith))

pub buffers_inside : (extra : ℕ) (ks : List PlainKind) (j : ℕ) → j < length ks
    → buffers_before extra (kinds_view ks) j + buffers extra (kind_at (kinds_view ks) j) ≤ all_buffers extra (kinds_view ks)
buffers_inside extra [] j h = absurd (omega arith)
buffers_inside extra (x ∷ ks) zero h = omega arith
buffers_inside extra (x ∷ ks) (suc j) h = omega (arith, buffers_inside extra ks j (omega arith))

pub ruleset places = (nodes_step, buffers_step, nodes_inside, buffers_inside, none_before, no_buffer_before)

-- The entries from a position on are those of the column.
pub own_is : (ns : List FieldNode) (ps : List PlainPart) (order : Endianness) (extra : ℕ) (ts : Kinds) (j node n buffer m : ℕ)
    → node ≡ nodes_before ts j → n ≡ nodes (kind_at ts j) → buffer ≡ buffers_before extra ts j → m ≡ buffers extra (kind_at ts j)
    → record { nodes = slice_range ns node (node + n); parts = map part_view (slice_range ps buffer (buffer + m)); order = order; extra = extra; dictionaries = [] }
    ≡ own (record { nodes = ns; parts = map part_view ps; order = order; extra = extra; dictionaries = [] }) ts j
own_is ns ps order extra ts j node n buffer m e f g h =
    let count : node + n - node ≡ nodes (kind_at ts j) = omega arith in
    let many : buffer + m - buffer ≡ buffers extra (kind_at ts j) = omega arith in
    let one : slice_range ns node (node + n) ≡ take (nodes (kind_at ts j)) (drop (nodes_before ts j) ns) =
    ap (λ k. take k (drop node ns)) count ∙ ap (λ k. take (nodes (kind_at ts j)) (drop k ns)) e in
    let two : map part_view (slice_range ps buffer (buffer + m)) ≡ take (buffers extra (kind_at ts j)) (drop (buffers_before extra ts j) (map part_view ps)) =
    ap (λ k. map part_view (take k (drop buffer ps))) many
    ∙ ap (λ k. map part_view (take (buffers extra (kind_at ts j)) (drop k ps))) g
    ∙ sym (take-map part_view (buffers extra (kind_at ts j)) (drop (buffers_before extra ts j) ps))
    ∙ ap (take (buffers extra (kind_at ts j))) (sym (drop-map part_view (buffers_before extra ts j) ps)) in
    let made : List FieldNode → List Part → Entries = λ ns' ps'. record { nodes = ns'; parts = ps'; order = order; extra = extra; dictionaries = [] } in
    ap (λ ns'. made ns' (map part_view (slice_range ps buffer (buffer + m)))) one
    ∙ ap (made (take (nodes (kind_at ts j)) (drop (nodes_before ts j) ns))) two

-- they are as many as the column takes
pub part_long : {X : Type 0} (xs : List X) (from n k : ℕ) → n ≡ k → from + k ≤ length xs → 0 + k ≤ length (slice_range xs from (from + n))
part_long xs from n k e h =
    let count : from + n - from ≡ k = omega arith in
    omega (arith, length-take (from + n - from) (drop from xs), length-drop from xs)

pub room_of : (e : PlainEntries) (t u : Kind) (a b : ℕ) → t ≡ u → HasEntries e u a b → HasEntries e t a b
room_of e t u a b same room = subst (λ (k : Kind). HasEntries e k a b) (sym same) room

pub read_is : (s o : Entries) (ts : Kinds) (t : Kind) (limit : Limit) (k j : ℕ) → o ≡ own s ts j → t ≡ kind_at ts j
    → (is_well o t 0 0 limit && (rows o 0 limit == k)) ≡ reads s ts limit k j
read_is s o ts t limit k j e f =
    ap (λ u. is_well o u 0 0 limit && (rows o 0 limit == k)) f ∙ ap (λ p. is_well p (kind_at ts j) 0 0 limit && (rows p 0 limit == k)) e

pub slots_are : (s o : Entries) (ts : Kinds) (t : Kind) (limit : Limit) (j : ℕ) → o ≡ own s ts j → t ≡ kind_at ts j
    → column o t 0 0 limit ≡ slots_of_column s ts limit j
slots_are s o ts t limit j e f = ap (λ u. column o u 0 0 limit) f ∙ ap (λ p. column p (kind_at ts j) 0 0 limit) e
