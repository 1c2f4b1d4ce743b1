-- A batch whose entries are those of a plan means its columns.
use Rattle.std.proofs.Common.{append-nil, ◌≡◌, ℕ, zero, suc, pos, ◌+◌, ◌-◌, ◌<◌, ◌≤◌, List, [], ◌∷◌, ◌++◌, map, length, replicate, None, Some, refl, sym, ap, ◌∙◌, subst, arith, length-append, rules, All}
use Rattle.std.specs.Prelude.{slice_index_or}
use Rattle.std.specs.List.{range_with_len, flat_map, sum_by}
use Rattle.std.specs.Int.{next_multiple_of}
use Rattle.std.proofs.lemmas.List.{length-replicate}
use Rattle.std.proofs.lemmas.Grind.{flat_map-append}
use Rattle.std.proofs.lemmas.List.Concat.{flat_map-cons}
use Rattle.std.proofs.lemmas.List.Elements.{All-cons}
use Rattle.std.proofs.lemmas.List.FromFn.{length-map-range_with_len}
use Rattle.std.proofs.lemmas.List.Sums.{sum_by-cons}
use Rattle.lower.specs.TypeTrees.{FieldTree, FieldTrees, no_fields, more_fields}
use Rattle.lower_validation.specs.Fields.{field_type}
use Rattle.lower_arrays.specs.Choices.{no_child}
use Rattle.lower_arrays.specs.Layouts.{Layout, Level, layouts, len_of, type_of}
use Rattle.lower_arrays.specs.Slots.{Slot, slot_at as array_slot, slots_from, slots, AreArrays}
use Rattle.ipc_base.specs.IdTrees.{IdTrees}
use Rattle.ipc_table_views.specs.declared.message.FieldNode.{FieldNode}
use Rattle.ipc_table_views.specs.declared.schema.Buffer.{Buffer}
use Rattle.ipc_model.proofs.Addresses.{own_node, address_law}
use Rattle.ipc_model.proofs.Needs.{node_law}
use Rattle.ipc_model.proofs.Pruned.{batch_is, read_first}
use Rattle.ipc_model.specs.Batches.{Lists, Schema, kinds, kind_at, type_at, nodes_before, buffers_before, own, entries_of, IsWellAt, rows_at, slots_of_column, AllRead, AreBounded, IsBatch, Column, Chunk, chunk_of, batch, field_type as named_type}
use Rattle.ipc_model.specs.Columns.{WithRows, IsWell, column, slot_at}
use Rattle.ipc_model.specs.Entries.{Entries, Part, IsSize, size, part_at, node, Dictionaries, rows}
use Rattle.ipc_model.specs.Kinds.{Kind, Kinds, count, nodes, all_nodes, buffers, all_buffers}
use Rattle.ipc_model.specs.Offers.{own_id, inner_ids, whole_levels, body_lengths, buffer_lengths}
use Rattle.ipc_model.specs.Streams.{whole}
use Rattle.ipc_model.specs.TypeKinds.{first_ids, other_ids, kind_of, field_kind, kinds_of}
use Rattle.ipc_model.specs.WrittenBatches.{padded, entry}
use Rattle.ipc_plan.specs.Bodies.{AllMean}
use Rattle.ipc_plan.specs.Levels.{joined_buffers}
use Rattle.ipc_plan.specs.Meaning.{KnowsAll}
use Rattle.ipc_plan.specs.Pieces.{pieces_bytes}
use Rattle.lower_types.specs.declared.Endianness.{Endianness}
use Rattle.ipc_plan.specs.Plans.{entries_from, body}
use Rattle.ipc_plan.proofs.KindForms.{field_kind_is}
use Rattle.ipc_plan.proofs.Structs.{counted}
use Rattle.ipc_plan.specs.Batches.{AreLike, HaveRows, chunk_named, lists_of_plan, body_of_plan, ColumnsBatchLaw}
use Rattle.ipc_plan.proofs.NormalKinds.{same_kind}

-- ---- one column

nth : List Layout → ℕ → Layout
nth ls j = slice_index_or ls j no_child

-- a column at node x and buffer y is an array's
record At (s : Entries) (t : Kind) (x y : ℕ) (l : Layout) : Type 0 where
  pub well : IsWell s t x y None
  pub slots_are : column s t x y None ≡ slots l

at_place : (s : Entries) (t u : Kind) (x y a b : ℕ) (l : Layout) → t ≡ u → x ≡ a → y ≡ b → At s t x y l → At s u a b l
at_place s t u x y a b l e f g v =
    subst (λ (k : Kind). At s k a b l) e (subst (λ (i : ℕ). At s t i b l) f (subst (λ (i : ℕ). At s t x i l) g v))

kind_same : (f : FieldTree) (fs : FieldTrees) (is : IdTrees) (l : Layout) (ls : List Layout) → AreLike (more_fields f fs) (layouts (l ∷ ls))
    → kind_of (type_of l) (own_id (first_ids is)) (inner_ids (first_ids is)) ≡ field_kind f (first_ids is)
kind_same f fs is l ls like =
    same_kind (type_of l) (field_type f) (own_id (first_ids is)) (inner_ids (first_ids is)) like.0 ∙ sym (field_kind_is f (first_ids is))

column_at : (s : Entries) (fs : FieldTrees) (is : IdTrees) (ls : List Layout) (a b j x y : ℕ) → AreLike fs (layouts ls) → KnowsAll s (layouts ls) is → AllMean s ls is a b → j < length ls
    → a + nodes_before (kinds_of fs is) j ≡ x → b + buffers_before 0 (kinds_of fs is) j ≡ y → At s (kind_at (kinds_of fs is) j) x y (nth ls j)
unfolding nth
column_at s fs is [] a b j x y like known mean h e f = absurd (omega (arith, h))
column_at s no_fields is (l ∷ ls) a b j x y like known mean h e f = absurd like
column_at s (more_fields g fs) is (l ∷ ls) a b zero x y like known mean h e f =
    let m = mean.0 known.0 in
    at_place s (kind_of (type_of l) (own_id (first_ids is)) (inner_ids (first_ids is))) (field_kind g (first_ids is)) a b x y l (kind_same g fs is l ls like) (omega (arith, e)) (omega (arith, f))
    (record { well = m.0; slots_are = m.1 })
column_at s (more_fields g fs) is (l ∷ ls) a b (suc j) x y like known mean h e f =
    let t = kind_of (type_of l) (own_id (first_ids is)) (inner_ids (first_ids is)) in
    let same = kind_same g fs is l ls like in
    column_at s fs (other_ids is) ls (a + nodes t) (b + buffers 0 t) j x y like.1 known.1 mean.1 (omega (arith, h))
    (omega (arith, e, ap nodes same)) (omega (arith, f, ap (buffers 0) same))

slots_count : (f : ℕ → Slot) (a n : ℕ) → length (slots_from f a n) ≡ n
slots_count f a zero = refl
slots_count f a (suc n) = let e = slots_count f (a + 1) n in omega (arith, e)

rows_are : (s : Entries) (t : Kind) (x y : ℕ) (l : Layout) → At s t x y l → rows s x None ≡ len_of l
rows_are s t x y l v =
    sym (length-map-range_with_len (λ i. slot_at s t x y i) 0 (rows s x None)) ∙ ap (λ (xs : List Slot). length xs) v.slots_are ∙ slots_count (array_slot l) 0 (len_of l)

rows_of : (ls : List Layout) (k j : ℕ) → HaveRows k ls → j < length ls → len_of (nth ls j) ≡ k
unfolding nth
rows_of [] k j h i = absurd (omega (arith, i))
rows_of (l ∷ ls) k zero h i = h.0
rows_of (l ∷ ls) k (suc j) h i = rows_of ls k j h.1 (omega (arith, i))

-- ---- counts

kind_count : (fs : FieldTrees) (is : IdTrees) (ls : List Layout) → AreLike fs (layouts ls) → count (kinds_of fs is) ≡ length ls
kind_count no_fields is [] like = refl
kind_count no_fields is (l ∷ ls) like = absurd like
kind_count (more_fields f fs) is [] like = absurd like
kind_count (more_fields f fs) is (l ∷ ls) like = let e = kind_count fs (other_ids is) ls like.1 in omega (arith, e)

node_total : (s : Entries) (fs : FieldTrees) (is : IdTrees) (ls : List Layout) → s.extra ≡ 0 → AreLike fs (layouts ls) → AreArrays (layouts ls) → all_nodes (kinds_of fs is) ≡ length (flat_map whole_levels ls)
node_total s no_fields is [] extra like arrays = refl
node_total s no_fields is (l ∷ ls) extra like arrays = absurd like
node_total s (more_fields f fs) is [] extra like arrays = absurd like
node_total s (more_fields f fs) is (l ∷ ls) extra like arrays =
    let rest = node_total s fs (other_ids is) ls extra like.1 arrays.1 in
    let one = counted s l (own_id (first_ids is)) (inner_ids (first_ids is)) 0 (len_of l) arrays.0 extra in
    omega (arith, rest, one.node_count, ap nodes (kind_same f fs is l ls like), ap (λ (hs : List Level). length hs) (flat_map-cons whole_levels l ls), length-append (whole_levels l) (flat_map whole_levels ls))

lengths_both : (hs ks : List Level) → body_lengths (hs ++ ks) ≡ body_lengths hs ++ body_lengths ks
lengths_both hs ks = flat_map-append (λ (h : Level). buffer_lengths h.parts h.validity h.len) hs ks

buffer_total : (s : Entries) (fs : FieldTrees) (is : IdTrees) (ls : List Layout) → s.extra ≡ 0 → AreLike fs (layouts ls) → AreArrays (layouts ls)
    → all_buffers s.extra (kinds_of fs is) ≡ length (body_lengths (flat_map whole_levels ls))
buffer_total s no_fields is [] extra like arrays = refl
buffer_total s no_fields is (l ∷ ls) extra like arrays = absurd like
buffer_total s (more_fields f fs) is [] extra like arrays = absurd like
buffer_total s (more_fields f fs) is (l ∷ ls) extra like arrays =
    let rest = buffer_total s fs (other_ids is) ls extra like.1 arrays.1 in
    let one = counted s l (own_id (first_ids is)) (inner_ids (first_ids is)) 0 (len_of l) arrays.0 extra in
    let both = ap body_lengths (flat_map-cons whole_levels l ls) ∙ lengths_both (whole_levels l) (flat_map whole_levels ls) in
    omega (arith, rest, one.buffer_count, ap (buffers s.extra) (kind_same f fs is l ls like), ap (λ (ns : List ℕ). length ns) both, length-append (body_lengths (whole_levels l)) (body_lengths (flat_map whole_levels ls)))

-- ---- all columns

read_range : (s : Entries) (ts : Kinds) (k n : ℕ) → ((j : ℕ) → j < n → WithRows (IsWellAt s ts None j) (rows_at s ts None j) k) → (a m : ℕ) → a + m ≤ n → AllRead s ts None k (range_with_len a m)
read_range s ts k n each a zero h = tt
read_range s ts k n each a (suc m) h = (each a (omega (arith, h)), read_range s ts k n each (a + 1) m (omega (arith, h)))

-- column j, in the entries of its own
record Own (s : Entries) (ts : Kinds) (k j : ℕ) (l : Layout) : Type 0 where
  pub well : IsWellAt s ts None j
  pub rows_own : rows_at s ts None j ≡ k
  pub slots_own : slots_of_column s ts None j ≡ slots l

own_column : (s : Entries) (ts : Kinds) (k j : ℕ) (l : Layout) → len_of l ≡ k → At s (kind_at ts j) (nodes_before ts j) (buffers_before s.extra ts j) l → Own s ts k j l
own_column s ts k j l n v =
    let law = address_law s ts None j in
    let well = law.from_whole v.well in
    let row_node : node (own s ts j) 0 ≡ node s (nodes_before ts j) =
    own_node s ts j 0 (omega (arith, node_law (kind_at ts j))) ∙ (let place : nodes_before ts j + 0 ≡ nodes_before ts j = omega arith in ap (node s) place) in
    record {
      well = well;
      rows_own = ap (λ (x : FieldNode). size x.length) row_node ∙ rows_are s (kind_at ts j) (nodes_before ts j) (buffers_before s.extra ts j) l v ∙ n;
      slots_own = law.slots well ∙ v.slots_are;
    }

chunk_tail : (g : ℕ → Column) (fs : FieldTrees) (ls : List Layout) (a : ℕ) → AreLike fs (layouts ls)
    → ((i : ℕ) → i < length ls → g (a + i) ≡ record { type = type_at fs i; slots = slots (nth ls i) }) → map g (range_with_len a (length ls)) ≡ chunk_named fs ls
unfolding nth
chunk_tail g no_fields [] a like each = refl
chunk_tail g no_fields (l ∷ ls) a like each = absurd like
chunk_tail g (more_fields f fs) [] a like each = absurd like
chunk_tail g (more_fields f fs) (l ∷ ls) a like each =
    let named : Column = record { type = named_type f; slots = slots l } in
    let here : g a ≡ named = (let e : a ≡ a + 0 = omega arith in ap g e) ∙ each 0 (omega arith) in
    let rest = chunk_tail g fs ls (a + 1) like.1 (λ i h. (let e : a + 1 + i ≡ a + suc i = omega arith in ap g e) ∙ each (suc i) (omega (arith, h))) in
    ap (λ (x : Column). x ∷ map g (range_with_len (a + 1) (length ls))) here ∙ ap (λ (xs : Chunk). named ∷ xs) rest

pub batch_of : (s : Entries) (most : ℕ) (schema : Schema) (ls : List Layout) (k : ℕ) → s.extra ≡ 0 → AreBounded s most
    → length s.nodes ≡ length (flat_map whole_levels ls) → length s.parts ≡ length (body_lengths (flat_map whole_levels ls))
    → AreArrays (layouts ls) → AreLike schema.fields (layouts ls) → HaveRows k ls → KnowsAll s (layouts ls) schema.ids → AllMean s ls schema.ids 0 0
    → batch s most schema None None ≡ Some (chunk_named schema.fields ls)
batch_of s most schema ls k extra bounded node_count buffer_count arrays like same known mean =
    let ts = kinds schema in
    let n = count ts in
    let counted_is = kind_count schema.fields schema.ids ls like in
    let column_is : (j : ℕ) → j < n → Own s ts k j (nth ls j) = λ j h.
    let inside : j < length ls = omega (arith, h, counted_is) in
    own_column s ts k j (nth ls j) (rows_of ls k j same inside)
    (column_at s schema.fields schema.ids ls 0 0 j (nodes_before ts j) (buffers_before s.extra ts j) like known mean inside (omega arith)
    (omega (arith, ap (λ (z : ℕ). buffers_before z ts j) extra))) in
    let each : (j : ℕ) → j < n → WithRows (IsWellAt s ts None j) (rows_at s ts None j) k = λ j h. ((column_is j h).well, (column_is j h).rows_own) in
    let is : IsBatch s most ts (range_with_len 0 n) None = record {
      bounded = bounded;
      nodes_listed = omega (arith, node_total s schema.fields schema.ids ls extra like arrays, node_count);
      buffers_listed = omega (arith, buffer_total s schema.fields schema.ids ls extra like arrays, buffer_count);
      columns = read_first s ts None k (range_with_len 0 n) (read_range s ts k n each 0 n (omega arith));
    } in
    let g : ℕ → Column = λ j. record { type = type_at schema.fields j; slots = slots_of_column s ts None j } in
    batch_is s most schema None None is
    ∙ ap (λ m. Some (chunk_of s schema.fields ts (range_with_len 0 m) None)) counted_is
    ∙ ap Some (chunk_tail g schema.fields ls 0 like
    (λ i h. (let e : 0 + i ≡ i = omega arith in ap g e)
    ∙ ap (λ (xs : List Slot). record { type = type_at schema.fields i; slots = xs }) (column_is i (omega (arith, h, counted_is))).slots_own))

parts_count : (body : List ℕ) (bs : List Buffer) → length (map (part_at body 0) bs) ≡ length bs
parts_count body [] = refl
parts_count body (b ∷ bs) = let e = parts_count body bs in omega (arith, e)

-- ---- the nodes and buffers of the plan

length_padded : (xs : List ℕ) → length (padded xs) ≡ next_multiple_of (length xs) 64
length_padded xs =
    let zero_byte : ℕ = 0 in
    let n = next_multiple_of (length xs) 64 - length xs in
    omega (arith, length-append xs (replicate n zero_byte), length-replicate n zero_byte)

abbrev listed : List ℕ → ℕ → List (List ℕ) → List Part
listed source o bs = map (part_at source 0) (entries_from o bs)

lengths_sized : (source : List ℕ) (o : ℕ) (bs : List (List ℕ)) → All (λ (p : Part). IsSize p.length) (listed source o bs)
lengths_sized source o [] = λ i d h. absurd (omega (arith, h))
lengths_sized source o (x ∷ bs) =
    All-cons (λ (p : Part). IsSize p.length) (part_at source 0 (entry (pos o) (length x))) (listed source (o + next_multiple_of (length x) 64) bs) (search rules)
    (lengths_sized source (o + next_multiple_of (length x) 64) bs)

total_listed : (source : List ℕ) (o : ℕ) (bs : List (List ℕ)) → sum_by (λ (p : Part). size p.length) (listed source o bs) ≤ length (body bs)
total_listed source o [] = omega arith
total_listed source o (x ∷ bs) =
    let next = o + next_multiple_of (length x) 64 in
    let f : Part → ℕ = λ (p : Part). size p.length in
    let first = sum_by-cons f (part_at source 0 (entry (pos o) (length x))) (listed source next bs) in
    let rest = total_listed source next bs in
    let long = ap length (flat_map-cons padded x bs) in
    omega (arith, first, rest, long, length-append (padded x) (body bs), length_padded x)

-- Buffers one after the other take at most their bytes, each padded.
bounded : (order : Endianness) (lists : Lists) (bs : List (List ℕ)) (known : Dictionaries) (source : List ℕ) → lists.buffers ≡ entries_from 0 bs → source ≡ body bs
    → AreBounded (entries_of lists (whole source) order 0 known) (length source)
unfolding entries_of
bounded order lists bs known source e f =
    let same : map (part_at source 0) lists.buffers ≡ listed source 0 bs = ap (λ (xs : List Buffer). map (part_at source 0) xs) e in
    let total = total_listed source 0 bs in
    record {
      lengths = subst (λ (ps : List Part). All (λ (p : Part). IsSize p.length) ps) (sym same) (lengths_sized source 0 bs);
      total = subst (λ (ps : List Part). sum_by (λ (p : Part). size p.length) ps ≤ length source) (sym same) (omega (arith, total, ap length f));
    }

pub columns_batch_law : ColumnsBatchLaw
unfolding entries_of
columns_batch_law schema p ls k known h arrays like same knows =
    let lists = lists_of_plan p in
    let source = body_of_plan p in
    let bytes : source ≡ body (joined_buffers h.buffers) = ap (λ (o : Endianness). pieces_bytes o p.pieces.items) h.order_is ∙ h.body_is in
    let s = entries_of lists (whole source) schema.order 0 known in
    let behind : map (part_at ([] ++ (source ++ [])) 0) p.buffers.items ≡ map (part_at source 0) p.buffers.items =
    ap (λ (xs : List ℕ). map (part_at xs 0) p.buffers.items) (append-nil source) in
    let mean : AllMean s ls schema.ids 0 0 =
    subst (λ (ps : List Part). AllMean (record { nodes = p.nodes.items; parts = ps; order = schema.order; extra = 0; dictionaries = known }) ls schema.ids 0 0) behind
    (subst (λ (o : Endianness). AllMean (record { nodes = p.nodes.items; parts = map (part_at ([] ++ (source ++ [])) 0) p.buffers.items; order = o; extra = 0; dictionaries = known }) ls schema.ids 0 0) h.order_is
    (h.means known [] [] schema.ids)) in
    batch_of s (length source) schema ls k refl (bounded schema.order lists (joined_buffers h.buffers) known source h.entries_are bytes) h.node_count
    (parts_count source lists.buffers ∙ h.buffer_count) arrays like same knows mean
