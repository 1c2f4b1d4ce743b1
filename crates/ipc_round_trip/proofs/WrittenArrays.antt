-- Arrays that were written one after the other mean their slots in a batch
-- with their parts, and are read.
use Rattle.std.proofs.Common.{arith, rules, ◌≡◌, ℕ, suc, pos, ◌+◌, ◌≤◌, List, [], ◌∷◌, ◌++◌, map, length, Option, None, Some, Result, Ok, Err, All, refl, sym, ap, ap₂, ◌∙◌, subst, append-nil, append_assoc, length-append}
use Rattle.std.specs.Prelude.{IsSome}
use Rattle.std.specs.Int.{next_multiple_of}
use Rattle.std.specs.List.{flat_map, sum_by}
use Rattle.std.specs.Option.{option_and_then}
use Rattle.std.proofs.lemmas.Grind.{flat_map-append}
use Rattle.std.proofs.lemmas.List.{length-map}
use Rattle.std.proofs.lemmas.List.Concat.{flat_map-cons}
use Rattle.std.proofs.lemmas.List.Elements.{All-nil, All-cons, All-append, All-map}
use Rattle.std.proofs.lemmas.List.Sums.{sum_by-cons, sum_by-append}
use Rattle.lower.specs.TypeTrees.{FieldTrees, no_fields, more_fields, TypeTree}
use Rattle.lower_types.specs.declared.Endianness.{Endianness}
use Rattle.lower_arrays.specs.AnyLayouts.{layout_of}
use Rattle.lower_arrays.specs.Layouts.{Layout, Level, layouts, len_of, type_of}
use Rattle.lower_arrays.specs.Slots.{AreArrays, slots}
use Rattle.lower_arrays.specs.declared.array.AnyArray.{AnyArray}
use Rattle.ipc_base.specs.IdTrees.{IdTrees}
use Rattle.ipc_devices.proofs.Claims.{claims_through}
use Rattle.ipc_devices.specs.Faults.{Answers}
use Rattle.ipc_devices.specs.declared.fault.Fault.{Fault}
use Rattle.ipc_table_views.specs.Spot.{Spot}
use Rattle.ipc_table_views.specs.declared.message.FieldNode.{FieldNode}
use Rattle.ipc_table_views.specs.declared.schema.Buffer.{Buffer}
use Rattle.ipc_model.specs.Accepted.{types_of}
use Rattle.ipc_model.specs.BatchLaws.{pruned}
use Rattle.ipc_model.specs.Batches.{AreBounded, Body, Chunk, Schema, batch, entries_of, field_type, lists_of, record_meaning}
use Rattle.ipc_model.specs.Entries.{Dictionaries, IsSize, Limit, Part, part_at, size}
use Rattle.ipc_model.specs.Kinds.{buffers, nodes}
use Rattle.ipc_model.specs.Offers.{body_lengths, buffer_lengths, inner_ids, own_id, whole_levels}
use Rattle.ipc_model.specs.TypeKinds.{first_ids, kind_of, other_ids}
use Rattle.ipc_model.specs.WrittenBatches.{entry, padded}
use Rattle.ipc_model.proofs.Pruned.{prune_law}
use Rattle.ipc_plan.specs.Batches.{AreLike, HaveRows, chunk_named}
use Rattle.ipc_plan.specs.Bodies.{AllMean}
use Rattle.ipc_plan.specs.Levels.{joined_buffers, node_of}
use Rattle.ipc_plan.specs.Meaning.{KnowsAll}
use Rattle.ipc_plan.specs.Plans.{body, entries_from}
use Rattle.ipc_plan.proofs.Batches.{batch_of}
use Rattle.ipc_plan.proofs.Standing.{joined_count}
use Rattle.ipc_plan.proofs.Structs.{counted}
use Rattle.ipc_encode.specs.Appending.{BatchParts, Has}
use Rattle.ipc_encode.specs.EncodedLaws.{knowing}
use Rattle.ipc_encode.proofs.Placed.{length_padded}
use Rattle.ipc_read.specs.Chunks.{chunk_seen}
use Rattle.ipc_round_trip.specs.WrittenArrays.{AreJoined, AreWritten, ChosenArraysLaw, GivesJust, ReadArraysLaw, SameArraysLaw, WrittenArrayLaw, WrittenArraysLaw, nothing_written, written_entries, written_lists}

-- ---- parts of a list

-- What was appended twice.
both_behind : {A : Type 0} → (old new all b c : List A) → new ≡ old ++ b → all ≡ new ++ c → all ≡ old ++ (b ++ c)
both_behind old new all b c e f = f ∙ ap (λ xs. xs ++ c) e ∙ append_assoc old b c

-- The first of it.
between : {A : Type 0} → (old new all b c : List A) (k : ℕ) → new ≡ old ++ b → all ≡ new ++ c → length old ≡ k → Has all k b
between old new all b c k e f g = record { before = old; behind = c; all_is = both_behind old new all b c e f; place_is = g }

-- The same of a list that is part of another.
within : {A : Type 0} → (source all old b c : List A) (k n : ℕ) → Has source k all → all ≡ old ++ (b ++ c) → n ≡ length old → Has source (k + n) b
within source all old b c k n h e f = record {
  before = h.before ++ old;
  behind = c ++ h.behind;
  all_is =
      h.all_is ∙ ap (λ xs. h.before ++ (xs ++ h.behind)) e
      ∙ ap (λ xs. h.before ++ xs) (append_assoc old (b ++ c) h.behind ∙ ap (λ xs. old ++ xs) (append_assoc b c h.behind))
      ∙ sym (append_assoc h.before old (b ++ (c ++ h.behind)));
  place_is = omega (arith, length-append h.before old, h.place_is, f);
}

-- ---- buffers one after the other

entry_count : (o : ℕ) (bs : List (List ℕ)) → length (entries_from o bs) ≡ length bs
entry_count o [] = refl
entry_count o (x ∷ bs) = ap (λ n. suc n) (entry_count (o + next_multiple_of (length x) 64) bs)

abbrev HasSize : Buffer → Type 0
HasSize r = IsSize r.length

abbrev size_of : Buffer → ℕ
size_of r = size r.length

entry_sizes : (o : ℕ) (bs : List (List ℕ)) → All HasSize (entries_from o bs)
entry_sizes o [] = All-nil HasSize
entry_sizes o (x ∷ bs) =
    All-cons HasSize (entry (pos o) (length x)) (entries_from (o + next_multiple_of (length x) 64) bs) (search rules) (entry_sizes (o + next_multiple_of (length x) 64) bs)

-- The encoded lengths sum to at most their bytes, each padded.
entry_total : (o : ℕ) (bs : List (List ℕ)) → sum_by size_of (entries_from o bs) ≤ length (body bs)
entry_total o [] = omega arith
entry_total o (x ∷ bs) =
    let next = o + next_multiple_of (length x) 64 in
    let first = sum_by-cons size_of (entry (pos o) (length x)) (entries_from next bs) in
    let rest = entry_total next bs in
    let long = ap length (flat_map-cons padded x bs) in
    omega (arith, first, rest, long, length-append (padded x) (body bs), length_padded x)

-- a buffer's length is that of its part
part_total : (source : List ℕ) (base : ℕ) (rs : List Buffer) → sum_by (λ (p : Part). size p.length) (map (part_at source base) rs) ≡ sum_by size_of rs
part_total source base [] = refl
part_total source base (r ∷ rs) =
    let here = sum_by-cons (λ (p : Part). size p.length) (part_at source base r) (map (part_at source base) rs) in
    let same = sum_by-cons size_of r rs in
    let rest = part_total source base rs in
    omega (arith, here, same, rest)

-- ---- arrays that were appended

-- what some arrays added to the parts of a batch
record Added (ls : List Layout) (old last : BatchParts) : Type 0 where
  nodes : List FieldNode
  buffers : List Buffer
  bytes : List ℕ
  nodes_are : last.nodes ≡ old.nodes ++ nodes
  buffers_are : last.buffers ≡ old.buffers ++ buffers
  bytes_are : last.bytes ≡ old.bytes ++ bytes
  node_count : length nodes ≡ length (flat_map whole_levels ls)
  buffer_count : length buffers ≡ length (body_lengths (flat_map whole_levels ls))
  sizes : All HasSize buffers
  total : sum_by size_of buffers ≤ length bytes

added : (order : Endianness) (ls : List Layout) (old last : BatchParts) → AreJoined order ls old last → Added ls old last
added order [] old last e = record {
  nodes = [];
  buffers = [];
  bytes = [];
  nodes_are = ap (λ (p : BatchParts). p.nodes) e ∙ sym (append-nil old.nodes);
  buffers_are = ap (λ (p : BatchParts). p.buffers) e ∙ sym (append-nil old.buffers);
  bytes_are = ap (λ (p : BatchParts). p.bytes) e ∙ sym (append-nil old.bytes);
  node_count = refl;
  buffer_count = refl;
  sizes = All-nil HasSize;
  total = omega arith;
}
added order (l ∷ ls) old last j =
    let new = j.0 in
    let h = j.1 in
    let rest = added order ls new last j.2 in
    let hs = whole_levels l in
    let ks = flat_map whole_levels ls in
    let ns = map node_of hs in
    let bs = joined_buffers h.buffers in
    let es = entries_from (size old.offset) bs in
    let levels = ap (λ (xs : List Level). length xs) (flat_map-cons whole_levels l ls) in
    let lengths : body_lengths (flat_map whole_levels (l ∷ ls)) ≡ body_lengths hs ++ body_lengths ks =
    ap body_lengths (flat_map-cons whole_levels l ls) ∙ flat_map-append (λ (x : Level). buffer_lengths x.parts x.validity x.len) hs ks in
    record {
      nodes = ns ++ rest.nodes;
      buffers = es ++ rest.buffers;
      bytes = body bs ++ rest.bytes;
      nodes_are = both_behind old.nodes new.nodes last.nodes ns rest.nodes h.nodes_are rest.nodes_are;
      buffers_are = both_behind old.buffers new.buffers last.buffers es rest.buffers h.buffers_are rest.buffers_are;
      bytes_are = both_behind old.bytes new.bytes last.bytes (body bs) rest.bytes h.bytes_are rest.bytes_are;
      node_count = omega (arith, length-append ns rest.nodes, length-map hs node_of, rest.node_count, levels, length-append hs ks);
      buffer_count =
          omega (arith, length-append es rest.buffers, entry_count (size old.offset) bs, joined_count order hs h.buffers h.have, rest.buffer_count, ap (λ (xs : List ℕ). length xs) lengths, length-append (body_lengths hs) (body_lengths ks));
      sizes = All-append HasSize es rest.buffers (entry_sizes (size old.offset) bs) rest.sizes;
      total = omega (arith, sum_by-append size_of es rest.buffers, entry_total (size old.offset) bs, rest.total, length-append (body bs) rest.bytes);
    }

-- Each array at its position, after those before it.
all_mean : (order : Endianness) (ls : List Layout) (old last : BatchParts) (at : Body) (known : Dictionaries) (is : IdTrees) (a b : ℕ) → AreJoined order ls old last → AreArrays (layouts ls)
    → Has at.source at.base last.bytes → size old.offset ≡ length old.bytes → length old.nodes ≡ a → length old.buffers ≡ b → AllMean (entries_of (written_lists last) at order 0 known) ls is a b
all_mean order [] old last at known is a b j arrays stand begins na nb = tt
all_mean order (l ∷ ls) old last at known is a b j arrays stand begins na nb =
    let new = j.0 in
    let h = j.1 in
    let rest = added order ls new last j.2 in
    let id = own_id (first_ids is) in
    let inner = inner_ids (first_ids is) in
    let t = kind_of (type_of l) id inner in
    let hs = whole_levels l in
    let ns = map node_of hs in
    let bs = joined_buffers h.buffers in
    let o = size old.offset in
    let es = entries_from o bs in
    let one = counted (knowing known order) l id inner 0 (len_of l) arrays.0 refl in
    let nodes_here = between old.nodes new.nodes last.nodes ns rest.nodes a h.nodes_are rest.nodes_are na in
    let buffers_here = between old.buffers new.buffers last.buffers es rest.buffers b h.buffers_are rest.buffers_are nb in
    let bytes_here = within at.source last.bytes old.bytes (body bs) rest.bytes at.base o stand (both_behind old.bytes new.bytes last.bytes (body bs) rest.bytes h.bytes_are rest.bytes_are) begins in
    let next_node : length new.nodes ≡ a + nodes t =
    omega (arith, ap (λ (xs : List FieldNode). length xs) h.nodes_are, length-append old.nodes ns, length-map hs node_of, one.node_count, na) in
    let next_buffer : length new.buffers ≡ b + buffers 0 t =
    omega (arith, ap (λ (xs : List Buffer). length xs) h.buffers_are, length-append old.buffers es, entry_count o bs, joined_count order hs h.buffers h.have, one.buffer_count, nb) in
    let next_byte : size new.offset ≡ length new.bytes =
    ap size h.offset_is ∙ ap (λ n. n + length (body bs)) begins ∙ sym (ap (λ (xs : List ℕ). length xs) h.bytes_are ∙ length-append old.bytes (body bs)) in (
      λ knows. let m = h.means (written_lists last) at a b known id inner nodes_here buffers_here bytes_here knows in (m.well, m.slots_are),
      all_mean order ls new last at known (other_ids is) (a + nodes t) (b + buffers 0 t) j.2 arrays.1 stand next_byte next_node next_buffer,
    )

-- ---- a batch with these parts

written_batch : (schema : Schema) (known : Dictionaries) (at : Body) (p : BatchParts) (ls : List Layout) (k : ℕ) → AreJoined schema.order ls nothing_written p
    → Has at.source at.base p.bytes → length p.bytes ≤ at.size → AreArrays (layouts ls) → AreLike schema.fields (layouts ls) → HaveRows k ls
    → KnowsAll (written_entries schema known at p) (layouts ls) schema.ids → batch (written_entries schema known at p) at.size schema None None ≡ Some (chunk_named schema.fields ls)
unfolding entries_of
written_batch schema known at p ls k joined stand room arrays like have knows =
    let s = written_entries schema known at p in
    let part = part_at at.source at.base in
    let all = added schema.order ls nothing_written p joined in
    let bounded : AreBounded s at.size = record {
      lengths = All-map (λ (x : Part). IsSize x.length) part p.buffers (subst (λ (rs : List Buffer). All HasSize rs) (sym all.buffers_are) all.sizes);
      total =
          omega (arith, part_total at.source at.base p.buffers, ap (sum_by size_of) all.buffers_are, all.total, ap (λ (xs : List ℕ). length xs) all.bytes_are, room);
    } in
    batch_of s at.size schema ls k refl bounded (ap (λ (ns : List FieldNode). length ns) all.nodes_are ∙ all.node_count)
    (length-map p.buffers part ∙ ap (λ (rs : List Buffer). length rs) all.buffers_are ∙ all.buffer_count) arrays like have knows
    (all_mean schema.order ls nothing_written p at known schema.ids 0 0 joined arrays stand refl refl refl)

-- A table with the nodes and buffers of some parts means what its entries do.
listed_meaning : (schema : Schema) (known : Dictionaries) (at : Body) (t : Spot) (p : BatchParts) (projection : Option (List ℕ)) (limit : Limit) (c : Chunk) → lists_of t ≡ Some (written_lists p)
    → batch (written_entries schema known at p) at.size schema projection limit ≡ Some c → record_meaning schema 0 known at t projection limit ≡ Some c
unfolding record_meaning
listed_meaning schema known at t p projection limit c e f =
    ap (λ o. option_and_then (λ lists. batch (entries_of lists at schema.order 0 known) at.size schema projection limit) o) e ∙ f

batch_is : (schema : Schema) (known : Dictionaries) (at : Body) (t : Spot) (ls : List Layout) (w : AreWritten schema known at t ls)
    → batch (written_entries schema known at w.parts) at.size schema None None ≡ Some (chunk_named schema.fields ls)
batch_is schema known at t ls w = written_batch schema known at w.parts ls w.rows w.joined w.holds.bytes_stand w.holds.room w.arrays w.like w.have w.knows

pub written_arrays_law : WrittenArraysLaw
written_arrays_law schema known at t ls w =
    listed_meaning schema known at t w.parts None None (chunk_named schema.fields ls) w.holds.lists_are (batch_is schema known at t ls w)

pub written_array_law : WrittenArrayLaw
written_array_law schema known at t p l joins holds array like knows =
    written_arrays_law schema known at t (l ∷ [])
    (record {
      parts = p;
      joined = (p, joins, refl);
      holds = holds;
      arrays = (array, tt);
      like = like;
      rows = len_of l;
      have = (refl, tt);
      knows = (knows, tt);
    })

-- ---- what is read

-- A result, by the meaning.
gives_just : (m : Option Chunk) (c : Chunk) (r : Result (List AnyArray) Fault) → m ≡ Some c → Answers r (IsSome m) (λ xs. m ≡ Some (chunk_seen xs)) → GivesJust c r
gives_just m c (Ok xs) e g = let same : Some (chunk_seen xs) ≡ Some c = sym g.1 ∙ e in cc
gives_just m c (Err x) e g = claims_through x (IsSome m → ⊥) ⊥ (λ none. none (subst (λ (o : Option Chunk). IsSome o) (sym e) refl)) g

pub read_arrays_law : ReadArraysLaw
read_arrays_law schema known at t ls r w g =
    gives_just (record_meaning schema 0 known at t None None) (chunk_named schema.fields ls) r (written_arrays_law schema known at t ls w) g

pub chosen_arrays_law : ChosenArraysLaw
chosen_arrays_law schema known at t ls projection limit r w is g =
    let c = chunk_named schema.fields ls in
    let few = pruned projection limit c in
    gives_just (record_meaning schema 0 known at t projection limit) few r
    (listed_meaning schema known at t w.parts projection limit few w.holds.lists_are
    (prune_law (written_entries schema known at w.parts) at.size schema projection limit c is (batch_is schema known at t ls w))) g

-- Columns of the types of some fields, if these are the arrays' own.
named_same : (fs : FieldTrees) (xs : List AnyArray) → types_of fs ≡ map type_of (map layout_of xs) → chunk_named fs (map layout_of xs) ≡ chunk_seen xs
named_same no_fields [] e = refl
named_same no_fields (x ∷ xs) e = absurd cc
named_same (more_fields f fs) [] e = refl
named_same (more_fields f fs) (x ∷ xs) e =
    let here : field_type f ≡ type_of (layout_of x) = cc in
    let rest = named_same fs xs cc in
    ap₂ (λ (t : TypeTree) (c : Chunk). record { type = t; slots = slots (layout_of x) } ∷ c) here rest

pub same_arrays_law : SameArraysLaw
same_arrays_law schema known at t xs r w types g =
    subst (λ (c : Chunk). GivesJust c r) (named_same schema.fields xs types) (read_arrays_law schema known at t (map layout_of xs) r w g)
