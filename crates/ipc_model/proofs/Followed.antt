-- Batches whose source has bytes after it.
use Rattle.std.proofs.Common.{◌≡◌, ℕ, zero, suc, ℤ, pos, negsuc, ◌+◌, ◌≤◌, nat_le, Bool, true, false, List, [], ◌∷◌, ◌++◌, map, length, take, drop, slice_index_or, Option, None, Some, Result, Ok, Err, refl, sym, ap, ◌∙◌, subst, arith, append-nil}
use Rattle.std.specs.List.{list_all}
use Rattle.std.specs.Option.{option_and_then}
use Rattle.std.proofs.lemmas.Bool.{and_parts, and_from, le-leb}
use Rattle.lower.specs.TypeTrees.{FieldTrees}
use Rattle.lower_arrays.specs.Slots.{Slot}
use Rattle.lower_types.specs.declared.Endianness.{Endianness}
use Rattle.ipc_devices.specs.declared.fault.TableFault.{TableFault}
use Rattle.ipc_table_views.specs.Spot.{Spot}
use Rattle.ipc_table_views.specs.MessageSlots.{dictionary_batch_id, dictionary_batch_data, dictionary_batch_is_delta}
use Rattle.ipc_table_views.specs.declared.schema.Buffer.{Buffer}
use Rattle.ipc_model.proofs.Given.{then-some}
use Rattle.ipc_model.proofs.Agreement.{own_parts, lengths_same, total_same, count_same}
use Rattle.ipc_model.proofs.ExtendedSlots.{extend_law}
use Rattle.ipc_model.proofs.Pruned.{bounded_decides, batch_some, batch_projection, projected_is}
use Rattle.ipc_model.specs.AddressLaws.{Followed, RecordFollowLaw, DictionaryFollowLaw}
use Rattle.ipc_model.specs.Batches.{Schema, kinds, Body, Lists, lists_of, entries_of, kind_at, type_at, buffers_before, own, IsWellAt, rows_at, slots_of_column, chosen, first_rows, AllRead, listed_bytes, AreBounded, IsBatch, Chunk, chunk_of, batch, record_meaning, Place, places, place_of, values_schema, with_values, values_meaning, batch_meaning, dictionary_meaning}
use Rattle.ipc_model.specs.Entries.{Part, bytes_from, part_at, Dictionaries, Limit}
use Rattle.ipc_model.specs.Extending.{Longer, Extends}
use Rattle.ipc_model.specs.Kinds.{Kinds, count, nodes, all_nodes, buffers, all_buffers}
use Rattle.ipc_model.specs.Tests.{is_size}

-- ---- bytes

-- The first l of some bytes, and of those with more after them.
first_then : (l : ℕ) (xs ys : List ℕ) → (more : List ℕ) × (take l (xs ++ ys) ≡ take l xs ++ more)
first_then zero xs ys = ([], refl)
first_then (suc l) [] ys = (take (suc l) ys, refl)
first_then (suc l) (x ∷ xs) ys = let rest = first_then l xs ys in (rest.0, ap (λ zs. x ∷ zs) rest.1)

window_none : (l m : ℕ) (ys : List ℕ) → (more : List ℕ) × (take l (drop (suc m) ys) ≡ take l [] ++ more)
window_none zero m ys = ([], refl)
window_none (suc l) m ys = (take (suc l) (drop (suc m) ys), refl)

-- The same from an offset on.
window_then : (l m : ℕ) (xs ys : List ℕ) → (more : List ℕ) × (take l (drop m (xs ++ ys)) ≡ take l (drop m xs) ++ more)
window_then l zero xs ys = first_then l xs ys
window_then l (suc m) [] ys = window_none l m ys
window_then l (suc m) (x ∷ xs) ys = window_then l m xs ys

bytes_then : (xs ys : List ℕ) (base : ℕ) (o l : ℤ) → (more : List ℕ) × (bytes_from (xs ++ ys) base o l ≡ bytes_from xs base o l ++ more)
bytes_then xs ys base (pos o) (pos l) = window_then l (base + o) xs ys
bytes_then xs ys base (pos o) (negsuc l) = ([], refl)
bytes_then xs ys base (negsuc o) (pos l) = ([], refl)
bytes_then xs ys base (negsuc o) (negsuc l) = ([], refl)

part_then : (x y : Body) (b : Buffer) → Followed x y → Longer (part_at x.source x.base b) (part_at y.source y.base b)
part_then x y b f =
    let longer = bytes_then x.source f.added x.base b.offset b.length in record {
      offset_same = refl;
      length_same = refl;
      added = longer.0;
      bytes_then =
          ap (λ s. bytes_from s y.base b.offset b.length) f.source_then
          ∙ ap (λ n. bytes_from (x.source ++ f.added) n b.offset b.length) f.base_same
          ∙ longer.1;
    }

same_longer : (p : Part) → Longer p p
same_longer p = record { offset_same = refl; length_same = refl; added = []; bytes_then = sym (append-nil p.bytes) }

parts_then : (x y : Body) (bs : List Buffer) (i : ℕ) (d : Part) → Followed x y → Longer (slice_index_or (map (part_at x.source x.base) bs) i d) (slice_index_or (map (part_at y.source y.base) bs) i d)
parts_then x y [] i d f = same_longer d
parts_then x y (b ∷ bs) zero d f = part_then x y b f
parts_then x y (b ∷ bs) (suc i) d f = parts_then x y bs i d f

-- ---- columns

own_then : (lists : Lists) (x y : Body) (order : Endianness) (extra : ℕ) (ds : Dictionaries) (ts : Kinds) (j : ℕ) → Followed x y
    → Extends (own (entries_of lists x order extra ds) ts j) (own (entries_of lists y order extra ds) ts j).nodes (own (entries_of lists y order extra ds) ts j).parts 0 0 0 0
    (nodes (kind_at ts j)) (buffers extra (kind_at ts j))
unfolding entries_of
own_then lists x y order extra ds ts j f =
    let n = buffers extra (kind_at ts j) in
    let m = buffers_before extra ts j in
    let d : Part = record { offset = pos 0; length = pos 0; bytes = [] } in
    record {
      nodes_same = λ i h. refl;
      parts_longer = λ i h.
          subst (λ (ps : List Part). Longer (slice_index_or ps (0 + i) d) (slice_index_or (take n (drop m (map (part_at y.source y.base) lists.buffers))) (0 + i) d))
          (sym (own_parts (part_at x.source x.base) n m lists.buffers))
          (subst (λ (ps : List Part). Longer (slice_index_or (map (part_at x.source x.base) (take n (drop m lists.buffers))) (0 + i) d) (slice_index_or ps (0 + i) d))
          (sym (own_parts (part_at y.source y.base) n m lists.buffers))
          (parts_then x y (take n (drop m lists.buffers)) (0 + i) d f));
    }

-- a column is well formed with its slots
column_then : (lists : Lists) (x y : Body) (order : Endianness) (extra : ℕ) (ds : Dictionaries) (ts : Kinds) (limit : Limit) (j : ℕ) → Followed x y
    → IsWellAt (entries_of lists x order extra ds) ts limit j
    → IsWellAt (entries_of lists y order extra ds) ts limit j
    × (slots_of_column (entries_of lists y order extra ds) ts limit j ≡ slots_of_column (entries_of lists x order extra ds) ts limit j)
unfolding entries_of
column_then lists x y order extra ds ts limit j f v =
    extend_law (own (entries_of lists x order extra ds) ts j) (own (entries_of lists y order extra ds) ts j).nodes (own (entries_of lists y order extra ds) ts j).parts
    (kind_at ts j) 0 0 0 0 limit (own_then lists x y order extra ds ts j f) v

rows_then : (lists : Lists) (x y : Body) (order : Endianness) (extra : ℕ) (ds : Dictionaries) (ts : Kinds) (limit : Limit) (j : ℕ)
    → rows_at (entries_of lists y order extra ds) ts limit j ≡ rows_at (entries_of lists x order extra ds) ts limit j
unfolding entries_of
rows_then lists x y order extra ds ts limit j = refl

read_then : (lists : Lists) (x y : Body) (order : Endianness) (extra : ℕ) (ds : Dictionaries) (ts : Kinds) (limit : Limit) (k : ℕ) (js : List ℕ) → Followed x y
    → AllRead (entries_of lists x order extra ds) ts limit k js → AllRead (entries_of lists y order extra ds) ts limit k js
read_then lists x y order extra ds ts limit k [] f v = tt
read_then lists x y order extra ds ts limit k (j ∷ js) f v = (
  ((column_then lists x y order extra ds ts limit j f v.0.0).0, rows_then lists x y order extra ds ts limit j ∙ v.0.1),
  read_then lists x y order extra ds ts limit k js f v.1,
)

first_then_rows : (lists : Lists) (x y : Body) (order : Endianness) (extra : ℕ) (ds : Dictionaries) (ts : Kinds) (limit : Limit) (js : List ℕ)
    → first_rows (entries_of lists y order extra ds) ts limit js ≡ first_rows (entries_of lists x order extra ds) ts limit js
first_then_rows lists x y order extra ds ts limit [] = refl
first_then_rows lists x y order extra ds ts limit (j ∷ js) = rows_then lists x y order extra ds ts limit j

chunk_then : (lists : Lists) (x y : Body) (order : Endianness) (extra : ℕ) (ds : Dictionaries) (fs : FieldTrees) (ts : Kinds) (limit : Limit) (k : ℕ) (js : List ℕ) → Followed x y
    → AllRead (entries_of lists x order extra ds) ts limit k js → chunk_of (entries_of lists y order extra ds) fs ts js limit ≡ chunk_of (entries_of lists x order extra ds) fs ts js limit
chunk_then lists x y order extra ds fs ts limit k [] f v = refl
chunk_then lists x y order extra ds fs ts limit k (j ∷ js) f v =
    ap (λ (xs : List Slot). record { type = type_at fs j; slots = xs } ∷ chunk_of (entries_of lists y order extra ds) fs ts js limit) (column_then lists x y order extra ds ts limit j f v.0.0).1
    ∙ ap (λ (cs : Chunk). record { type = type_at fs j; slots = slots_of_column (entries_of lists x order extra ds) ts limit j } ∷ cs) (chunk_then lists x y order extra ds fs ts limit k js f v.1)

-- ---- batches

bounded_then : (lists : Lists) (x y : Body) (order : Endianness) (extra : ℕ) (ds : Dictionaries) → Followed x y
    → AreBounded (entries_of lists x order extra ds) x.size → AreBounded (entries_of lists y order extra ds) y.size
unfolding entries_of
bounded_then lists x y order extra ds f v =
    let s = entries_of lists x order extra ds in
    let t = entries_of lists y order extra ds in
    let test = and_parts (list_all (λ (p : Part). is_size p.length) s.parts) (nat_le (listed_bytes s) x.size) ((bounded_decides s x.size).1 v) in
    let lengths : list_all (λ (p : Part). is_size p.length) t.parts ≡ true = sym (lengths_same x y lists.buffers) ∙ test.0 in
    let total : listed_bytes t ≤ y.size = omega (arith, v.total, total_same x y lists.buffers, f.size_grows) in
    (bounded_decides t y.size).0 (and_from _ _ lengths (le-leb (listed_bytes t) y.size total))

listed_then : (lists : Lists) (x y : Body) (order : Endianness) (extra : ℕ) (ds : Dictionaries) (n m : ℕ)
    → (n ≤ length (entries_of lists x order extra ds).nodes) × (m ≤ length (entries_of lists x order extra ds).parts)
    → (n ≤ length (entries_of lists y order extra ds).nodes) × (m ≤ length (entries_of lists y order extra ds).parts)
unfolding entries_of
listed_then lists x y order extra ds n m v = (v.0, omega (arith, v.1, count_same x y lists.buffers))

extra_then : (lists : Lists) (x : Body) (order : Endianness) (extra : ℕ) (ds : Dictionaries) → (entries_of lists x order extra ds).extra ≡ extra
unfolding entries_of
extra_then lists x order extra ds = refl

batch_then : (lists : Lists) (x y : Body) (order : Endianness) (extra : ℕ) (ds : Dictionaries) (schema : Schema) (projection : Option (List ℕ)) (limit : Limit) (c : Chunk) → Followed x y
    → batch (entries_of lists x order extra ds) x.size schema projection limit ≡ Some c → batch (entries_of lists y order extra ds) y.size schema projection limit ≡ Some c
batch_then lists x y order extra ds schema projection limit c f e =
    let s = entries_of lists x order extra ds in
    let t = entries_of lists y order extra ds in
    let ts = kinds schema in
    let js = chosen projection (count ts) in
    let found = batch_some s x.size schema projection limit c e in
    let k = first_rows s ts limit js in
    let listed = listed_then lists x y order extra ds (all_nodes ts) (all_buffers s.extra ts) (found.0.nodes_listed, found.0.buffers_listed) in
    let extra_same : s.extra ≡ t.extra = extra_then lists x order extra ds ∙ sym (extra_then lists y order extra ds) in
    let is : IsBatch t y.size ts js limit = record {
      bounded = bounded_then lists x y order extra ds f found.0.bounded;
      nodes_listed = listed.0;
      buffers_listed = subst (λ (z : ℕ). all_buffers z ts ≤ length t.parts) extra_same listed.1;
      columns = subst (λ (z : ℕ). AllRead t ts limit z js) (sym (first_then_rows lists x y order extra ds ts limit js)) (read_then lists x y order extra ds ts limit k js f found.0.columns);
    } in
    projected_is t y.size schema projection limit is (batch_projection s x.size schema projection limit c e)
    ∙ ap Some (chunk_then lists x y order extra ds schema.fields ts limit k js f found.0.columns ∙ found.1)

then_is : {A B : Type 0} (g : A → Option B) (o : Option A) (a : A) (c : B) → o ≡ Some a → g a ≡ Some c → option_and_then g o ≡ Some c
then_is g o a c e h = ap (option_and_then g) e ∙ h

pub record_follow_law : RecordFollowLaw
unfolding record_meaning
record_follow_law schema extra known x y t projection limit c f e =
    let found = then-some _ (lists_of t) c e in
    then_is _ (lists_of t) found.0 c found.1 (batch_then found.0 x y schema.order extra known schema projection limit c f found.2)

-- ---- dictionaries

values_then : (schema : Schema) (extra : ℕ) (known after : Dictionaries) (x y : Body) (id : ℤ) (d : Spot) (p : Place) → Followed x y
    → values_meaning schema extra known x id d p ≡ Some after → values_meaning schema extra known y id d p ≡ Some after
values_then schema extra known after x y id d p f e =
    let found = then-some (with_values known id p) (record_meaning (values_schema p schema.order) extra known x d None None) after e in
    then_is (with_values known id p) (record_meaning (values_schema p schema.order) extra known y d None None) found.0 after
    (record_follow_law (values_schema p schema.order) extra known x y d None None found.0 f found.1) found.2

slots_then : (schema : Schema) (extra : ℕ) (known after : Dictionaries) (x y : Body) (i : Result ℤ TableFault) (b : Result Bool TableFault) (d : Result (Option Spot) TableFault) → Followed x y
    → batch_meaning schema extra known x i b d ≡ Some after → batch_meaning schema extra known y i b d ≡ Some after
slots_then schema extra known after x y (Ok id) (Ok false) (Ok (Some d)) f e =
    let found = then-some (values_meaning schema extra known x id d) (place_of (places schema.fields schema.ids) id) after e in
    then_is (values_meaning schema extra known y id d) (place_of (places schema.fields schema.ids) id) found.0 after found.1
    (values_then schema extra known after x y id d found.0 f found.2)
slots_then schema extra known after x y (Ok id) (Ok false) (Ok None) f e = absurd cc
slots_then schema extra known after x y (Ok id) (Ok false) (Err z) f e = absurd cc
slots_then schema extra known after x y (Ok id) (Ok true) d f e = absurd cc
slots_then schema extra known after x y (Ok id) (Err z) d f e = absurd cc
slots_then schema extra known after x y (Err z) b d f e = absurd cc

pub dictionary_follow_law : DictionaryFollowLaw
unfolding dictionary_meaning
dictionary_follow_law schema extra known after x y t f e =
    slots_then schema extra known after x y (dictionary_batch_id t) (dictionary_batch_is_delta t) (dictionary_batch_data t) f e
