-- Sources that agree on the ranges of the chosen columns.
use Rattle.std.proofs.Common.{◌≡◌, ℕ, zero, suc, ◌+◌, ◌&&◌, nat_le, cond, List, [], ◌∷◌, map, length, take, drop, None, Some, refl, sym, ap, ◌∙◌}
use Rattle.std.specs.List.{fold, sum_by, list_all, AllByRecursion}
use Rattle.lower.specs.TypeTrees.{FieldTrees}
use Rattle.lower_types.specs.declared.Endianness.{Endianness}
use Rattle.lower_arrays.specs.Slots.{Slot}
use Rattle.ipc_table_views.specs.declared.schema.Buffer.{Buffer}
use Rattle.ipc_model.specs.Kinds.{Kind, Kinds, count, all_nodes, all_buffers, buffers}
use Rattle.ipc_model.specs.Entries.{Entries, Part, size, part_at, Dictionaries, Limit, rows}
use Rattle.ipc_model.specs.Columns.{column}
use Rattle.ipc_model.specs.Tests.{is_size, with_rows, is_well}
use Rattle.ipc_model.specs.Batches.{kinds, Body, Lists, entries_of, kind_at, type_at, buffers_before, own, rows_at, slots_of_column, chosen, first_rows, Chunk, chunk_of, all_read, are_bounded, is_projection, is_batch, batch}
use Rattle.ipc_model.specs.BatchLaws.{own_buffers, Agree, AgreeLaw}

take-map : {X Y : Type 0} (f : X → Y) (n : ℕ) (xs : List X) → take n (map f xs) ≡ map f (take n xs)
take-map f zero xs = refl
take-map f (suc n) [] = refl
take-map f (suc n) (x ∷ xs) = ap (λ ys. f x ∷ ys) (take-map f n xs)

drop-map : {X Y : Type 0} (f : X → Y) (n : ℕ) (xs : List X) → drop n (map f xs) ≡ map f (drop n xs)
drop-map f zero xs = refl
drop-map f (suc n) [] = refl
drop-map f (suc n) (x ∷ xs) = drop-map f n xs

pub own_parts : (f : Buffer → Part) (n m : ℕ) (bs : List Buffer) → take n (drop m (map f bs)) ≡ map f (take n (drop m bs))
own_parts f n m bs = ap (take n) (drop-map f m bs) ∙ take-map f n (drop m bs)

-- The lengths of parts are those of the buffers.
pub lengths_same : (x y : Body) (bs : List Buffer) → list_all (λ p. is_size p.length) (map (part_at x.source x.base) bs) ≡ list_all (λ p. is_size p.length) (map (part_at y.source y.base) bs)
lengths_same x y [] = refl
lengths_same x y (b ∷ bs) = ap (λ t. is_size b.length && t) (lengths_same x y bs)

total_from : (x y : Body) (n : ℕ) (bs : List Buffer)
    → fold (λ m (p : Part). m + size p.length) n (map (part_at x.source x.base) bs) ≡ fold (λ m (p : Part). m + size p.length) n (map (part_at y.source y.base) bs)
total_from x y n [] = refl
total_from x y n (b ∷ bs) = total_from x y (n + size b.length) bs

pub total_same : (x y : Body) (bs : List Buffer) → sum_by (λ p. size p.length) (map (part_at x.source x.base) bs) ≡ sum_by (λ p. size p.length) (map (part_at y.source y.base) bs)
total_same x y bs = total_from x y 0 bs

pub count_same : (x y : Body) (bs : List Buffer) → length (map (part_at x.source x.base) bs) ≡ length (map (part_at y.source y.base) bs)
count_same x y [] = refl
count_same x y (b ∷ bs) = ap suc (count_same x y bs)

abbrev rows_of : Entries → Limit → ℕ
rows_of u limit = rows u 0 limit

abbrev column_of : Entries → Kind → Limit → List Slot
column_of u t limit = column u t 0 0 limit

read_same : (s t : Entries) (ts : Kinds) (limit : Limit) (k : ℕ) (js : List ℕ) → AllByRecursion (λ j. own s ts j ≡ own t ts j) js → all_read s ts limit k js ≡ all_read t ts limit k js
read_same s t ts limit k [] h = refl
read_same s t ts limit k (j ∷ js) h =
    ap (λ (u : Entries). with_rows (is_well u (kind_at ts j) 0 0 limit) (rows_of u limit) k && all_read s ts limit k js) h.0
    ∙ ap (λ v. with_rows (is_well (own t ts j) (kind_at ts j) 0 0 limit) (rows_at t ts limit j) k && v) (read_same s t ts limit k js h.1)

first_same : (s t : Entries) (ts : Kinds) (limit : Limit) (js : List ℕ) → AllByRecursion (λ j. own s ts j ≡ own t ts j) js → first_rows s ts limit js ≡ first_rows t ts limit js
first_same s t ts limit [] h = refl
first_same s t ts limit (j ∷ js) h = ap (λ (u : Entries). rows_of u limit) h.0

columns_same : (s t : Entries) (fs : FieldTrees) (ts : Kinds) (limit : Limit) (js : List ℕ) → AllByRecursion (λ j. own s ts j ≡ own t ts j) js → chunk_of s fs ts js limit ≡ chunk_of t fs ts js limit
columns_same s t fs ts limit [] h = refl
columns_same s t fs ts limit (j ∷ js) h =
    ap (λ (u : Entries). record { type = type_at fs j; slots = column_of u (kind_at ts j) limit } ∷ chunk_of s fs ts js limit) h.0
    ∙ ap (λ (cs : Chunk). record { type = type_at fs j; slots = slots_of_column t ts limit j } ∷ cs) (columns_same s t fs ts limit js h.1)

-- ---- two bodies

with_parts : Entries → List Part → Entries
with_parts s ps = record { nodes = s.nodes; parts = ps; order = s.order; extra = s.extra; dictionaries = s.dictionaries }

own_same : (lists : Lists) (x y : Body) (order : Endianness) (extra : ℕ) (ds : Dictionaries) (ts : Kinds) (j : ℕ)
    → map (part_at x.source x.base) (own_buffers lists.buffers extra ts j) ≡ map (part_at y.source y.base) (own_buffers lists.buffers extra ts j)
    → own (entries_of lists x order extra ds) ts j ≡ own (entries_of lists y order extra ds) ts j
unfolding entries_of with_parts
own_same lists x y order extra ds ts j e =
    let n = buffers extra (kind_at ts j) in
    let m = buffers_before extra ts j in
    let same : take n (drop m (map (part_at x.source x.base) lists.buffers)) ≡ take n (drop m (map (part_at y.source y.base) lists.buffers)) =
    own_parts (part_at x.source x.base) n m lists.buffers ∙ e ∙ sym (own_parts (part_at y.source y.base) n m lists.buffers) in
    ap (with_parts (own (entries_of lists x order extra ds) ts j)) same

all_same : (lists : Lists) (x y : Body) (order : Endianness) (extra : ℕ) (ds : Dictionaries) (ts : Kinds) (js : List ℕ)
    → Agree lists.buffers extra ts x y js → AllByRecursion (λ j. own (entries_of lists x order extra ds) ts j ≡ own (entries_of lists y order extra ds) ts j) js
all_same lists x y order extra ds ts [] h = h
all_same lists x y order extra ds ts (j ∷ js) h = (own_same lists x y order extra ds ts j h.0, all_same lists x y order extra ds ts js h.1)

bounded_same : (lists : Lists) (x y : Body) (order : Endianness) (extra : ℕ) (ds : Dictionaries) (most : ℕ)
    → are_bounded (entries_of lists x order extra ds) most ≡ are_bounded (entries_of lists y order extra ds) most
unfolding entries_of
bounded_same lists x y order extra ds most =
    let lengths = lengths_same x y lists.buffers in
    let total = total_same x y lists.buffers in
    rw (lengths, total) refl

listed_same : (lists : Lists) (x y : Body) (order : Endianness) (extra : ℕ) (ds : Dictionaries)
    → length (entries_of lists x order extra ds).parts ≡ length (entries_of lists y order extra ds).parts
unfolding entries_of
listed_same lists x y order extra ds = count_same x y lists.buffers

extra_is : (lists : Lists) (x y : Body) (order : Endianness) (extra : ℕ) (ds : Dictionaries) → (entries_of lists x order extra ds).extra ≡ (entries_of lists y order extra ds).extra
unfolding entries_of
extra_is lists x y order extra ds = refl

nodes_is : (lists : Lists) (x y : Body) (order : Endianness) (extra : ℕ) (ds : Dictionaries) → length (entries_of lists x order extra ds).nodes ≡ length (entries_of lists y order extra ds).nodes
unfolding entries_of
nodes_is lists x y order extra ds = refl

test_same : (lists : Lists) (x y : Body) (order : Endianness) (extra : ℕ) (ds : Dictionaries) (most : ℕ) (ts : Kinds) (js : List ℕ) (limit : Limit)
    → AllByRecursion (λ j. own (entries_of lists x order extra ds) ts j ≡ own (entries_of lists y order extra ds) ts j) js
    → is_batch (entries_of lists x order extra ds) most ts js limit ≡ is_batch (entries_of lists y order extra ds) most ts js limit
test_same lists x y order extra ds most ts js limit same =
    let s = entries_of lists x order extra ds in
    let t = entries_of lists y order extra ds in
    let extra_same : s.extra ≡ t.extra = extra_is lists x y order extra ds in
    let list_same : length s.nodes ≡ length t.nodes = nodes_is lists x y order extra ds in
    let first = first_same s t ts limit js same in
    let read = read_same s t ts limit (first_rows t ts limit js) js same in
    ap (λ v. v && (nat_le (all_nodes ts) (length s.nodes) && (nat_le (all_buffers s.extra ts) (length s.parts) && all_read s ts limit (first_rows s ts limit js) js)))
    (bounded_same lists x y order extra ds most)
    ∙ ap (λ n. are_bounded t most && (nat_le (all_nodes ts) n && (nat_le (all_buffers s.extra ts) (length s.parts) && all_read s ts limit (first_rows s ts limit js) js))) list_same
    ∙ ap (λ n. are_bounded t most && (nat_le (all_nodes ts) (length t.nodes) && (nat_le (all_buffers n ts) (length s.parts) && all_read s ts limit (first_rows s ts limit js) js))) extra_same
    ∙ ap (λ n. are_bounded t most && (nat_le (all_nodes ts) (length t.nodes) && (nat_le (all_buffers t.extra ts) n && all_read s ts limit (first_rows s ts limit js) js))) (listed_same lists x y order extra ds)
    ∙ ap (λ n. are_bounded t most && (nat_le (all_nodes ts) (length t.nodes) && (nat_le (all_buffers t.extra ts) (length t.parts) && all_read s ts limit n js))) first
    ∙ ap (λ v. are_bounded t most && (nat_le (all_nodes ts) (length t.nodes) && (nat_le (all_buffers t.extra ts) (length t.parts) && v))) read

pub agree_law : AgreeLaw
unfolding batch
agree_law lists x y order extra ds schema projection limit e h =
    let ts = kinds schema in
    let js = chosen projection (count ts) in
    let s = entries_of lists x order extra ds in
    let t = entries_of lists y order extra ds in
    let same = all_same lists x y order extra ds ts js h in
    ap (λ o. cond (is_projection projection (count ts)) o None)
    (ap (λ most. cond (is_batch s most ts js limit) (Some (chunk_of s schema.fields ts js limit)) None) e
    ∙ ap (λ v. cond v (Some (chunk_of s schema.fields ts js limit)) None) (test_same lists x y order extra ds y.size ts js limit same)
    ∙ ap (λ (c : Chunk). cond (is_batch t y.size ts js limit) (Some c) None) (columns_same s t schema.fields ts limit js same))
