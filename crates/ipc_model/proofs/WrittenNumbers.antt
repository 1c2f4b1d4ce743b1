-- Columns of numbers that were written mean what was written.
use Rattle.std.proofs.Common.{cond, true, ◌==◌, ◌≡◌, ℕ, zero, suc, ℤ, pos, ◌+◌, ◌-◌, ◌*◌, ◌<◌, ◌≤◌, List, [], ◌∷◌, ◌++◌, map, length, take, drop, replicate, slice_index_or, None, Some, refl, sym, ap, ◌∙◌, subst, arith, length-append, append_assoc, All, rules}
use Rattle.std.specs.Prelude.{◌+ℤ◌}
use Rattle.std.specs.Int.{next_multiple_of}
use Rattle.std.specs.List.{range_with_len, sum_by}
use Rattle.std.proofs.lemmas.List.{length-replicate, length-map, take_at, drop_at, get_or-map}
use Rattle.std.proofs.lemmas.List.Elements.{All-cons}
use Rattle.std.proofs.lemmas.List.Sums.{sum_by-cons}
use Rattle.std.proofs.lemmas.List.Concat.{flat_map-cons}
use Rattle.lower.specs.TypeTrees.{FieldTrees, no_fields, more_fields}
use Rattle.lower_types.specs.NumberTypes.{width_of, number_in}
use Rattle.lower_types.specs.declared.Endianness.{Endianness}
use Rattle.lower_types.specs.declared.PrimitiveType.{PrimitiveType}
use Rattle.lower_types.specs.declared.PrimitiveType.TheVariants.{Int8}
use Rattle.lower_arrays.specs.Slots.{Slot, null_slot, number_slot}
use Rattle.ipc_table_views.specs.declared.message.FieldNode.{FieldNode}
use Rattle.ipc_base.specs.IdTrees.{IdTrees}
use Rattle.ipc_model.proofs.Addresses.{own_node, address_law}
use Rattle.ipc_model.proofs.Pruned.{batch_is, read_first}
use Rattle.ipc_model.specs.Batches.{Schema, kinds, field_type, kind_at, type_at, nodes_before, buffers_before, own, entries_of, IsWellAt, rows_at, slots_of_column, AllRead, IsBatch, Column, Chunk, chunk_of, batch}
use Rattle.ipc_model.specs.Columns.{WithRows, IsWell, column}
use Rattle.ipc_model.specs.Entries.{Entries, Part, IsSize, size, part_at, node, buffer, bit, Dictionaries, rows}
use Rattle.ipc_model.specs.Kinds.{Kind, number_kind, Kinds, no_kinds, more_kinds, count, nodes, all_nodes, buffers, all_buffers}
use Rattle.ipc_model.specs.TypeKinds.{other_ids, kinds_of}
use Rattle.ipc_model.specs.WrittenBatches.{Numbers, padded, body_of, node_of, entry, buffers_from, number_slots, AreNumbers, numbers_chunk, WrittenBatchLaw}

-- ---- lengths

length_padded : (xs : List ℕ) → length (padded xs) ≡ next_multiple_of (length xs) 64
length_padded xs =
    let zero_byte : ℕ = 0 in
    let n = next_multiple_of (length xs) 64 - length xs in
    omega (arith, length-append xs (replicate n zero_byte), length-replicate n zero_byte)

abbrev parts_of : List ℕ → ℤ → List Numbers → List Part
parts_of body o cs = map (part_at body 0) (buffers_from o cs)

count_parts : (body : List ℕ) (o : ℤ) (cs : List Numbers) → length (parts_of body o cs) ≡ 2 * length cs
count_parts body o [] = refl
count_parts body o (c ∷ cs) =
    let rest = count_parts body (o +ℤ pos (next_multiple_of (length c.bytes) 64)) cs in omega (arith, rest)

node_counts : (k : ℕ) (cs : List Numbers) (ts : Kinds) → AreNumbers k cs ts → all_nodes ts ≡ length cs
node_counts k [] no_kinds v = refl
node_counts k [] (more_kinds t ts) v = absurd v
node_counts k (c ∷ cs) no_kinds v = absurd v
node_counts k (c ∷ cs) (more_kinds t ts) v = let one = ap nodes v.0 in omega (arith, one, node_counts k cs ts v.3)

buffer_counts : (extra k : ℕ) (cs : List Numbers) (ts : Kinds) → AreNumbers k cs ts → all_buffers extra ts ≡ 2 * length cs
buffer_counts extra k [] no_kinds v = refl
buffer_counts extra k [] (more_kinds t ts) v = absurd v
buffer_counts extra k (c ∷ cs) no_kinds v = absurd v
buffer_counts extra k (c ∷ cs) (more_kinds t ts) v = let one = ap (buffers extra) v.0 in omega (arith, one, buffer_counts extra k cs ts v.3)

kind_counts : (k : ℕ) (cs : List Numbers) (ts : Kinds) → AreNumbers k cs ts → count ts ≡ length cs
kind_counts k [] no_kinds v = refl
kind_counts k [] (more_kinds t ts) v = absurd v
kind_counts k (c ∷ cs) no_kinds v = absurd v
kind_counts k (c ∷ cs) (more_kinds t ts) v = ap (λ n. 1 + n) (kind_counts k cs ts v.3) ∙ omega arith

-- ---- bounds

lengths_sized : (body : List ℕ) (o : ℤ) (cs : List Numbers) → All (λ (p : Part). IsSize p.length) (parts_of body o cs)
lengths_sized body o [] = λ i d h. absurd (omega (arith, h))
lengths_sized body o (c ∷ cs) =
    let next = o +ℤ pos (next_multiple_of (length c.bytes) 64) in
    let numbers : Part = part_at body 0 (entry o (length c.bytes)) in
    let rest : List Part = parts_of body next cs in
    All-cons (λ (p : Part). IsSize p.length) (part_at body 0 (entry o 0)) (numbers ∷ rest) (search rules)
    (All-cons (λ (p : Part). IsSize p.length) numbers rest (search rules) (lengths_sized body next cs))

total_listed : (body : List ℕ) (o : ℤ) (cs : List Numbers) → sum_by (λ (p : Part). size p.length) (parts_of body o cs) ≤ length (body_of cs)
total_listed body o [] = omega arith
total_listed body o (c ∷ cs) =
    let next = o +ℤ pos (next_multiple_of (length c.bytes) 64) in
    let f : Part → ℕ = λ (p : Part). size p.length in
    let first = sum_by-cons f (part_at body 0 (entry o 0)) (part_at body 0 (entry o (length c.bytes)) ∷ parts_of body next cs) in
    let second = sum_by-cons f (part_at body 0 (entry o (length c.bytes))) (parts_of body next cs) in
    let rest = total_listed body next cs in
    let long = ap length (flat_map-cons (λ (x : Numbers). padded x.bytes) c cs) in
    omega (arith, first, second, rest, long, length-append (padded c.bytes) (body_of cs), length_padded c.bytes)

-- ---- one column

no_numbers : Numbers
no_numbers = record { form = Int8; rows = 0; bytes = [] }

nth : List Numbers → ℕ → Numbers
nth cs j = slice_index_or cs j no_numbers

-- what is known of column j
record AtColumn (k : ℕ) (cs : List Numbers) (extra : ℕ) (ts : Kinds) (j : ℕ) : Type 0 where
  pub kind_is : kind_at ts j ≡ number_kind (nth cs j).form
  pub rows_are : (nth cs j).rows ≡ k
  pub long : length (nth cs j).bytes ≡ width_of (nth cs j).form * (nth cs j).rows
  pub node_place : nodes_before ts j ≡ j
  pub buffer_place : buffers_before extra ts j ≡ 2 * j

at_column : (k : ℕ) (cs : List Numbers) (extra : ℕ) (ts : Kinds) (j : ℕ) → AreNumbers k cs ts → j < length cs → AtColumn k cs extra ts j
unfolding nth
at_column k [] extra ts j v h = absurd (omega (arith, h))
at_column k (c ∷ cs) extra no_kinds j v h = absurd v
at_column k (c ∷ cs) extra (more_kinds t ts) zero v h = record { kind_is = v.0; rows_are = v.1; long = v.2; node_place = refl; buffer_place = refl }
at_column k (c ∷ cs) extra (more_kinds t ts) (suc j) v h =
    let rest = at_column k cs extra ts j v.3 (omega (arith, h)) in
    let node_one = ap nodes v.0 in
    let buffers_two = ap (buffers extra) v.0 in
    record {
      kind_is = rest.kind_is;
      rows_are = rest.rows_are;
      long = rest.long;
      node_place = omega (arith, node_one, rest.node_place);
      buffer_place = omega (arith, buffers_two, rest.buffer_place);
    }

-- A buffer of numbers, and the bytes that it has.
pub numbers_part : ℕ → Numbers → Part
numbers_part m c = record { offset = pos m; length = pos (length c.bytes); bytes = c.bytes }

abbrev no_part : Part
no_part = record { offset = pos 0; length = pos 0; bytes = [] }

body_then : (pre : List ℕ) (c : Numbers) (cs : List Numbers) → pre ++ body_of (c ∷ cs) ≡ (pre ++ padded c.bytes) ++ body_of cs
body_then pre c cs = ap (λ xs. pre ++ xs) (flat_map-cons (λ (x : Numbers). padded x.bytes) c cs) ∙ sym (append_assoc pre (padded c.bytes) (body_of cs))

own_bytes : (body pre : List ℕ) (o : ℕ) (c : Numbers) (cs : List Numbers) → body ≡ pre ++ body_of (c ∷ cs) → length pre ≡ o
    → part_at body 0 (entry (pos o) (length c.bytes)) ≡ numbers_part o c
unfolding numbers_part
own_bytes body pre o c cs e h =
    let zeros : List ℕ = replicate (next_multiple_of (length c.bytes) 64 - length c.bytes) 0 in
    let from : drop (0 + o) body ≡ padded c.bytes ++ body_of cs =
    (let first : 0 + o ≡ o = omega arith in ap (λ n. drop n body) first)
    ∙ ap (drop o) (e ∙ ap (λ xs. pre ++ xs) (flat_map-cons (λ (x : Numbers). padded x.bytes) c cs))
    ∙ drop_at pre (padded c.bytes ++ body_of cs) o h in
    let there : take (length c.bytes) (drop (0 + o) body) ≡ c.bytes =
    ap (take (length c.bytes)) (from ∙ append_assoc c.bytes zeros (body_of cs)) ∙ take_at c.bytes (zeros ++ body_of cs) (length c.bytes) refl in
    ap (λ (xs : List ℕ). record { offset = pos o; length = pos (length c.bytes); bytes = xs }) there

numbers_at : (body pre : List ℕ) (o : ℕ) (cs : List Numbers) (j : ℕ) → body ≡ pre ++ body_of cs → length pre ≡ o → j < length cs
    → (m : ℕ) × (slice_index_or (parts_of body (pos o) cs) (2 * j + 1) no_part ≡ numbers_part m (nth cs j))
unfolding nth
numbers_at body pre o [] j e h l = absurd (omega (arith, l))
numbers_at body pre o (c ∷ cs) zero e h l = (o, own_bytes body pre o c cs e h)
numbers_at body pre o (c ∷ cs) (suc j) e h l =
    let n = next_multiple_of (length c.bytes) 64 in
    let next : length (pre ++ padded c.bytes) ≡ o + n = omega (arith, length-append pre (padded c.bytes), length_padded c.bytes, h) in
    let rest = numbers_at body (pre ++ padded c.bytes) (o + n) cs j (e ∙ body_then pre c cs) next (omega (arith, l)) in
    let far : 2 * suc j + 1 ≡ suc (suc (2 * j + 1)) = omega arith in
    (rest.0, ap (λ i. slice_index_or (parts_of body (pos o) (c ∷ cs)) i no_part) far ∙ rest.1)

-- ---- the entries

written : Endianness → ℕ → Dictionaries → List ℕ → List Numbers → Entries
written order extra known body cs = record { nodes = map node_of cs; parts = parts_of body (pos 0) cs; order = order; extra = extra; dictionaries = known }

-- the slots of a column of numbers, by its node and parts
by_parts : FieldNode → Part → Part → PrimitiveType → Endianness → List Slot
by_parts n p q f order =
    map (λ i. cond (cond (size n.null_count == 0) true (bit q.bytes i)) (number_slot (number_in f order (drop (width_of f * i) p.bytes))) null_slot)
    (range_with_len 0 (size n.length))

column_by_parts : (s : Entries) (f : PrimitiveType) (a b : ℕ) → column s (number_kind f) a b None ≡ by_parts (node s a) (buffer s (b + 1)) (buffer s b) f s.order
unfolding by_parts
column_by_parts s f a b = refl

slots_by_parts : (m : ℕ) (c : Numbers) (q : Part) (order : Endianness) → by_parts (node_of c) (numbers_part m c) q c.form order ≡ number_slots order c
unfolding by_parts numbers_part
slots_by_parts m c q order = refl

pub well_by_parts : (s : Entries) (c : Numbers) (a b m : ℕ) → node s a ≡ node_of c → buffer s (b + 1) ≡ numbers_part m c → length c.bytes ≡ width_of c.form * c.rows
    → IsWell s (number_kind c.form) a b None
unfolding numbers_part
well_by_parts s c a b m e f long =
    let rows_are : rows s a None ≡ c.rows = ap (λ (n : FieldNode). size n.length) e in
    let none : size (node s a).null_count ≡ 0 = ap (λ (n : FieldNode). size n.null_count) e in
    let listed_is : size (buffer s (b + 1)).length ≡ length c.bytes = ap (λ (p : Part). size p.length) f in
    let bytes_are : length (buffer s (b + 1)).bytes ≡ length c.bytes = ap (λ (p : Part). length p.bytes) f in
    let enough : width_of c.form * rows s a None ≡ length c.bytes = ap (λ n. width_of c.form * n) rows_are ∙ sym long in (
      record {
        length_is = subst (λ (n : FieldNode). IsSize n.length) (sym e) (search rules);
        validity = λ some. absurd (omega (arith, some, none));
      },
      (subst (λ (p : Part). IsSize p.offset) (sym f) (search rules), omega (arith, enough, listed_is), omega (arith, enough, bytes_are)),
    )

-- ---- the batch

read_range : (s : Entries) (ts : Kinds) (k n : ℕ) → ((j : ℕ) → j < n → WithRows (IsWellAt s ts None j) (rows_at s ts None j) k) → (a m : ℕ) → a + m ≤ n → AllRead s ts None k (range_with_len a m)
read_range s ts k n each a zero h = tt
read_range s ts k n each a (suc m) h = (each a (omega (arith, h)), read_range s ts k n each (a + 1) m (omega (arith, h)))

-- what is written of column j
record WrittenColumn (order : Endianness) (k : ℕ) (c : Numbers) (s : Entries) (ts : Kinds) (j : ℕ) : Type 0 where
  pub well : IsWellAt s ts None j
  pub rows_are : rows_at s ts None j ≡ k
  pub slots_are : slots_of_column s ts None j ≡ number_slots order c

written_column : (order : Endianness) (extra k : ℕ) (known : Dictionaries) (cs : List Numbers) (ts : Kinds) (j : ℕ) → AreNumbers k cs ts → j < length cs
    → WrittenColumn order k (nth cs j) (written order extra known (body_of cs) cs) ts j
unfolding written nth
written_column order extra k known cs ts j v h =
    let s = written order extra known (body_of cs) cs in
    let at = at_column k cs extra ts j v h in
    let c = nth cs j in
    let node_is : node s j ≡ node_of c = get_or-map node_of cs j no_numbers _ h in
    let part = numbers_at (body_of cs) [] 0 cs j refl refl h in
    let part_is : buffer s (2 * j + 1) ≡ numbers_part part.0 c = part.1 in
    let own_well : IsWell s (number_kind c.form) j (2 * j) None = well_by_parts s c j (2 * j) part.0 node_is part_is at.long in
    let in_batch : IsWell s (kind_at ts j) (nodes_before ts j) (buffers_before extra ts j) None =
    subst (λ (t : Kind). IsWell s t (nodes_before ts j) (buffers_before extra ts j) None) (sym at.kind_is)
    (subst (λ n. IsWell s (number_kind c.form) n (buffers_before extra ts j) None) (sym at.node_place)
    (subst (λ n. IsWell s (number_kind c.form) j n None) (sym at.buffer_place) own_well)) in
    let law = address_law s ts None j in
    let well = law.from_whole in_batch in
    let first : 0 < nodes (kind_at ts j) = let e = ap nodes at.kind_is in omega (arith, e) in
    let row_node : node (own s ts j) 0 ≡ node_of c =
    own_node s ts j 0 first ∙ (let place : nodes_before ts j + 0 ≡ j = omega (arith, at.node_place) in ap (node s) place) ∙ node_is in
    record {
      well = well;
      rows_are = ap (λ (n : FieldNode). size n.length) row_node ∙ at.rows_are;
      slots_are =
          law.slots well
          ∙ ap (λ (t : Kind). column s t (nodes_before ts j) (buffers_before extra ts j) None) at.kind_is
          ∙ ap (λ n. column s (number_kind c.form) n (buffers_before extra ts j) None) at.node_place
          ∙ ap (λ n. column s (number_kind c.form) j n None) at.buffer_place
          ∙ column_by_parts s c.form j (2 * j)
          ∙ ap (λ (n : FieldNode). by_parts n (buffer s (2 * j + 1)) (buffer s (2 * j)) c.form order) node_is
          ∙ ap (λ (p : Part). by_parts (node_of c) p (buffer s (2 * j)) c.form order) part_is
          ∙ slots_by_parts part.0 c (buffer s (2 * j)) order;
    }

chunk_tail : (order : Endianness) (k : ℕ) (g : ℕ → Column) (fs : FieldTrees) (is : IdTrees) (cs : List Numbers) (a : ℕ) → AreNumbers k cs (kinds_of fs is)
    → ((i : ℕ) → i < length cs → g (a + i) ≡ record { type = type_at fs i; slots = number_slots order (nth cs i) }) → map g (range_with_len a (length cs)) ≡ numbers_chunk order fs cs
unfolding nth
chunk_tail order k g no_fields is [] a v each = refl
chunk_tail order k g no_fields is (c ∷ cs) a v each = absurd v
chunk_tail order k g (more_fields f fs) is [] a v each = absurd v
chunk_tail order k g (more_fields f fs) is (c ∷ cs) a v each =
    let here : g a ≡ record { type = field_type f; slots = number_slots order c } = (let e : a ≡ a + 0 = omega arith in ap g e) ∙ each 0 (omega arith) in
    let rest = chunk_tail order k g fs (other_ids is) cs (a + 1) v.3 (λ i l. (let e : a + 1 + i ≡ a + suc i = omega arith in ap g e) ∙ each (suc i) (omega (arith, l))) in
    ap (λ (x : Column). x ∷ map g (range_with_len (a + 1) (length cs))) here
    ∙ ap (λ (xs : Chunk). record { type = field_type f; slots = number_slots order c } ∷ xs) rest

batch_written : (k : ℕ) (cs : List Numbers) (schema : Schema) (extra : ℕ) (known : Dictionaries) → AreNumbers k cs (kinds schema)
    → batch (written schema.order extra known (body_of cs) cs) (length (body_of cs)) schema None None ≡ Some (numbers_chunk schema.order schema.fields cs)
unfolding written nth
batch_written k cs schema extra known v =
    let ts = kinds schema in
    let n = count ts in
    let counted = kind_counts k cs ts v in
    let s = written schema.order extra known (body_of cs) cs in
    let column_is : (j : ℕ) → j < n → WrittenColumn schema.order k (nth cs j) s ts j = λ j l. written_column schema.order extra k known cs ts j v (omega (arith, l, counted)) in
    let each : (j : ℕ) → j < n → WithRows (IsWellAt s ts None j) (rows_at s ts None j) k = λ j l. ((column_is j l).well, (column_is j l).rows_are) in
    let is : IsBatch s (length (body_of cs)) ts (range_with_len 0 n) None = record {
      bounded = record { lengths = lengths_sized (body_of cs) (pos 0) cs; total = total_listed (body_of cs) (pos 0) cs };
      nodes_listed = omega (arith, node_counts k cs ts v, length-map cs node_of);
      buffers_listed = omega (arith, buffer_counts extra k cs ts v, count_parts (body_of cs) (pos 0) cs);
      columns = read_first s ts None k (range_with_len 0 n) (read_range s ts k n each 0 n (omega arith));
    } in
    batch_is s (length (body_of cs)) schema None None is
    ∙ ap (λ m. Some (chunk_of s schema.fields ts (range_with_len 0 m) None)) counted
    ∙ ap Some (chunk_tail schema.order k (λ j. record { type = type_at schema.fields j; slots = slots_of_column s ts None j }) schema.fields schema.ids cs 0 v
    (λ i l. (let e : 0 + i ≡ i = omega arith in ap (λ j. record { type = type_at schema.fields j; slots = slots_of_column s ts None j }) e)
    ∙ ap (λ (xs : List Slot). record { type = type_at schema.fields i; slots = xs }) (column_is i (omega (arith, l, counted))).slots_are))

pub written_batch : WrittenBatchLaw
unfolding entries_of written
written_batch k cs schema extra known v = batch_written k cs schema extra known v
