-- What is read of a batch is what it means.
use Rattle.std.proofs.Common.{arith, ◌≡◌, ℕ, ℤ, zero, suc, pos, ◌+◌, ◌<◌, ◌≤◌, true, false, List, [], ◌∷◌, map, length, get_or, Option, None, Some, IsSome, IsOk, IfOk, Result, Ok, Err, ◌↔◌, refl, sym, ap, subst, ◌∙◌, All}
use Rattle.std.specs.List.{fold}
use Rattle.std.specs.Option.{option_and_then}
use Rattle.std.proofs.lemmas.List.{get_or-map, length-map}
use Rattle.std.proofs.lemmas.List.FromFn.{length-map-range_with_len}
use Rattle.lower.specs.TypeTrees.{TypeTree, FieldTrees}
use Rattle.lower_arrays.specs.AnyLayouts.{layout_of}
use Rattle.lower_arrays.specs.Layouts.{Layout, len_of}
use Rattle.lower_arrays.specs.Slots.{Slot, slots, slots_from}
use Rattle.lower_arrays.specs.declared.array.AnyArray.{AnyArray}
use Rattle.ipc_devices.proofs.Claims.{claimed, denies_through}
use Rattle.ipc_devices.specs.Faults.{OwnFault}
use Rattle.ipc_devices.specs.declared.fault.Fault.{Fault}
use Rattle.ipc_base.specs.Chunks.{AreEqualRows}
use Rattle.ipc_table_views.specs.Spot.{Spot}
use Rattle.ipc_table_views.specs.declared.message.FieldNode.{FieldNode}
use Rattle.ipc_table_views.specs.declared.schema.Buffer.{Buffer}
use Rattle.ipc_model.proofs.Addresses.{own_node, address_law}
use Rattle.ipc_model.proofs.Needs.{node_law}
use Rattle.ipc_model.proofs.Pruned.{batch_some, projected_is, projection_decides, read_first}
use Rattle.ipc_model.specs.Batches.{Schema, kinds, Body, Lists, lists_of, entries_of, kind_at, type_at, nodes_before, buffers_before, rows_at, slots_of_column, chosen, IsProjection, AllRead, first_rows, IsBatch, Chunk, chunk_of, batch, record_meaning}
use Rattle.ipc_model.specs.Entries.{Entries, Part, IsSize, size, part_at, node, Dictionaries, Limit, limited, rows}
use Rattle.ipc_model.specs.Kinds.{Kind, Kinds, count, all_nodes, all_buffers}
use Rattle.ipc_read_nested.specs.ReadColumns.{IsColumn}
use Rattle.ipc_projection.proofs.Prepared.{prepared_projection}
use Rattle.ipc_read.specs.Chunks.{column_seen, chunk_seen, HasMeaning, GivesBatch}
use Rattle.ipc_read.specs.Columns.{ArePrepared, HasColumns, AreColumns}
use Rattle.ipc_read.specs.Sizes.{AreSizes, total_of}

-- ---- options

-- what is there
some_of : {X : Type 0} (o : Option X) → IsSome o → (x : X) × (o ≡ Some x)
some_of (Some x) h = (x, refl)
some_of None h = absurd cc

pub some_is : {X : Type 0} (o : Option X) (x : X) → o ≡ Some x → IsSome o
some_is o x e = rw e refl

-- ---- rows

-- a column by its own entries and in the whole batch
column_rows : (s : Entries) (ts : Kinds) (limit : Limit) (j : ℕ) → rows_at s ts limit j ≡ rows s (nodes_before ts j) limit
column_rows s ts limit j =
    ap (λ (n : FieldNode). limited limit (size n.length))
    (own_node s ts j 0 (omega (arith, node_law (kind_at ts j)))
    ∙ (let place : nodes_before ts j + 0 ≡ nodes_before ts j = omega arith in ap (node s) place))

-- as many slots as rows
pub length-slots_from : (f : ℕ → Slot) (a n : ℕ) → length (slots_from f a n) ≡ n
length-slots_from f a zero = refl
length-slots_from f a (suc n) = ap suc (length-slots_from f (a + 1) n)

array_rows :
    (s : Entries) (vs : Option ℤ → Layout) (t : Kind) (u : TypeTree) (a d : ℕ) (limit : Limit) (x : AnyArray) → IsColumn s vs t u a d limit (layout_of x)
    → len_of (layout_of x) ≡ rows s a limit
array_rows s vs t u a d limit x is =
    sym (length-slots_from _ 0 (len_of (layout_of x))) ∙ ap length is.slots ∙ length-map-range_with_len _ 0 (rows s a limit)

abbrev pub any_rows : AnyArray → ℕ
any_rows x = len_of (layout_of x)

-- ---- the sizes of buffers

lengths_are : (w : List ℕ) (base : ℕ) (bs : List Buffer) → All (λ (p : Part). IsSize p.length) (map (part_at w base) bs) → AreSizes bs
lengths_are w base bs all = record {
  each = λ i d h.
      subst (λ (p : Part). IsSize p.length) (get_or-map (part_at w base) bs i d (part_at w base d) h)
      (all i (part_at w base d) (omega (arith, h, length-map bs (part_at w base))));
}

are_lengths : (w : List ℕ) (base : ℕ) (bs : List Buffer) → AreSizes bs → All (λ (p : Part). IsSize p.length) (map (part_at w base) bs)
are_lengths w base bs sizes = λ i d h.
    let none : Buffer = record { offset = pos 0; length = pos 0 } in
    let inside : i < length bs = omega (arith, h, length-map bs (part_at w base)) in
    subst (λ (p : Part). IsSize p.length) (sym (get_or-map (part_at w base) bs i none d inside)) (sizes.each i none inside)

total_from : (w : List ℕ) (base n : ℕ) (bs : List Buffer)
    → fold (λ m (p : Part). m + size p.length) n (map (part_at w base) bs) ≡ fold (λ m (r : Buffer). m + size r.length) n bs
total_from w base n [] = refl
total_from w base n (b ∷ bs) = total_from w base (n + size b.length) bs

-- What is checked of the lists before a column is read.
pub record IsListed (lists : Lists) (most extra : ℕ) (ts : Kinds) : Type 0 where
  pub sizes : AreSizes lists.buffers
  pub total : total_of lists.buffers ≤ most
  pub nodes : all_nodes ts ≤ length lists.nodes
  pub buffers : all_buffers extra ts ≤ length lists.buffers

-- ---- from the columns to the batch

module _ (s : Entries) (vs : Option ℤ → Layout) (fs : FieldTrees) (ts : Kinds) (limit : Limit) where
  -- they have the rows of their arrays
  all_read : (k : ℕ) (js : List ℕ) (xs : List AnyArray) → HasColumns s ts limit js → AreColumns s vs fs ts limit js xs
      → ((i : ℕ) (d : AnyArray) → i < length xs → any_rows (get_or xs i d) ≡ k) → AllRead s ts limit k js
  all_read k [] xs has are each = tt
  all_read k (j ∷ js) [] has are each = absurd are
  all_read k (j ∷ js) (x ∷ xs) has are each = (
    (
      (address_law s ts limit j).from_whole has.0,
      column_rows s ts limit j
          ∙ sym (array_rows s vs (kind_at ts j) (type_at fs j) (nodes_before ts j) (buffers_before s.extra ts j) limit x are.0)
          ∙ each 0 x (omega arith),
    ),
    all_read k js xs has.1 are.1 (λ i d h. each (suc i) d (omega (arith, h))),
  )

  chunk_is : (js : List ℕ) (xs : List AnyArray) → HasColumns s ts limit js → AreColumns s vs fs ts limit js xs → chunk_of s fs ts js limit ≡ chunk_seen xs
  chunk_is [] [] has are = refl
  chunk_is [] (x ∷ xs) has are = absurd are
  chunk_is (j ∷ js) [] has are = absurd are
  chunk_is (j ∷ js) (x ∷ xs) has are =
      let law = address_law s ts limit j in
      let slots_are : slots_of_column s ts limit j ≡ slots (layout_of x) = law.slots (law.from_whole has.0) ∙ sym are.0.slots in
      let here : record { type = type_at fs j; slots = slots_of_column s ts limit j } ≡ column_seen x = λ i. record { type = sym are.0.type i; slots = slots_are i } in
      let rest = chunk_is js xs has.1 are.1 in
      λ k. here k ∷ rest k

  -- and the other way
  each_rows : (k : ℕ) (js : List ℕ) (xs : List AnyArray) → AreColumns s vs fs ts limit js xs → AllRead s ts limit k js
      → (i : ℕ) (d : AnyArray) → i < length xs → any_rows (get_or xs i d) ≡ k
  each_rows k [] [] are v i d h = absurd (omega (arith, h))
  each_rows k [] (x ∷ xs) are v i d h = absurd are
  each_rows k (j ∷ js) [] are v i d h = absurd are
  each_rows k (j ∷ js) (x ∷ xs) are v zero d h =
      array_rows s vs (kind_at ts j) (type_at fs j) (nodes_before ts j) (buffers_before s.extra ts j) limit x are.0
      ∙ sym (column_rows s ts limit j)
      ∙ v.0.1
  each_rows k (j ∷ js) (x ∷ xs) are v (suc i) d h = each_rows k js xs are.1 v.1 i d (omega (arith, h))

-- ---- from the batch to the columns

module _ (s : Entries) (ts : Kinds) (limit : Limit) where
  has_columns : (k : ℕ) (js : List ℕ) → AllRead s ts limit k js → HasColumns s ts limit js
  has_columns k [] v = tt
  has_columns k (j ∷ js) v = ((address_law s ts limit j).to_whole v.0.0, has_columns k js v.1)

pub equal_rows : (k : ℕ) (xs : List AnyArray) → ((i : ℕ) (d : AnyArray) → i < length xs → any_rows (get_or xs i d) ≡ k) → AreEqualRows any_rows xs
equal_rows k [] each = λ j x h. absurd (omega (arith, h))
equal_rows k (y ∷ ys) each = λ j x h. each j x h ∙ sym (each 0 y (omega arith))

-- ---- what was read

pub projection_is : (p : Option (List ℕ)) (n : ℕ) → ArePrepared p n → IsProjection p n
projection_is None n h = tt
projection_is (Some js) n h = prepared_projection js n h

-- What was read of a batch: all but the count of the rows.
pub record Fetched (schema : Schema) (extra : ℕ) (known : Dictionaries) (vs : Option ℤ → Layout) (b : Body) (t : Spot) (projection : Option (List ℕ)) (limit : Limit) (lists : Lists) (ys : List AnyArray) : Type 0 where
  pub listed : lists_of t ≡ Some lists
  pub judged : IsListed lists b.size extra (kinds schema)
  pub prepared : ArePrepared projection (count (kinds schema))
  pub has : HasColumns (entries_of lists b schema.order extra known) (kinds schema) limit (chosen projection (count (kinds schema)))
  pub are : AreColumns (entries_of lists b schema.order extra known) vs schema.fields (kinds schema) limit (chosen projection (count (kinds schema))) ys

batch_read :
    (schema : Schema) (extra : ℕ) (known : Dictionaries) (vs : Option ℤ → Layout) (b : Body) (t : Spot) (projection : Option (List ℕ)) (limit : Limit) (lists : Lists) (ys : List AnyArray)
    → Fetched schema extra known vs b t projection limit lists ys → AreEqualRows any_rows ys
    → (k : ℕ) → ((i : ℕ) (d : AnyArray) → i < length ys → any_rows (get_or ys i d) ≡ k)
    → batch (entries_of lists b schema.order extra known) b.size schema projection limit ≡ Some (chunk_seen ys)
unfolding entries_of
batch_read schema extra known vs b t projection limit lists ys f equal k each =
    let s = entries_of lists b schema.order extra known in
    let ts = kinds schema in
    let js = chosen projection (count ts) in
    let is : IsBatch s b.size ts js limit = record {
      bounded = record {
        lengths = are_lengths b.source b.base lists.buffers f.judged.sizes;
        total = let e = total_from b.source b.base 0 lists.buffers in omega (arith, e, f.judged.total);
      };
      nodes_listed = f.judged.nodes;
      buffers_listed = omega (arith, f.judged.buffers, length-map lists.buffers (part_at b.source b.base));
      columns = read_first s ts limit k js (all_read s vs schema.fields ts limit k js ys f.has f.are each);
    } in
    projected_is s b.size schema projection limit is ((projection_decides projection (count ts)).1 (projection_is projection (count ts) f.prepared))
    ∙ ap Some (chunk_is s vs schema.fields ts limit js ys f.has f.are)

pub fetched_meaning :
    (schema : Schema) (extra : ℕ) (known : Dictionaries) (vs : Option ℤ → Layout) (b : Body) (t : Spot) (projection : Option (List ℕ)) (limit : Limit) (lists : Lists) (ys : List AnyArray)
    → Fetched schema extra known vs b t projection limit lists ys → AreEqualRows any_rows ys
    → record_meaning schema extra known b t projection limit ≡ Some (chunk_seen ys)
unfolding record_meaning
fetched_meaning schema extra known vs b t projection limit lists ys f equal =
    ap (λ (o : Option Lists). option_and_then (λ (l : Lists). batch (entries_of l b schema.order extra known) b.size schema projection limit) o) f.listed
    ∙ batch_read schema extra known vs b t projection limit lists ys f equal _ equal

-- ---- what is judged

pub record Judged (schema : Schema) (extra : ℕ) (known : Dictionaries) (b : Body) (projection : Option (List ℕ)) (limit : Limit) (lists : Lists) (k : ℕ) : Type 0 where
  pub listed : IsListed lists b.size extra (kinds schema)
  pub has : HasColumns (entries_of lists b schema.order extra known) (kinds schema) limit (chosen projection (count (kinds schema)))
  pub rows : AllRead (entries_of lists b schema.order extra known) (kinds schema) limit k (chosen projection (count (kinds schema)))

judged_batch :
    (schema : Schema) (extra : ℕ) (known : Dictionaries) (b : Body) (projection : Option (List ℕ)) (limit : Limit) (lists : Lists)
    → IsBatch (entries_of lists b schema.order extra known) b.size (kinds schema) (chosen projection (count (kinds schema))) limit
    → (k : ℕ) × Judged schema extra known b projection limit lists k
unfolding entries_of
judged_batch schema extra known b projection limit lists v =
    let s = entries_of lists b schema.order extra known in
    let ts = kinds schema in
    let js = chosen projection (count ts) in
    let k = first_rows s ts limit js in (
      k,
      record {
        listed = record {
          sizes = lengths_are b.source b.base lists.buffers v.bounded.lengths;
          total = let e = total_from b.source b.base 0 lists.buffers in omega (arith, e, v.bounded.total);
          nodes = v.nodes_listed;
          buffers = omega (arith, v.buffers_listed, length-map lists.buffers (part_at b.source b.base));
        };
        has = has_columns s ts limit k js v.columns;
        rows = v.columns;
      },
    )

-- what has a meaning can be read
pub judged :
    (schema : Schema) (extra : ℕ) (known : Dictionaries) (b : Body) (t : Spot) (projection : Option (List ℕ)) (limit : Limit) (lists : Lists)
    → lists_of t ≡ Some lists → HasMeaning schema extra known b t projection limit → (k : ℕ) × Judged schema extra known b projection limit lists k
unfolding record_meaning
judged schema extra known b t projection limit lists listed h =
    let meant : Option Lists → Option Chunk = λ (o : Option Lists). option_and_then (λ (l : Lists). batch (entries_of l b schema.order extra known) b.size schema projection limit) o in
    let there : IsSome (meant (Some lists)) = subst (λ (o : Option Lists). IsSome (meant o)) listed h in
    let c = some_of (meant (Some lists)) there in
    let found = batch_some (entries_of lists b schema.order extra known) b.size schema projection limit c.0 c.1 in
    judged_batch schema extra known b projection limit lists found.0

pub some_listed : {X Y : Type 0} (f : X → Option Y) (o : Option X) → IsSome (option_and_then f o) → IsSome o
some_listed f (Some x) h = refl
some_listed f None h = h

-- A meaning is one of the batch's entries.
pub listed_of : (schema : Schema) (extra : ℕ) (known : Dictionaries) (b : Body) (t : Spot) (projection : Option (List ℕ)) (limit : Limit)
    → HasMeaning schema extra known b t projection limit → IsSome (lists_of t)
unfolding record_meaning
listed_of schema extra known b t projection limit h =
    some_listed (λ (l : Lists). batch (entries_of l b schema.order extra known) b.size schema projection limit) (lists_of t) h

-- ---- the result

pub gives_batch :
    (schema : Schema) (extra : ℕ) (known : Dictionaries) (vs : Option ℤ → Layout) (b : Body) (t : Spot) (projection : Option (List ℕ)) (limit : Limit) (lists : Lists) (ys : List AnyArray) (r : Result (List AnyArray) Fault)
    → Fetched schema extra known vs b t projection limit lists ys → (IsOk r ↔ AreEqualRows any_rows ys) → IfOk r (λ xs. xs ≡ ys)
    → GivesBatch schema extra known b t projection limit r
gives_batch schema extra known vs b t projection limit lists ys (Ok xs) f ok told =
    let means = fetched_meaning schema extra known vs b t projection limit lists ys f (ok.0 refl) in
    (some_is _ (chunk_seen ys) means, means ∙ ap (λ (zs : List AnyArray). Some (chunk_seen zs)) (sym told))
gives_batch schema extra known vs b t projection limit lists ys (Err e) f ok told =
    claimed e _ (λ h.
    let s = entries_of lists b schema.order extra known in
    let ts = kinds schema in
    let js = chosen projection (count ts) in
    let j = judged schema extra known b t projection limit lists f.listed h in
    let no : false ≡ true = ok.1 (equal_rows j.0 ys (each_rows s vs schema.fields ts limit j.0 js ys f.are j.1.rows)) in
    absurd cc)

pub refused :
    (e : Fault) (P : Type 0) (schema : Schema) (extra : ℕ) (known : Dictionaries) (b : Body) (t : Spot) (projection : Option (List ℕ)) (limit : Limit)
    → OwnFault e (P → ⊥) → (HasMeaning schema extra known b t projection limit → P) → GivesBatch schema extra known b t projection limit (Err e)
refused e P schema extra known b t projection limit denied f = denies_through e P (HasMeaning schema extra known b t projection limit) f denied
