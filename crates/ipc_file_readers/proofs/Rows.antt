-- The rows of a file, as a reader returns them.
use Rattle.std.proofs.Common.{◌≡◌, ℕ, zero, suc, ◌+◌, ◌-◌, ◌<◌, nat_eq, cond, List, [], ◌∷◌, ◌++◌, map, length, take, Bool, true, false, IsTrue, Option, None, Some, Ok, Err, refl, sym, ap, ◌∙◌, subst, arith, inl, inr}
use Rattle.std.specs.Option.{option_and_then}
use Rattle.std.specs.Prelude.{slice_get}
use Rattle.std.proofs.lemmas.Bool.{cases_lt}
use Rattle.std.proofs.lemmas.List.{length-map, length-take, take_all, take-append-le}
use Rattle.std.proofs.lemmas.List.FromFn.{length-map-range_with_len}
use Rattle.std.proofs.lemmas.Option.{slice_get_within}
use Rattle.std.proofs.Math.Seq.{take-append-add}
use Rattle.lower.specs.TypeTrees.{FieldTrees}
use Rattle.lower_arrays.specs.AnyLayouts.{layout_of}
use Rattle.lower_arrays.specs.Layouts.{len_of}
use Rattle.lower_arrays.specs.Slots.{Slot}
use Rattle.lower_arrays.specs.declared.array.AnyArray.{AnyArray}
use Rattle.ipc_table_views.specs.declared.file.Block.{Block}
use Rattle.ipc_model.proofs.Pruned.{batch_some, projection_decides, prune_law}
use Rattle.ipc_model.specs.BatchLaws.{column_at, cut, pruned}
use Rattle.ipc_model.specs.Batches.{Body, Chunk, Column, IsProjection, AllRead, Schema, batch, chosen, chunk_of, entries_of, first_rows, kinds, lists_of, record_meaning, rows_at}
use Rattle.ipc_model.specs.Entries.{Dictionaries, Entries, Limit}
use Rattle.ipc_model.specs.Files.{FileMetadata as Meaning, BlockHeader, placed, metadata_at, block_header, body_at, chunk_at, file_chunk}
use Rattle.ipc_model.specs.Kinds.{Kinds, count}
use Rattle.ipc_model.specs.Schemas.{given}
use Rattle.ipc_read.specs.Chunks.{chunk_seen, column_seen}
use Rattle.ipc_base.specs.IdTrees.{all_ids_view}
use Rattle.ipc_devices.specs.Device.{Device}
use Rattle.ipc_read.proofs.Fields.{field_count}
use Rattle.ipc_read.proofs.Meanings.{length-slots_from}
use Rattle.ipc_file_readers.specs.Readers.{Answer, asked_of, block_of, blocks_left, device_of, file_of, less, metadata_of, remaining_of, rows_given}
use Rattle.ipc_file_readers.specs.Rows.{AreChunks, Mean, RowsLaw, first_of, joined}
use Rattle.ipc_file_readers.specs.declared.read.reader.state.FileReader.{FileReader}
use Rattle.ipc_file_readers.proofs.Runs.{items_law}
use Rattle.ipc_file_readers.specs.Runs.{AreItems, IsToldOnce}

-- ---- what holds of a batch holds of a block

then_holds : {X : Type 0} (Q : Chunk → Type 0) (o : Option X) (f : X → Option Chunk) (c : Chunk) → ((x : X) → f x ≡ Some c → Q c) → option_and_then f o ≡ Some c → Q c
then_holds Q None f c h e = absurd cc
then_holds Q (Some x) f c h e = h x e

given_holds : {X : Type 0} (Q : Chunk → Type 0) (o : Option X) (f : X → Option Chunk) (c : Chunk) → ((x : X) → f x ≡ Some c → Q c) → given o f ≡ Some c → Q c
given_holds Q None f c h e = absurd cc
given_holds Q (Some x) f c h e = h x e

where_holds : (Q : Chunk → Type 0) (b : Bool) (o : Option Chunk) (c : Chunk) → (o ≡ Some c → Q c) → cond b o None ≡ Some c → Q c
where_holds Q true o c h e = h e
where_holds Q false o c h e = absurd cc

module _ (m : Meaning) (ds : Dictionaries) (source : List ℕ) (asked : Option (List ℕ)) (limit : Limit) (Q : Chunk → Type 0) (c : Chunk)
    (of_batch : (s : Entries) (most : ℕ) → batch s most m.schema asked limit ≡ Some c → Q c) where
  record_holds : (extra : ℕ) (b : Body) (h : BlockHeader) → record_meaning m.schema h.extra ds b h.table asked limit ≡ Some c → Q c
  unfolding record_meaning
  record_holds extra b h = then_holds Q (lists_of h.table) _ c (λ lists. of_batch (entries_of lists b m.schema.order h.extra ds) b.size)

  block_holds : (b : Block) → chunk_at m ds source b asked limit ≡ Some c → Q c
  unfolding chunk_at
  block_holds b =
      given_holds Q (placed b) _ c (λ p. given_holds Q (metadata_at source p) _ c (λ metadata. given_holds Q (block_header metadata) _ c
      (λ h. where_holds Q (nat_eq h.tag 3) _ c (record_holds h.extra (body_at m source p) h))))

  chunk_holds : (i : ℕ) → file_chunk m ds source asked limit i ≡ Some c → Q c
  chunk_holds i = then_holds Q (slice_get m.blocks i) _ c block_holds

-- ---- a chunk by a projection and a limit

then_pruned : {X : Type 0} (o : Option X) (f g : X → Option Chunk) (c d : Chunk) → ((x : X) → f x ≡ Some c → g x ≡ Some d) → option_and_then f o ≡ Some c → option_and_then g o ≡ Some d
then_pruned None f g c d h e = absurd cc
then_pruned (Some x) f g c d h e = h x e

given_pruned : {X : Type 0} (o : Option X) (f g : X → Option Chunk) (c d : Chunk) → ((x : X) → f x ≡ Some c → g x ≡ Some d) → given o f ≡ Some c → given o g ≡ Some d
given_pruned None f g c d h e = absurd cc
given_pruned (Some x) f g c d h e = h x e

where_pruned : (b : Bool) (o p : Option Chunk) (c d : Chunk) → (o ≡ Some c → p ≡ Some d) → cond b o None ≡ Some c → cond b p None ≡ Some d
where_pruned true o p c d h e = h e
where_pruned false o p c d h e = absurd cc

module _ (m : Meaning) (ds : Dictionaries) (source : List ℕ) (asked : Option (List ℕ)) (is : IsProjection asked (count (kinds m.schema))) (limit : Limit) (c : Chunk) where
  record_pruned : (extra : ℕ) (b : Body) (h : BlockHeader) → record_meaning m.schema h.extra ds b h.table None None ≡ Some c
      → record_meaning m.schema h.extra ds b h.table asked limit ≡ Some (pruned asked limit c)
  unfolding record_meaning
  record_pruned extra b h =
      then_pruned (lists_of h.table) _ _ c (pruned asked limit c) (λ lists e. prune_law (entries_of lists b m.schema.order h.extra ds) b.size m.schema asked limit c is e)

  pub block_pruned : (b : Block) → chunk_at m ds source b None None ≡ Some c → chunk_at m ds source b asked limit ≡ Some (pruned asked limit c)
  unfolding chunk_at
  block_pruned b =
      given_pruned (placed b) _ _ c (pruned asked limit c) (λ p. given_pruned (metadata_at source p) _ _ c (pruned asked limit c) (λ metadata.
      given_pruned (block_header metadata) _ _ c (pruned asked limit c) (λ h. where_pruned (nat_eq h.tag 3) _ _ c (pruned asked limit c) (record_pruned h.extra (body_at m source p) h))))

  pub chunk_pruned : (i : ℕ) → file_chunk m ds source None None i ≡ Some c → file_chunk m ds source asked limit i ≡ Some (pruned asked limit c)
  chunk_pruned i = then_pruned (slice_get m.blocks i) _ _ c (pruned asked limit c) block_pruned

-- ---- how many rows

module _ (s : Entries) (fs : FieldTrees) (ts : Kinds) (limit : Limit) (k : ℕ) where
  even_columns : (js : List ℕ) → AllRead s ts limit k js → (p : ℕ) → p < length js → length (column_at (chunk_of s fs ts js limit) p).slots ≡ k
  even_columns [] h p l = absurd (omega (arith, l))
  even_columns (j ∷ js) h zero l = length-map-range_with_len _ 0 (rows_at s ts limit j) ∙ h.0.1
  even_columns (j ∷ js) h (suc p) l = even_columns js h.1 p (omega (arith, l))

-- columns have as many slots as the first
IsEven : Chunk → Type 0
IsEven c = (p : ℕ) → p < length c → length (column_at c p).slots ≡ length (column_at c 0).slots

even_batch : (s : Entries) (most : ℕ) (schema : Schema) (asked : Option (List ℕ)) (limit : Limit) (c : Chunk) → batch s most schema asked limit ≡ Some c → IsEven c
unfolding IsEven
even_batch s most schema asked limit c e =
    let ts = kinds schema in
    let js = chosen asked (count ts) in
    let found = batch_some s most schema asked limit c e in
    let k = first_rows s ts limit js in
    let long : length c ≡ length js = sym (ap length found.1) ∙ length-map js _ in
    λ p l.
    let here : (q : ℕ) → q < length js → length (column_at c q).slots ≡ k =
    λ q inside. ap (λ (d : Chunk). length (column_at d q).slots) (sym found.1) ∙ even_columns s schema.fields ts limit k js found.0.columns q inside in
    here p (omega (arith, l, long)) ∙ sym (here 0 (omega (arith, l, long)))

rows_first : (xs : List AnyArray) → 0 < length xs → rows_given (Ok xs) ≡ length (column_at (chunk_seen xs) 0).slots
rows_first [] l = absurd (omega (arith, l))
rows_first (x ∷ xs) l = sym (length-slots_from _ 0 (len_of (layout_of x)))

rows_are : (xs : List AnyArray) (c : Chunk) (p : ℕ) → chunk_seen xs ≡ c → IsEven c → p < length c → rows_given (Ok xs) ≡ length (column_at c p).slots
unfolding IsEven
rows_are xs c p e even l =
    let long : length xs ≡ length c = sym (length-map xs column_seen) ∙ ap length e in
    rows_first xs (omega (arith, l, long)) ∙ ap (λ (d : Chunk). length (column_at d 0).slots) e ∙ sym (even p l)

-- ---- the first rows

take_none : (xs : List Slot) → take 0 xs ≡ []
take_none [] = refl
take_none (x ∷ xs) = refl

first_append : (limit : Limit) (s rest : List Slot) (r : ℕ) → r ≡ length (first_of limit s) → first_of limit s ++ first_of (less limit r) rest ≡ first_of limit (s ++ rest)
first_append None s rest r e = refl
first_append (Some n) s rest r e = elim (cases_lt n (length s)) [
  | inl l ↦
      (let all : r ≡ n = e ∙ length-take n s ∙ omega (arith, l) in
      let no_more : n - r ≡ 0 = omega (arith, all) in
      let none : take (n - r) rest ≡ [] = ap (λ (k : ℕ). take k rest) no_more ∙ take_none rest in
      ap (λ (ys : List Slot). take n s ++ ys) none ∙ append_nothing (take n s) ∙ sym (take-append-le n s rest (omega (arith, l))))
  | inr g ↦
      (let all : r ≡ length s = e ∙ length-take n s ∙ omega (arith, g) in
      let whole : take n s ≡ s = take_all n s (omega (arith, g)) in
      let back : n ≡ length s + (n - r) = omega (arith, all, g) in
      ap (λ (ys : List Slot). ys ++ take (n - r) rest) whole ∙ sym (take-append-add s rest (n - r)) ∙ ap (λ (k : ℕ). take k (s ++ rest)) (sym back))
]
  where
    append_nothing : (xs : List Slot) → xs ++ [] ≡ xs
    append_nothing [] = refl
    append_nothing (x ∷ xs) = ap (λ (ys : List Slot). x ∷ ys) (append_nothing xs)

cut_slots : (limit : Limit) (c : Column) → (cut limit c).slots ≡ first_of limit c.slots
cut_slots None c = refl
cut_slots (Some n) c = refl

-- Column p of the chosen columns.
column_of : {X : Type 0} (f : X → Column) (js : List X) (p : ℕ) (j : X) → slice_get js p ≡ Some j → column_at (map f js) p ≡ f j
column_of f [] p j e = absurd cc
column_of f (i ∷ js) zero j e = ap f (let same : i ≡ j = cc in same)
column_of f (i ∷ js) (suc p) j e = column_of f js p j e

first_none : (limit : Limit) → [] ≡ first_of limit []
first_none None = refl
first_none (Some zero) = refl
first_none (Some (suc n)) = refl

module _ (m : Meaning) (ds : Dictionaries) (source : List ℕ) (asked : Option (List ℕ)) (is : IsProjection asked (count (kinds m.schema))) (p j : ℕ)
    (at : slice_get (chosen asked (count (kinds m.schema))) p ≡ Some j) where
  -- a whole chunk has each column
  whole_length : (i : ℕ) (c : Chunk) → file_chunk m ds source None None i ≡ Some c → length c ≡ count (kinds m.schema)
  whole_length i c = chunk_holds m ds source None None (λ d. length d ≡ count (kinds m.schema)) c (λ s most e.
      let found = batch_some s most m.schema None None c e in
      sym (ap length found.1) ∙ length-map-range_with_len _ 0 (count (kinds m.schema))) i

  even_chunk : (limit : Limit) (i : ℕ) (c : Chunk) → file_chunk m ds source asked limit i ≡ Some c → IsEven c
  even_chunk limit i c = chunk_holds m ds source asked limit IsEven c (λ s most e. even_batch s most m.schema asked limit c e) i

  pub rows_joined : (n : ℕ) (rs : List Answer) (cs gs : List Chunk) (limit : Limit) (i : ℕ) → AreItems m ds source asked limit i n rs → Mean m ds source i cs → AreChunks rs gs
      → length gs ≡ length cs → joined gs p ≡ first_of limit (joined cs j)
  rows_joined n [] [] [] limit i items mean are long = first_none limit
  rows_joined n [] (c ∷ cs) [] limit i items mean are long = absurd (omega (arith, long))
  rows_joined n [] cs (g ∷ gs) limit i items mean are long = absurd are
  rows_joined n (None ∷ rs) cs gs limit i items mean are long = absurd (no_chunk rs gs are)
    where
      no_chunk : (rs : List Answer) (gs : List Chunk) → AreChunks (None ∷ rs) gs → ⊥
      no_chunk rs [] h = h
      no_chunk rs (g ∷ gs) h = h
  rows_joined n (Some (Err e) ∷ rs) cs gs limit i items mean are long = absurd (no_chunk rs gs are)
    where
      no_chunk : (rs : List Answer) (gs : List Chunk) → AreChunks (Some (Err e) ∷ rs) gs → ⊥
      no_chunk rs [] h = h
      no_chunk rs (g ∷ gs) h = h
  rows_joined n (Some (Ok xs) ∷ rs) cs [] limit i items mean are long = absurd are
  rows_joined n (Some (Ok xs) ∷ rs) [] (g ∷ gs) limit i items mean are long = absurd (omega (arith, long))
  rows_joined zero (Some (Ok xs) ∷ rs) (c ∷ cs) (g ∷ gs) limit i items mean are long = let no : Some (Ok xs) ≡ None = items.0 in absurd cc
  rows_joined (suc n) (Some (Ok xs) ∷ rs) (c ∷ cs) (g ∷ gs) limit i items mean are long =
      let whole : file_chunk m ds source None None i ≡ Some c = ap (file_chunk m ds source None None) (let e : i ≡ i + 0 = omega arith in e) ∙ mean.each 0 c refl in
      let d = pruned asked limit c in
      let read : chunk_seen xs ≡ d = let e : Some (chunk_seen xs) ≡ Some d = sym items.0 ∙ chunk_pruned m ds source asked is limit c i whole in cc in
      let columns = ap (chosen asked) (whole_length i c whole) in
      let here : column_at d p ≡ cut limit (column_at c j) =
      column_of (λ (q : ℕ). cut limit (column_at c q)) (chosen asked (length c)) p j (ap (λ (js : List ℕ). slice_get js p) columns ∙ at) in
      let slots_here : (column_at d p).slots ≡ first_of limit (column_at c j).slots = ap (λ (x : Column). x.slots) here ∙ cut_slots limit (column_at c j) in
      let inside : p < length d = subst (λ (k : ℕ). p < k) (sym (length-map (chosen asked (length c)) _))
      (slice_get_within (chosen asked (length c)) p j (ap (λ (js : List ℕ). slice_get js p) columns ∙ at)) in
      let even : IsEven d = even_chunk limit i d (chunk_pruned m ds source asked is limit c i whole) in
      let rows : rows_given (Ok xs) ≡ length (first_of limit (column_at c j).slots) = rows_are xs d p read even inside ∙ ap length slots_here in
      let others = rows_joined n rs cs gs (less limit (rows_given (Ok xs))) (i + 1) items.1
      (record { each = λ k b e. ap (file_chunk m ds source None None) (let f : i + 1 + k ≡ i + suc k = omega arith in f) ∙ mean.each (suc k) b e }) are.1 (omega (arith, long)) in
      ap (λ (x : Chunk). (column_at x p).slots ++ joined gs p) (sym are.0 ∙ read)
      ∙ ap (λ (ys : List Slot). ys ++ joined gs p) slots_here
      ∙ ap (λ (ys : List Slot). first_of limit (column_at c j).slots ++ ys) others
      ∙ first_append limit (column_at c j).slots (joined cs j) (rows_given (Ok xs)) rows

-- ---- a reader

-- An error that is returned once is no chunk.
told_chunks : (rs : List Answer) (gs : List Chunk) → IsToldOnce ⊥ rs → AreChunks rs gs → gs ≡ []
told_chunks [] [] h are = refl
told_chunks [] (g ∷ gs) h are = absurd are
told_chunks (None ∷ rs) gs h are = absurd h
told_chunks (Some (Ok xs) ∷ rs) gs h are = absurd h
told_chunks (Some (Err e) ∷ rs) [] h are = absurd are
told_chunks (Some (Err e) ∷ rs) (g ∷ gs) h are = absurd are

no_chunks : (limit : Limit) (cs gs : List Chunk) (p j : ℕ) → gs ≡ [] → length gs ≡ length cs → joined gs p ≡ first_of limit (joined cs j)
no_chunks limit [] gs p j none long = ap (λ (x : List Chunk). joined x p) none ∙ first_none limit
no_chunks limit (c ∷ cs) gs p j none long = let e = ap length none in absurd (omega (arith, e, long))

module _ {R : Type 0} (d : Device R) (stays : IsTrue d.is_memory → IsTrue d.is_read_only) where
  pub rows_law : (a : FileReader R) → RowsLaw d a
  rows_law a rs ds cs gs k holds calls mean are long p j at =
      let n = length (metadata_of a).schema.fields.items in
      let many : count (kinds (file_of a).schema) ≡ n = field_count (metadata_of a).schema.fields.items (all_ids_view (metadata_of a).ipc_schema.fields.items) in
      let is : IsProjection (asked_of a) (count (kinds (file_of a).schema)) =
      subst (λ (c : ℕ). IsProjection (asked_of a) c) (sym many) ((projection_decides (asked_of a) n).0 a.there) in
      let column : slice_get (chosen (asked_of a) (count (kinds (file_of a).schema))) p ≡ Some j = ap (λ (c : ℕ). slice_get (chosen (asked_of a) c) p) many ∙ at in
      elim (items_law d stays a rs ds k holds calls) [
        | inl items ↦ rows_joined (file_of a) ds (d.memory (device_of a)).whole (asked_of a) is p j column (blocks_left a) rs cs gs (remaining_of a) (block_of a) items mean are long
        | inr told ↦ no_chunks (remaining_of a) cs gs p j (told_chunks rs gs told are) long
      ]
