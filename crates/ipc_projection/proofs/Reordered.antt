-- Columns that were read in ascending order, moved to the requested indices.
use Rattle.std.proofs.Common.{◌≡◌, ℕ, zero, suc, ◌<◌, ◌==◌, List, [], ◌∷◌, map, length, Some, slice_get, option_map, arith, refl, sym, ◌∙◌, ap, subst}
use Rattle.std.specs.List.{All}
use Rattle.std.specs.HashMap.{HashMap}
use Rattle.std.specs.List.Sorted.{IsPermutation}
use Rattle.std.proofs.lemmas.List.{length-map}
use Rattle.std.proofs.lemmas.List.Sorted.{All-permutation, IsPermutation-sym}
use Rattle.std.proofs.lemmas.Option.{slice_get-map}
use Rattle.std.proofs.lemmas.Map.Keys.{IsDistinct-IsPermutation}
use Rattle.ipc_model.proofs.Pruned.{batch_projection, batch_some, projected_is, projection_decides, read_first}
use Rattle.ipc_model.specs.Kinds.{Kinds, count}
use Rattle.ipc_model.specs.Entries.{Entries, Limit}
use Rattle.ipc_model.specs.Columns.{WithRows}
use Rattle.ipc_model.specs.Batches.{Schema, kinds, IsWellAt, rows_at, slots_of_column, type_at, IsProjection, first_rows, AllRead, IsBatch, Column, Chunk, chunk_of, batch}
use Rattle.ipc_projection.proofs.Preparing.{all_of, each_of, eqb_flips}
use Rattle.ipc_projection.proofs.Reorderings.{some_same}
use Rattle.ipc_projection.specs.Projections.{IsReordering, AreReordered}
use Rattle.ipc_projection.specs.Preparing.{ReorderLaw}

-- The elements at the indices of two lists tell them apart.
pub same_places : {X : Type 0} (xs ys : List X) → length xs ≡ length ys → ((p : ℕ) → p < length ys → slice_get xs p ≡ slice_get ys p) → xs ≡ ys
same_places [] [] long same = refl
same_places [] (y ∷ ys) long same = absurd (omega (arith, long))
same_places (x ∷ xs) [] long same = absurd (omega (arith, long))
same_places {X} (x ∷ xs) (y ∷ ys) long same =
    ap (λ (z : X). z ∷ xs) (some_same (same 0 (omega arith)))
    ∙ ap (λ (zs : List X). y ∷ zs) (same_places xs ys (omega (arith, long)) (λ p l. same (suc p) (omega (arith, l))))

-- what is made of each column moves as the columns do
pub moved_images : {S X Y : Type 0} (m : HashMap ℕ ℕ S) (f : X → Y) (xs ys : List X) → AreReordered m xs ys → AreReordered m (map f xs) (map f ys)
moved_images m f xs ys h = record {
  count = length-map ys f ∙ h.count ∙ sym (length-map xs f);
  moved = λ i p e. slice_get-map f ys p ∙ ap (option_map f) (h.moved i p e) ∙ sym (slice_get-map f xs i);
}

-- There is one order to which a map moves columns.
pub moved_once : {S X : Type 0} (m : HashMap ℕ ℕ S) (xs ys zs : List X) → IsReordering m (length xs) → AreReordered m xs ys → AreReordered m xs zs → ys ≡ zs
moved_once m xs ys zs r h k = same_places ys zs (h.count ∙ sym k.count) same
  where
    same : (p : ℕ) → p < length zs → slice_get ys p ≡ slice_get zs p
    same p l =
        let long = k.count in
        let w = (r.values p).1 (omega (arith, l, long)) in
        h.moved w.0 p w.1 ∙ sym (k.moved w.0 p w.1)

module _ (s : Entries) (ts : Kinds) (limit : Limit) (k : ℕ) where
  abbrev IsReadAt : ℕ → Type 0
  IsReadAt j = WithRows (IsWellAt s ts limit j) (rows_at s ts limit j) k

  each_read : (js : List ℕ) → AllRead s ts limit k js → All IsReadAt js
  each_read [] h = λ i d l. absurd (omega (arith, l))
  each_read (j ∷ js) h = at (each_read js h.1)
    where
      at : All IsReadAt js → All IsReadAt (j ∷ js)
      at others zero d l = h.0
      at others (suc i) d l = others i d (omega (arith, l))

  all_read : (js : List ℕ) → All IsReadAt js → AllRead s ts limit k js
  all_read [] h = tt
  all_read (j ∷ js) h = (h 0 0 (omega arith), all_read js (λ i d l. h (suc i) d (omega (arith, l))))

-- columns that are the same but for their order have each the same meaning
pub shuffled_batch : (s : Entries) (most : ℕ) (schema : Schema) (limit : Limit) (xs ys : List ℕ) (c : Chunk) → IsPermutation xs ys
    → batch s most schema (Some xs) limit ≡ Some c
    → (chunk_of s schema.fields (kinds schema) xs limit ≡ c) × (batch s most schema (Some ys) limit ≡ Some (chunk_of s schema.fields (kinds schema) ys limit))
shuffled_batch s most schema limit xs ys c shuffled e =
    let ts = kinds schema in
    let n = count ts in
    let found = batch_some s most schema (Some xs) limit c e in
    let projected = (projection_decides (Some xs) n).0 (batch_projection s most schema (Some xs) limit c e) in
    let is : IsProjection (Some ys) n = (
      all_of n ys (All-permutation (λ j. j < n) xs ys shuffled (each_of n xs projected.0)),
      IsDistinct-IsPermutation (λ i j. i == j) eqb_flips xs ys shuffled projected.1,
    ) in
    let k = first_rows s ts limit xs in
    let each : All (IsReadAt s ts limit k) ys = All-permutation (IsReadAt s ts limit k) xs ys shuffled (each_read s ts limit k xs found.0.columns) in
    let whole : IsBatch s most ts ys limit = record {
      bounded = found.0.bounded;
      nodes_listed = found.0.nodes_listed;
      buffers_listed = found.0.buffers_listed;
      columns = read_first s ts limit k ys (all_read s ts limit k ys each);
    } in
    (found.1, projected_is s most schema (Some ys) limit whole ((projection_decides (Some ys) n).1 is))

pub reorder_law : {S : Type 0} (places : HashMap ℕ ℕ S) → ReorderLaw places
reorder_law places asked sorted s most schema limit read given h e moved =
    let found = shuffled_batch s most schema limit sorted asked read (IsPermutation-sym asked sorted h.same) e in
    let column : ℕ → Column = λ j. record { type = type_at schema.fields j; slots = slots_of_column s (kinds schema) limit j } in
    let long : length asked ≡ length read = h.moved.count ∙ sym (length-map sorted column) ∙ ap length found.0 in
    let there : AreReordered places read (map column asked) =
    subst (λ (c : Chunk). AreReordered places c (map column asked)) found.0 (moved_images places column sorted asked h.moved) in
    let reordering : IsReordering places (length read) = subst (λ (m : ℕ). IsReordering places m) long h.reordering in
    found.1 ∙ ap Some (moved_once places read (map column asked) given reordering there moved)
