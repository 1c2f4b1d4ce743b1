-- The levels of an array in a batch are a column of its type with its slots: by recursion on the
-- array, each kind by its own lemma.
use Rattle.std.proofs.Common.{arith, ◌≡◌, ℕ, ℤ, ◌+◌, List, length, map, Option, Some, None, refl, ap, ◌∙◌}
use Rattle.std.specs.List.{range_with_len}
use Rattle.lower_arrays.specs.Cuts.{cut_level}
use Rattle.lower_arrays.specs.Layouts.{Parts, nothing, truths, numbers, fixed_bytes, bytes, texts, lists, fixed_lists, maps, records, choices, keys, Level, Layout, layout, Layouts, no_layouts, more_layouts, len_of, type_of}
use Rattle.lower_arrays.specs.Slots.{PartsFit, AreArrays, IsArray, slot_at as array_slot}
use Rattle.ipc_base.specs.IdTrees.{IdTrees}
use Rattle.ipc_model.specs.Columns.{slot_at}
use Rattle.ipc_model.specs.Entries.{Entries, Limit}
use Rattle.ipc_model.specs.Offers.{own_id, inner_ids, levels_below}
use Rattle.ipc_model.specs.TypeKinds.{first_ids, other_ids, kind_of}
use Rattle.ipc_plan.specs.Meaning.{StandsAmong, KnowsValues, WhereKeyed, Knows, KnowsAll, LevelsLaw, ArrayLaw}
use Rattle.ipc_plan.proofs.Dictionaries.{keys_mean}
use Rattle.ipc_plan.proofs.FixedLists.{fixed_lists_mean}
use Rattle.ipc_plan.proofs.Flat.{nulls_mean, truths_mean, numbers_mean, fixed_mean}
use Rattle.ipc_plan.proofs.Lists.{shifted_slots, lists_mean, maps_mean}
use Rattle.ipc_plan.proofs.Rows.{Row, RowMeans, ChildMeans, ChildrenMean}
use Rattle.ipc_plan.proofs.Standing.{stands_front}
use Rattle.ipc_plan.proofs.Structs.{records_mean}
use Rattle.ipc_plan.proofs.Texts.{bytes_mean, texts_mean}
use Rattle.ipc_plan.proofs.Unions.{sparse_mean, dense_mean}

level_means : (s : Entries) (h : Level) (p : Parts) (cs : Layouts) (o n a b : ℕ) (limit : Limit) (id : Option ℤ) (is : IdTrees) (own : List (List ℕ)) → PartsFit h p cs → AreArrays cs
    → WhereKeyed p (KnowsValues s cs id) (ChildrenMean s cs is) → Row s h p o n a b limit own → StandsAmong s (a + 1) (b + length own) (levels_below cs p o n) → RowMeans s h p cs o n a b limit id is
level_means s h nothing no_layouts o n a b limit id is own fit arrays mean r st = nulls_mean s h o n a b limit id is own fit r
level_means s h (truths ts) no_layouts o n a b limit id is own fit arrays mean r st = truths_mean s h ts o n a b limit id is own fit r
level_means s h (numbers p ns) no_layouts o n a b limit id is own fit arrays mean r st = numbers_mean s h p ns o n a b limit id is own fit r
level_means s h (fixed_bytes z xs) no_layouts o n a b limit id is own fit arrays mean r st = fixed_mean s h z xs o n a b limit id is own fit r
level_means s h (bytes p os xs) no_layouts o n a b limit id is own fit arrays mean r st = bytes_mean s h p os xs o n a b limit id is own fit r
level_means s h (texts p os xs) no_layouts o n a b limit id is own fit arrays mean r st = texts_mean s h p os xs o n a b limit id is own fit r
level_means s h nothing (more_layouts c cs) o n a b limit id is own fit arrays mean r st = absurd fit
level_means s h (truths ts) (more_layouts c cs) o n a b limit id is own fit arrays mean r st = absurd fit
level_means s h (numbers p ns) (more_layouts c cs) o n a b limit id is own fit arrays mean r st = absurd fit
level_means s h (fixed_bytes z xs) (more_layouts c cs) o n a b limit id is own fit arrays mean r st = absurd fit
level_means s h (bytes p os xs) (more_layouts c cs) o n a b limit id is own fit arrays mean r st = absurd fit
level_means s h (texts p os xs) (more_layouts c cs) o n a b limit id is own fit arrays mean r st = absurd fit
level_means s h (lists named p os) cs o n a b limit id is own fit arrays mean r st = lists_mean s h named p os cs o n a b limit id is own fit mean r st
level_means s h (fixed_lists z) cs o n a b limit id is own fit arrays mean r st = fixed_lists_mean s h z cs o n a b limit id is own fit mean r st
level_means s h (maps os) cs o n a b limit id is own fit arrays mean r st = maps_mean s h os cs o n a b limit id is own fit mean r st
level_means s h records cs o n a b limit id is own fit arrays mean r st = records_mean s h cs o n a b limit id is own fit arrays mean r st
level_means s h (choices ids ts None) cs o n a b limit id is own fit arrays mean r st = sparse_mean s h ids ts cs o n a b limit id is own fit arrays mean r st
level_means s h (choices ids ts (Some os)) cs o n a b limit id is own fit arrays mean r st = dense_mean s h ids ts os cs o n a b limit id is own fit arrays mean r st
level_means s h (keys k ks) cs o n a b limit id is own fit arrays mean r st = keys_mean s h k ks cs o n a b limit id is own fit mean r

where_mean : (p : Parts) (P Q R : Type 0) → (Q → R) → WhereKeyed p P Q → WhereKeyed p P R
where_mean (keys k ks) P Q R f x = x
where_mean _ P Q R f x = f x

mutual
  of_array : (s : Entries) (l : Layout) (id : Option ℤ) (is : IdTrees) → s.extra ≡ 0 → IsArray l → Knows s l id is → ChildMeans s l id is
  of_array s (layout h cs) id is extra array known = λ o n a b limit inside full st.
      let fr = stands_front s a b (cut_level o n h) (levels_below cs h.parts o n) st in
      level_means s h h.parts cs o n a b limit id is fr.own array.1 array.2
      (where_mean h.parts (KnowsValues s cs id) (KnowsAll s cs is) (ChildrenMean s cs is) (λ k. of_arrays s cs is extra array.2 k) known)
      (record { extra_is = extra; fits = array.0; inside = inside; full = full; are = fr.are; node_is = fr.node_is; stand = fr.parts_stand }) fr.behind

  of_arrays : (s : Entries) (cs : Layouts) (is : IdTrees) → s.extra ≡ 0 → AreArrays cs → KnowsAll s cs is → ChildrenMean s cs is
  of_arrays s no_layouts is extra arrays known = tt
  of_arrays s (more_layouts c cs) is extra arrays known =
      (of_array s c (own_id (first_ids is)) (inner_ids (first_ids is)) extra arrays.0 known.0, of_arrays s cs (other_ids is) extra arrays.1 known.1)

pub levels_law : LevelsLaw
levels_law s l o n a b id is array inside extra st known = of_array s l id is extra array known o n a b None inside refl st

pub array_law : ArrayLaw
array_law s l a b id is array extra st known =
    let m = levels_law s l 0 (len_of l) a b id is array (omega arith) extra st known in
    let t = kind_of (type_of l) id is in (
      m.well,
      ap (λ n. map (λ i. slot_at s t a b i) (range_with_len 0 n)) m.rows_are
          ∙ shifted_slots (λ i. slot_at s t a b i) (array_slot l) 0 0 (len_of l) (λ j k.
          (let e : 0 + j ≡ j = omega arith in ap (λ i. slot_at s t a b i) e) ∙ m.each j k),
    )
