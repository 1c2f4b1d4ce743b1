-- Columns are accepted exactly if their types fit, one id has one list
-- of values, and all lengths fit.
use Rattle.std.proofs.Common.{◌≡◌, ℕ, ◌<◌, arith, List, [], ◌∷◌, ◌+◌, length, map, All, drop, get_or, zero, suc, refl, sym, ap, ◌∙◌, subst}
use Rattle.std.proofs.lemmas.List.{drop_more}
use Rattle.lower.specs.Normal.{norm}
use Rattle.lower.specs.TypeTrees.{TypeTree, field, FieldTrees, no_fields, more_fields}
use Rattle.lower_arrays.specs.AnyLayouts.{layout_of}
use Rattle.lower_arrays.specs.Layouts.{layouts, type_of}
use Rattle.lower_arrays.specs.Slots.{AreArrays, IsArray}
use Rattle.lower_arrays.specs.declared.array.AnyArray.{AnyArray}
use Rattle.ipc_base.specs.IdTrees.{IdTrees}
use Rattle.ipc_chunks.proofs.MessageLengths.{bodies_said, nodes_said}
use Rattle.ipc_encode.specs.Encoding.{IsEncodable, levels_of}
use Rattle.ipc_encode.specs.declared.batches.BatchKind.TheVariants.{Record}
use Rattle.ipc_model.specs.Accepted.{types_of}
use Rattle.ipc_model.specs.Offers.{FilledPlace, IsAcceptedChunk, offer_of, values_of}
use Rattle.ipc_plan.specs.Batches.{AreLike}
use Rattle.ipc_tracker.specs.Listings.{ListsAll}
use Rattle.ipc_tracker.specs.Trackers.{Remembered}
use Rattle.ipc_chunks.specs.Lengths.{HaveLengths}
use Rattle.ipc_write.specs.Meaning.{normal_types}
use Rattle.ipc_write.specs.Writers.{HasType, HaveTypes}

-- ---- types

pub types_offered : (columns : List AnyArray) (fs : FieldTrees) (is : IdTrees) → HaveTypes columns (normal_types fs) → map (λ c. norm c.type) (offer_of (map layout_of columns) is).columns ≡ map norm (types_of fs)
types_offered [] no_fields is h = refl
types_offered [] (more_fields (field name t nullable metadata) fs) is h = absurd h
types_offered (a ∷ columns) no_fields is h = absurd h
types_offered (a ∷ columns) (more_fields (field name t nullable metadata) fs) is h = let here = h.0 in let rest = types_offered columns fs is h.1 in cc

pub have_types : (columns : List AnyArray) (fs : FieldTrees) (is : IdTrees) → map (λ c. norm c.type) (offer_of (map layout_of columns) is).columns ≡ map norm (types_of fs) → HaveTypes columns (normal_types fs)
have_types [] no_fields is h = tt
have_types [] (more_fields (field name t nullable metadata) fs) is h = absurd cc
have_types (a ∷ columns) no_fields is h = absurd cc
have_types (a ∷ columns) (more_fields (field name t nullable metadata) fs) is h =
    let here : norm (type_of (layout_of a)) ≡ norm t = cc in
    let rest : map (λ c. norm c.type) (offer_of (map layout_of columns) is).columns ≡ map norm (types_of fs) = cc in
    (here, have_types columns fs is rest)

pub count_offered : (columns : List AnyArray) (fs : FieldTrees) (is : IdTrees) → HaveTypes columns (normal_types fs) → length (offer_of (map layout_of columns) is).columns ≡ length (types_of fs)
count_offered [] no_fields is h = refl
count_offered [] (more_fields (field name t nullable metadata) fs) is h = absurd h
count_offered (a ∷ columns) no_fields is h = absurd h
count_offered (a ∷ columns) (more_fields (field name t nullable metadata) fs) is h = let rest = count_offered columns fs is h.1 in cc

-- as many columns as fields
pub same_count : (columns : List AnyArray) (fs : FieldTrees) (is : IdTrees) → length (offer_of (map layout_of columns) is).columns ≡ length (types_of fs) → length columns ≡ length (normal_types fs)
same_count [] no_fields is h = refl
same_count [] (more_fields (field name t nullable metadata) fs) is h = absurd cc
same_count (a ∷ columns) no_fields is h = absurd cc
same_count (a ∷ columns) (more_fields (field name t nullable metadata) fs) is h =
    let less : length (offer_of (map layout_of columns) is).columns ≡ length (types_of fs) = omega (arith, h) in
    let rest = same_count columns fs is less in omega (arith, rest)

-- columns are like the fields
pub like_fields : (columns : List AnyArray) (fs : FieldTrees) → HaveTypes columns (normal_types fs) → AreLike fs (layouts (map layout_of columns))
like_fields [] no_fields h = tt
like_fields [] (more_fields (field name t nullable metadata) fs) h = absurd h
like_fields (a ∷ columns) no_fields h = absurd h
like_fields (a ∷ columns) (more_fields (field name t nullable metadata) fs) h = (h.0, like_fields columns fs h.1)

-- ---- the types from an index on

at_place : {A : Type 0} (xs : List A) (i : ℕ) (x : A) → i < length xs → x ≡ get_or xs i x → drop i xs ≡ x ∷ drop (i + 1) xs
at_place {A = A} xs i x inside is = drop_more xs i x inside ∙ ap (λ (y : A). y ∷ drop (i + 1) xs) (sym is)

-- By what each type has, as a field.
pub types_more : {T : Type 0} (view : T → TypeTree) (xs : List AnyArray) (ts : List T) (i : ℕ) (x : AnyArray) (t : T) → i < length xs → length xs ≡ length ts → x ≡ get_or xs i x → t ≡ get_or ts i t → HasType x (view t)
    → HaveTypes (drop (i + 1) xs) (map view (drop (i + 1) ts)) → HaveTypes (drop i xs) (map view (drop i ts))
types_more {T = T} view xs ts i x t inside same ix it has rest =
    subst (λ (ys : List AnyArray). HaveTypes ys (map view (drop i ts))) (sym (at_place xs i x inside ix))
    (subst (λ (us : List T). HaveTypes (x ∷ drop (i + 1) xs) (map view us)) (sym (at_place ts i t (omega (arith, inside, same)) it)) (has, rest))

pub types_rest : {T : Type 0} (view : T → TypeTree) (xs : List AnyArray) (ts : List T) (i : ℕ) (x : AnyArray) (t : T) → i < length xs → length xs ≡ length ts → x ≡ get_or xs i x → t ≡ get_or ts i t
    → HaveTypes (drop i xs) (map view (drop i ts)) → HaveTypes (drop (i + 1) xs) (map view (drop (i + 1) ts))
types_rest {T = T} view xs ts i x t inside same ix it h =
    let here : HaveTypes (x ∷ drop (i + 1) xs) (map view (t ∷ drop (i + 1) ts)) =
    subst (λ (us : List T). HaveTypes (x ∷ drop (i + 1) xs) (map view us)) (at_place ts i t (omega (arith, inside, same)) it)
    (subst (λ (ys : List AnyArray). HaveTypes ys (map view (drop i ts))) (at_place xs i x inside ix) h) in
    here.1

-- ---- arrays

pub are_arrays : (columns : List AnyArray) → All (λ a. IsArray (layout_of a)) columns → AreArrays (layouts (map layout_of columns))
are_arrays [] h = tt
are_arrays (a ∷ columns) h = (h zero a (omega arith), are_arrays columns (λ i d inside. h (suc i) d (omega (arith, inside))))

-- ---- acceptance

pub accepted : (fs : FieldTrees) (is : IdTrees) (columns : List AnyArray) (m : Remembered) (fixed : _) (list : List FilledPlace) (rows : ℕ) → HaveTypes columns (normal_types fs) → ListsAll m fixed (map layout_of columns) is list
    → HaveLengths (values_of (layouts (map layout_of columns)) is) → IsEncodable Record rows (levels_of (map layout_of columns)) → IsAcceptedChunk fs is (map layout_of columns)
accepted fs is columns m fixed list rows have lists lengths said = record {
  count = count_offered columns fs is have;
  types = types_offered columns fs is have;
  shared = lists.shared;
  nodes = nodes_said (values_of (layouts (map layout_of columns)) is) (map layout_of columns) lengths said.short;
  bodies = bodies_said (values_of (layouts (map layout_of columns)) is) (map layout_of columns) lengths said.body;
}
