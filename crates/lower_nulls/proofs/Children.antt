-- Null slots of the fields of a type.
use Rattle.std.proofs.Common.{arith, zero, suc, refl, ◌≡◌, ℕ, ◌+◌, ◌<◌, ◌≤◌, List, [], ◌∷◌, ◌++◌, length, map, take, get_or, sym, ap, subst, ◌∙◌}
use Rattle.std.proofs.lemmas.List.{map_more, map_push, take_all}
use Rattle.lower.specs.TypeTrees.{TypeTree, FieldTree, field}
use Rattle.lower.specs.TypeViews.{fields_of, type_step, field_step, type_view, field_view, fields_view}
use Rattle.lower.specs.declared.datatypes.Field.{Field}
use Rattle.lower.specs.declared.datatypes.DataType.TheFolds.{fold_out-Field}
use Rattle.lower_validation.specs.Fields.{field_type, field_count, FieldTypes}
use Rattle.lower_validation.specs.Places.{AllAre}
use Rattle.lower_arrays.specs.Layouts.{Layout, layouts}
use Rattle.lower_arrays.specs.Children.{child_count, types_of, lens_of}
use Rattle.lower_arrays.specs.AnyLayouts.{layout_of}
use Rattle.lower_arrays.specs.declared.array.AnyArray.{AnyArray}
use Rattle.lower_nulls.specs.Nulls.{null_of, field_null, AreNulls, HasArrays, FieldHasArrays, AllHaveArrays, most_room, field_room, fields_room, NoNulls}
use Rattle.lower_nulls.specs.Storage.{AllNulls, NoneOfAll}
use Rattle.lower_nulls.specs.declared.error.NullError.{NullError}
use Rattle.lower_nulls.specs.declared.error.NullError.TheVariants.{Memory, DataType, Length}

-- ---- one field
pub child_type : (f : Field) → type_view f.data_type ≡ field_type (field_view f)
child_type f = sym (ap field_type (fold_out-Field TypeTree FieldTree type_step field_step f))

pub field_has : (f : FieldTree) → FieldHasArrays f → HasArrays (field_type f)
field_has (field name t nullable metadata) h = h

pub field_takes : (n : ℕ) (f : FieldTree) → field_room n f ≡ most_room n (field_type f)
field_takes n (field name t nullable metadata) = refl

pub field_nulls : (f : FieldTree) → field_null f ≡ null_of (field_type f)
field_nulls (field name t nullable metadata) = refl

-- ---- all of them
pub all_types : (gs : List FieldTree) (n : ℕ) (cs : List Layout) → AllNulls gs n cs → FieldTypes (fields_of gs) (types_of (layouts cs))
all_types [] n [] h = tt
all_types [] n (c ∷ cs) h = absurd h
all_types (g ∷ gs) n [] h = absurd h
all_types (g ∷ gs) n (c ∷ cs) h = (h.0.type, all_types gs n cs h.1)

pub all_lens : (gs : List FieldTree) (n : ℕ) (cs : List Layout) → AllNulls gs n cs → AllAre n (lens_of (layouts cs))
all_lens [] n [] h = tt
all_lens [] n (c ∷ cs) h = absurd h
all_lens (g ∷ gs) n [] h = absurd h
all_lens (g ∷ gs) n (c ∷ cs) h = (h.0.len, all_lens gs n cs h.1)

pub all_counted : (gs : List FieldTree) (n : ℕ) (cs : List Layout) → AllNulls gs n cs → child_count (layouts cs) ≡ field_count (fields_of gs)
all_counted [] n [] h = refl
all_counted [] n (c ∷ cs) h = absurd h
all_counted (g ∷ gs) n [] h = absurd h
all_counted (g ∷ gs) n (c ∷ cs) h = let rest = all_counted gs n cs h.1 in omega (arith, rest)

append : (gs : List FieldTree) (n : ℕ) (cs : List Layout) (g : FieldTree) (c : Layout) → AllNulls gs n cs → AreNulls (field_type g) n c → AllNulls (gs ++ g ∷ []) n (cs ++ c ∷ [])
append [] n [] g c h k = (k, tt)
append [] n (d ∷ cs) g c h k = absurd h
append (f ∷ gs) n [] g c h k = absurd h
append (f ∷ gs) n (d ∷ cs) g c h k = (h.0, append gs n cs g c h.1 k)

-- one field more
pub all_more :
    (fs : List Field) (i n : ℕ) (f : Field) (xs ys : List AnyArray) (x : AnyArray) → i < length fs → f ≡ get_or fs i f
    → AllNulls (map field_view (take i fs)) n (map layout_of xs) → AreNulls (field_type (field_view f)) n (layout_of x) → ys ≡ xs ++ x ∷ []
    → AllNulls (map field_view (take (i + 1) fs)) n (map layout_of ys)
all_more fs i n f xs ys x below at all one is =
    let e : map field_view (take (i + 1) fs) ≡ map field_view (take i fs) ++ field_view f ∷ [] =
    map_more field_view fs i f below ∙ ap (λ (z : Field). map field_view (take i fs) ++ field_view z ∷ []) (sym at)
    in
    let d : map layout_of ys ≡ map layout_of xs ++ layout_of x ∷ [] = ap (map layout_of) is ∙ map_push layout_of xs x in
    subst (λ (gs : List FieldTree). AllNulls gs n (map layout_of ys)) (sym e)
    (subst (λ (cs : List Layout). AllNulls (map field_view (take i fs) ++ field_view f ∷ []) n cs) (sym d)
    (append (map field_view (take i fs)) n (map layout_of xs) (field_view f) (layout_of x) all one))

pub all_end : (fs : List Field) (i n : ℕ) (cs : List Layout) → length fs ≤ i → AllNulls (map field_view (take i fs)) n cs → AllNulls (map field_view fs) n cs
all_end fs i n cs past all = subst (λ (gs : List Field). AllNulls (map field_view gs) n cs) (take_all i fs past) all

-- ---- a field that has none
has_at : (fs : List Field) (i : ℕ) (f : Field) → i < length fs → f ≡ get_or fs i f → AllHaveArrays (fields_view fs) → FieldHasArrays (field_view f)
has_at [] i f below at h = let no : ⊥ = omega (arith, below) in absurd no
has_at (g ∷ fs) zero f below at h = subst (λ (z : Field). FieldHasArrays (field_view z)) (sym at) h.0
has_at (g ∷ fs) (suc i) f below at h = has_at fs i f (omega (arith, below)) at h.1

room_at : (fs : List Field) (i n : ℕ) (f : Field) → i < length fs → f ≡ get_or fs i f → field_room n (field_view f) ≤ fields_room n (fields_view fs)
room_at [] i n f below at = let no : ⊥ = omega (arith, below) in absurd no
room_at (g ∷ fs) zero n f below at = let e = ap (λ (z : Field). field_room n (field_view z)) at in omega (arith, e)
room_at (g ∷ fs) (suc i) n f below at = let rest = room_at fs i n f (omega (arith, below)) at in omega (arith, rest)

pub none_at : (fs : List Field) (i n : ℕ) (f : Field) (e : NullError) → i < length fs → f ≡ get_or fs i f → NoNulls (field_type (field_view f)) n e → NoneOfAll (fields_view fs) n e
none_at fs i n f Memory below at refused = tt
none_at fs i n f DataType below at refused = λ all. refused (field_has (field_view f) (has_at fs i f below at all))
none_at fs i n f Length below at refused =
    let takes = field_takes n (field_view f) in
    let le = room_at fs i n f below at in
    omega (arith, refused, takes, le)
