-- Parts that were checked, with children that are arrays, are an array; a rule that the
-- parts break is one of the array.
use Rattle.std.proofs.Common.{arith, ◌≡◌, refl, ℕ, ℤ, ◌<◌, List, [], ◌∷◌, Option, get_or, subst, sym, ap, ◌∙◌, length, map}
use Rattle.std.specs.List.{All}
use Rattle.lower_types.specs.declared.PrimitiveType.{PrimitiveType}
use Rattle.lower.specs.TypeTrees.{TypeTree}
use Rattle.lower.specs.declared.error.Error.{Error}
use Rattle.lower.specs.declared.error.Error.TheVariants.{OutOfSpec}
use Rattle.lower.specs.declared.error.Rule.TheVariants.{ValidityLength, NoChild, ChildCount, ChildType, ChildLength, UnionChildren, UnionIds, UnionType, UnionOffsets, UnionOffset, PhysicalType as WrongType}
use Rattle.lower_flat_arrays.specs.Validities.{Validity, ValidityFits}
use Rattle.lower_validation.specs.Keys.{KeysSeen}
use Rattle.lower_validation.specs.Ids.{union_ids, IdsFit, AreNamed}
use Rattle.lower_validation.specs.Places.{AllAre, PlacesFit}
use Rattle.lower_validation.specs.Rules.{ListRules, BreaksListRules, FixedListRules, BreaksFixedListRules, MapRules, BreaksMapRules, DictionaryRules, BreaksDictionaryRules, StructRules, BreaksStructRules, IsCount, UnionRules, BreaksUnionRules}
use Rattle.lower_arrays.specs.Layouts.{Layout, layouts, len_of, type_of}
use Rattle.lower_arrays.specs.Slots.{IsArray}
use Rattle.lower_arrays.specs.Children.{child_fields, FieldTypes, HasChild, AllHave}
use Rattle.lower_arrays.specs.Lists.{list_seen, list_layout, BreaksList}
use Rattle.lower_arrays.specs.FixedLists.{fixed_list_seen, fixed_list_layout, BreaksFixedList}
use Rattle.lower_arrays.specs.Maps.{map_seen, map_layout, BreaksMap}
use Rattle.lower_arrays.specs.Dictionaries.{dictionary_seen, IsDictionary, BreaksDictionary}
use Rattle.lower_arrays.specs.Structs.{struct_seen, struct_layout, BreaksStruct}
use Rattle.lower_arrays.specs.Unions.{union_seen, IsUnion, BreaksUnion}
use Rattle.lower_arrays.specs.AnyLayouts.{layout_of}
use Rattle.lower_arrays.specs.declared.array.AnyArray.{AnyArray}
use Rattle.lower_arrays.proofs.Children.{types_are, lens_are, lens_counted, first_is, arrays_are}

-- ---- one child l, whose type is c and whose length is n
pub list_is :
    (t c : TypeTree) (p : PrimitiveType) (os : List ℕ) (l : Layout) (n : ℕ) (v : Validity) → c ≡ type_of l → n ≡ len_of l
    → ListRules t p os c n v → IsArray l → IsArray (list_layout (list_seen t p os l v))
list_is t c p os l n v q e h is =
    let k : ListRules t p os (type_of l) (len_of l) v = subst (λ m. ListRules t p os (type_of l) m v) e (subst (λ d. ListRules t p os d n v) q h) in
    (k.fits, (k.lies, k.child, record { offsets = k.offsets; within = (k.within, tt); count = refl }), (is, tt))

pub breaks_list :
    (t c : TypeTree) (p : PrimitiveType) (os : List ℕ) (l : Layout) (n : ℕ) (v : Validity) (e : Error) → c ≡ type_of l → n ≡ len_of l
    → BreaksListRules t p os c n v e → BreaksList (list_seen t p os l v) e
breaks_list t c p os l n v e q r h = subst (λ m. BreaksListRules t p os (type_of l) m v e) r (subst (λ d. BreaksListRules t p os d n v e) q h)

pub fixed_list_is :
    (t c : TypeTree) (l : Layout) (n : ℕ) (v : Validity) → c ≡ type_of l → n ≡ len_of l → FixedListRules t c n v → IsArray l
    → IsArray (fixed_list_layout (fixed_list_seen t l v))
fixed_list_is t c l n v q e h is =
    let k : FixedListRules t (type_of l) (len_of l) v = subst (λ m. FixedListRules t (type_of l) m v) e (subst (λ d. FixedListRules t d n v) q h) in
    (k.fits, (k.lies, refl, k.some, k.child, (k.whole, tt)), (is, tt))

pub breaks_fixed_list :
    (t c : TypeTree) (l : Layout) (n : ℕ) (v : Validity) (e : Error) → c ≡ type_of l → n ≡ len_of l → BreaksFixedListRules t c n v e
    → BreaksFixedList (fixed_list_seen t l v) e
breaks_fixed_list t c l n v e q r h = subst (λ m. BreaksFixedListRules t (type_of l) m v e) r (subst (λ d. BreaksFixedListRules t d n v e) q h)

pub map_is :
    (t c : TypeTree) (os : List ℕ) (l : Layout) (n : ℕ) (v : Validity) → c ≡ type_of l → n ≡ len_of l → MapRules t os c n v → IsArray l
    → IsArray (map_layout (map_seen t os l v))
map_is t c os l n v q e h is =
    let k : MapRules t os (type_of l) (len_of l) v = subst (λ m. MapRules t os (type_of l) m v) e (subst (λ d. MapRules t os d n v) q h) in
    (k.fits, (k.lies, (k.pairs, tt), k.child, record { offsets = k.offsets; within = (k.within, tt); count = refl }), (is, tt))

pub breaks_map :
    (t c : TypeTree) (os : List ℕ) (l : Layout) (n : ℕ) (v : Validity) (e : Error) → c ≡ type_of l → n ≡ len_of l → BreaksMapRules t os c n v e
    → BreaksMap (map_seen t os l v) e
breaks_map t c os l n v e q r h = subst (λ m. BreaksMapRules t os (type_of l) m v e) r (subst (λ d. BreaksMapRules t os d n v e) q h)

pub dictionary_is :
    (t c : TypeTree) (ks : KeysSeen) (l : Layout) (n : ℕ) → c ≡ type_of l → n ≡ len_of l → DictionaryRules t ks c n → IsArray l
    → IsDictionary (dictionary_seen t ks l)
dictionary_is t c ks l n q e h is =
    let k : DictionaryRules t ks (type_of l) (len_of l) = subst (λ m. DictionaryRules t ks (type_of l) m) e (subst (λ d. DictionaryRules t ks d n) q h) in
    record { lies = k.lies; keys = k.keys; named = k.named; places = k.places; values = is }

pub breaks_dictionary :
    (t c : TypeTree) (ks : KeysSeen) (l : Layout) (n : ℕ) (e : Error) → c ≡ type_of l → n ≡ len_of l → BreaksDictionaryRules t ks c n e
    → BreaksDictionary (dictionary_seen t ks l) e
breaks_dictionary t c ks l n e q r h = subst (λ m. BreaksDictionaryRules t ks (type_of l) m e) r (subst (λ d. BreaksDictionaryRules t ks d n e) q h)

-- ---- the children xs
pub struct_is :
    (t : TypeTree) (xs : List AnyArray) (n : ℕ) (v : Validity) → n ≡ get_or (map (λ x. len_of (layout_of x)) xs) 0 0
    → StructRules t (map (λ x. type_of (layout_of x)) xs) (map (λ x. len_of (layout_of x)) xs) v → All (λ x. IsArray (layout_of x)) xs
    → IsArray (struct_layout (record { type = t; len = n; children = map layout_of xs; validity = v }))
struct_is t [] n v e h are = let no : ⊥ = omega (arith, h.some) in absurd no
struct_is t (x ∷ xs) n v e h are =
    let types = subst (FieldTypes (child_fields t)) (sym (types_are (x ∷ xs))) h.types in
    let lens = subst (AllAre (len_of (layout_of x))) (sym (lens_are (x ∷ xs))) h.lens in
    subst (λ m. IsArray (struct_layout (record { type = t; len = m; children = map layout_of (x ∷ xs); validity = v }))) (sym e)
    (h.fits, (h.lies, tt, types, lens), arrays_are (x ∷ xs) are)

pub struct_seen_is :
    (t : TypeTree) (xs : List AnyArray) (n : ℕ) (v : Validity) → n ≡ get_or (map (λ x. len_of (layout_of x)) xs) 0 0
    → record { type = t; len = n; children = map layout_of xs; validity = v } ≡ struct_seen t (map layout_of xs) v
struct_seen_is t xs n v e = ap (λ m. record { type = t; len = m; children = map layout_of xs; validity = v }) (e ∙ first_is xs)

no_first : (xs : List AnyArray) → ¬ (0 < length (map (λ x. len_of (layout_of x)) xs)) → ¬ (HasChild (layouts (map layout_of xs)))
no_first [] h = λ k. k
no_first (x ∷ xs) h = λ k. h (omega arith)

pub breaks_struct :
    (t : TypeTree) (xs : List AnyArray) (v : Validity) (e : Error)
    → BreaksStructRules t (map (λ x. type_of (layout_of x)) xs) (map (λ x. len_of (layout_of x)) xs) v e → BreaksStruct (struct_seen t (map layout_of xs) v) e
breaks_struct t xs v (OutOfSpec WrongType) h = h
breaks_struct t xs v (OutOfSpec NoChild) h = no_first xs h
breaks_struct t xs v (OutOfSpec ChildCount) h = λ k. h (lens_counted xs ∙ k)
breaks_struct t xs v (OutOfSpec ChildType) h = λ k. h (subst (FieldTypes (child_fields t)) (types_are xs) k)
breaks_struct t xs v (OutOfSpec ChildLength) h = λ k. h (subst (AllAre _) (lens_are xs) (subst (λ n. AllHave n (layouts (map layout_of xs))) (sym (first_is xs)) k))
breaks_struct t xs v (OutOfSpec ValidityLength) h = subst (λ n. ¬ (ValidityFits v n)) (first_is xs) h
breaks_struct t xs v (OutOfSpec _) h = absurd h

pub union_is :
    (t : TypeTree) (ts : List ℤ) (os : Option (List ℤ)) (xs : List AnyArray)
    → UnionRules t ts os (map (λ x. type_of (layout_of x)) xs) (map (λ x. len_of (layout_of x)) xs) → All (λ x. IsArray (layout_of x)) xs
    → IsUnion (union_seen t ts (map layout_of xs) os)
union_is t ts os xs h are =
    let count = lens_counted xs in
    record {
      fits = record {
        lies = h.ids.lies;
        named = refl;
        some = omega (arith, count, h.ids.some);
        few = omega (arith, count, h.ids.few);
        types = subst (FieldTypes (child_fields t)) (sym (types_are xs)) h.types;
        ids = subst (IdsFit (union_ids t)) count h.ids.ids;
        names = subst (AreNamed (union_ids t) ts) count h.ids.names;
        given = h.ids.given;
        places = subst (PlacesFit (union_ids t) ts os) (sym (lens_are xs)) h.places;
      };
      arrays = arrays_are xs are;
    }

pub breaks_union :
    (t : TypeTree) (ts : List ℤ) (os : Option (List ℤ)) (xs : List AnyArray) (e : Error)
    → BreaksUnionRules t ts os (map (λ x. type_of (layout_of x)) xs) (map (λ x. len_of (layout_of x)) xs) e
    → BreaksUnion (union_seen t ts (map layout_of xs) os) e
breaks_union t ts os xs (OutOfSpec WrongType) h = h
breaks_union t ts os xs (OutOfSpec UnionChildren) h = subst (λ m. ¬ (IsCount m)) (lens_counted xs) h
breaks_union t ts os xs (OutOfSpec ChildCount) h = λ k. h (lens_counted xs ∙ k)
breaks_union t ts os xs (OutOfSpec UnionIds) h = subst (λ m. ¬ (IdsFit (union_ids t) m)) (lens_counted xs) h
breaks_union t ts os xs (OutOfSpec UnionType) h = subst (λ m. ¬ (AreNamed (union_ids t) ts m)) (lens_counted xs) h
breaks_union t ts os xs (OutOfSpec UnionOffsets) h = h
breaks_union t ts os xs (OutOfSpec ChildType) h = λ k. h (subst (FieldTypes (child_fields t)) (types_are xs) k)
breaks_union t ts os xs (OutOfSpec ChildLength) h = λ k. h (subst (PlacesFit (union_ids t) ts os) (lens_are xs) k)
breaks_union t ts os xs (OutOfSpec UnionOffset) h = λ k. h (subst (PlacesFit (union_ids t) ts os) (lens_are xs) k)
breaks_union t ts os xs (OutOfSpec _) h = absurd h

pub ruleset lists = (list_is, breaks_list)

pub ruleset fixed_lists = (fixed_list_is, breaks_fixed_list)

pub ruleset maps = (map_is, breaks_map)

pub ruleset dictionaries = (dictionary_is, breaks_dictionary)

pub ruleset structs = (struct_is, struct_seen_is, breaks_struct)

pub ruleset unions = (union_is, breaks_union)
