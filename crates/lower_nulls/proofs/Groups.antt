-- Null slots of structs and unions.
use Rattle.std.proofs.Common.{arith, refl, ◌≡◌, ℕ, ℤ, pos, ◌+◌, ◌<◌, List, [], ◌∷◌, Bool, false, length, get_or, cond, replicate, sym, ap, ap₂, subst, ◌∙◌}
use Rattle.std.specs.Prelude.{Some, None}
use Rattle.std.proofs.lemmas.Bool.Decides.{Decides-int_eq}
use Rattle.std.proofs.lemmas.List.{length-replicate, get_or-replicate}
use Rattle.lower.specs.TypeTrees.{TypeTree, FieldTree, FieldTrees, group, structure, choice}
use Rattle.lower.specs.TypeViews.{fields_of}
use Rattle.lower.specs.Physical.{logical}
use Rattle.lower.specs.declared.datatypes.UnionMode.{UnionMode}
use Rattle.lower.specs.declared.datatypes.UnionMode.TheVariants.{Dense, Sparse}
use Rattle.lower.specs.declared.datatypes.physical_type.PhysicalType.TheVariants as Physicals
use Rattle.lower.specs.declared.error.Error.{Error}
use Rattle.lower.specs.declared.error.Error.TheVariants.{OutOfSpec}
use Rattle.lower.specs.declared.error.Rule.TheVariants.{ValidityLength, NoChild, ChildCount, ChildType, ChildLength, UnionChildren, UnionIds, UnionType, UnionOffsets, UnionOffset, PhysicalType as WrongType}
use Rattle.lower_validation.specs.Fields.{field_count, FieldTypes}
use Rattle.lower_validation.specs.Keys.{place_of, KeyFits}
use Rattle.lower_validation.specs.Ids.{TypeIds, named_ids, union_ids, named_mode, union_mode, place_among, child_number, NamesChild, IdsFit, AreNamed, OffsetsGiven}
use Rattle.lower_validation.specs.Places.{AllAre, PlacesFit}
use Rattle.lower_validation.specs.Rules.{IsCount}
use Rattle.lower_arrays.specs.Layouts.{Layout, layouts, records, len_of, type_of}
use Rattle.lower_arrays.specs.Children.{child_count, types_of, lens_of, HasChild}
use Rattle.lower_arrays.specs.Choices.{place_in}
use Rattle.lower_arrays.specs.Slots.{IsArray, null_slot, variant_slot, each_at, slot_at, children_at}
use Rattle.lower_arrays.specs.Structs.{StructSeen, first_len, struct_seen, struct_layout, BreaksStruct}
use Rattle.lower_arrays.specs.Unions.{UnionSeen, union_seen, union_layout, IsUnion, BreaksUnion}
use Rattle.lower_nulls.specs.Nulls.{first_id, null_of, first_null, AreNulls, HasArrays, NoNulls}
use Rattle.lower_nulls.specs.Storage.{AllNulls, zero_places, NoneOfAll}
use Rattle.lower_nulls.specs.declared.error.NullError.{NullError}
use Rattle.lower_nulls.specs.declared.error.NullError.TheVariants.{Memory, DataType, Length}
use Rattle.lower_nulls.proofs.Replicas.{filled}
use Rattle.lower_nulls.proofs.Types.{physical_is, fields_are, null_is, room_is, has_is}
use Rattle.lower_nulls.proofs.Levels.{nulls_at}
use Rattle.lower_nulls.proofs.Children.{field_nulls, all_types, all_lens, all_counted}

-- ---- children
has_child : (gs : List FieldTree) (n : ℕ) (cs : List Layout) → AllNulls gs n cs → 0 < field_count (fields_of gs) → HasChild (layouts cs)
has_child [] n [] h some = let none : ⊥ = omega (arith, some) in absurd none
has_child [] n (c ∷ cs) h some = absurd h
has_child (g ∷ gs) n [] h some = absurd h
has_child (g ∷ gs) n (c ∷ cs) h some = tt

first_has : (gs : List FieldTree) (n : ℕ) (cs : List Layout) → AllNulls gs n cs → HasChild (layouts cs) → first_len cs ≡ n
first_has gs n [] h some = absurd some
first_has [] n (c ∷ cs) h some = absurd h
first_has (g ∷ gs) n (c ∷ cs) h some = h.0.len

-- ---- structs
module _ (t : TypeTree) (gs : List FieldTree) (n : ℕ) (stored : logical t ≡ group structure (fields_of gs)) where
  pub struct_error : (e : NullError) → NoneOfAll (fields_of gs) n e → NoNulls t n e
  struct_error Memory refused = tt
  struct_error DataType refused = λ has. refused (has_is t (group structure (fields_of gs)) stored has).1
  struct_error Length refused = let r = room_is t (group structure (fields_of gs)) stored n in omega (arith, refused, r)

  module _ (cs : List Layout) (bits : List Bool) (all : AllNulls gs n cs) (unset : bits ≡ replicate n false) where
    struct_rules : (e : Error) → 0 < field_count (fields_of gs) → BreaksStruct (struct_seen t cs (Some bits)) e → ⊥
    struct_rules (OutOfSpec WrongType) some breaks = breaks (physical_is t (group structure (fields_of gs)) stored)
    struct_rules (OutOfSpec NoChild) some breaks = breaks (has_child gs n cs all some)
    struct_rules (OutOfSpec ChildCount) some breaks =
        breaks (all_counted gs n cs all ∙ sym (ap field_count (fields_are t (group structure (fields_of gs)) stored)))
    struct_rules (OutOfSpec ChildType) some breaks =
        breaks (subst (λ (fs : FieldTrees). FieldTypes fs (types_of (layouts cs))) (sym (fields_are t (group structure (fields_of gs)) stored)) (all_types gs n cs all))
    struct_rules (OutOfSpec ChildLength) some breaks =
        let len = first_has gs n cs all (has_child gs n cs all some) in
        breaks (subst (λ (m : ℕ). AllAre m (lens_of (layouts cs))) (sym len) (all_lens gs n cs all))
    struct_rules (OutOfSpec ValidityLength) some breaks =
        let len = first_has gs n cs all (has_child gs n cs all some) in
        breaks (ap length unset ∙ length-replicate n false ∙ sym len)
    struct_rules (OutOfSpec _) some breaks = breaks

    pub struct_breaks : (e : Error) → BreaksStruct (struct_seen t cs (Some bits)) e → ¬ (HasArrays t)
    struct_breaks e breaks has = struct_rules e (has_is t (group structure (fields_of gs)) stored has).0 breaks

    pub struct_nulls : (a : StructSeen) (l : Layout) → a ≡ struct_seen t cs (Some bits) → IsArray (struct_layout (struct_seen t cs (Some bits))) → l ≡ struct_layout a → AreNulls t n l
    struct_nulls a l seen is made =
        nulls_at t n Physicals.Struct l (record { type = t; len = first_len cs; validity = Some bits; parts = records }) (layouts cs)
        (physical_is t (group structure (fields_of gs)) stored) tt (made ∙ ap struct_layout seen) refl (first_has gs n cs all is.1.1) (ap Some unset)

-- ---- unions
-- the first id names the first child
first_place : (z : ℤ) (zs : List ℤ) → place_among z (z ∷ zs) ≡ 0
first_place z zs = ap (λ (b : Bool). cond b 0 (place_among z zs + 1)) ((Decides-int_eq z z).1 refl)

first_number : (ids : TypeIds) → child_number ids (first_id ids) ≡ 0
first_number None = refl
first_number (Some []) = refl
first_number (Some (z ∷ zs)) = first_place z zs

first_named : (ids : TypeIds) (k : ℕ) → 0 < k → IdsFit ids k → NamesChild ids k (first_id ids)
first_named None k some fits = some
first_named (Some []) k some fits = let count = fits.count in let none : ⊥ = omega (arith, some, count) in absurd none
first_named (Some (z ∷ zs)) k some fits = let e = first_place z zs in omega (arith, some, e)

-- offsets that are all 0
zeros_given : (mode : UnionMode) (n m : ℕ) → m ≡ n → OffsetsGiven mode (zero_places mode n) m
zeros_given Dense n m e = length-replicate n (pos 0) ∙ sym e
zeros_given Sparse n m e = tt

zero_index : (mode : UnionMode) (n i : ℕ) → i < n → place_in (zero_places mode n) i < n
zero_index Dense n i below = let e : place_of (get_or (replicate n (pos 0)) i (pos 0)) ≡ 0 = ap place_of (filled (pos 0) n i) in omega (arith, e, below)
zero_index Sparse n i below = below

-- the first child's slots
first_slots : (gs : List FieldTree) (n : ℕ) (cs : List Layout) (j : ℕ) → AllNulls gs n cs → 0 < child_count (layouts cs) → j < n
    → get_or (each_at (children_at (layouts cs)) j) 0 null_slot ≡ first_null (fields_of gs)
first_slots gs n [] j h some below = let none : ⊥ = omega (arith, some) in absurd none
first_slots [] n (c ∷ cs) j h some below = absurd h
first_slots (g ∷ gs) n (c ∷ cs) j h some below = h.0.each j below ∙ sym (field_nulls g)

first_length : (gs : List FieldTree) (n : ℕ) (cs : List Layout) → AllNulls gs n cs → 0 < child_count (layouts cs) → get_or (lens_of (layouts cs)) 0 0 ≡ n
first_length gs n [] h some = let none : ⊥ = omega (arith, some) in absurd none
first_length [] n (c ∷ cs) h some = absurd h
first_length (g ∷ gs) n (c ∷ cs) h some = h.0.len

module _ (t : TypeTree) (ids : TypeIds) (mode : UnionMode) (gs : List FieldTree) (n : ℕ) (stored : logical t ≡ group (choice ids mode) (fields_of gs)) where
  pub union_error : (e : NullError) → NoneOfAll (fields_of gs) n e → NoNulls t n e
  union_error Memory refused = tt
  union_error DataType refused = λ has. refused (has_is t (group (choice ids mode) (fields_of gs)) stored has).1
  union_error Length refused = let r = room_is t (group (choice ids mode) (fields_of gs)) stored n in omega (arith, refused, r)

  pub union_no_ids : ((k : ℕ) → 0 < k → ¬ (IdsFit ids k)) → ¬ (HasArrays t)
  union_no_ids refused has =
      let fits = (has_is t (group (choice ids mode) (fields_of gs)) stored has).0 in
      refused (field_count (fields_of gs)) fits.0.0 fits.1

  ids_are : union_ids t ≡ ids
  ids_are = ap named_ids stored

  mode_is : union_mode t ≡ mode
  mode_is = ap named_mode stored

  module _ (ts : List ℤ) (cs : List Layout) (all : AllNulls gs n cs) (types : ts ≡ replicate n (first_id ids)) where
    count : child_count (layouts cs) ≡ field_count (fields_of gs)
    count = all_counted gs n cs all

    types_counted : length ts ≡ n
    types_counted = ap length types ∙ length-replicate n (first_id ids)

    type_at : (i : ℕ) → i < n → get_or ts i (pos 0) ≡ first_id ids
    type_at i below = ap (λ (zs : List ℤ). get_or zs i (pos 0)) types ∙ get_or-replicate n i (first_id ids) (pos 0) below

    number_at : (i : ℕ) → i < n → child_number (union_ids t) (get_or ts i (pos 0)) ≡ 0
    number_at i below = ap₂ child_number ids_are (type_at i below) ∙ first_number ids

    are_named : 0 < child_count (layouts cs) → IdsFit ids (child_count (layouts cs)) → AreNamed (union_ids t) ts (child_count (layouts cs))
    are_named some fits = record {
      each = λ i below.
          let k = child_count (layouts cs) in
          let inside : i < n = let e = types_counted in omega (arith, below, e) in
          subst (λ (zs : TypeIds). NamesChild zs k (get_or ts i (pos 0))) (sym ids_are)
          (subst (λ (z : ℤ). NamesChild ids k z) (sym (type_at i inside)) (first_named ids k some fits));
    }

    places_fit : (m : UnionMode) → 0 < child_count (layouts cs) → PlacesFit (union_ids t) ts (zero_places m n) (lens_of (layouts cs))
    places_fit Sparse some = subst (λ (k : ℕ). AllAre k (lens_of (layouts cs))) (sym types_counted) (all_lens gs n cs all)
    places_fit Dense some = record {
      each = λ i below.
          let inside : i < n = let e = types_counted in omega (arith, below, e) in
          let len : get_or (lens_of (layouts cs)) (child_number (union_ids t) (get_or ts i (pos 0))) 0 ≡ n =
          ap (λ (k : ℕ). get_or (lens_of (layouts cs)) k 0) (number_at i inside) ∙ first_length gs n cs all some
          in
          let room : 0 < get_or (lens_of (layouts cs)) (child_number (union_ids t) (get_or ts i (pos 0))) 0 = omega (arith, len, inside) in
          subst (λ (z : ℤ). KeyFits z (get_or (lens_of (layouts cs)) (child_number (union_ids t) (get_or ts i (pos 0))) 0)) (sym (filled (pos 0) n i)) room;
    }

    union_rules : (e : Error) → IsCount (field_count (fields_of gs)) → IdsFit ids (field_count (fields_of gs)) → BreaksUnion (union_seen t ts cs (zero_places mode n)) e → ⊥
    union_rules (OutOfSpec WrongType) some fits breaks = breaks (physical_is t (group (choice ids mode) (fields_of gs)) stored)
    union_rules (OutOfSpec UnionChildren) some fits breaks = breaks (subst IsCount (sym count) some)
    union_rules (OutOfSpec ChildCount) some fits breaks = breaks (count ∙ sym (ap field_count (fields_are t (group (choice ids mode) (fields_of gs)) stored)))
    union_rules (OutOfSpec ChildType) some fits breaks =
        breaks (subst (λ (fs : FieldTrees). FieldTypes fs (types_of (layouts cs))) (sym (fields_are t (group (choice ids mode) (fields_of gs)) stored)) (all_types gs n cs all))
    union_rules (OutOfSpec UnionIds) some fits breaks =
        breaks (subst (λ (zs : TypeIds). IdsFit zs (child_count (layouts cs))) (sym ids_are) (subst (λ (k : ℕ). IdsFit ids k) (sym count) fits))
    union_rules (OutOfSpec UnionType) some fits breaks =
        breaks (are_named (let c = count in omega (arith, some.0, c)) (subst (λ (k : ℕ). IdsFit ids k) (sym count) fits))
    union_rules (OutOfSpec UnionOffsets) some fits breaks =
        breaks (subst (λ (m : UnionMode). OffsetsGiven m (zero_places mode n) (length ts)) (sym mode_is) (zeros_given mode n (length ts) types_counted))
    union_rules (OutOfSpec ChildLength) some fits breaks = breaks (places_fit mode (let c = count in omega (arith, some.0, c)))
    union_rules (OutOfSpec UnionOffset) some fits breaks = breaks (places_fit mode (let c = count in omega (arith, some.0, c)))
    union_rules (OutOfSpec _) some fits breaks = breaks

    pub union_breaks : (e : Error) → BreaksUnion (union_seen t ts cs (zero_places mode n)) e → ¬ (HasArrays t)
    union_breaks e breaks has =
        let fits = (has_is t (group (choice ids mode) (fields_of gs)) stored has).0 in
        union_rules e fits.0 fits.1 breaks

    -- slot i is one of the first child
    slot_is : (i : ℕ) → i < n → 0 < child_count (layouts cs) → slot_at (union_layout (union_seen t ts cs (zero_places mode n))) i ≡ null_of t
    slot_is i below some =
        let j = place_in (zero_places mode n) i in
        let fs = children_at (layouts cs) in
        ap₂ (λ (z : ℤ) (k : ℕ). variant_slot z (get_or (each_at fs j) k null_slot)) (type_at i below) (number_at i below)
        ∙ ap (variant_slot (first_id ids)) (first_slots gs n cs j all some (zero_index mode n i below))
        ∙ sym (null_is t (group (choice ids mode) (fields_of gs)) stored)

    pub union_nulls : (a : UnionSeen) (l : Layout) → a ≡ union_seen t ts cs (zero_places mode n) → IsUnion (union_seen t ts cs (zero_places mode n)) → l ≡ union_layout a → AreNulls t n l
    union_nulls a l seen is made =
        let whole : l ≡ union_layout (union_seen t ts cs (zero_places mode n)) = made ∙ ap union_layout seen in
        record {
          type = ap type_of whole;
          len = ap len_of whole ∙ types_counted;
          each = λ i below. ap (λ m. slot_at m i) whole ∙ slot_is i below is.fits.some;
        }
