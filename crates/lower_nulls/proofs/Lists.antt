-- Null slots of types with one child.
use Rattle.std.proofs.Common.{arith, refl, ◌≡◌, ℕ, ◌+◌, ◌-◌, ◌*◌, ◌/◌, ◌^◌, ◌<◌, ◌≤◌, List, [], ◌∷◌, Bool, true, false, true≢false, length, replicate, sym, ap, ap₂, subst, ◌∙◌}
use Rattle.std.specs.Prelude.{Some, slice_index}
use Rattle.std.proofs.lemmas.List.{length-replicate}
use Rattle.lower.specs.TypeTrees.{TypeTree, plain, FieldTree, FieldTrees, single, fixed_list, entries, dictionary}
use Rattle.lower.specs.Physical.{physical, physical_single, logical, integer}
use Rattle.lower.specs.Normal.{norm}
use Rattle.lower.specs.declared.datatypes.IntegerType.{IntegerType}
use Rattle.lower.specs.declared.datatypes.physical_type.PhysicalType.TheVariants as Physicals
use Rattle.lower.specs.declared.error.Error.{Error}
use Rattle.lower.specs.declared.error.Error.TheVariants.{OutOfSpec}
use Rattle.lower.specs.declared.error.Rule.TheVariants.{ValidityLength, ZeroSize, OffsetsPastValues, ChildType, ChildLength, MapChild, DictionaryKey, DictionaryValues, PhysicalType as WrongType}
use Rattle.lower_types.specs.declared.PrimitiveType.{PrimitiveType}
use Rattle.lower_flat_arrays.specs.Validities.{is_valid, Validity}
use Rattle.lower_flat_arrays.specs.Spans.{span_count}
use Rattle.lower_validation.specs.Fields.{field_type, FieldTypes, IsPair}
use Rattle.lower_validation.specs.ListTypes.{list_with, list_size, named_list_size, last_offset}
use Rattle.lower_validation.specs.Keys.{named_values, KeysSeen}
use Rattle.lower_arrays.specs.Layouts.{Layout, lists, fixed_lists, maps, keys, more_layouts, no_layouts, len_of, type_of}
use Rattle.lower_arrays.specs.Slots.{IsArray}
use Rattle.lower_arrays.specs.Lists.{ListSeen, list_seen, list_layout, BreaksList}
use Rattle.lower_arrays.specs.FixedLists.{FixedListSeen, fixed_list_seen, fixed_list_layout, BreaksFixedList}
use Rattle.lower_arrays.specs.Maps.{MapSeen, map_seen, map_layout, BreaksMap}
use Rattle.lower_arrays.specs.Dictionaries.{DictionarySeen, dictionary_seen, dictionary_layout, BreaksDictionary}
use Rattle.lower_nulls.specs.Nulls.{AreNulls, HasArrays, most_room, field_room, NoNulls}
use Rattle.lower_nulls.specs.Storage.{list_form, AreNullKeys}
use Rattle.lower_nulls.specs.declared.error.NullError.{NullError}
use Rattle.lower_nulls.specs.declared.error.NullError.TheVariants.{Memory, DataType, Length}
use Rattle.lower_nulls.proofs.Replicas.{filled, zero_count, zero_end}
use Rattle.lower_nulls.proofs.Types.{physical_is, fields_are, room_is, has_is, HasValidity}
use Rattle.lower_nulls.proofs.Levels.{nulls_at}
use Rattle.lower_nulls.proofs.FlatNulls.{whole_count}
use Rattle.lower_nulls.proofs.Children.{field_has, field_takes}

-- offsets without values
module _ (n : ℕ) (os : List ℕ) (zero_os : os ≡ replicate (n + 1) 0) where
  counted : span_count os ≡ n
  counted = ap span_count zero_os ∙ zero_count n

  last_is : last_offset os ≡ 0
  last_is = ap (λ o. slice_index o (length o - 1)) zero_os ∙ zero_end n

  module _ (bits : List Bool) (unset : bits ≡ replicate n false) where
    fit : length bits ≡ span_count os
    fit = ap length unset ∙ length-replicate n false ∙ sym counted

-- ---- lists
has_own : (large : Bool) → HasValidity (physical_single (list_form large))
has_own true = tt
has_own false = tt

list_takes : (large : Bool) (n : ℕ) (f : FieldTree) → most_room n (single (list_form large) f) ≡ field_room 0 f
list_takes true n f = refl
list_takes false n f = refl

module _ (t : TypeTree) (f : FieldTree) (large : Bool) (n : ℕ) (stored : logical t ≡ single (list_form large) f) where
  pub list_error : (e : NullError) → NoNulls (field_type f) 0 e → NoNulls t n e
  list_error Memory refused = tt
  list_error DataType refused = λ has. refused (field_has f (has_is t (single (list_form large) f) stored has).1)
  list_error Length refused =
      let r = room_is t (single (list_form large) f) stored n in
      let l = list_takes large n f in
      let k = field_takes 0 f in
      omega (arith, refused, r, l, k)

  module _ (p : PrimitiveType) (os : List ℕ) (c : Layout) (bits : List Bool) (width : list_with p ≡ physical_single (list_form large))
      (zero_os : os ≡ replicate (n + 1) 0) (nulls : AreNulls (field_type f) 0 c) (unset : bits ≡ replicate n false) where
    pub list_breaks : (e : Error) → BreaksList (list_seen t p os c (Some bits)) e → ⊥
    list_breaks (OutOfSpec WrongType) breaks = breaks (physical_is t (single (list_form large) f) stored ∙ sym width)
    list_breaks (OutOfSpec ChildType) breaks =
        breaks (subst (λ (fs : FieldTrees). FieldTypes fs (type_of c ∷ [])) (sym (fields_are t (single (list_form large) f) stored)) (nulls.type, tt))
    list_breaks (OutOfSpec OffsetsPastValues) breaks = let z = last_is n os zero_os in breaks (omega (arith, z))
    list_breaks (OutOfSpec ValidityLength) breaks = breaks (fit n os zero_os bits unset)
    list_breaks (OutOfSpec _) breaks = breaks

    pub list_nulls : (a : ListSeen) (l : Layout) → a ≡ list_seen t p os c (Some bits) → l ≡ list_layout a → AreNulls t n l
    list_nulls a l seen made =
        nulls_at t n (physical_single (list_form large)) l (record { type = t; len = span_count os; validity = Some bits; parts = lists p p os }) (more_layouts c no_layouts)
        (physical_is t (single (list_form large) f) stored) (has_own large) (made ∙ ap list_layout seen) refl (counted n os zero_os) (ap Some unset)

-- ---- lists of one length
module _ (t : TypeTree) (f : FieldTree) (size n : ℕ) (stored : logical t ≡ single (fixed_list size) f) where
  pub fixed_list_room : 2 ^ 64 ≤ n * size → 2 ^ 64 ≤ most_room n t
  fixed_list_room h = let r = room_is t (single (fixed_list size) f) stored n in omega (arith, h, r)

  pub fixed_list_error : (e : NullError) → NoNulls (field_type f) (n * size) e → NoNulls t n e
  fixed_list_error Memory refused = tt
  fixed_list_error DataType refused = λ has. refused (field_has f (has_is t (single (fixed_list size) f) stored has).1)
  fixed_list_error Length refused =
      let r = room_is t (single (fixed_list size) f) stored n in
      let k = field_takes (n * size) f in
      omega (arith, refused, r, k)

  size_is : list_size t ≡ size
  size_is = ap named_list_size stored

  module _ (c : Layout) (bits : List Bool) (nulls : AreNulls (field_type f) (n * size) c) (unset : bits ≡ replicate n false) where
    count : 0 < size → len_of c / list_size t ≡ n
    count some = ap₂ (λ a b. a / b) nulls.len size_is ∙ whole_count n size some

    fixed_list_rules : (e : Error) → 0 < size → BreaksFixedList (fixed_list_seen t c (Some bits)) e → ⊥
    fixed_list_rules (OutOfSpec WrongType) some breaks = breaks (physical_is t (single (fixed_list size) f) stored)
    fixed_list_rules (OutOfSpec ZeroSize) some breaks = let e = size_is in omega (arith, some, e, breaks)
    fixed_list_rules (OutOfSpec ChildLength) some breaks = breaks (nulls.len ∙ sym (ap₂ (λ a b. a * b) (count some) size_is))
    fixed_list_rules (OutOfSpec ChildType) some breaks =
        breaks (subst (λ (fs : FieldTrees). FieldTypes fs (type_of c ∷ [])) (sym (fields_are t (single (fixed_list size) f) stored)) (nulls.type, tt))
    fixed_list_rules (OutOfSpec ValidityLength) some breaks = breaks (ap length unset ∙ length-replicate n false ∙ sym (count some))
    fixed_list_rules (OutOfSpec _) some breaks = breaks

    pub fixed_list_breaks : (e : Error) → BreaksFixedList (fixed_list_seen t c (Some bits)) e → ¬ (HasArrays t)
    fixed_list_breaks e breaks has = fixed_list_rules e (has_is t (single (fixed_list size) f) stored has).0 breaks

    pub fixed_list_nulls : (a : FixedListSeen) (l : Layout) → a ≡ fixed_list_seen t c (Some bits) → IsArray (fixed_list_layout (fixed_list_seen t c (Some bits))) → l ≡ fixed_list_layout a → AreNulls t n l
    fixed_list_nulls a l seen is made =
        let some : 0 < size = subst (λ (k : ℕ). 0 < k) size_is is.1.2 in
        nulls_at t n Physicals.FixedSizeList l (record { type = t; len = len_of c / list_size t; validity = Some bits; parts = fixed_lists (list_size t) }) (more_layouts c no_layouts)
        (physical_is t (single (fixed_list size) f) stored) tt (made ∙ ap fixed_list_layout seen) refl (count some) (ap Some unset)

-- ---- maps
module _ (t : TypeTree) (f : FieldTree) (sorted : Bool) (n : ℕ) (stored : logical t ≡ single (entries sorted) f) where
  pub map_error : (e : NullError) → NoNulls (field_type f) 0 e → NoNulls t n e
  map_error Memory refused = tt
  map_error DataType refused = λ has. refused (field_has f (has_is t (single (entries sorted) f) stored has).1)
  map_error Length refused =
      let r = room_is t (single (entries sorted) f) stored n in
      let k = field_takes 0 f in
      omega (arith, refused, r, k)

  module _ (os : List ℕ) (c : Layout) (bits : List Bool) (zero_os : os ≡ replicate (n + 1) 0) (nulls : AreNulls (field_type f) 0 c) (unset : bits ≡ replicate n false) where
    map_rules : (e : Error) → IsPair (field_type f) → BreaksMap (map_seen t os c (Some bits)) e → ⊥
    map_rules (OutOfSpec WrongType) pair breaks = breaks (physical_is t (single (entries sorted) f) stored)
    map_rules (OutOfSpec MapChild) pair breaks = breaks (subst IsPair (sym nulls.type) pair)
    map_rules (OutOfSpec ChildType) pair breaks =
        breaks (subst (λ (fs : FieldTrees). FieldTypes fs (type_of c ∷ [])) (sym (fields_are t (single (entries sorted) f) stored)) (nulls.type, tt))
    map_rules (OutOfSpec OffsetsPastValues) pair breaks = let z = last_is n os zero_os in breaks (omega (arith, z))
    map_rules (OutOfSpec ValidityLength) pair breaks = breaks (fit n os zero_os bits unset)
    map_rules (OutOfSpec _) pair breaks = breaks

    pub map_breaks : (e : Error) → BreaksMap (map_seen t os c (Some bits)) e → ¬ (HasArrays t)
    map_breaks e breaks has = map_rules e (has_is t (single (entries sorted) f) stored has).0 breaks

    pub map_nulls : (a : MapSeen) (l : Layout) → a ≡ map_seen t os c (Some bits) → l ≡ map_layout a → AreNulls t n l
    map_nulls a l seen made =
        nulls_at t n Physicals.Map l (record { type = t; len = span_count os; validity = Some bits; parts = maps os }) (more_layouts c no_layouts)
        (physical_is t (single (entries sorted) f) stored) tt (made ∙ ap map_layout seen) refl (counted n os zero_os) (ap Some unset)

-- ---- keys without values
module _ (t u : TypeTree) (key : IntegerType) (ordered : Bool) (n : ℕ) (stored : logical t ≡ dictionary key u ordered) where
  pub dictionary_error : (e : NullError) → NoNulls u 0 e → NoNulls t n e
  dictionary_error Memory refused = tt
  dictionary_error DataType refused = λ has. refused (has_is t (dictionary key u ordered) stored has)
  dictionary_error Length refused = let r = room_is t (dictionary key u ordered) stored n in omega (arith, refused, r)

  module _ (ks : KeysSeen) (c : Layout) (null_keys : AreNullKeys key n ks) (nulls : AreNulls u 0 c) where
    no_key : (i : ℕ) → is_valid ks.validity i ≡ false
    no_key i = ap (λ (v : Validity). is_valid v i) null_keys.bits ∙ filled false n i

    lies : physical t ≡ Physicals.Dictionary ks.key
    lies = physical_is t (dictionary key u ordered) stored ∙ ap Physicals.Dictionary (sym null_keys.key_is)

    pub dictionary_breaks : (e : Error) → BreaksDictionary (dictionary_seen t ks c) e → ⊥
    dictionary_breaks (OutOfSpec WrongType) breaks = breaks (lies, null_keys.type ∙ sym (ap (λ (k : IntegerType). plain (integer k)) null_keys.key_is))
    dictionary_breaks (OutOfSpec DictionaryValues) breaks = breaks (ap norm (nulls.type ∙ sym (ap named_values stored)))
    dictionary_breaks (OutOfSpec DictionaryKey) breaks =
        breaks (record { each = λ i below valid. let no : ⊥ = true≢false (sym valid ∙ no_key i) in absurd no })
    dictionary_breaks (OutOfSpec _) breaks = breaks

    pub dictionary_nulls : (a : DictionarySeen) (l : Layout) → a ≡ dictionary_seen t ks c → l ≡ dictionary_layout a → AreNulls t n l
    dictionary_nulls a l seen made =
        nulls_at t n (Physicals.Dictionary ks.key) l (record { type = t; len = length ks.integers; validity = ks.validity; parts = keys ks.key ks.integers }) (more_layouts c no_layouts)
        lies tt (made ∙ ap dictionary_layout seen) refl null_keys.count null_keys.bits
