-- A column of a union is well formed if its array keeps the rules of
-- unions, and is read to that array.
use Rattle.std.proofs.Common.{arith, ◌≡◌, refl, ℕ, zero, suc, ℤ, pos, ◌+◌, ◌*◌, ◌<◌, List, length, get_or, Option, None, Some, sym, ap, subst, ◌∙◌}
use Rattle.std.proofs.lemmas.List.FromFn.{get_or-map-range_with_len, length-map-range_with_len}
use Rattle.lower.specs.TypeTrees.{TypeTree, FieldTrees}
use Rattle.lower.specs.Physical.{physical}
use Rattle.lower.specs.declared.datatypes.UnionMode.TheVariants.{Sparse, Dense}
use Rattle.lower.specs.declared.datatypes.physical_type.PhysicalType.TheVariants.{Union}
use Rattle.lower.specs.declared.error.Error.{Error}
use Rattle.lower.specs.declared.error.Error.TheVariants.{OutOfSpec}
use Rattle.lower.specs.declared.error.Rule.TheVariants.{ChildCount, ChildType, ChildLength, UnionChildren, UnionIds, UnionType, UnionOffsets, UnionOffset, PhysicalType as WrongType}
use Rattle.lower_types.specs.declared.PrimitiveType.{PrimitiveType}
use Rattle.lower_types.specs.declared.PrimitiveType.TheVariants.{Int8, Int32}
use Rattle.lower_validation.specs.Fields.{child_fields}
use Rattle.lower_validation.specs.Ids.{TypeIds, union_ids, union_mode, child_number, NamesChild, IdsFit, AreNamed, OffsetsGiven}
use Rattle.lower_validation.specs.Keys.{KeyFits}
use Rattle.lower_validation.specs.Places.{OffsetsFit, PlacesFit}
use Rattle.lower_arrays.specs.Layouts.{choices, Layout, layout, Layouts, layouts}
use Rattle.lower_arrays.specs.Children.{child_count, lens_of, ChildTypes, AllHave}
use Rattle.lower_arrays.specs.Choices.{ChoicesFit}
use Rattle.lower_arrays.specs.Unions.{union_seen, union_layout, IsUnion as IsUnionArray, BreaksUnion}
use Rattle.ipc_model.proofs.ReadSlots.{array_len}
use Rattle.ipc_model.specs.Kinds.{Kinds, no_kinds, more_kinds, count, nodes, buffers, union_kind}
use Rattle.ipc_model.specs.Entries.{Entries, IsSize, IsIndex, node, Need, Limit, rows, integer}
use Rattle.ipc_model.specs.Columns.{child_rows, IsUnionKind, type_at, child_at, HasTypes, place_at, Reaches, IsWell, AllHaveRows, AllWell}
use Rattle.ipc_model.specs.ReadArrays.{integers_of, other_fields, first_type, array_at, arrays_at}
use Rattle.ipc_read_nested.proofs.Records.{so_many}
use Rattle.ipc_read_flat.proofs.Indices.{index_key, key_index}
use Rattle.ipc_read_nested.proofs.UnionIds.{ids_are, ids_were, names_one, one_named}

-- ---- the rules of the array

pub union_fits : (u : TypeTree) (zs : List ℤ) (os : Option (List ℤ)) (cs : List Layout) → IsUnionArray (union_seen u zs cs os) → ChoicesFit u (union_ids u) zs os (layouts cs)
union_fits u zs os cs h = h.fits

pub union_keeps : (u : TypeTree) (zs : List ℤ) (os : Option (List ℤ)) (cs : List Layout) (e : Error) → BreaksUnion (union_seen u zs cs os) e → ChoicesFit u (union_ids u) zs os (layouts cs) → ⊥
union_keeps u zs os cs (OutOfSpec WrongType) h w = h w.lies
union_keeps u zs os cs (OutOfSpec UnionChildren) h w = h (w.some, w.few)
union_keeps u zs os cs (OutOfSpec ChildCount) h w = h (so_many (child_fields u) (layouts cs) w.types)
union_keeps u zs os cs (OutOfSpec ChildType) h w = h w.types
union_keeps u zs os cs (OutOfSpec UnionIds) h w = h w.ids
union_keeps u zs os cs (OutOfSpec UnionType) h w = h w.names
union_keeps u zs os cs (OutOfSpec UnionOffsets) h w = h w.given
union_keeps u zs os cs (OutOfSpec ChildLength) h w = h w.places
union_keeps u zs os cs (OutOfSpec UnionOffset) h w = h w.places
union_keeps u zs os cs (OutOfSpec _) h w = absurd h

pub ruleset union_rules = (union_fits, union_keeps)

-- ---- its children

counted : (s : Entries) (vs : Option ℤ → Layout) (ts : Kinds) (fs : FieldTrees) (a b : ℕ) (limit : Limit) → child_count (arrays_at s vs ts fs a b limit) ≡ count ts
counted s vs no_kinds fs a b limit = refl
counted s vs (more_kinds t ts) fs a b limit =
    let rest = counted s vs ts (other_fields fs) (a + nodes t) (b + buffers s.extra t) limit in omega (arith, rest)

whole_rows : (s : Entries) (vs : Option ℤ → Layout) (ts : Kinds) (fs : FieldTrees) (a b k : ℕ) → get_or (lens_of (arrays_at s vs ts fs a b None)) k 0 ≡ child_rows s ts a k
whole_rows s vs no_kinds fs a b k = refl
whole_rows s vs (more_kinds t ts) fs a b zero = array_len s vs t (first_type fs) a b None
whole_rows s vs (more_kinds t ts) fs a b (suc k) = whole_rows s vs ts (other_fields fs) (a + nodes t) (b + buffers s.extra t) k

integer_is : (s : Entries) (b : ℕ) (p : PrimitiveType) (k i : ℕ) (xs : List ℤ) → xs ≡ integers_of s b p k → i < k → get_or xs i (pos 0) ≡ integer s b p i
integer_is s b p k i xs e h = ap (λ ys. get_or ys i (pos 0)) e ∙ get_or-map-range_with_len (λ j. integer s b p j) 0 k i i (pos 0) h (omega arith)

-- ---- what its types and its offsets say

-- What is known of the union of n children whose type ids are in buffer t: k are read.
module _ (s : Entries) (ids : TypeIds) (n t k : ℕ) (zs : List ℤ) (types : zs ≡ integers_of s t Int8 k) where
  pub types_count : length zs ≡ k
  types_count = ap length types ∙ length-map-range_with_len (λ j. integer s t Int8 j) 0 k

  pub names_fit : IdsFit ids n → ((i : ℕ) → i < k → child_at s ids n t i < n) → AreNamed ids zs n
  names_fit fit h = record {
    each = λ i l.
        let inside : i < k = omega (arith, l, types_count) in
        subst (λ (z : ℤ). NamesChild ids n z) (sym (integer_is s t Int8 k i zs types inside)) (names_one ids n (type_at s t i) fit (h i inside)).0;
  }

  pub names_were : IdsFit ids n → AreNamed ids zs n → (i : ℕ) → i < k → child_at s ids n t i < n
  names_were fit h i l = one_named ids n (type_at s t i) fit (subst (λ (z : ℤ). NamesChild ids n z) (integer_is s t Int8 k i zs types l) (h.each i (omega (arith, l, types_count))))

  -- The length of the child of slot i; ns are the lengths of all children.
  length_is : (ts : Kinds) (a : ℕ) (ns : List ℕ) → ((j : ℕ) → get_or ns j 0 ≡ child_rows s ts a j) → IdsFit ids n → ((i : ℕ) → i < k → child_at s ids n t i < n) → (i : ℕ) → i < k
      → get_or ns (child_number ids (get_or zs i (pos 0))) 0 ≡ child_rows s ts a (child_at s ids n t i)
  length_is ts a ns lens fit h i l =
      ap (λ z. get_or ns (child_number ids z) 0) (integer_is s t Int8 k i zs types l)
      ∙ ap (λ m. get_or ns m 0) (names_one ids n (type_at s t i) fit (h i l)).1
      ∙ lens (child_at s ids n t i)

  pub places_fit : (ts : Kinds) (a : ℕ) (ns : List ℕ) (os : List ℤ) → os ≡ integers_of s (t + 1) Int32 k → ((j : ℕ) → get_or ns j 0 ≡ child_rows s ts a j) → IdsFit ids n
      → ((i : ℕ) → i < k → child_at s ids n t i < n) → ((i : ℕ) → i < k → IsIndex (place_at s (t + 1) i) (child_rows s ts a (child_at s ids n t i))) → OffsetsFit ids zs os ns
  places_fit ts a ns os places lens fit h reach = record {
    each = λ i l.
        let inside : i < k = omega (arith, l, types_count) in
        subst (λ (m : ℕ). KeyFits (get_or os i (pos 0)) m) (sym (length_is ts a ns lens fit h i inside))
        (subst (λ (z : ℤ). KeyFits z (child_rows s ts a (child_at s ids n t i))) (sym (integer_is s (t + 1) Int32 k i os places inside))
        (index_key (place_at s (t + 1) i) (child_rows s ts a (child_at s ids n t i)) (reach i inside)));
  }

  pub places_were : (ts : Kinds) (a : ℕ) (ns : List ℕ) (os : List ℤ) → os ≡ integers_of s (t + 1) Int32 k → ((j : ℕ) → get_or ns j 0 ≡ child_rows s ts a j) → IdsFit ids n
      → ((i : ℕ) → i < k → child_at s ids n t i < n) → OffsetsFit ids zs os ns → (i : ℕ) → i < k → IsIndex (place_at s (t + 1) i) (child_rows s ts a (child_at s ids n t i))
  places_were ts a ns os places lens fit h w i l =
      key_index (place_at s (t + 1) i) (child_rows s ts a (child_at s ids n t i))
      (subst (λ (m : ℕ). KeyFits (place_at s (t + 1) i) m) (length_is ts a ns lens fit h i l)
      (subst (λ (z : ℤ). KeyFits z (get_or ns (child_number ids (get_or zs i (pos 0))) 0)) (integer_is s (t + 1) Int32 k i os places l) (w.each i (omega (arith, l, types_count)))))

-- ---- unions

-- What is known of the column of a union at node a and buffer b, whose type ids are in buffer t.
-- These are the type of its array, the type ids that were read, and the columns that were.
module _ (s : Entries) (vs : Option ℤ → Layout) (ids : TypeIds) (ts : Kinds) (u : TypeTree) (fs : FieldTrees) (a b t : ℕ) (limit : Limit) (zs : List ℤ) (cs : List Layout)
    (lies : physical u ≡ Union) (named : union_ids u ≡ ids) (fields : child_fields u ≡ fs) (at : t ≡ b + s.extra) (types : zs ≡ integers_of s t Int8 (rows s a limit))
    (typed : ChildTypes (child_fields u) (layouts cs)) (many : child_count (layouts cs) ≡ count ts) where
  choices_fit : (os : Option (List ℤ)) → IsUnionKind ids (count ts) → AreNamed ids zs (count ts) → OffsetsGiven (union_mode u) os (length zs) → PlacesFit ids zs os (lens_of (layouts cs))
      → ChoicesFit u (union_ids u) zs os (layouts cs)
  choices_fit os h names given places = record {
    lies = lies;
    named = refl;
    some = omega (arith, many, h.some);
    few = omega (arith, many, h.few);
    types = typed;
    ids = subst (λ (js : TypeIds). IdsFit js (child_count (layouts cs))) (sym named) (subst (λ (m : ℕ). IdsFit ids m) (sym many) (ids_were ids (count ts) h.distinct));
    names = subst (λ (js : TypeIds). AreNamed js zs (child_count (layouts cs))) (sym named) (subst (λ (m : ℕ). AreNamed ids zs m) (sym many) names);
    given = given;
    places = subst (λ (js : TypeIds). PlacesFit js zs os (lens_of (layouts cs))) (sym named) places;
  }

  ids_kept : (os : Option (List ℤ)) → ChoicesFit u (union_ids u) zs os (layouts cs) → IdsFit ids (count ts)
  ids_kept os w = subst (λ (m : ℕ). IdsFit ids m) many (subst (λ (js : TypeIds). IdsFit js (child_count (layouts cs))) named w.ids)

  names_kept : (os : Option (List ℤ)) → ChoicesFit u (union_ids u) zs os (layouts cs) → AreNamed ids zs (count ts)
  names_kept os w = subst (λ (m : ℕ). AreNamed ids zs m) many (subst (λ (js : TypeIds). AreNamed js zs (child_count (layouts cs))) named w.names)

  union_kept : (os : Option (List ℤ)) → ChoicesFit u (union_ids u) zs os (layouts cs) → IsUnionKind ids (count ts)
  union_kept os w = record { some = omega (arith, many, w.some); few = omega (arith, many, w.few); distinct = ids_are ids (count ts) (ids_kept os w) }

  -- The children are read slot by slot.
  pub sparse_fits : union_mode u ≡ Sparse → AllHave (rows s a limit) (layouts cs) → IsWell s (union_kind Sparse ids ts) a b limit → ChoicesFit u (union_ids u) zs None (layouts cs)
  sparse_fits mode even h =
      let fit = ids_were ids (count ts) h.1.distinct in
      let there : HasTypes s ids (count ts) t (rows s a limit) = subst (λ (m : ℕ). HasTypes s ids (count ts) m (rows s a limit)) (sym at) h.2 in
      choices_fit None h.1 (names_fit s ids (count ts) t (rows s a limit) zs types fit there.named) (subst (λ m. OffsetsGiven m None (length zs)) (sym mode) tt)
      (subst (λ (m : ℕ). AllHave m (layouts cs)) (sym (types_count s ids (count ts) t (rows s a limit) zs types)) even)

  pub sparse_well : IsSize (node s a).length × Need s t (rows s a limit) → AllHaveRows s ts (a + 1) (t + 1) limit (rows s a limit) → ChoicesFit u (union_ids u) zs None (layouts cs)
      → IsWell s (union_kind Sparse ids ts) a b limit
  sparse_well head even w =
      subst (λ (m : ℕ). IsSize (node s a).length × IsUnionKind ids (count ts) × HasTypes s ids (count ts) m (rows s a limit) × AllHaveRows s ts (a + 1) (m + 1) limit (rows s a limit)) at
      (head.0, union_kept None w, record { types = head.1; named = names_were s ids (count ts) t (rows s a limit) zs types (ids_kept None w) (names_kept None w) }, even)

  pub sparse_array : (x : Layout) → layouts cs ≡ arrays_at s vs ts fs (a + 1) (t + 1) limit → x ≡ union_layout (union_seen u zs cs None) → x ≡ array_at s vs (union_kind Sparse ids ts) u a b limit
  sparse_array x same made =
      let kept : zs ≡ integers_of s (b + s.extra) Int8 (rows s a limit) = types ∙ ap (λ m. integers_of s m Int8 (rows s a limit)) at in
      let below : layouts cs ≡ arrays_at s vs ts (child_fields u) (a + 1) (b + s.extra + 1) limit =
      same ∙ ap (λ gs. arrays_at s vs ts gs (a + 1) (t + 1) limit) (sym fields) ∙ ap (λ m. arrays_at s vs ts (child_fields u) (a + 1) (m + 1) limit) at
      in
      let len = types_count s ids (count ts) t (rows s a limit) zs types in
      made ∙ (λ i. layout (record { type = u; len = len i; validity = None; parts = choices (named i) (kept i) None }) (below i))

  -- the children are whole
  module _ (os : List ℤ) (places : os ≡ integers_of s (t + 1) Int32 (rows s a limit)) (same : layouts cs ≡ arrays_at s vs ts fs (a + 1) (t + 2) None) where
    lens : (j : ℕ) → get_or (lens_of (layouts cs)) j 0 ≡ child_rows s ts (a + 1) j
    lens j = ap (λ ls. get_or (lens_of ls) j 0) same ∙ whole_rows s vs ts fs (a + 1) (t + 2) j

    pub dense_fits : union_mode u ≡ Dense → IsWell s (union_kind Dense ids ts) a b limit → ChoicesFit u (union_ids u) zs (Some os) (layouts cs)
    dense_fits mode h =
        let k = rows s a limit in
        let fit = ids_were ids (count ts) h.1.distinct in
        let there : HasTypes s ids (count ts) t k × Reaches s ids ts (a + 1) t k = subst (λ (m : ℕ). HasTypes s ids (count ts) m k × Reaches s ids ts (a + 1) m k) (sym at) (h.2, h.3) in
        let len : length os ≡ length zs = ap length places ∙ length-map-range_with_len (λ j. integer s (t + 1) Int32 j) 0 k ∙ sym (types_count s ids (count ts) t k zs types) in
        choices_fit (Some os) h.1 (names_fit s ids (count ts) t k zs types fit there.0.named) (subst (λ m. OffsetsGiven m (Some os) (length zs)) (sym mode) len)
        (places_fit s ids (count ts) t k zs types ts (a + 1) (lens_of (layouts cs)) os places lens fit there.0.named there.1.inside)

    pub dense_well : IsSize (node s a).length × Need s t (rows s a limit) → Need s (t + 1) (4 * rows s a limit) → AllWell s ts (a + 1) (t + 2) → ChoicesFit u (union_ids u) zs (Some os) (layouts cs)
        → IsWell s (union_kind Dense ids ts) a b limit
    dense_well head need whole w =
        let k = rows s a limit in
        let fit = ids_kept (Some os) w in
        let names = names_were s ids (count ts) t k zs types fit (names_kept (Some os) w) in
        let reach : OffsetsFit ids zs os (lens_of (layouts cs)) = subst (λ (js : TypeIds). PlacesFit js zs (Some os) (lens_of (layouts cs))) named w.places in
        subst (λ (m : ℕ). IsSize (node s a).length × IsUnionKind ids (count ts) × HasTypes s ids (count ts) m k × Reaches s ids ts (a + 1) m k × AllWell s ts (a + 1) (m + 2)) at (
          head.0,
          union_kept (Some os) w,
          record { types = head.1; named = names },
          record { offsets = need; inside = places_were s ids (count ts) t k zs types ts (a + 1) (lens_of (layouts cs)) os places lens fit names reach },
          whole,
        )

    pub dense_array : (x : Layout) → x ≡ union_layout (union_seen u zs cs (Some os)) → x ≡ array_at s vs (union_kind Dense ids ts) u a b limit
    dense_array x made =
        let kept : zs ≡ integers_of s (b + s.extra) Int8 (rows s a limit) = types ∙ ap (λ m. integers_of s m Int8 (rows s a limit)) at in
        let given : os ≡ integers_of s (b + s.extra + 1) Int32 (rows s a limit) = places ∙ ap (λ m. integers_of s (m + 1) Int32 (rows s a limit)) at in
        let below : layouts cs ≡ arrays_at s vs ts (child_fields u) (a + 1) (b + s.extra + 2) None =
        same ∙ ap (λ gs. arrays_at s vs ts gs (a + 1) (t + 2) None) (sym fields) ∙ ap (λ m. arrays_at s vs ts (child_fields u) (a + 1) (m + 2) None) at
        in
        let len = types_count s ids (count ts) t (rows s a limit) zs types in
        made ∙ (λ i. layout (record { type = u; len = len i; validity = None; parts = choices (named i) (kept i) (Some (given i)) }) (below i))

-- there are as many children as kinds
pub columns_count : (s : Entries) (vs : Option ℤ → Layout) (ts : Kinds) (fs : FieldTrees) (a b : ℕ) (limit : Limit) (ls : Layouts) → ls ≡ arrays_at s vs ts fs a b limit → child_count ls ≡ count ts
columns_count s vs ts fs a b limit ls e = ap child_count e ∙ counted s vs ts fs a b limit
