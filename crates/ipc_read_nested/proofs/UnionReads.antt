-- What is read of a column of a union, part by part.
use Rattle.std.proofs.Common.{arith, Vec, Global, ◌≡◌, ℕ, ℤ, ◌+◌, ◌*◌, ◌<◌, ◌≤◌, List, length, map, take, drop, Option, None, Some, sym, ap, subst, ◌∙◌}
use Rattle.std.proofs.lemmas.List.{map-id}
use Rattle.std.specs.List.{range_with_len}
use Rattle.lower.specs.TypeTrees.{choice, TypeTree, group, FieldTree, FieldTrees}
use Rattle.lower.specs.TypeViews.{type_step, field_step, type_view, fields_view, ids_of}
use Rattle.lower.specs.declared.datatypes.Field.{Field}
use Rattle.lower.specs.declared.datatypes.DataType.{DataType, fold-roll-DataType}
use Rattle.lower.specs.declared.datatypes.DataType.TheVariants.{Union as UnionType, rolls-Union}
use Rattle.lower.specs.declared.datatypes.DataType.TheOpen.{DataType-F}
use Rattle.lower.specs.Counts.{union_buffers}
use Rattle.lower.specs.Physical.{physical}
use Rattle.lower.specs.declared.datatypes.UnionMode.{UnionMode}
use Rattle.lower.specs.declared.datatypes.UnionMode.TheVariants.{Sparse, Dense}
use Rattle.lower.specs.declared.datatypes.physical_type.PhysicalType.TheVariants.{Union}
use Rattle.lower_types.specs.NumberTypes.{width_of, number_in}
use Rattle.lower_types.specs.Numbers.{values_of}
use Rattle.lower_types.specs.declared.Endianness.{Endianness}
use Rattle.lower_types.specs.declared.PrimitiveType.{PrimitiveType}
use Rattle.lower_types.specs.declared.PrimitiveType.TheVariants.{Int8, Int32}
use Rattle.lower_validation.specs.Fields.{child_fields}
use Rattle.lower_validation.specs.Ids.{TypeIds, union_ids, union_mode}
use Rattle.lower_arrays.specs.Layouts.{Layout, Layouts, layouts}
use Rattle.lower_arrays.specs.Children.{ChildTypes, AllHave}
use Rattle.lower_arrays.specs.Choices.{ChoicesFit}
use Rattle.lower_arrays.specs.Unions.{union_seen, union_layout}
use Rattle.ipc_base.specs.IdTrees.{IdTrees}
use Rattle.ipc_devices.specs.Device.{Device}
use Rattle.ipc_model.specs.Kinds.{Kinds, all_nodes, all_buffers, union_kind}
use Rattle.ipc_model.specs.Entries.{Entries, IsSize, node, bytes, listed, Need, Limit, rows}
use Rattle.ipc_model.specs.Columns.{IsWell, AllHaveRows, AllWell}
use Rattle.ipc_model.specs.Numbers.{integer_of}
use Rattle.ipc_model.specs.ReadArrays.{integers_of, array_at, arrays_at}
use Rattle.ipc_model.specs.TypeKinds.{kinds_of, kind_of}
use Rattle.ipc_read_flat.specs.Bodies.{HasRoom, entries}
use Rattle.ipc_read_flat.specs.Kinds.{IsStored, listed_in}
use Rattle.ipc_read_flat.specs.declared.read.body.Body.{Body}
use Rattle.ipc_read_flat.specs.declared.read.body.Place.{Place}
use Rattle.ipc_read_flat.proofs.FlatLevels.{order_is, pieces_are}
use Rattle.ipc_read_nested.proofs.StructReads.{arrays_typed, arrays_have}
use Rattle.ipc_read_nested.proofs.UnionRules.{columns_count, sparse_fits, sparse_well, sparse_array, dense_fits, dense_well, dense_array}

-- Integers that were read are those in the buffer.
pub integers_are :
    {R : Type 0} (d : Device R) (b : Body R) (p : PrimitiveType) (value : Endianness → List ℕ → ℤ) (w i n : ℕ) (v : List ℤ)
    → ((order : Endianness) (ys : List ℕ) → value order ys ≡ integer_of (number_in p order ys)) → ((order : Endianness) (ys : List ℕ) → value order (take w ys) ≡ value order ys)
    → w ≡ width_of p → 0 < w → w * n ≤ length (bytes (entries d b) i) → v ≡ values_of (value b.order) w (take (w * n) (bytes (entries d b) i))
    → v ≡ integers_of (entries d b) i p n
integers_are d b p value w i n v is first width some long read =
    let s = entries d b in
    let xs = bytes s i in
    sym (map-id v)
    ∙ pieces_are (λ z. z) (λ ys. integer_of (number_in p b.order ys)) (value b.order) w n xs v (λ ys. is b.order ys) (λ ys. first b.order ys) some long read
    ∙ (λ k. map (λ j. integer_of (number_in p (order_is d b k) (drop (width k * j) xs))) (range_with_len 0 n))

-- ---- the type of unions

union_view : (d : DataType) (fs : Vec Field Global) (ids : Option (Vec ℤ Global)) (mode : UnionMode) → d ≡ UnionType fs ids mode → type_view d ≡ group (choice (ids_of ids) mode) (fields_view fs.items)
union_view d fs ids mode e =
    ap type_view (e ∙ sym (rolls-Union fs ids mode)) ∙ fold-roll-DataType TypeTree FieldTree type_step field_step (DataType-F.Union fs ids mode)

pub union_kind_is : (d : DataType) (fs : Vec Field Global) (ids : Option (Vec ℤ Global)) (mode : UnionMode) (id : Option ℤ) (is : IdTrees) → d ≡ UnionType fs ids mode
    → kind_of (type_view d) id is ≡ union_kind mode (ids_of ids) (kinds_of (fields_view fs.items) is)
union_kind_is d fs ids mode id is e = ap (λ u. kind_of u id is) (union_view d fs ids mode e)

-- What is stored as a union is a union.
pub union_stored : (own : TypeTree) (d : DataType) (fs : Vec Field Global) (ids : Option (Vec ℤ Global)) (mode : UnionMode) → d ≡ UnionType fs ids mode → IsStored own (type_view d)
    → (physical own ≡ Union) × (child_fields own ≡ fields_view fs.items) × (union_ids own ≡ ids_of ids) × (union_mode own ≡ mode)
union_stored own d fs ids mode e h =
    let view = union_view d fs ids mode e in (
      h.lies ∙ ap physical view,
      h.fields ∙ ap child_fields view,
      h.ids_named ∙ ap union_ids view,
      h.mode_named ∙ ap union_mode view,
    )

-- ---- its type ids, which come first whatever its mode

pub union_room : {R : Type 0} (b : Body R) (p : Place) (mode : UnionMode) (ts : Kinds) → HasRoom b p (1 + all_nodes ts) ((union_buffers mode + b.extra) + all_buffers b.extra ts) → HasRoom b p 1 (1 + b.extra)
union_room b p Sparse ts h = let n = h.nodes_in in let m = h.buffers_in in record { nodes_in = omega (arith, n); buffers_in = omega (arith, m) }
union_room b p Dense ts h = let n = h.nodes_in in let m = h.buffers_in in record { nodes_in = omega (arith, n); buffers_in = omega (arith, m) }

pub types_bound : (s : Entries) (extra : ℕ) (mode : UnionMode) (ids : TypeIds) (ts : Kinds) (b m n : ℕ) → m ≤ n + listed s (b + extra) → m ≤ n + listed_in s extra (union_kind mode ids ts) b
types_bound s extra Sparse ids ts b m n h = omega (arith, h)
types_bound s extra Dense ids ts b m n h = omega (arith, h)

pub ruleset union_types_first = (union_room, types_bound)

-- ---- a well formed union, whose type ids are in buffer t

types_of : (s : Entries) (mode : UnionMode) (ids : TypeIds) (ts : Kinds) (a b : ℕ) (limit : Limit) → IsWell s (union_kind mode ids ts) a b limit
    → IsSize (node s a).length × Need s (b + s.extra) (rows s a limit)
types_of s Sparse ids ts a b limit h = (h.0, h.2.types)
types_of s Dense ids ts a b limit h = (h.0, h.2.types)

pub union_types : (s : Entries) (mode : UnionMode) (ids : TypeIds) (ts : Kinds) (a b t : ℕ) (limit : Limit) → t ≡ b + s.extra
    → IsWell s (union_kind mode ids ts) a b limit → IsSize (node s a).length × Need s t (rows s a limit)
union_types s mode ids ts a b t limit at h =
    subst (λ (m : ℕ). IsSize (node s a).length × Need s m (rows s a limit)) (sym at) (types_of s mode ids ts a b limit h)

pub sparse_children : (s : Entries) (ids : TypeIds) (ts : Kinds) (a b t n : ℕ) (limit : Limit) → t ≡ b + s.extra → n ≡ rows s a limit
    → IsWell s (union_kind Sparse ids ts) a b limit → AllHaveRows s ts (a + 1) (t + 1) limit n
sparse_children s ids ts a b t n limit at count h =
    subst (λ (k : ℕ). AllHaveRows s ts (a + 1) (t + 1) limit k) (sym count) (subst (λ (m : ℕ). AllHaveRows s ts (a + 1) (m + 1) limit (rows s a limit)) (sym at) h.3)

pub dense_places : (s : Entries) (ids : TypeIds) (ts : Kinds) (a b t n : ℕ) (limit : Limit) → t ≡ b + s.extra → n ≡ rows s a limit
    → IsWell s (union_kind Dense ids ts) a b limit → Need s (t + 1) (4 * n)
dense_places s ids ts a b t n limit at count h =
    subst (λ (k : ℕ). Need s (t + 1) (4 * k)) (sym count) (subst (λ (m : ℕ). Need s (m + 1) (4 * rows s a limit)) (sym at) h.3.offsets)

pub dense_children : (s : Entries) (ids : TypeIds) (ts : Kinds) (a b t : ℕ) (limit : Limit) → t ≡ b + s.extra
    → IsWell s (union_kind Dense ids ts) a b limit → AllWell s ts (a + 1) (t + 2)
dense_children s ids ts a b t limit at h = subst (λ (m : ℕ). AllWell s ts (a + 1) (m + 2)) (sym at) h.4

-- ---- a whole union

children_typed : (s : Entries) (vs : Option ℤ → Layout) (u : TypeTree) (fs : FieldTrees) (is : IdTrees) (a b : ℕ) (limit : Limit) (ls : Layouts) → child_fields u ≡ fs
    → ls ≡ arrays_at s vs (kinds_of fs is) fs a b limit → ChildTypes (child_fields u) ls
children_typed s vs u fs is a b limit ls fields same =
    subst (λ (ms : Layouts). ChildTypes (child_fields u) ms) (sym same)
    (subst (λ (gs : FieldTrees). ChildTypes gs (arrays_at s vs (kinds_of fs is) fs a b limit)) (sym fields) (arrays_typed s vs fs is a b limit))

-- What is known of the column of a union at node a and buffer b, whose type ids are in buffer t.
-- Its array has the type u, zs are the type ids that were read, and cs the arrays of its columns.
module _ (s : Entries) (vs : Option ℤ → Layout) (ids : TypeIds) (fs : FieldTrees) (is : IdTrees) (u : TypeTree) (a b t : ℕ) (limit : Limit) (zs : List ℤ) (cs : List Layout)
    (lies : physical u ≡ Union) (named : union_ids u ≡ ids) (fields : child_fields u ≡ fs) (at : t ≡ b + s.extra)
    (head : (IsSize (node s a).length × Need s t (rows s a limit)) × ((zs ≡ integers_of s t Int8 (rows s a limit)) × (length zs ≡ rows s a limit))) where
  -- The children are read slot by slot.
  module _ (mode : union_mode u ≡ Sparse)
      (read : AllHaveRows s (kinds_of fs is) (a + 1) (t + 1) limit (length zs) × (layouts cs ≡ arrays_at s vs (kinds_of fs is) fs (a + 1) (t + 1) limit)) where
    rows_had : AllHaveRows s (kinds_of fs is) (a + 1) (t + 1) limit (rows s a limit)
    rows_had = subst (λ (k : ℕ). AllHaveRows s (kinds_of fs is) (a + 1) (t + 1) limit k) head.1.1 read.0

    pub sparse_rules : IsWell s (union_kind Sparse ids (kinds_of fs is)) a b limit → ChoicesFit u (union_ids u) zs None (layouts cs)
    sparse_rules h =
        let typed = children_typed s vs u fs is (a + 1) (t + 1) limit (layouts cs) fields read.1 in
        let many = columns_count s vs (kinds_of fs is) fs (a + 1) (t + 1) limit (layouts cs) read.1 in
        let even : AllHave (rows s a limit) (layouts cs) =
        subst (λ (ls : Layouts). AllHave (rows s a limit) ls) (sym read.1) (arrays_have s vs (kinds_of fs is) fs (a + 1) (t + 1) limit (rows s a limit) rows_had)
        in
        sparse_fits s vs ids (kinds_of fs is) u fs a b t limit zs cs lies named fields at head.1.0 typed many mode even h

    pub sparse_union : (x : Layout) → ChoicesFit u (union_ids u) zs None (layouts cs) × (x ≡ union_layout (union_seen u zs cs None))
        → IsWell s (union_kind Sparse ids (kinds_of fs is)) a b limit × (x ≡ array_at s vs (union_kind Sparse ids (kinds_of fs is)) u a b limit)
    sparse_union x made =
        let typed = children_typed s vs u fs is (a + 1) (t + 1) limit (layouts cs) fields read.1 in
        let many = columns_count s vs (kinds_of fs is) fs (a + 1) (t + 1) limit (layouts cs) read.1 in (
          sparse_well s vs ids (kinds_of fs is) u fs a b t limit zs cs lies named fields at head.1.0 typed many head.0 rows_had made.0,
          sparse_array s vs ids (kinds_of fs is) u fs a b t limit zs cs lies named fields at head.1.0 typed many x read.1 made.1,
        )

  -- the children are whole
  module _ (os : List ℤ) (mode : union_mode u ≡ Dense) (places : Need s (t + 1) (4 * length zs) × (os ≡ integers_of s (t + 1) Int32 (length zs)))
      (read : AllWell s (kinds_of fs is) (a + 1) (t + 2) × (layouts cs ≡ arrays_at s vs (kinds_of fs is) fs (a + 1) (t + 2) None)) where
    places_read : os ≡ integers_of s (t + 1) Int32 (rows s a limit)
    places_read = places.1 ∙ ap (λ k. integers_of s (t + 1) Int32 k) head.1.1

    pub dense_rules : IsWell s (union_kind Dense ids (kinds_of fs is)) a b limit → ChoicesFit u (union_ids u) zs (Some os) (layouts cs)
    dense_rules h =
        let typed = children_typed s vs u fs is (a + 1) (t + 2) None (layouts cs) fields read.1 in
        let many = columns_count s vs (kinds_of fs is) fs (a + 1) (t + 2) None (layouts cs) read.1 in
        dense_fits s vs ids (kinds_of fs is) u fs a b t limit zs cs lies named fields at head.1.0 typed many os places_read read.1 mode h

    pub dense_union : (x : Layout) → ChoicesFit u (union_ids u) zs (Some os) (layouts cs) × (x ≡ union_layout (union_seen u zs cs (Some os)))
        → IsWell s (union_kind Dense ids (kinds_of fs is)) a b limit × (x ≡ array_at s vs (union_kind Dense ids (kinds_of fs is)) u a b limit)
    dense_union x made =
        let typed = children_typed s vs u fs is (a + 1) (t + 2) None (layouts cs) fields read.1 in
        let many = columns_count s vs (kinds_of fs is) fs (a + 1) (t + 2) None (layouts cs) read.1 in
        let need = subst (λ (k : ℕ). Need s (t + 1) (4 * k)) head.1.1 places.0 in (
          dense_well s vs ids (kinds_of fs is) u fs a b t limit zs cs lies named fields at head.1.0 typed many os places_read read.1 head.0 need read.0 made.0,
          dense_array s vs ids (kinds_of fs is) u fs a b t limit zs cs lies named fields at head.1.0 typed many os places_read read.1 x made.1,
        )
