-- What is written of an array has the entries of its type.
use Rattle.std.proofs.Common.{◌≡◌, ℕ, ℤ, ◌+◌, Bool, true, false, List, [], ◌∷◌, ◌++◌, length, None, Some, refl, sym, ap, ◌∙◌, arith, length-append}
use Rattle.lower.specs.Counts.{nodes, field_nodes, fields_nodes, plain_buffers, union_buffers, buffers, field_buffers, fields_buffers}
use Rattle.lower.specs.Physical.{physical, physical_plain}
use Rattle.lower.specs.TypeTrees.{Plain, null, binary, large_binary, utf8, large_utf8, list, large_list, fixed_list, entries, structure, choice, TypeTree, plain, single, group, dictionary, extension, FieldTree, field, FieldTrees, no_fields, more_fields}
use Rattle.lower.specs.declared.datatypes.UnionMode.{UnionMode}
use Rattle.lower.specs.declared.datatypes.UnionMode.TheVariants.{Sparse, Dense}
use Rattle.lower.specs.declared.datatypes.physical_type.PhysicalType.{PhysicalType}
use Rattle.lower.specs.declared.datatypes.physical_type.PhysicalType.TheVariants as Physicals
use Rattle.lower_types.specs.declared.PrimitiveType.{PrimitiveType}
use Rattle.lower_types.specs.declared.PrimitiveType.TheVariants.{Int64}
use Rattle.lower_arrays.specs.Children.{child_fields, field_type, ChildTypes}
use Rattle.lower_validation.specs.Ids.{union_mode, OffsetsGiven}
use Rattle.lower_arrays.specs.Cuts.{cut_parts, cut_validity}
use Rattle.lower_arrays.specs.Layouts.{Parts, nothing, truths, numbers, fixed_bytes, bytes, texts, lists, fixed_lists, maps, records, choices, keys, Level, Layout, layout, Layouts, no_layouts, more_layouts, len_of, type_of}
use Rattle.lower_validation.specs.ListTypes.{list_with}
use Rattle.lower_arrays.specs.Slots.{PartsFit, AreArrays, IsArray}
use Rattle.ipc_model.specs.Offers.{slots_along, levels_along, written_levels, levels_below, buffer_lengths, body_lengths, HaveEntries, EntryCountLaw}

-- ---- types

-- the buffers of a level, without those of its children
abbrev own_buffers : PhysicalType → UnionMode → ℕ
own_buffers Physicals.Null mode = 0
own_buffers Physicals.Binary mode = 3
own_buffers Physicals.LargeBinary mode = 3
own_buffers Physicals.Utf8 mode = 3
own_buffers Physicals.LargeUtf8 mode = 3
own_buffers Physicals.FixedSizeList mode = 1
own_buffers Physicals.Struct mode = 1
own_buffers Physicals.Union mode = union_buffers mode
own_buffers _ mode = 2

-- it has children
abbrev is_nested : PhysicalType → Bool
is_nested Physicals.List = true
is_nested Physicals.FixedSizeList = true
is_nested Physicals.LargeList = true
is_nested Physicals.Struct = true
is_nested Physicals.Union = true
is_nested Physicals.Map = true
is_nested _ = false

nodes_by_children : (t : TypeTree) → nodes t ≡ 1 + fields_nodes (child_fields t)
nodes_by_children (plain p) = refl
nodes_by_children (single s f) = omega arith
nodes_by_children (group g fs) = refl
nodes_by_children (dictionary k t ordered) = refl
nodes_by_children (extension name t text) = nodes_by_children t

plain_own : (p : Plain) (mode : UnionMode) → plain_buffers p ≡ own_buffers (physical_plain p) mode + 0
plain_own null mode = refl
plain_own binary mode = refl
plain_own large_binary mode = refl
plain_own utf8 mode = refl
plain_own large_utf8 mode = refl
plain_own _ mode = refl

buffers_by_children : (t : TypeTree) → buffers 0 t ≡ own_buffers (physical t) (union_mode t) + fields_buffers 0 (child_fields t)
buffers_by_children (plain p) = plain_own p Sparse
buffers_by_children (single list f) = omega arith
buffers_by_children (single large_list f) = omega arith
buffers_by_children (single (fixed_list n) f) = omega arith
buffers_by_children (single (entries sorted) f) = omega arith
buffers_by_children (group structure fs) = refl
buffers_by_children (group (choice ids mode) fs) = omega arith
buffers_by_children (dictionary k t ordered) = refl
buffers_by_children (extension name t text) = buffers_by_children t

childless : (t : TypeTree) → is_nested (physical t) ≡ false → child_fields t ≡ no_fields
childless (plain p) h = refl
childless (single list f) h = absurd cc
childless (single large_list f) h = absurd cc
childless (single (fixed_list n) f) h = absurd cc
childless (single (entries sorted) f) h = absurd cc
childless (group structure fs) h = absurd cc
childless (group (choice ids mode) fs) h = absurd cc
childless (dictionary k t ordered) h = refl
childless (extension name t text) h = childless t h

bytes_fit : (h : Level) (p : PrimitiveType) (os xs : List ℕ) → PartsFit h (bytes p os xs) no_layouts → (3 ≡ own_buffers (physical h.type) (union_mode h.type)) × (is_nested (physical h.type) ≡ false)
bytes_fit h Int64 os xs f = (sym (ap (λ q. own_buffers q (union_mode h.type)) f.0), ap is_nested f.0)
bytes_fit h _ os xs f = (sym (ap (λ q. own_buffers q (union_mode h.type)) f.0), ap is_nested f.0)

texts_fit : (h : Level) (p : PrimitiveType) (os xs : List ℕ) → PartsFit h (texts p os xs) no_layouts → (3 ≡ own_buffers (physical h.type) (union_mode h.type)) × (is_nested (physical h.type) ≡ false)
texts_fit h Int64 os xs f = (sym (ap (λ q. own_buffers q (union_mode h.type)) f.0), ap is_nested f.0)
texts_fit h _ os xs f = (sym (ap (λ q. own_buffers q (union_mode h.type)) f.0), ap is_nested f.0)

lists_are : (p : PrimitiveType) (mode : UnionMode) → own_buffers (list_with p) mode ≡ 2
lists_are Int64 mode = refl
lists_are _ mode = refl

sparse_one : (mode : UnionMode) (n : ℕ) → OffsetsGiven mode None n → union_buffers mode ≡ 1
sparse_one Sparse n h = refl
sparse_one Dense n h = absurd h

dense_two : (mode : UnionMode) (os : List ℤ) (n : ℕ) → OffsetsGiven mode (Some os) n → union_buffers mode ≡ 2
dense_two Sparse os n h = absurd h
dense_two Dense os n h = refl

-- ---- one level

-- its own entries and those of the levels below it
record Counted (below : List Level) (bs : List ℕ) (t : TypeTree) : Type 0 where
  pub node_count : 1 + length below ≡ nodes t
  pub buffer_count : length bs + length (body_lengths below) ≡ buffers 0 t

flat : (t : TypeTree) (bs : List ℕ) (q : PhysicalType) → physical t ≡ q → is_nested q ≡ false → length bs ≡ own_buffers q (union_mode t) → Counted [] bs t
flat t bs q lies no_child own =
    let none : child_fields t ≡ no_fields = childless t (ap is_nested lies ∙ no_child) in
    let ns : fields_nodes (child_fields t) ≡ 0 = ap fields_nodes none in
    let bs_none : fields_buffers 0 (child_fields t) ≡ 0 = ap (fields_buffers 0) none in
    let same : own_buffers (physical t) (union_mode t) ≡ own_buffers q (union_mode t) = ap (λ r. own_buffers r (union_mode t)) lies in
    record { node_count = omega (arith, nodes_by_children t, ns); buffer_count = omega (arith, buffers_by_children t, bs_none, own, same) }

-- with a child for each field of the type
nested : (t : TypeTree) (below : List Level) (bs : List ℕ) (q : PhysicalType) → physical t ≡ q → length bs ≡ own_buffers q (union_mode t)
    → HaveEntries below (fields_nodes (child_fields t)) (fields_buffers 0 (child_fields t)) → Counted below bs t
nested t below bs q lies own h =
    let same : own_buffers (physical t) (union_mode t) ≡ own_buffers q (union_mode t) = ap (λ r. own_buffers r (union_mode t)) lies in
    record {
      node_count = omega (arith, nodes_by_children t, h.node_count);
      buffer_count = omega (arith, buffers_by_children t, h.buffer_count, own, same);
    }

-- The corresponding slots of each child are written.
abbrev takes_children : Parts → Bool
takes_children (lists _ p os) = true
takes_children (maps os) = true
takes_children (fixed_lists size) = true
takes_children records = true
takes_children (choices ids ts os) = true
takes_children _ = false

along_some : (p : Parts) (o n k : ℕ) → takes_children p ≡ true → (r : ℕ × ℕ) × (slots_along p o n k ≡ Some r)
along_some (lists _ p os) o n k h = (_, refl)
along_some (maps os) o n k h = (_, refl)
along_some (fixed_lists size) o n k h = (_, refl)
along_some records o n k h = (_, refl)
along_some (choices ids ts None) o n k h = (_, refl)
along_some (choices ids ts (Some os)) o n k h = (_, refl)
along_some nothing o n k h = absurd cc
along_some (truths xs) o n k h = absurd cc
along_some (numbers p xs) o n k h = absurd cc
along_some (fixed_bytes size xs) o n k h = absurd cc
along_some (bytes p os xs) o n k h = absurd cc
along_some (texts p os xs) o n k h = absurd cc
along_some (keys k1 ks) o n k h = absurd cc

abbrev Below : Parts → Layouts → ℕ → ℕ → TypeTree → Type 0
Below p cs o n t = takes_children p ≡ true → ChildTypes (child_fields t) cs
    → HaveEntries (levels_below cs p o n) (fields_nodes (child_fields t)) (fields_buffers 0 (child_fields t))

level_entries : (h : Level) (p : Parts) (cs : Layouts) (o n : ℕ) → PartsFit h p cs → Below p cs o n h.type
    → Counted (levels_below cs p o n) (buffer_lengths (cut_parts o n p) (cut_validity o n h.validity) n) h.type
level_entries h nothing no_layouts o n f below = flat h.type _ Physicals.Null f.0 refl refl
level_entries h nothing (more_layouts c cs) o n f below = absurd f
level_entries h (truths xs) no_layouts o n f below = flat h.type _ Physicals.Boolean f.0 refl refl
level_entries h (truths xs) (more_layouts c cs) o n f below = absurd f
level_entries h (numbers p xs) no_layouts o n f below = flat h.type _ (Physicals.Primitive p) f.0 refl refl
level_entries h (numbers p xs) (more_layouts c cs) o n f below = absurd f
level_entries h (fixed_bytes size xs) no_layouts o n f below = flat h.type _ Physicals.FixedSizeBinary f.0 refl refl
level_entries h (fixed_bytes size xs) (more_layouts c cs) o n f below = absurd f
level_entries h (bytes p os xs) no_layouts o n f below =
    let (three, no_child) = bytes_fit h p os xs f in flat h.type _ (physical h.type) refl no_child three
level_entries h (bytes p os xs) (more_layouts c cs) o n f below = absurd f
level_entries h (texts p os xs) no_layouts o n f below =
    let (three, no_child) = texts_fit h p os xs f in flat h.type _ (physical h.type) refl no_child three
level_entries h (texts p os xs) (more_layouts c cs) o n f below = absurd f
level_entries h (keys k ks) no_layouts o n f below = absurd f
level_entries h (keys k ks) (more_layouts c no_layouts) o n f below = flat h.type _ (Physicals.Dictionary k) f.0 refl refl
level_entries h (keys k ks) (more_layouts c (more_layouts d cs)) o n f below = absurd f
level_entries h (choices ids ts None) cs o n f below =
    nested h.type _ _ Physicals.Union f.2.lies (sym (sparse_one (union_mode h.type) (length ts) f.2.given)) (below refl f.2.types)
level_entries h (choices ids ts (Some os)) cs o n f below =
    nested h.type _ _ Physicals.Union f.2.lies (sym (dense_two (union_mode h.type) os (length ts) f.2.given)) (below refl f.2.types)
level_entries h (lists _ p os) cs o n f below =
    nested h.type _ _ (list_with p) f.0 (sym (lists_are p (union_mode h.type))) (below refl f.1)
level_entries h (fixed_lists size) cs o n f below = nested h.type _ _ Physicals.FixedSizeList f.0 refl (below refl f.3)
level_entries h (maps os) cs o n f below = nested h.type _ _ Physicals.Map f.0 refl (below refl f.2)
level_entries h records cs o n f below = nested h.type _ _ Physicals.Struct f.0 refl (below refl f.2)

-- ---- arrays

lengths-append : (xs ys : List Level) → length (body_lengths (xs ++ ys)) ≡ length (body_lengths xs) + length (body_lengths ys)
lengths-append [] ys = omega arith
lengths-append (x ∷ xs) ys =
    let one : List ℕ = buffer_lengths x.parts x.validity x.len in
    let a : length (one ++ body_lengths (xs ++ ys)) ≡ length one + length (body_lengths (xs ++ ys)) = length-append one (body_lengths (xs ++ ys)) in
    let b : length (one ++ body_lengths xs) ≡ length one + length (body_lengths xs) = length-append one (body_lengths xs) in
    omega (arith, a, b, lengths-append xs ys)

whole_level : (h : Level) (cs : Layouts) (o n : ℕ) → Counted (levels_below cs h.parts o n) (buffer_lengths (cut_parts o n h.parts) (cut_validity o n h.validity) n) h.type
    → HaveEntries (written_levels (layout h cs) o n) (nodes h.type) (buffers 0 h.type)
whole_level h cs o n c =
    let own : List ℕ = buffer_lengths (cut_parts o n h.parts) (cut_validity o n h.validity) n in
    let all : length (own ++ body_lengths (levels_below cs h.parts o n)) ≡ length own + length (body_lengths (levels_below cs h.parts o n)) =
    length-append own (body_lengths (levels_below cs h.parts o n)) in
    record { node_count = omega (arith, c.node_count); buffer_count = omega (arith, c.buffer_count, all) }

field_entries : (f : FieldTree) → (field_nodes f ≡ nodes (field_type f)) × (field_buffers 0 f ≡ buffers 0 (field_type f))
field_entries (field name t nullable metadata) = (refl, refl)

one_more : (f : FieldTree) (fs : FieldTrees) (t : TypeTree) (here rest all : List Level) → all ≡ here ++ rest → t ≡ field_type f
    → HaveEntries here (nodes t) (buffers 0 t) → HaveEntries rest (fields_nodes fs) (fields_buffers 0 fs)
    → HaveEntries all (fields_nodes (more_fields f fs)) (fields_buffers 0 (more_fields f fs))
one_more f fs t here rest all e same h r =
    let ns : length all ≡ length here + length rest = ap length e ∙ length-append here rest in
    let bs : length (body_lengths all) ≡ length (body_lengths here) + length (body_lengths rest) = ap (λ hs. length (body_lengths hs)) e ∙ lengths-append here rest in
    let t_nodes : nodes t ≡ field_nodes f = ap nodes same ∙ sym (field_entries f).0 in
    let t_buffers : buffers 0 t ≡ field_buffers 0 f = ap (buffers 0) same ∙ sym (field_entries f).1 in
    record { node_count = omega (arith, ns, h.node_count, r.node_count, t_nodes); buffer_count = omega (arith, bs, h.buffer_count, r.buffer_count, t_buffers) }

mutual
  entries_of : (l : Layout) (o n : ℕ) → IsArray l → HaveEntries (written_levels l o n) (nodes (type_of l)) (buffers 0 (type_of l))
  entries_of (layout h cs) o n a =
      whole_level h cs o n (level_entries h h.parts cs o n a.1 (λ takes types. below_entries cs (child_fields h.type) h.parts o n takes types a.2))

  below_entries : (cs : Layouts) (fs : FieldTrees) (p : Parts) (o n : ℕ) → takes_children p ≡ true → ChildTypes fs cs → AreArrays cs
      → HaveEntries (levels_below cs p o n) (fields_nodes fs) (fields_buffers 0 fs)
  below_entries no_layouts no_fields p o n takes types a = record { node_count = refl; buffer_count = refl }
  below_entries no_layouts (more_fields f fs) p o n takes types a = absurd types
  below_entries (more_layouts c cs) no_fields p o n takes types a = absurd types
  below_entries (more_layouts c cs) (more_fields f fs) p o n takes types a =
      let along = along_some p o n (len_of c) takes in
      one_more f fs (type_of c) (written_levels c along.0.0 along.0.1) (levels_below cs p o n) (levels_below (more_layouts c cs) p o n)
      (ap (λ r. levels_along r (λ from k. written_levels c from k) ++ levels_below cs p o n) along.1) types.0
      (entries_of c along.0.0 along.0.1 a.0) (below_entries cs fs p o n takes types.1 a.1)

pub entry_count_law : EntryCountLaw
entry_count_law l o n a = entries_of l o n a
