-- Arrays of one type have one kind, and children of one type.
use Rattle.std.proofs.Common.{arith, zero, suc, refl, ◌≡◌, ℕ, ◌<◌, ◌≤◌, List, [], ◌∷◌, Bool, true, false, length, map, get_or, sym, ap, ap₂, ◌∙◌}
use Rattle.std.specs.List.{All}
use Rattle.std.proofs.lemmas.List.{length-map}
use Rattle.std.proofs.lemmas.List.Elements.{All-map}
use Rattle.lower_types.specs.declared.PrimitiveType.{PrimitiveType}
use Rattle.lower_types.specs.declared.PrimitiveType.TheVariants.{Int64}
use Rattle.lower.specs.TypeTrees.{Plain, null, Single, list, large_list, fixed_list, entries, structure, choice, TypeTree, plain, single, group, dictionary, extension, field, FieldTrees, no_fields, more_fields}
use Rattle.lower.specs.Physical.{physical, physical_plain, physical_single}
use Rattle.lower.specs.Normal.{norm, norm_fields}
use Rattle.lower.specs.declared.datatypes.IntegerType.{IntegerType}
use Rattle.lower.specs.declared.datatypes.physical_type.PhysicalType.{PhysicalType}
use Rattle.lower.specs.declared.datatypes.physical_type.PhysicalType.TheVariants as Physicals
use Rattle.lower_flat_arrays.specs.FixedBinaries.{byte_size}
use Rattle.lower_validation.specs.ListTypes.{list_with, list_size}
use Rattle.lower_validation.specs.Keys.{values_type}
use Rattle.lower_validation.specs.Ids.{union_ids, union_mode}
use Rattle.lower_validation.specs.Fields.{child_fields, field_type, FieldTypes}
use Rattle.lower_arrays.specs.Layouts.{Parts, nothing, truths, numbers, fixed_bytes, bytes, texts, lists, fixed_lists, maps, records, choices, keys, Level, Layout, layout, Layouts, no_layouts, more_layouts, level, children, type_of}
use Rattle.lower_arrays.specs.Children.{child_count, types_of}
use Rattle.lower_arrays.specs.Choices.{child}
use Rattle.lower_arrays.specs.Slots.{PartsFit, IsArray, AreArrays}
use Rattle.lower_compute.specs.Copies.{HasTypeOf, AllHaveTypeOf, each_child, HaveChild}
use Rattle.lower_compute.proofs.KindFacts.{kind, kind_in, kind_is}

-- ---- the normal form of a type says the same of its arrays
physical-norm : (t : TypeTree) → physical (norm t) ≡ physical t
physical-norm (plain p) = refl
physical-norm (single s f) = refl
physical-norm (group g fs) = refl
physical-norm (dictionary k t o) = refl
physical-norm (extension n t x) = physical-norm t

size-norm : (t : TypeTree) → list_size (norm t) ≡ list_size t
size-norm (plain p) = refl
size-norm (single list f) = refl
size-norm (single large_list f) = refl
size-norm (single (fixed_list n) f) = refl
size-norm (single (entries b) f) = refl
size-norm (group g fs) = refl
size-norm (dictionary k t o) = refl
size-norm (extension n t x) = size-norm t

bytes-norm : (t : TypeTree) → byte_size (norm t) ≡ byte_size t
bytes-norm (plain p) = refl
bytes-norm (single s f) = refl
bytes-norm (group g fs) = refl
bytes-norm (dictionary k t o) = refl
bytes-norm (extension n t x) = bytes-norm t

ids-norm : (t : TypeTree) → union_ids (norm t) ≡ union_ids t
ids-norm (plain p) = refl
ids-norm (single s f) = refl
ids-norm (group structure fs) = refl
ids-norm (group (choice ids mode) fs) = refl
ids-norm (dictionary k t o) = refl
ids-norm (extension n t x) = ids-norm t

mode-norm : (t : TypeTree) → union_mode (norm t) ≡ union_mode t
mode-norm (plain p) = refl
mode-norm (single s f) = refl
mode-norm (group structure fs) = refl
mode-norm (group (choice ids mode) fs) = refl
mode-norm (dictionary k t o) = refl
mode-norm (extension n t x) = mode-norm t

values-norm : (t : TypeTree) → values_type (norm t) ≡ norm (values_type t)
values-norm (plain p) = refl
values-norm (single s f) = refl
values-norm (group g fs) = refl
values-norm (dictionary k t o) = refl
values-norm (extension n t x) = values-norm t

-- two types with one normal form
pub same_physical : (t u : TypeTree) → norm t ≡ norm u → physical t ≡ physical u
same_physical t u e = sym (physical-norm t) ∙ ap physical e ∙ physical-norm u

pub same_list_size : (t u : TypeTree) → norm t ≡ norm u → list_size t ≡ list_size u
same_list_size t u e = sym (size-norm t) ∙ ap list_size e ∙ size-norm u

pub same_byte_size : (t u : TypeTree) → norm t ≡ norm u → byte_size t ≡ byte_size u
same_byte_size t u e = sym (bytes-norm t) ∙ ap byte_size e ∙ bytes-norm u

pub same_ids : (t u : TypeTree) → norm t ≡ norm u → union_ids t ≡ union_ids u
same_ids t u e = sym (ids-norm t) ∙ ap union_ids e ∙ ids-norm u

pub same_values_type : (t u : TypeTree) → norm t ≡ norm u → norm (values_type t) ≡ norm (values_type u)
same_values_type t u e = sym (values-norm t) ∙ ap values_type e ∙ values-norm u

pub same_mode : (t u : TypeTree) → norm t ≡ norm u → union_mode t ≡ union_mode u
same_mode t u e = sym (mode-norm t) ∙ ap union_mode e ∙ mode-norm u

-- ---- the types of the children
abbrev field_types : FieldTrees → List TypeTree
field_types no_fields = []
field_types (more_fields f fs) = field_type f ∷ field_types fs

-- The types of the children that a type names, with those of a dictionary's values.
abbrev below : TypeTree → List TypeTree
below (plain p) = []
below (single s f) = field_type f ∷ []
below (group g fs) = field_types fs
below (dictionary k t o) = t ∷ []
below (extension n t x) = below t

abbrev has_values : PhysicalType → Bool
has_values (Physicals.Dictionary k) = true
has_values _ = false

plain_values : (p : Plain) → has_values (physical_plain p) ≡ false
plain_values null = refl
plain_values _ = refl

single_values : (s : Single) → has_values (physical_single s) ≡ false
single_values list = refl
single_values _ = refl

list_values : (p : PrimitiveType) → has_values (list_with p) ≡ false
list_values Int64 = refl
list_values _ = refl

group_below : (fs : FieldTrees) (ts : List TypeTree) → FieldTypes fs ts → map norm ts ≡ field_types (norm_fields fs)
group_below no_fields [] f = refl
group_below no_fields (t ∷ ts) f = absurd f
group_below (more_fields (field n t b md) fs) [] f = absurd f
group_below (more_fields (field n t b md) fs) (u ∷ us) f = ap₂ (λ x xs. x ∷ xs) (ap norm f.0) (group_below fs us f.1)

fields_below : (t : TypeTree) (ts : List TypeTree) → has_values (physical t) ≡ false → FieldTypes (child_fields t) ts → map norm ts ≡ below (norm t)
fields_below (plain p) [] d f = refl
fields_below (plain p) (u ∷ us) d f = absurd f
fields_below (single s (field n t b md)) [] d f = absurd f
fields_below (single s (field n t b md)) (u ∷ []) d f = ap (λ x. norm x ∷ []) f.0
fields_below (single s (field n t b md)) (u ∷ (v ∷ us)) d f = absurd f.1
fields_below (group g fs) ts d f = group_below fs ts f
fields_below (dictionary k t o) ts d f = absurd (let no : true ≡ false = d in cc)
fields_below (extension n t x) ts d f = fields_below t ts d f

values_below : (t : TypeTree) (k : IntegerType) → physical t ≡ Physicals.Dictionary k → below (norm t) ≡ norm (values_type t) ∷ []
values_below (dictionary q t o) k e = refl
values_below (extension n t x) k e = values_below t k e
values_below (plain p) k e = absurd (let no : false ≡ true = sym (plain_values p) ∙ ap has_values e in cc)
values_below (single s f) k e = absurd (let no : false ≡ true = sym (single_values s) ∙ ap has_values e in cc)
values_below (group structure fs) k e = absurd (let no : false ≡ true = ap has_values e in cc)
values_below (group (choice ids mode) fs) k e = absurd (let no : false ≡ true = ap has_values e in cc)

types_below : (h : Level) (p : Parts) (cs : Layouts) → 6 ≤ kind p → PartsFit h p cs → map norm (types_of cs) ≡ below (norm h.type)
types_below h (lists w p os) cs k f = fields_below h.type (types_of cs) (ap has_values f.0 ∙ list_values p) f.1
types_below h (fixed_lists s) cs k f = fields_below h.type (types_of cs) (ap has_values f.0) f.3
types_below h (maps os) cs k f = fields_below h.type (types_of cs) (ap has_values f.0) f.2
types_below h records cs k f = fields_below h.type (types_of cs) (ap has_values f.0) f.2
types_below h (choices ids ts os) cs k f = fields_below h.type (types_of cs) (ap has_values f.2.lies) f.2.types
types_below h (keys q ks) no_layouts k f = absurd f
types_below h (keys q ks) (more_layouts c no_layouts) k f = ap (λ x. x ∷ []) f.1 ∙ sym (values_below h.type q f.0)
types_below h (keys q ks) (more_layouts c (more_layouts d ds)) k f = absurd f
types_below h nothing cs k f = absurd (omega (arith, k))
types_below h (truths xs) cs k f = absurd (omega (arith, k))
types_below h (numbers p xs) cs k f = absurd (omega (arith, k))
types_below h (fixed_bytes s xs) cs k f = absurd (omega (arith, k))
types_below h (bytes p os xs) cs k f = absurd (omega (arith, k))
types_below h (texts p os xs) cs k f = absurd (omega (arith, k))

types_at : (cs : Layouts) (k : ℕ) → get_or (map norm (types_of cs)) k (plain null) ≡ norm (type_of (child cs k))
types_at no_layouts k = refl
types_at (more_layouts c cs) zero = refl
types_at (more_layouts c cs) (suc k) = types_at cs k

types_count : (cs : Layouts) → length (types_of cs) ≡ child_count cs
types_count no_layouts = refl
types_count (more_layouts c cs) = let rest = types_count cs in omega (arith, rest)

-- ---- two arrays of one type
same_types : (m l : Layout) → IsArray m → IsArray l → HasTypeOf m l → 6 ≤ kind (level m).parts → 6 ≤ kind (level l).parts
    → map norm (types_of (children l)) ≡ map norm (types_of (children m))
same_types (layout h cs) (layout g ds) is are e k j = types_below g g.parts ds j are.1 ∙ ap below e ∙ sym (types_below h h.parts cs k is.1)

pub same_kind : (m l : Layout) → IsArray m → IsArray l → HasTypeOf m l → kind (level l).parts ≡ kind (level m).parts
same_kind (layout h cs) (layout g ds) is are e =
    sym (kind_is g g.parts ds are.1) ∙ ap kind_in (same_physical g.type h.type e) ∙ kind_is h h.parts cs is.1

nested_kind : (m l : Layout) → IsArray m → IsArray l → HasTypeOf m l → 6 ≤ kind (level m).parts → 6 ≤ kind (level l).parts
nested_kind m l is are e k = let same = same_kind m l is are e in omega (arith, same, k)

pub same_count : (m l : Layout) → IsArray m → IsArray l → HasTypeOf m l → 6 ≤ kind (level m).parts → child_count (children l) ≡ child_count (children m)
same_count m l is are e k =
    let same : length (map norm (types_of (children l))) ≡ length (map norm (types_of (children m))) =
    ap (λ ts. length ts) (same_types m l is are e k (nested_kind m l is are e k))
    in
    sym (length-map (types_of (children l)) norm ∙ types_count (children l))
    ∙ same
    ∙ length-map (types_of (children m)) norm
    ∙ types_count (children m)

child_type : (m l : Layout) → IsArray m → IsArray l → HasTypeOf m l → 6 ≤ kind (level m).parts → (k : ℕ) → HasTypeOf (child (children m) k) (child (children l) k)
child_type m l is are e k i =
    sym (types_at (children l) i)
    ∙ ap (λ ts. get_or ts i (plain null)) (same_types m l is are e k (nested_kind m l is are e k))
    ∙ types_at (children m) i

arrays_at : (cs : Layouts) (k : ℕ) → AreArrays cs → IsArray (child cs k)
arrays_at no_layouts k are = (tt, (refl, refl), tt)
arrays_at (more_layouts c cs) zero are = are.0
arrays_at (more_layouts c cs) (suc k) are = arrays_at cs k are.1

pub child_is_array : (l : Layout) (k : ℕ) → IsArray l → IsArray (child (children l) k)
child_is_array (layout h cs) k is = arrays_at cs k is.2

pub parts_fit : (l : Layout) → IsArray l → PartsFit (level l) (level l).parts (children l)
parts_fit (layout h cs) is = is.1

-- ---- some arrays of the type of m
module _ (m : Layout) (ls : List Layout) (like : AllHaveTypeOf m ls) where
  pub kinds : All (λ l. kind (level l).parts ≡ kind (level m).parts) ls
  kinds = λ k d lt. same_kind m (get_or ls k d) like.0 (like.1 k d lt) (like.2 k d lt)

  pub physicals : All (λ l. physical (type_of l) ≡ physical (type_of m)) ls
  physicals = λ k d lt. same_physical (type_of (get_or ls k d)) (type_of m) (like.2 k d lt)

  module _ (nested : 6 ≤ kind (level m).parts) where
    pub counts : All (λ l. child_count (children l) ≡ child_count (children m)) ls
    counts = λ k d lt. same_count m (get_or ls k d) like.0 (like.1 k d lt) (like.2 k d lt) nested

    -- so have their children
    pub like_child : (k : ℕ) → AllHaveTypeOf (child (children m) k) (each_child k ls)
    like_child k = (
      child_is_array m k like.0,
      All-map IsArray (λ l. child (children l) k) ls (λ i d lt. child_is_array (get_or ls i d) k (like.1 i d lt)),
      All-map (HasTypeOf (child (children m) k)) (λ l. child (children l) k) ls
          (λ i d lt. child_type m (get_or ls i d) like.0 (like.1 i d lt) (like.2 i d lt) nested k),
    )

    pub have_child : (k : ℕ) → k < child_count (children m) → HaveChild k ls
    have_child k lt = λ i d below. let same = counts i d below in omega (arith, same, lt)
