-- The kinds of arrays, by their types.
use Rattle.std.proofs.Common.{arith, refl, ◌≡◌, ℕ, ◌<◌, ◌≤◌, sym, ap, ◌∙◌}
use Rattle.lower_types.specs.declared.PrimitiveType.{PrimitiveType}
use Rattle.lower_types.specs.declared.PrimitiveType.TheVariants.{Int32, Int64, Int8}
use Rattle.lower.specs.Physical.{physical}
use Rattle.lower.specs.declared.datatypes.physical_type.PhysicalType.{PhysicalType}
use Rattle.lower.specs.declared.datatypes.physical_type.PhysicalType.TheVariants as Physicals
use Rattle.lower_flat_arrays.specs.Binaries.{bytes_with}
use Rattle.lower_flat_arrays.specs.Texts.{texts_with}
use Rattle.lower_validation.specs.ListTypes.{list_with}
use Rattle.lower_arrays.specs.Layouts.{Parts, nothing, truths, numbers, fixed_bytes, bytes, texts, lists, fixed_lists, maps, records, choices, keys, Level, Layouts, no_layouts, more_layouts}
use Rattle.lower_arrays.specs.Children.{child_count}
use Rattle.lower_arrays.specs.Slots.{PartsFit}
use Rattle.lower_arrays.specs.Primitives.{AreNumbersOf}
use Rattle.lower_compute.specs.Kinds.{AreTruths, AreFixedBytes, AreBytes, AreStrings, HaveOffsets, AreChoices, AreKeys}

-- The number of a kind of parts; from 6 on there are children.
abbrev pub kind : Parts → ℕ
kind nothing = 0
kind (truths _) = 1
kind (numbers _ _) = 2
kind (fixed_bytes _ _) = 3
kind (bytes _ _ _) = 4
kind (texts _ _ _) = 5
kind (lists _ _ _) = 6
kind (fixed_lists _) = 7
kind (maps _) = 8
kind records = 9
kind (choices _ _ _) = 10
kind (keys _ _) = 11

-- The number of the kind with a physical type.
abbrev pub kind_in : PhysicalType → ℕ
kind_in Physicals.Null = 0
kind_in Physicals.Boolean = 1
kind_in (Physicals.Primitive _) = 2
kind_in Physicals.FixedSizeBinary = 3
kind_in Physicals.Binary = 4
kind_in Physicals.LargeBinary = 4
kind_in Physicals.Utf8 = 5
kind_in Physicals.LargeUtf8 = 5
kind_in Physicals.List = 6
kind_in Physicals.LargeList = 6
kind_in Physicals.FixedSizeList = 7
kind_in Physicals.Map = 8
kind_in Physicals.Struct = 9
kind_in Physicals.Union = 10
kind_in (Physicals.Dictionary _) = 11

bytes_kind : (p : PrimitiveType) → kind_in (bytes_with p) ≡ 4
bytes_kind Int64 = refl
bytes_kind _ = refl

texts_kind : (p : PrimitiveType) → kind_in (texts_with p) ≡ 5
texts_kind Int64 = refl
texts_kind _ = refl

lists_kind : (p : PrimitiveType) → kind_in (list_with p) ≡ 6
lists_kind Int64 = refl
lists_kind _ = refl

pub kind_is : (h : Level) (p : Parts) (cs : Layouts) → PartsFit h p cs → kind_in (physical h.type) ≡ kind p
kind_is h nothing no_layouts f = ap kind_in f.0
kind_is h nothing (more_layouts c cs) f = absurd f
kind_is h (truths xs) no_layouts f = ap kind_in f.0
kind_is h (truths xs) (more_layouts c cs) f = absurd f
kind_is h (numbers p xs) no_layouts f = ap kind_in f.0
kind_is h (numbers p xs) (more_layouts c cs) f = absurd f
kind_is h (fixed_bytes s xs) no_layouts f = ap kind_in f.0
kind_is h (fixed_bytes s xs) (more_layouts c cs) f = absurd f
kind_is h (bytes p os xs) no_layouts f = ap kind_in f.0 ∙ bytes_kind p
kind_is h (bytes p os xs) (more_layouts c cs) f = absurd f
kind_is h (texts p os xs) no_layouts f = ap kind_in f.0 ∙ texts_kind p
kind_is h (texts p os xs) (more_layouts c cs) f = absurd f
kind_is h (lists w p os) cs f = ap kind_in f.0 ∙ lists_kind p
kind_is h (fixed_lists s) cs f = ap kind_in f.0
kind_is h (maps os) cs f = ap kind_in f.0
kind_is h records cs f = ap kind_in f.0
kind_is h (choices ids ts os) cs f = ap kind_in f.2.lies
kind_is h (keys k ks) no_layouts f = absurd f
kind_is h (keys k ks) (more_layouts c no_layouts) f = ap kind_in f.0
kind_is h (keys k ks) (more_layouts c (more_layouts d ds)) f = absurd f

-- only these kinds have children
pub nested_is : (h : Level) (p : Parts) (cs : Layouts) → PartsFit h p cs → 0 < child_count cs → 6 ≤ kind p
nested_is h nothing no_layouts f lt = absurd (omega (arith, lt))
nested_is h nothing (more_layouts c cs) f lt = absurd f
nested_is h (truths xs) no_layouts f lt = absurd (omega (arith, lt))
nested_is h (truths xs) (more_layouts c cs) f lt = absurd f
nested_is h (numbers p xs) no_layouts f lt = absurd (omega (arith, lt))
nested_is h (numbers p xs) (more_layouts c cs) f lt = absurd f
nested_is h (fixed_bytes s xs) no_layouts f lt = absurd (omega (arith, lt))
nested_is h (fixed_bytes s xs) (more_layouts c cs) f lt = absurd f
nested_is h (bytes p os xs) no_layouts f lt = absurd (omega (arith, lt))
nested_is h (bytes p os xs) (more_layouts c cs) f lt = absurd f
nested_is h (texts p os xs) no_layouts f lt = absurd (omega (arith, lt))
nested_is h (texts p os xs) (more_layouts c cs) f lt = absurd f
nested_is h (lists w p os) cs f lt = omega arith
nested_is h (fixed_lists s) cs f lt = omega arith
nested_is h (maps os) cs f lt = omega arith
nested_is h records cs f lt = omega arith
nested_is h (choices ids ts os) cs f lt = omega arith
nested_is h (keys k ks) cs f lt = omega arith

-- ---- the kind that a number means
pub truths_are : (p : Parts) → kind p ≡ 1 → AreTruths p
truths_are (truths xs) e = tt
truths_are _ e = absurd (omega (arith, e))

pub fixed_bytes_are : (p : Parts) → kind p ≡ 3 → AreFixedBytes p
fixed_bytes_are (fixed_bytes s xs) e = tt
fixed_bytes_are _ e = absurd (omega (arith, e))

pub choices_are : (p : Parts) → kind p ≡ 10 → AreChoices p
choices_are (choices ids ts os) e = tt
choices_are _ e = absurd (omega (arith, e))

pub keys_are : (p : Parts) → kind p ≡ 11 → AreKeys p
keys_are (keys k ks) e = tt
keys_are _ e = absurd (omega (arith, e))

-- ---- and the width
abbrev number_in : PhysicalType → PrimitiveType
number_in (Physicals.Primitive p) = p
number_in _ = Int8

pub numbers_are : (h : Level) (p : Parts) (cs : Layouts) (q : PrimitiveType) → PartsFit h p cs → kind p ≡ 2 → physical h.type ≡ Physicals.Primitive q → AreNumbersOf q p
numbers_are h (numbers p xs) no_layouts q f k e = ap number_in (sym f.0 ∙ e)
numbers_are h (numbers p xs) (more_layouts c cs) q f k e = absurd f
numbers_are h _ cs q f k e = absurd (omega (arith, k))

pub bytes_are : (h : Level) (p : Parts) (cs : Layouts) (q : PrimitiveType) → PartsFit h p cs → kind p ≡ 4 → physical h.type ≡ bytes_with q → AreBytes q p
bytes_are h (bytes p os xs) no_layouts q f k e = sym f.0 ∙ e
bytes_are h (bytes p os xs) (more_layouts c cs) q f k e = absurd f
bytes_are h _ cs q f k e = absurd (omega (arith, k))

pub texts_are : (h : Level) (p : Parts) (cs : Layouts) (q : PrimitiveType) → PartsFit h p cs → kind p ≡ 5 → physical h.type ≡ texts_with q → AreStrings q p
texts_are h (texts p os xs) no_layouts q f k e = sym f.0 ∙ e
texts_are h (texts p os xs) (more_layouts c cs) q f k e = absurd f
texts_are h _ cs q f k e = absurd (omega (arith, k))

pub lists_are : (h : Level) (p : Parts) (cs : Layouts) (q : PrimitiveType) → PartsFit h p cs → kind p ≡ 6 → physical h.type ≡ list_with q → HaveOffsets q p
lists_are h (lists w p os) cs q f k e = sym f.0 ∙ e
lists_are h _ cs q f k e = absurd (omega (arith, k))

pub maps_are : (p : Parts) → kind p ≡ 8 → HaveOffsets Int32 p
maps_are (maps os) e = refl
maps_are _ e = absurd (omega (arith, e))
