-- The parts that builders keep break no rule of arrays.
use Rattle.std.proofs.Common.{arith, refl, ◌≡◌, ℕ, ◌+◌, ◌*◌, ◌/◌, ◌<◌, List, Bool, length, sym, ap, subst, ◌∙◌}
use Rattle.std.specs.Prelude.{Option}
use Rattle.std.proofs.lemmas.Nat.{div-mul-add}
use Rattle.lower.specs.TypeTrees.{TypeTree, plain, fixed_binary}
use Rattle.lower.specs.Physical.{physical}
use Rattle.lower.specs.declared.error.Error.{Error}
use Rattle.lower.specs.declared.datatypes.physical_type.PhysicalType.TheVariants.{Primitive, Boolean}
use Rattle.lower_types.specs.declared.PrimitiveType.{PrimitiveType}
use Rattle.lower_flat_arrays.specs.Validities.{Validity, ValidityFits}
use Rattle.lower_flat_arrays.specs.Primitives.{primitive_seen, BreaksPrimitive}
use Rattle.lower_flat_arrays.specs.Booleans.{boolean_seen, BreaksBoolean}
use Rattle.lower_flat_arrays.specs.Spans.{spans_seen}
use Rattle.lower_flat_arrays.specs.Binaries.{bytes_with, BreaksBinary}
use Rattle.lower_flat_arrays.specs.Texts.{texts_with, BreaksText}
use Rattle.lower_flat_arrays.specs.FixedBinaries.{FixedBinarySeen, fixed_seen, BreaksFixedBinary}
use Rattle.lower_builders.specs.Validity.{as_validity}
use Rattle.lower_flat_arrays.specs.Options.{where_set, options, pieces}
use Rattle.lower_builders.specs.Bytes.{ArePartsOf, AreUtf8}
use Rattle.lower_builders.specs.FixedBytes.{pieces_of}
use Rattle.lower_builders.proofs.Slots.{validity_fits, options-where}
use Rattle.lower_builders.proofs.FixedPushes.{length-pieces}
use Rattle.lower_builders.proofs.TextPushes.{texts_of}
use Rattle.lower_builders.proofs.Rules.{primitive_breaks_none, boolean_breaks_none, binary_breaks_none, text_breaks_none, fixed_breaks_none}

fits_by : (v : Validity) (bits : List Bool) (n : ℕ) → v ≡ as_validity bits → length bits ≡ n → ValidityFits v n
fits_by v bits n same count = subst (λ w. ValidityFits w n) (sym same) (validity_fits bits n count)

pub no_primitive_error : {T : Type 0} (p : PrimitiveType) (t : TypeTree) (xs : List T) (bits : List Bool) (v : Validity) (e : Error)
    → physical t ≡ Primitive p → length bits ≡ length xs → v ≡ as_validity bits → BreaksPrimitive p (primitive_seen t xs v) e → ⊥
no_primitive_error p t xs bits v e lies count same breaks =
    primitive_breaks_none p (primitive_seen t xs v) e (record { lies = lies; fits = fits_by v bits (length xs) same count }) breaks

pub no_boolean_error : (t : TypeTree) (xs bits : List Bool) (v : Validity) (e : Error)
    → physical t ≡ Boolean → length bits ≡ length xs → v ≡ as_validity bits → BreaksBoolean (boolean_seen t xs v) e → ⊥
no_boolean_error t xs bits v e lies count same breaks =
    boolean_breaks_none (boolean_seen t xs v) e (record { lies = lies; fits = fits_by v bits (length xs) same count }) breaks

pub no_binary_error : (p : PrimitiveType) (t : TypeTree) (slots : List (Option (List ℕ))) (os xs : List ℕ) (v : Validity) (e : Error)
    → physical t ≡ bytes_with p → ArePartsOf slots os xs v → BreaksBinary p (spans_seen t os xs v) e → ⊥
no_binary_error p t slots os xs v e lies are breaks =
    binary_breaks_none p (spans_seen t os xs v) e (record { lies = lies; offsets = are.offsets; within = are.within; fits = are.fits }) breaks

pub no_text_error : (p : PrimitiveType) (t : TypeTree) (slots : List (Option (List ℕ))) (os xs : List ℕ) (v : Validity) (e : Error)
    → physical t ≡ texts_with p → ArePartsOf slots os xs v → AreUtf8 slots → BreaksText p (spans_seen t os xs v) e → ⊥
no_text_error p t slots os xs v e lies are texts breaks =
    text_breaks_none p (spans_seen t os xs v) e (record { lies = lies; offsets = are.offsets; within = are.within; texts = texts_of slots os xs texts are.empty; fits = are.fits }) breaks

-- the number of slots of a size
fixed_count : (size n m : ℕ) → 0 < size → m ≡ n * size → m / size ≡ n
fixed_count size n m some whole =
    let e : m ≡ n * size + 0 = omega (arith, whole) in
    ap (λ k. k / size) e ∙ div-mul-add n size 0 some

pub no_fixed_error : (size : ℕ) (xs : List ℕ) (bits : List Bool) (v : Validity) (e : Error)
    → 0 < size → length xs ≡ length bits * size → v ≡ as_validity bits → BreaksFixedBinary (fixed_seen (plain (fixed_binary size)) xs v) e → ⊥
no_fixed_error size xs bits v e some whole same breaks =
    let count = fixed_count size (length bits) (length xs) some whole in
    fixed_breaks_none (fixed_seen (plain (fixed_binary size)) xs v) e (record {
      lies = refl;
      named = refl;
      positive = some;
      whole = whole ∙ ap (λ n. n * size) (sym count);
      fits = fits_by v bits (length xs / size) same (sym count);
    }) breaks

pub fixed_slots_are : (size : ℕ) (xs : List ℕ) (bits : List Bool) (v : Validity) (a : FixedBinarySeen)
    → 0 < size → length xs ≡ length bits * size → v ≡ as_validity bits → a ≡ fixed_seen (plain (fixed_binary size)) xs v
    → options a.validity (pieces a) ≡ where_set bits (pieces_of size (length bits) xs)
fixed_slots_are size xs bits v a some whole same is =
    ap (λ s. options s.validity (pieces s)) is
    ∙ ap (λ n. options v (pieces_of size n xs)) (fixed_count size (length bits) (length xs) some whole)
    ∙ ap (λ w. options w (pieces_of size (length bits) xs)) same
    ∙ options-where bits (pieces_of size (length bits) xs) (sym (length-pieces size (length bits) xs))

-- the same of a type that is this one
pub no_error_of_type : (t : TypeTree) (size : ℕ) (xs : List ℕ) (bits : List Bool) (v : Validity) (e : Error) → t ≡ plain (fixed_binary size)
    → 0 < size → length xs ≡ length bits * size → v ≡ as_validity bits → BreaksFixedBinary (fixed_seen t xs v) e → ⊥
no_error_of_type t size xs bits v e is some whole same =
    subst (λ u. BreaksFixedBinary (fixed_seen u xs v) e → ⊥) (sym is) (no_fixed_error size xs bits v e some whole same)
