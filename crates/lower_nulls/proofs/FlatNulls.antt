-- Null slots of types without children.
use Rattle.std.proofs.Common.{arith, refl, ◌≡◌, ℕ, ◌+◌, ◌-◌, ◌*◌, ◌/◌, ◌^◌, ◌<◌, ◌≤◌, List, [], Bool, false, length, map, take, drop, replicate, sym, ap, ap₂, subst, ◌∙◌}
use Rattle.std.specs.Prelude.{Some, slice_index}
use Rattle.std.specs.Str.{IsUtf8}
use Rattle.std.proofs.lemmas.Nat.{div-mul-add}
use Rattle.std.proofs.lemmas.List.{length-replicate}
use Rattle.std.proofs.lemmas.Str.{IsUtf8-nil}
use Rattle.lower.specs.TypeTrees.{TypeTree, plain, fixed_binary}
use Rattle.lower.specs.Physical.{physical, logical}
use Rattle.lower.specs.Offsets.{IsOffsets}
use Rattle.lower.specs.declared.datatypes.physical_type.PhysicalType.TheVariants.{Null, Primitive, FixedSizeBinary}
use Rattle.lower.specs.declared.error.Error.{Error}
use Rattle.lower.specs.declared.error.Error.TheVariants.{OutOfSpec}
use Rattle.lower.specs.declared.error.Rule.TheVariants.{PhysicalType as WrongType}
use Rattle.lower_types.specs.NumberTypes.{Number}
use Rattle.lower_types.specs.declared.PrimitiveType.{PrimitiveType}
use Rattle.lower_types.specs.declared.PrimitiveType.TheVariants.{Int64}
use Rattle.lower_flat_arrays.specs.Nulls.{null_seen, BreaksNull}
use Rattle.lower_flat_arrays.specs.Primitives.{PrimitiveSeen}
use Rattle.lower_flat_arrays.specs.Spans.{SpansSeen, spans_seen, span, span_count, EndsWithin}
use Rattle.lower_flat_arrays.specs.Binaries.{bytes_with, BreaksBinary}
use Rattle.lower_flat_arrays.specs.Texts.{texts_with, BreaksText}
use Rattle.lower_flat_arrays.specs.FixedBinaries.{FixedBinarySeen, fixed_seen, named_size, byte_size, IsFixedBinary, BreaksFixedBinary}
use Rattle.lower_builders.proofs.Rules.{binary_breaks_none, text_breaks_none, fixed_breaks_none}
use Rattle.lower_arrays.specs.Layouts.{Layout, numbers, bytes, texts, fixed_bytes, no_layouts, len_of, type_of}
use Rattle.lower_arrays.specs.Flat.{null_layout, fixed_layout, bytes_layout, texts_layout}
use Rattle.lower_arrays.specs.Primitives.{primitive_layout}
use Rattle.lower_arrays.specs.Slots.{slot_at}
use Rattle.lower_nulls.specs.Nulls.{AreNulls, HasArrays, most_room}
use Rattle.lower_nulls.specs.Storage.{AreNullNumbers, AreNullSpans}
use Rattle.lower_nulls.proofs.Replicas.{filled, zero_offsets, zero_count, zero_end}
use Rattle.lower_nulls.proofs.Types.{physical_is, room_is, has_is, HasValidity, null_by}
use Rattle.lower_nulls.proofs.Levels.{nulls_at}

-- ---- slots without memory
pub null_breaks_none : (t : TypeTree) (n : ℕ) (e : Error) → physical t ≡ Null → BreaksNull (null_seen t n) e → ⊥
null_breaks_none t n (OutOfSpec WrongType) lies breaks = breaks lies
null_breaks_none t n (OutOfSpec _) lies breaks = breaks

pub nulls_of_nulls : (t : TypeTree) (n : ℕ) (l : Layout) → physical t ≡ Null → l ≡ null_layout (null_seen t n) → AreNulls t n l
nulls_of_nulls t n l lies is = record {
  type = ap type_of is;
  len = ap len_of is;
  each = λ i below. ap (λ m. slot_at m i) is ∙ sym (null_by t Null lies tt);
}

-- ---- byte strings and texts of any length
bytes_have : (p : PrimitiveType) → HasValidity (bytes_with p)
bytes_have Int64 = tt
bytes_have _ = tt

texts_have : (p : PrimitiveType) → HasValidity (texts_with p)
texts_have Int64 = tt
texts_have _ = tt

module _ (p : PrimitiveType) (t : TypeTree) (n : ℕ) (os xs : List ℕ) (bits : List Bool) (zero_os : os ≡ replicate (n + 1) 0) (unset : bits ≡ replicate n false) where
  are_offsets : IsOffsets os
  are_offsets = subst IsOffsets (sym zero_os) (zero_offsets n)

  ends : EndsWithin os xs
  ends = let z : slice_index os (length os - 1) ≡ 0 = ap (λ o. slice_index o (length o - 1)) zero_os ∙ zero_end n in omega (arith, z)

  pub counted : span_count os ≡ n
  counted = ap span_count zero_os ∙ zero_count n

  bits_fit : length bits ≡ span_count os
  bits_fit = ap length unset ∙ length-replicate n false ∙ sym counted

  no_text : (i : ℕ) → span os xs i ≡ []
  no_text i =
      ap (λ o. span o xs i) zero_os
      ∙ ap₂ (λ a b. take (b - a) (drop a xs)) (filled 0 (n + 1) i) (filled 0 (n + 1) (i + 1))

  pub binary_breaks : (e : Error) → physical t ≡ bytes_with p → BreaksBinary p (spans_seen t os xs (Some bits)) e → ⊥
  binary_breaks e lies breaks =
      binary_breaks_none p (spans_seen t os xs (Some bits)) e (record { lies = lies; offsets = are_offsets; within = ends; fits = bits_fit }) breaks

  pub text_breaks : (e : Error) → physical t ≡ texts_with p → BreaksText p (spans_seen t os xs (Some bits)) e → ⊥
  text_breaks e lies breaks =
      text_breaks_none p (spans_seen t os xs (Some bits)) e (record {
        lies = lies;
        offsets = are_offsets;
        within = ends;
        texts = record { each = λ i below. subst IsUtf8 (sym (no_text i)) IsUtf8-nil };
        fits = bits_fit;
      }) breaks

-- null slots of any length, as arrays of any layout
pub bytes_nulls : (p : PrimitiveType) (t : TypeTree) (n : ℕ) (a : SpansSeen) → physical t ≡ bytes_with p → AreNullSpans t n a → AreNulls t n (bytes_layout p a)
bytes_nulls p t n a lies are =
    nulls_at t n (bytes_with p) (bytes_layout p a) (record { type = a.type; len = span_count a.offsets; validity = a.validity; parts = bytes p a.offsets a.values }) no_layouts
    lies (bytes_have p) refl are.type are.count are.bits

pub texts_nulls : (p : PrimitiveType) (t : TypeTree) (n : ℕ) (a : SpansSeen) → physical t ≡ texts_with p → AreNullSpans t n a → AreNulls t n (texts_layout p a)
texts_nulls p t n a lies are =
    nulls_at t n (texts_with p) (texts_layout p a) (record { type = a.type; len = span_count a.offsets; validity = a.validity; parts = texts p a.offsets a.values }) no_layouts
    lies (texts_have p) refl are.type are.count are.bits

-- ---- numbers
pub numbers_null : {T : Type 0} (p : PrimitiveType) (f : T → Number) (t : TypeTree) (n : ℕ) (a : PrimitiveSeen T) → physical t ≡ Primitive p → AreNullNumbers t n a → AreNulls t n (primitive_layout p f a)
numbers_null p f t n a lies are =
    nulls_at t n (Primitive p) (primitive_layout p f a) (record { type = a.type; len = length a.values; validity = a.validity; parts = numbers p (map f a.values) }) no_layouts
    lies tt refl are.type are.count are.bits

-- ---- byte strings of one length
pub whole_count : (n size : ℕ) → 0 < size → n * size / size ≡ n
whole_count n size some =
    let e : n * size ≡ n * size + 0 = omega arith in
    ap (λ k. k / size) e ∙ div-mul-add n size 0 some

module _ (t : TypeTree) (size n : ℕ) (stored : logical t ≡ plain (fixed_binary size)) where
  pub fixed_room : 2 ^ 64 ≤ n * size → 2 ^ 64 ≤ most_room n t
  fixed_room h = let r : most_room n t ≡ n * size = room_is t (plain (fixed_binary size)) stored n in omega (arith, r, h)

  size_is : byte_size t ≡ size
  size_is = ap named_size stored

  module _ (xs : List ℕ) (bits : List Bool) (values : xs ≡ replicate (n * size) 0) (unset : bits ≡ replicate n false) where
    bytes_are : length xs ≡ n * size
    bytes_are = ap length values ∙ length-replicate (n * size) 0

    count : 0 < size → length xs / byte_size t ≡ n
    count some = ap₂ (λ a b. a / b) bytes_are size_is ∙ whole_count n size some

    pub fixed_breaks : (e : Error) → BreaksFixedBinary (fixed_seen t xs (Some bits)) e → ¬ (HasArrays t)
    fixed_breaks e breaks has =
        let some : 0 < size = has_is t (plain (fixed_binary size)) stored has in
        fixed_breaks_none (fixed_seen t xs (Some bits)) e (record {
          lies = physical_is t (plain (fixed_binary size)) stored;
          named = refl;
          positive = subst (λ (k : ℕ). 0 < k) (sym size_is) some;
          whole = bytes_are ∙ sym (ap₂ (λ a b. a * b) (count some) size_is);
          fits = ap length unset ∙ length-replicate n false ∙ sym (count some);
        }) breaks

    pub fixed_nulls : (a : FixedBinarySeen) (l : Layout) → a ≡ fixed_seen t xs (Some bits) → IsFixedBinary (fixed_seen t xs (Some bits)) → l ≡ fixed_layout a → AreNulls t n l
    fixed_nulls a l seen is made =
        let some : 0 < size = subst (λ (k : ℕ). 0 < k) size_is is.positive in
        nulls_at t n FixedSizeBinary l (record { type = t; len = length xs / byte_size t; validity = Some bits; parts = fixed_bytes (byte_size t) xs }) no_layouts
        (physical_is t (plain (fixed_binary size)) stored) tt (made ∙ ap fixed_layout seen) refl (count some) (ap Some unset)
