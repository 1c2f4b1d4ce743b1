-- How many bytes an array retains that is made of what was read, by the
-- encoded lengths of its buffers.
use Rattle.std.proofs.Common.{arith, ◌≡◌, refl, ℕ, ℤ, ◌+◌, ◌*◌, ◌≤◌, ◌==◌, ◌&&◌, Bool, true, false, cond, List, [], ◌∷◌, ◌++◌, map, length, Option, sym, ap, ◌∙◌}
use Rattle.std.proofs.lemmas.List.{length-map}
use Rattle.lower.specs.Physical.{physical, integer}
use Rattle.lower.specs.TypeTrees.{TypeTree, plain}
use Rattle.lower.specs.declared.datatypes.IntegerType.{IntegerType}
use Rattle.lower.specs.declared.datatypes.IntegerType.TheVariants as Integers
use Rattle.lower_types.specs.NumberTypes.{Number, width_of}
use Rattle.lower_types.specs.declared.PrimitiveType.{PrimitiveType}
use Rattle.lower_types.specs.declared.PrimitiveType.TheVariants as Named
use Rattle.lower_flat_arrays.specs.Validities.{Validity}
use Rattle.lower_flat_arrays.specs.Primitives.{PrimitiveSeen, primitive_seen}
use Rattle.lower_flat_arrays.specs.Booleans.{BooleanSeen, boolean_seen}
use Rattle.lower_flat_arrays.specs.FixedBinaries.{FixedBinarySeen, fixed_seen}
use Rattle.lower_flat_arrays.specs.Spans.{SpansSeen, spans_seen}
use Rattle.lower_validation.specs.Keys.{KeysSeen, keys_in}
use Rattle.lower_arrays.specs.Dictionaries.{dictionary_seen, dictionary_layout}
use Rattle.lower_arrays.specs.Flat.{boolean_layout, fixed_layout, bytes_layout, texts_layout}
use Rattle.lower_arrays.specs.Held.{bytes_of_bits, validity_held, width_in, held}
use Rattle.lower_arrays.specs.Layouts.{Layout}
use Rattle.lower_arrays.specs.Primitives.{primitive_layout}
use Rattle.ipc_model.specs.Columns.{is_omitted}
use Rattle.ipc_model.specs.Entries.{Entries, listed, bytes_for}
use Rattle.ipc_model.specs.Kinds.{OffsetWidth, offset_width, boolean_kind, number_kind, fixed_binary_kind, binary_kind, utf8_kind, dictionary_kind}
use Rattle.ipc_model.specs.TypeKinds.{key_form}
use Rattle.ipc_read_flat.specs.HeldListed.{empty_offset, HoldsListed, HoldsOffsets, keys_held}

-- ---- parts

pub bits_within : (n k m : ℕ) → n ≡ k → bytes_for k ≤ m → bytes_of_bits n ≤ m
bits_within n k m same h = let e = ap bytes_of_bits same in omega (arith, e, h)

pub offsets_within : (s : Entries) (form : OffsetWidth) (b w n : ℕ) (p : PrimitiveType) (os : List ℕ) → w ≡ width_of p → length os ≡ n → w * n ≤ listed s b
    → HoldsOffsets s form b p os
offsets_within s form b w n p os wide count h =
    let e : width_of p * length os ≡ w * n = λ i. sym wide i * count i in
    omega (arith, e, h)

-- the one offset 0
pub only_offset : (s : Entries) (form : OffsetWidth) (b w k : ℕ) (p : PrimitiveType) (os : List ℕ) → w ≡ width_of p → w ≡ offset_width form → is_omitted s b k ≡ true
    → os ≡ 0 ∷ [] → HoldsOffsets s form b p os
only_offset s form b w k p os wide named omitted one =
    let none : (listed s b == 0) ≡ true = both (k == 0) (listed s b == 0) omitted in
    let e1 : width_of p * length os ≡ w * 1 = λ i. sym wide i * length (one i) in
    let e2 : empty_offset form (listed s b) ≡ offset_width form = ap (λ (t : Bool). cond t (offset_width form) 0) none in
    omega (arith, e1, e2, named)
  where
    both : (x y : Bool) → (x && y) ≡ true → y ≡ true
    both true y e = e
    both false y e = let no : false ≡ true = e in absurd cc

-- ---- columns without children

module _ (s : Entries) (extra b : ℕ) (u : TypeTree) (v : Validity) (mask : validity_held v ≤ listed s b) where
  pub number_held : {T : Type 0} (p : PrimitiveType) (number : T → Number) (w : ℕ) (xs : List T) (a : PrimitiveSeen T) → a ≡ primitive_seen u xs v → w ≡ width_of p
      → w * length xs ≤ listed s (b + 1) → HoldsListed s extra (number_kind p) b (primitive_layout p number a)
  number_held p number w xs a made wide h =
      let e1 = ap (λ x. held (primitive_layout p number x)) made in
      let e2 : width_of p * length (map number xs) ≡ w * length xs = λ i. sym wide i * length-map xs number i in
      omega (arith, e1, e2, h, mask)

  pub boolean_held : (xs : List Bool) (a : BooleanSeen) → a ≡ boolean_seen u xs v → bytes_of_bits (length xs) ≤ listed s (b + 1)
      → HoldsListed s extra boolean_kind b (boolean_layout a)
  boolean_held xs a made h = let e = ap (λ x. held (boolean_layout x)) made in omega (arith, e, h, mask)

  pub fixed_held : (n : ℕ) (xs : List ℕ) (a : FixedBinarySeen) → a ≡ fixed_seen u xs v → length xs ≤ listed s (b + 1)
      → HoldsListed s extra (fixed_binary_kind n) b (fixed_layout a)
  fixed_held n xs a made h = let e = ap (λ x. held (fixed_layout x)) made in omega (arith, e, h, mask)

  module _ (form : OffsetWidth) (p : PrimitiveType) (os xs : List ℕ) (a : SpansSeen) (made : a ≡ spans_seen u os xs v) (o : HoldsOffsets s form (b + 1) p os)
      (h : length xs ≤ listed s (b + 1 + 1)) where
    pub bytes_held : HoldsListed s extra (binary_kind form) b (bytes_layout p a)
    bytes_held = let e = ap (λ x. held (bytes_layout p x)) made in omega (arith, e, o, h, mask)

    pub texts_held : HoldsListed s extra (utf8_kind form) b (texts_layout p a)
    texts_held = let e = ap (λ x. held (texts_layout p x)) made in omega (arith, e, o, h, mask)

-- ---- columns of keys

key_width : (key : IntegerType) → width_in (physical (plain (integer key))) ≡ width_of (key_form key)
key_width Integers.Int8 = refl
key_width Integers.Int16 = refl
key_width Integers.Int32 = refl
key_width Integers.Int64 = refl
key_width Integers.UInt8 = refl
key_width Integers.UInt16 = refl
key_width Integers.UInt32 = refl
key_width Integers.UInt64 = refl

pub keys_hold : {T : Type 0} (s : Entries) (extra b : ℕ) (key : IntegerType) (number : T → Number) (seen : T → ℤ) (x : PrimitiveSeen T)
    → HoldsListed s extra (number_kind (key_form key)) b (primitive_layout (key_form key) number x)
    → keys_held (keys_in key seen x) ≤ listed s b + listed s (b + 1)
keys_hold s extra b key number seen x h =
    let e1 : width_in (physical (plain (integer key))) * length (map seen x.values) ≡ width_of (key_form key) * length (map number x.values) =
    λ i. key_width key i * (length-map x.values seen ∙ sym (length-map x.values number)) i
    in
    omega (arith, e1, h)

pub dictionary_held : (s : Entries) (extra b : ℕ) (f : PrimitiveType) (id : Option ℤ) (t u : TypeTree) (ks : KeysSeen) (l x : Layout) → x ≡ dictionary_layout (dictionary_seen u ks l)
    → keys_held ks ≤ listed s b + listed s (b + 1) → HoldsListed s extra (dictionary_kind f id t) b x
dictionary_held s extra b f id t u ks l x made h = let e = ap held made in omega (arith, e, h)
