-- A column of keys is well formed if its array keeps the rules of
-- dictionaries, and is read to that array.
use Rattle.std.proofs.Common.{arith, ◌≡◌, refl, ℕ, ℤ, pos, ◌+◌, ◌*◌, ◌<◌, ◌==◌, Bool, true, false, cond, List, [], ◌∷◌, map, length, get_or, Option, None, Some, sym, ap, subst, ◌∙◌, inl, inr}
use Rattle.std.proofs.lemmas.Bool.{cases_Bool}
use Rattle.std.proofs.lemmas.List.FromFn.{get_or-map-range_with_len, length-map-range_with_len}
use Rattle.lower.specs.Normal.{norm}
use Rattle.lower.specs.Physical.{integer as integer_type, physical}
use Rattle.lower.specs.TypeTrees.{TypeTree, plain}
use Rattle.lower.specs.declared.datatypes.IntegerType.{IntegerType}
use Rattle.lower.specs.declared.datatypes.IntegerType.TheVariants as Integers
use Rattle.lower.specs.declared.datatypes.physical_type.PhysicalType.TheVariants.{Dictionary}
use Rattle.lower.specs.declared.error.Error.{Error}
use Rattle.lower.specs.declared.error.Error.TheVariants.{OutOfSpec}
use Rattle.lower.specs.declared.error.Rule.TheVariants.{DictionaryKey, DictionaryValues, PhysicalType as WrongType}
use Rattle.lower_types.specs.NumberTypes.{Number, width_of}
use Rattle.lower_types.specs.declared.PrimitiveType.{PrimitiveType}
use Rattle.lower_flat_arrays.specs.Primitives.{PrimitiveSeen}
use Rattle.lower_flat_arrays.specs.Validities.{ValidityFits, is_valid as is_bit_set}
use Rattle.lower_validation.specs.Keys.{values_type as named_type, KeyFits, KeysSeen, keys_in}
use Rattle.lower_validation.specs.Rules.{DictionaryRules}
use Rattle.lower_arrays.specs.Dictionaries.{dictionary_seen, dictionary_layout, IsDictionary, BreaksDictionary}
use Rattle.lower_arrays.specs.Layouts.{Parts, numbers, keys, Layout, layout, level, no_layouts, more_layouts, len_of, type_of}
use Rattle.lower_arrays.specs.Primitives.{primitive_layout}
use Rattle.ipc_model.specs.Numbers.{integer_of}
use Rattle.ipc_model.specs.Columns.{Begins, is_valid, values_type, values_slots, IsWell}
use Rattle.ipc_model.specs.Entries.{Entries, size, node, bytes, Need, Limit, rows, bit, integer}
use Rattle.ipc_model.specs.Kinds.{number_kind, dictionary_kind}
use Rattle.ipc_model.specs.ReadArrays.{bits_of, validity_of, numbers_of, integers_of, key_type, array_at}
use Rattle.ipc_model.specs.TypeKinds.{key_form}
use Rattle.ipc_read_flat.specs.KeyLevels.{keys_at}
use Rattle.ipc_read_flat.proofs.Indices.{index_key, key_index}

-- ---- the rules of the array

pub dictionary_made : (u : TypeTree) (ks : KeysSeen) (l : Layout) → IsDictionary (dictionary_seen u ks l) → DictionaryRules u ks (type_of l) (len_of l)
dictionary_made u ks l h = record { lies = h.lies; keys = h.keys; named = h.named; places = h.places }

pub dictionary_keeps : (u : TypeTree) (ks : KeysSeen) (l : Layout) (e : Error) → BreaksDictionary (dictionary_seen u ks l) e → DictionaryRules u ks (type_of l) (len_of l) → ⊥
dictionary_keeps u ks l (OutOfSpec WrongType) h w = h (w.lies, w.keys.type)
dictionary_keeps u ks l (OutOfSpec DictionaryValues) h w = h w.named
dictionary_keeps u ks l (OutOfSpec DictionaryKey) h w = h w.places
dictionary_keeps u ks l (OutOfSpec _) h w = absurd h

pub ruleset dictionary_rules = (dictionary_made, dictionary_keeps)

-- ---- the keys

map_twice : {A B C : Type 0} (f : A → B) (g : B → C) (xs : List A) → map g (map f xs) ≡ map (λ x. g (f x)) xs
map_twice f g [] = refl
map_twice f g (x ∷ xs) = ap (λ ys. g (f x) ∷ ys) (map_twice f g xs)

map_same : {A B : Type 0} (f g : A → B) (xs : List A) → ((x : A) → f x ≡ g x) → map f xs ≡ map g xs
map_same f g [] is = refl
map_same f g (x ∷ xs) is = λ i. is x i ∷ map_same f g xs is i

abbrev numbers_within : Parts → List Number
numbers_within (numbers p xs) = xs
numbers_within _ = []

pub keys_read :
    {T : Type 0} (key : IntegerType) (number : T → Number) (seen : T → ℤ) (s : Entries) (vs : Option ℤ → Layout) (d : TypeTree) (a b : ℕ) (limit : Limit) (x : PrimitiveSeen T)
    → ((y : T) → integer_of (number y) ≡ seen y) → d ≡ plain (integer_type key)
    → primitive_layout (key_form key) number x ≡ array_at s vs (number_kind (key_form key)) d a b limit
    → keys_in key seen x ≡ keys_at s key a b (rows s a limit)
keys_read key number seen s vs d a b limit x is typed read =
    let own : x.type ≡ plain (integer_type key) = ap type_of read ∙ typed in
    let mask : x.validity ≡ validity_of s a b (rows s a limit) = ap (λ l. (level l).validity) read in
    let all : map number x.values ≡ numbers_of s (b + 1) (key_form key) (rows s a limit) = ap (λ l. numbers_within (level l).parts) read in
    let whole : map seen x.values ≡ integers_of s (b + 1) (key_form key) (rows s a limit) =
    sym (map_same (λ y. integer_of (number y)) seen x.values is)
    ∙ sym (map_twice number integer_of x.values)
    ∙ ap (map integer_of) all
    ∙ map_twice _ integer_of _
    in
    λ i. record { key = key; type = own i; integers = whole i; validity = mask i }

-- the same of keys of one type, which those of the column are
pub keys_answered :
    {T : Type 0} (key one : IntegerType) (number : T → Number) (seen : T → ℤ) (s : Entries) (vs : Option ℤ → Layout) (d : TypeTree) (a b : ℕ) (limit : Limit) (x : PrimitiveSeen T)
    → key ≡ one → ((y : T) → integer_of (number y) ≡ seen y) → d ≡ plain (integer_type key)
    → IsWell s (number_kind (key_form one)) a b limit × (primitive_layout (key_form one) number x ≡ array_at s vs (number_kind (key_form one)) d a b limit)
    → IsWell s (number_kind (key_form key)) a b limit × (keys_in one seen x ≡ keys_at s key a b (rows s a limit))
keys_answered key one number seen s vs d a b limit x same is typed read =
    subst (λ (z : IntegerType). IsWell s (number_kind (key_form z)) a b limit × (keys_in one seen x ≡ keys_at s z a b (rows s a limit))) (sym same)
    (read.0, keys_read one number seen s vs d a b limit x is (typed ∙ ap (λ (z : IntegerType). plain (integer_type z)) same) read.1)

-- ---- the column

key_is : (key : IntegerType) → key ≡ key_type (key_form key)
key_is Integers.Int8 = refl
key_is Integers.Int16 = refl
key_is Integers.Int32 = refl
key_is Integers.Int64 = refl
key_is Integers.UInt8 = refl
key_is Integers.UInt16 = refl
key_is Integers.UInt32 = refl
key_is Integers.UInt64 = refl

valid_is : (s : Entries) (a b k i : ℕ) → i < k → is_bit_set (validity_of s a b k) i ≡ is_valid s a b i
valid_is s a b k i h =
    elim (cases_Bool (size (node s a).null_count == 0)) [
      | inl e ↦ subst (λ (t : Bool). is_bit_set (cond t None (Some (bits_of s b k))) i ≡ cond t true (bit (bytes s b) i)) (sym e) refl
      | inr e ↦ subst (λ (t : Bool). is_bit_set (cond t None (Some (bits_of s b k))) i ≡ cond t true (bit (bytes s b) i)) (sym e)
          (get_or-map-range_with_len (λ j. bit (bytes s b) j) 0 k i i false h (omega arith))
    ]

mask_fits : (s : Entries) (a b k : ℕ) → ValidityFits (validity_of s a b k) k
mask_fits s a b k =
    elim (cases_Bool (size (node s a).null_count == 0)) [
      | inl e ↦ subst (λ (t : Bool). ValidityFits (cond t None (Some (bits_of s b k))) k) (sym e) tt
      | inr e ↦ subst (λ (t : Bool). ValidityFits (cond t None (Some (bits_of s b k))) k) (sym e) (length-map-range_with_len (λ j. bit (bytes s b) j) 0 k)
    ]

integer_is : (s : Entries) (b : ℕ) (f : PrimitiveType) (k i : ℕ) → i < k → get_or (integers_of s b f k) i (pos 0) ≡ integer s b f i
integer_is s b f k i h = get_or-map-range_with_len (λ j. integer s b f j) 0 k i i (pos 0) h (omega arith)

integers_count : (s : Entries) (b : ℕ) (f : PrimitiveType) (k : ℕ) → length (integers_of s b f k) ≡ k
integers_count s b f k = length-map-range_with_len (λ j. integer s b f j) 0 k

-- What is known of the column of keys at node a and buffer b. The type u of its array names the
-- value type v; the keys were read, and l is the array of the values.
module _ (s : Entries) (vs : Option ℤ → Layout) (key : IntegerType) (u v : TypeTree) (id : Option ℤ) (a b : ℕ) (limit : Limit) (ks : KeysSeen) (l : Layout)
    (lies : physical u ≡ Dictionary key) (named : named_type u ≡ v) (typed : norm (type_of l) ≡ norm v) (many : len_of l ≡ length (values_slots s id))
    (read : ks ≡ keys_at s key a b (rows s a limit)) where
  pub keys_rules : IsWell s (dictionary_kind (key_form key) id (norm v)) a b limit → DictionaryRules u ks (type_of l) (len_of l)
  keys_rules h =
      let k = rows s a limit in
      let f = key_form key in
      let all = integers_of s (b + 1) f k in
      let count = integers_count s (b + 1) f k in
      subst (λ (z : KeysSeen). DictionaryRules u z (type_of l) (len_of l)) (sym read)
      (record {
        lies = lies;
        keys = record { type = refl; fits = subst (λ (n : ℕ). ValidityFits (validity_of s a b k) n) (sym count) (mask_fits s a b k) };
        named = typed ∙ ap norm (sym named);
        places = record {
          each = λ i inside valid.
              let at : i < k = omega (arith, inside, count) in
              subst (λ (n : ℕ). KeyFits (get_or all i (pos 0)) n) (sym many)
              (subst (λ (z : ℤ). KeyFits z (length (values_slots s id))) (sym (integer_is s (b + 1) f k i at))
              (index_key (integer s (b + 1) f i) (length (values_slots s id)) (h.2.inside i at (sym (valid_is s a b k i at) ∙ valid))));
        };
      })

  pub keys_well : Begins s a b (rows s a limit) × Need s (b + 1) (width_of (key_form key) * rows s a limit) → values_type s id ≡ Some (norm v)
      → DictionaryRules u ks (type_of l) (len_of l) → IsWell s (dictionary_kind (key_form key) id (norm v)) a b limit
  keys_well head found h =
      let k = rows s a limit in
      let f = key_form key in
      let count = integers_count s (b + 1) f k in
      let kept : DictionaryRules u (keys_at s key a b k) (type_of l) (len_of l) = subst (λ (z : KeysSeen). DictionaryRules u z (type_of l) (len_of l)) read h in (
        head.0,
        head.1,
        record {
          known = found;
          inside = λ i at valid.
              key_index (integer s (b + 1) f i) (length (values_slots s id))
              (subst (λ (n : ℕ). KeyFits (integer s (b + 1) f i) n) many
              (subst (λ (z : ℤ). KeyFits z (len_of l)) (integer_is s (b + 1) f k i at)
              (kept.places.each i (omega (arith, at, count)) (valid_is s a b k i at ∙ valid))));
        },
      )

  pub keys_array : l ≡ vs id → (x : Layout) → x ≡ dictionary_layout (dictionary_seen u ks l) → x ≡ array_at s vs (dictionary_kind (key_form key) id (norm v)) u a b limit
  keys_array same x made =
      let k = rows s a limit in
      let f = key_form key in
      made
      ∙ ap (λ (z : KeysSeen). dictionary_layout (dictionary_seen u z l)) read
      ∙ (λ i.
      layout (record { type = u; len = integers_count s (b + 1) f k i; validity = validity_of s a b k; parts = keys (key_is key i) (integers_of s (b + 1) f k) })
      (more_layouts (same i) no_layouts))
