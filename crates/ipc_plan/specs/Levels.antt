-- The bytes of the buffers of an array's levels. What is written of an array are its levels
-- (`written_levels` of `Offers`): a range of slots is passed down, and nothing is sliced. `Plans`
-- says what levels add to a plan, `Meaning` what they mean.
-- (Arrow columnar format, "Buffer Listing for Each Layout".)
use Rattle.std.specs.Prelude.{◌≡◌, ℕ, pos, ◌-◌, ◌*◌, ◌^◌, ◌<◌, Bool, false, List, [], ◌∷◌, ◌++◌, map, length, drop, get_or, slice_index, slice_range, Some, None}
use Rattle.std.specs.Int.{w16, w32, w64, w128}
use Rattle.std.specs.List.{flat_map}
use Rattle.lower_types.specs.NumberTypes.{Number, whole, wide, day_time, month_day_nano, width_of, number_in}
use Rattle.lower_types.specs.Numbers.{unsigned_in, signed_byte_of, signed_bytes, byte_of, unsigned_bytes}
use Rattle.lower_types.specs.PartNumbers.{days_ms_bytes, months_days_ns_bytes, i256_bytes}
use Rattle.lower_types.specs.declared.Endianness.{Endianness}
use Rattle.lower_types.specs.declared.PrimitiveType.{PrimitiveType}
use Rattle.lower_types.specs.declared.PrimitiveType.TheVariants as Named
use Rattle.lower_arrays.specs.Layouts.{Validity, Parts, nothing, truths, numbers, fixed_bytes, bytes, texts, lists, fixed_lists, maps, records, choices, keys, Level, nulls_among}
use Rattle.ipc_table_views.specs.declared.message.FieldNode.{FieldNode}
use Rattle.ipc_model.specs.Entries.{bytes_for, bit}
use Rattle.ipc_model.specs.Kinds.{OffsetWidth, offsets_32, offsets_64, offset_width, Kind, number_kind, float_kind}
use Rattle.ipc_model.specs.TypeKinds.{key_form}

-- ---- one buffer: what its bytes mean in a byte order

-- The bytes have a bit for each slot; bits after the last one mean nothing.
pub record AreBits (bits : List Bool) (xs : List ℕ) : Type 0 where
  pub count : length xs ≡ bytes_for (length bits)
  pub each : (i : ℕ) → i < length bits → bit xs i ≡ get_or bits i false

-- The bytes are read as these numbers of a type.
pub record AreRead (order : Endianness) (p : PrimitiveType) (ns : List Number) (xs : List ℕ) : Type 0 where
  pub count : length xs ≡ width_of p * length ns
  pub each : (i : ℕ) → i < length ns → number_in p order (drop (width_of p * i) xs) ≡ get_or ns i (whole (pos 0))

-- The bytes of a number of a type; no bytes for a float or a number that isn't of the type.
abbrev pub bytes_of_number : PrimitiveType → Endianness → Number → List ℕ
bytes_of_number Named.Int8 order (whole z) = signed_byte_of order z
bytes_of_number Named.Int16 order (whole z) = signed_bytes w16 order z
bytes_of_number Named.Int32 order (whole z) = signed_bytes w32 order z
bytes_of_number Named.Int64 order (whole z) = signed_bytes w64 order z
bytes_of_number Named.Int128 order (whole z) = signed_bytes w128 order z
bytes_of_number Named.Int256 order (wide high low) = i256_bytes order (record { high = high; low = low })
bytes_of_number Named.UInt8 order (whole (pos n)) = byte_of order n
bytes_of_number Named.UInt16 order (whole (pos n)) = unsigned_bytes 2 order n
bytes_of_number Named.UInt32 order (whole (pos n)) = unsigned_bytes 4 order n
bytes_of_number Named.UInt64 order (whole (pos n)) = unsigned_bytes 8 order n
bytes_of_number Named.DaysMs order (day_time days milliseconds) = days_ms_bytes order (record { days = days; milliseconds = milliseconds })
bytes_of_number Named.MonthDayNano order (month_day_nano months days nanoseconds) =
    months_days_ns_bytes order (record { months = months; days = days; nanoseconds = nanoseconds })
bytes_of_number _ order n = []

-- The bytes are read as these numbers of a type, and are exactly the numbers' bytes.
pub record AreNumberBytes (order : Endianness) (p : PrimitiveType) (ns : List Number) (xs : List ℕ) : Type 0 where
  pub count : length xs ≡ width_of p * length ns
  pub each : (i : ℕ) → i < length ns → number_in p order (drop (width_of p * i) xs) ≡ get_or ns i (whole (pos 0))
  pub spelt : xs ≡ flat_map (bytes_of_number p order) ns

-- The width of offsets of a type.
abbrev pub wide_of : PrimitiveType → OffsetWidth
wide_of Named.Int64 = offsets_64
wide_of _ = offsets_32

-- The bytes are these offsets, each less the first of them.
pub record AreOffsetBytes (order : Endianness) (p : PrimitiveType) (os : List ℕ) (xs : List ℕ) : Type 0 where
  pub width : width_of p ≡ offset_width (wide_of p)
  pub count : length xs ≡ offset_width (wide_of p) * length os
  pub each : (i : ℕ) → i < length os
      → unsigned_in (offset_width (wide_of p)) order (drop (offset_width (wide_of p) * i) xs) ≡ slice_index os i - slice_index os 0
  pub small : slice_index os (length os - 1) - slice_index os 0 < 2 ^ (8 * offset_width (wide_of p) - 1)

-- The bytes have a bit for each slot, or there are none.
abbrev pub IsValidity : Validity → List ℕ → Type 0
IsValidity None xs = xs ≡ []
IsValidity (Some bits) xs = AreBits bits xs

-- The bytes from the first offset up to the last.
abbrev pub cut_out : List ℕ → List ℕ → List ℕ
cut_out os xs = slice_range xs (slice_index os 0) (slice_index os (length os - 1))

-- The kind of numbers of a type; floats have no meaning.
abbrev pub number_form : PrimitiveType → Kind
number_form Named.Float16 = float_kind
number_form Named.Float32 = float_kind
number_form Named.Float64 = float_kind
number_form p = number_kind p

-- ---- one level

-- The node of a level.

abbrev pub node_of : Level → FieldNode
node_of h = record { length = pos h.len; null_count = pos (nulls_among h.parts h.len h.validity) }

-- The buffers of a level, in the order of the format.
abbrev pub AreBuffers : Endianness → Parts → Validity → List (List ℕ) → Type 0
AreBuffers order nothing v [] = Unit {0}
AreBuffers order (truths ts) v (m ∷ x ∷ []) = IsValidity v m × AreBits ts x
AreBuffers order (numbers p ns) v (m ∷ x ∷ []) = IsValidity v m × AreNumberBytes order p ns x × (number_form p ≡ number_kind p)
AreBuffers order (fixed_bytes size xs) v (m ∷ x ∷ []) = IsValidity v m × (x ≡ xs)
AreBuffers order (bytes p os xs) v (m ∷ o ∷ x ∷ []) = IsValidity v m × AreOffsetBytes order p os o × (x ≡ cut_out os xs)
AreBuffers order (texts p os xs) v (m ∷ o ∷ x ∷ []) = IsValidity v m × AreOffsetBytes order p os o × (x ≡ cut_out os xs)
AreBuffers order (lists _ p os) v (m ∷ o ∷ []) = IsValidity v m × AreOffsetBytes order p os o
AreBuffers order (fixed_lists size) v (m ∷ []) = IsValidity v m
AreBuffers order (maps os) v (m ∷ o ∷ []) = IsValidity v m × AreOffsetBytes order Named.Int32 os o
AreBuffers order records v (m ∷ []) = IsValidity v m
AreBuffers order (choices ids ts None) v (x ∷ []) = AreNumberBytes order Named.Int8 (map (λ z. whole z) ts) x
AreBuffers order (choices ids ts (Some os)) v (x ∷ y ∷ []) =
    AreNumberBytes order Named.Int8 (map (λ z. whole z) ts) x × AreNumberBytes order Named.Int32 (map (λ z. whole z) os) y
AreBuffers order (keys k ks) v (m ∷ x ∷ []) = IsValidity v m × AreNumberBytes order (key_form k) (map (λ z. whole z) ks) x
AreBuffers order p v bs = ⊥

-- ---- the levels of an array, one after the other

-- Each level has its buffers, one list for each.

abbrev pub HaveBuffers : Endianness → List Level → List (List (List ℕ)) → Type 0
HaveBuffers order [] [] = Unit {0}
HaveBuffers order (h ∷ hs) (bs ∷ bss) = AreBuffers order h.parts h.validity bs × HaveBuffers order hs bss
HaveBuffers order hs bss = ⊥

-- All buffers of some levels.
abbrev pub joined_buffers : List (List (List ℕ)) → List (List ℕ)
joined_buffers [] = []
joined_buffers (bs ∷ bss) = bs ++ joined_buffers bss
