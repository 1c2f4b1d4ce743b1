-- What planning adds to a plan.
-- (Arrow columnar format, "Buffer Alignment and Padding".)
use Rattle.std.specs.Prelude.{◌≡◌, ℕ, pos, ◌+◌, ◌*◌, ◌^◌, ◌<◌, ◌≤◌, Bool, List, [], ◌∷◌, ◌++◌, length, map}
use Rattle.std.specs.Int.{next_multiple_of}
use Rattle.std.specs.List.{AllByRecursion, flat_map}
use Rattle.lower_types.specs.NumberTypes.{Number}
use Rattle.lower_types.specs.declared.Endianness.{Endianness}
use Rattle.lower_types.specs.declared.PrimitiveType.{PrimitiveType}
use Rattle.lower_arrays.specs.Layouts.{Validity, Parts, Level, nulls_among}
use Rattle.lower_flat_arrays.specs.Validities.{null_count_of}
use Rattle.ipc_table_views.specs.declared.message.FieldNode.{FieldNode}
use Rattle.ipc_table_views.specs.declared.schema.Buffer.{Buffer}
use Rattle.ipc_model.specs.WrittenBatches.{padded, entry}
use Rattle.ipc_plan.specs.Levels.{node_of, AreBits, AreNumberBytes, AreOffsetBytes, AreRead, AreBuffers, cut_out, HaveBuffers, IsValidity, joined_buffers}
use Rattle.ipc_plan.specs.Pieces.{slice_type, slice_numbers, number_bytes, pieces_bytes, buffer_pieces, EndsClear}
use Rattle.ipc_plan.specs.declared.pieces.NumberSlice.{NumberSlice}
use Rattle.ipc_plan.specs.declared.pieces.Padded.{Padded}
use Rattle.ipc_plan.specs.declared.pieces.Piece.{Piece}
use Rattle.ipc_plan.specs.declared.plan.Plan.{Plan}

-- The entries of buffers of these bytes from offset o on; each is padded to a multiple of 64 bytes.
abbrev pub entries_from : ℕ → List (List ℕ) → List Buffer
entries_from o [] = []
entries_from o (x ∷ bs) = entry (pos o) (length x) ∷ entries_from (o + next_multiple_of (length x) 64) bs

-- The offset after buffers of these bytes that begin at offset o.
abbrev pub end_from : ℕ → List (List ℕ) → ℕ
end_from o [] = o
end_from o (x ∷ bs) = end_from (o + next_multiple_of (length x) 64) bs

-- The buffers, each padded to a multiple of 64 bytes.
abbrev pub body : List (List ℕ) → List ℕ
body bs = flat_map padded bs

-- The plan has these nodes more, and buffers of these bytes.
pub record Grows (p q : Plan) (ns : List FieldNode) (bs : List (List ℕ)) : Type 0 where
  pub order_same : q.order ≡ p.order
  pub nodes_are : q.nodes.items ≡ p.nodes.items ++ ns
  pub entries_are : q.buffers.items ≡ p.buffers.items ++ entries_from p.end bs
  pub end_is : q.end ≡ end_from p.end bs
  pub body_is : pieces_bytes p.order q.pieces.items ≡ pieces_bytes p.order p.pieces.items ++ body bs
  pub few : length q.pieces.items ≤ length p.pieces.items + length bs
  pub small : q.end < 2 ^ 63

-- The plan has one buffer more: a validity.
pub record AddsValidity (p q : Plan) (v : Validity) : Type 0 where
  pub bytes : List ℕ
  pub validity : IsValidity v bytes
  pub grows : Grows p q [] (bytes ∷ [])

-- The plan has one buffer more: bits.
pub record AddsBits (p q : Plan) (bits : List Bool) : Type 0 where
  pub bytes : List ℕ
  pub are : AreBits bits bytes
  pub grows : Grows p q [] (bytes ∷ [])

-- The plan has the piece of one buffer more: x of n bytes, with zeros.
pub record AddsPieces (p q : Plan) (x : Piece) (n : ℕ) : Type 0 where
  pub pieces_are : q.pieces.items ≡ p.pieces.items ++ buffer_pieces x n

-- The plan has more pieces; each that isn't unchanged bytes has zeros after its n bits.
pub record AddsClear (p q : Plan) (n : ℕ) : Type 0 where
  pub pieces : List Padded
  pub more : q.pieces.items ≡ p.pieces.items ++ pieces
  pub clear : AllByRecursion (λ x. EndsClear p.order n x.piece) pieces

-- The plan has one buffer more: numbers.
pub record AddsNumbers (p q : Plan) (t : PrimitiveType) (ns : List Number) : Type 0 where
  pub bytes : List ℕ
  pub are : AreNumberBytes p.order t ns bytes
  pub grows : Grows p q [] (bytes ∷ [])

-- The plan has the node and the buffers of a level of n slots more.
pub record AddsLevel (p q : Plan) (n : ℕ) (parts : Parts) (v : Validity) : Type 0 where
  pub own : List (List ℕ)
  pub are : AreBuffers p.order parts v own
  pub grows : Grows p q (record { length = pos n; null_count = pos (nulls_among parts n v) } ∷ []) own

-- The plan has these levels more, one after the other.
pub record Adds (p q : Plan) (hs : List Level) : Type 0 where
  pub buffers : List (List (List ℕ))
  pub have : HaveBuffers p.order hs buffers
  pub grows : Grows p q (map node_of hs) (joined_buffers buffers)

-- Values are written as their numbers' bytes, and read as these numbers.
pub record AreSpelt {T : Type 0} (t : PrimitiveType) (number : T → Number) (spelt : Endianness → T → List ℕ) (xs : List T) : Type 0 where
  pub each : (order : Endianness) → AreRead order t (map number xs) (flat_map (spelt order) xs)

-- Numbers of any type are read from their bytes.
pub record IsSpelt (xs : NumberSlice) : Type 0 where
  pub each : (order : Endianness) → AreRead order (slice_type xs) (slice_numbers xs) (number_bytes order xs)

-- The plan has one buffer more: offsets of a type, each less the first.
pub record AddsOffsets (p q : Plan) (t : PrimitiveType) (os : List ℕ) : Type 0 where
  pub bytes : List ℕ
  pub are : AreOffsetBytes p.order t os bytes
  pub grows : Grows p q [] (bytes ∷ [])

-- The plan has a node, a validity and offsets more.
pub record AddsHead (p q : Plan) (n : ℕ) (t : PrimitiveType) (os : List ℕ) (v : Validity) : Type 0 where
  pub validity_bytes : List ℕ
  pub offset_bytes : List ℕ
  pub validity : IsValidity v validity_bytes
  pub offsets : AreOffsetBytes p.order t os offset_bytes
  pub grows : Grows p q (record { length = pos n; null_count = pos (null_count_of v) } ∷ []) (validity_bytes ∷ offset_bytes ∷ [])

-- The plan has a node, a validity, offsets and the bytes that these cut out more.
pub record AddsSpans (p q : Plan) (n : ℕ) (t : PrimitiveType) (os xs : List ℕ) (v : Validity) : Type 0 where
  pub validity_bytes : List ℕ
  pub offset_bytes : List ℕ
  pub validity : IsValidity v validity_bytes
  pub offsets : AreOffsetBytes p.order t os offset_bytes
  pub grows : Grows p q (record { length = pos n; null_count = pos (null_count_of v) } ∷ []) (validity_bytes ∷ offset_bytes ∷ cut_out os xs ∷ [])

-- The plan has a node and a validity more.
pub record AddsStart (p q : Plan) (n : ℕ) (v : Validity) : Type 0 where
  pub validity_bytes : List ℕ
  pub validity : IsValidity v validity_bytes
  pub grows : Grows p q (record { length = pos n; null_count = pos (null_count_of v) } ∷ []) (validity_bytes ∷ [])
