-- The entries of a batch: its nodes and its buffers, with the bytes that the buffers point to.
-- (Arrow columnar format, "RecordBatch message", "FieldNode", "Buffer".)
use Rattle.std.specs.Prelude.{ℕ, ◌+◌, ◌*◌, ◌/◌, ◌%◌, ◌^◌, ◌==◌, ◌<◌, ◌≤◌, ℤ, pos, negsuc, ◌≤ℤ◌, min, Bool, List, [], ◌∷◌, length, take, drop, slice_index, slice_index_or, if◌then◌else◌, Option, Some, None}
use Rattle.std.specs.Int.{div_ceil}
use Rattle.std.specs.Ordering.{int_eq}
use Rattle.lower.specs.TypeTrees.{TypeTree}
use Rattle.ipc_table_views.specs.declared.message.FieldNode.{FieldNode}
use Rattle.ipc_table_views.specs.declared.schema.Buffer.{Buffer}
use Rattle.lower_types.specs.NumberTypes.{width_of, number_in}
use Rattle.lower_types.specs.Numbers.{unsigned_in}
use Rattle.lower_types.specs.declared.Endianness.{Endianness}
use Rattle.lower_types.specs.declared.PrimitiveType.{PrimitiveType}
use Rattle.lower_arrays.specs.Slots.{Slot}
use Rattle.ipc_model.specs.Numbers.{integer_of}

-- A signed number is a size: it isn't negative.
abbrev pub IsSize : ℤ → Type 0
IsSize z = pos 0 ≤ℤ z

-- A signed number as a size; 0 if it is negative.
abbrev pub size : ℤ → ℕ
size (pos n) = n
size (negsuc n) = 0

-- A signed number is an index below n.
abbrev pub IsIndex : ℤ → ℕ → Type 0
IsIndex (pos m) n = m < n
IsIndex (negsuc m) n = ⊥

-- A buffer's offset and length as encoded, and as many of its bytes as the source has.
pub record Part : Type 0 where
  pub offset : ℤ
  pub length : ℤ
  pub bytes : List ℕ

-- The bytes of a source at an offset from `base`, as far as the source reaches.
abbrev pub bytes_from : List ℕ → ℕ → ℤ → ℤ → List ℕ
bytes_from source base (pos o) (pos l) = take l (drop (base + o) source)
bytes_from source base (pos o) (negsuc l) = []
bytes_from source base (negsuc o) l = []

-- A buffer of a body that begins at offset `base` of a source.
abbrev pub part_at : List ℕ → ℕ → Buffer → Part
part_at source base r = record { offset = r.offset; length = r.length; bytes = bytes_from source base r.offset r.length }

-- The type and the slots of a dictionary's values.
pub record Dictionary : Type 0 where
  pub type : TypeTree
  pub slots : List Slot

-- The dictionaries that are known: values by their ids, the latest first.
abbrev pub Dictionaries : Type 0
Dictionaries = List (ℤ × Dictionary)

-- The latest values under an id.
abbrev pub dictionary_at : Dictionaries → ℤ → Option Dictionary
dictionary_at [] id = None
dictionary_at (d ∷ ds) id = if int_eq d.0 id then Some d.1 else dictionary_at ds id

-- What the columns of a batch are read from. `extra` is how many buffers precede a union's own: 1
-- before version 5 of the metadata, else 0.
pub record Entries : Type 0 where
  pub nodes : List FieldNode
  pub parts : List Part
  pub order : Endianness
  pub extra : ℕ
  pub dictionaries : Dictionaries

-- Node a; one of length 0 if there is none.
abbrev pub node : Entries → ℕ → FieldNode
node s a = slice_index_or s.nodes a (record { length = pos 0; null_count = pos 0 })

-- Buffer b; an empty one if there is none.
abbrev pub buffer : Entries → ℕ → Part
buffer s b = slice_index_or s.parts b (record { offset = pos 0; length = pos 0; bytes = [] })

-- The bytes of buffer b that are present.
abbrev pub bytes : Entries → ℕ → List ℕ
bytes s b = (buffer s b).bytes

-- The encoded length of buffer b.
abbrev pub listed : Entries → ℕ → ℕ
listed s b = size (buffer s b).length

-- At least d bytes of buffer b are encoded and present. Nothing is asked of bytes that aren't
-- needed: the encoded range may reach past the end of the source.
abbrev pub Need : Entries → ℕ → ℕ → Type 0
Need s b d = IsSize (buffer s b).offset × (d ≤ listed s b) × (d ≤ length (bytes s b))

-- A limit on how many slots are read of each column, if there is one.
abbrev pub Limit : Type 0
Limit = Option ℕ

-- A number of slots under a limit.
abbrev pub limited : Limit → ℕ → ℕ
limited None n = n
limited (Some l) n = min l n

-- How many slots of the column at node a are read.
abbrev pub rows : Entries → ℕ → Limit → ℕ
rows s a limit = limited limit (size (node s a).length)

-- The limit of a child that has n slots for each slot of its parent.
abbrev pub times : Limit → ℕ → Limit
times None n = None
times (Some l) n = Some (l * n)

-- How many bytes a bitmap of so many bits has.
abbrev pub bytes_for : ℕ → ℕ
bytes_for bits = div_ceil bits 8

-- Bit i of a bitmap; the lowest bit of a byte comes first.
abbrev pub bit : List ℕ → ℕ → Bool
bit xs i = (slice_index xs (i / 8) / 2 ^ (i % 8)) % 2 == 1

-- The bytes of buffer b from value i on, if each value has w bytes.
abbrev pub value_bytes : Entries → ℕ → ℕ → ℕ → List ℕ
value_bytes s b w i = drop (w * i) (bytes s b)

-- The integer that is value i of buffer b.
abbrev pub integer : Entries → ℕ → PrimitiveType → ℕ → ℤ
integer s b f i = integer_of (number_in f s.order (value_bytes s b (width_of f) i))

-- Offset i of buffer b, if each offset has w bytes.
abbrev pub offset : Entries → ℕ → ℕ → ℕ → ℕ
offset s b w i = unsigned_in w s.order (value_bytes s b w i)
