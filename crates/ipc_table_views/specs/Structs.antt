-- Structs in a vector, one after the other. (Flatbuffers, "Internals".)
use Rattle.std.specs.Prelude.{ℕ, zero, suc, ◌+◌, ℤ, List, [], ◌∷◌, drop, take, Option, Result}
use Rattle.std.specs.Int.{w32, w64, cast_signed}
use Rattle.byteorder.specs.Endian.{little_number}
use Rattle.ipc_devices.specs.declared.fault.TableFault.{TableFault}
use Rattle.ipc_table_views.specs.declared.message.FieldNode.{FieldNode}
use Rattle.ipc_table_views.specs.declared.schema.Buffer.{Buffer}
use Rattle.ipc_table_views.specs.declared.file.Block.{Block}
use Rattle.ipc_table_views.specs.Tables.{and_then, map_ok, of_slot, slot_at, target_at, vector_at}

-- `count` structs of `size` bytes each, from offset p on.
abbrev pub structs_from : {S : Type 0} → (ℕ → S) → ℕ → ℕ → ℕ → List S
structs_from read size zero p = []
structs_from read size (suc count) p = read p ∷ structs_from read size count (p + size)

-- The structs of the vector at t.
unfoldable pub structs_at : {S : Type 0} → (List ℕ → ℕ → S) → ℕ → List ℕ → ℕ → Result (List S) TableFault
structs_at read size m t = map_ok (λ v. structs_from (read m) size v.count v.place) (vector_at size m t)

-- The structs of the vector in field i.
abbrev pub structs_slot : {S : Type 0} → (List ℕ → ℕ → S) → ℕ → List ℕ → ℕ → ℕ → Result (Option (List S)) TableFault
structs_slot read size m p i = of_slot (slot_at m p i) (λ q. and_then (target_at m q) (structs_at read size m))

-- The signed number in the 4 bytes at an offset.
unfoldable pub signed32 : List ℕ → ℕ → ℤ
signed32 m p = cast_signed w32 (little_number 4 (take 4 (drop p m)))

-- The signed number in the 8 bytes at an offset.
unfoldable pub signed64 : List ℕ → ℕ → ℤ
signed64 m p = cast_signed w64 (little_number 8 (take 8 (drop p m)))

-- FieldNode of Message.fbs: length, null_count.
abbrev pub node_of : List ℕ → ℕ → FieldNode
node_of m p = record { length = signed64 m p; null_count = signed64 m (p + 8) }

-- Buffer of Schema.fbs: offset, length.
abbrev pub buffer_of : List ℕ → ℕ → Buffer
buffer_of m p = record { offset = signed64 m p; length = signed64 m (p + 8) }

-- Block of File.fbs: offset, metaDataLength, 4 bytes unused, bodyLength.
abbrev pub block_of : List ℕ → ℕ → Block
block_of m p = record { offset = signed64 m p; meta_data_length = signed32 m (p + 8); body_length = signed64 m (p + 16) }
