-- How many bytes a struct or a number of a vector takes.
-- (Flatbuffers, "Internals": structs and vectors.)
use Rattle.std.proofs.Common.{arith, ◌≡◌, ℕ, ℤ, ◌<◌, ◌++◌, length, length-append}
use Rattle.byteorder.specs.Numbers.{length-bytes_low_first}
use Rattle.ipc_table_bytes.specs.Pads.{le}
use Rattle.ipc_table_views.specs.declared.message.FieldNode.{FieldNode}
use Rattle.ipc_table_views.specs.declared.schema.Buffer.{Buffer}
use Rattle.ipc_table_views.specs.declared.file.Block.{Block}
use Rattle.ipc_tables.specs.declared.schema.Feature.{Feature}
use Rattle.ipc_tables.specs.Files.{block_bytes}
use Rattle.ipc_tables.specs.Messages.{buffer_bytes, node_bytes}
use Rattle.ipc_tables.specs.Schemas.{feature_bytes, feature_number}
use Rattle.ipc_tables.specs.Slots.{bits32, bits64}
use Rattle.ipc_tables.specs.Types.{id_bytes}

long : (k x : ℕ) → length (le k x) ≡ k
unfolding le
long k x = length-bytes_low_first 0 k x

pub some-4 : 0 < 4
some-4 = omega arith

pub some-8 : 0 < 8
some-8 = omega arith

pub some-16 : 0 < 16
some-16 = omega arith

pub some-24 : 0 < 24
some-24 = omega arith

pub length-id : (id : ℤ) → length (id_bytes id) ≡ 4
length-id id = long 4 (bits32 id)

pub length-feature : (f : Feature) → length (feature_bytes f) ≡ 8
length-feature f = long 8 (feature_number f)

pub length-pair : (x y : ℕ) → length (le 8 x ++ le 8 y) ≡ 16
length-pair x y = omega (arith, length-append (le 8 x) (le 8 y), long 8 x, long 8 y)

pub length-node : (n : FieldNode) → length (node_bytes n) ≡ 16
length-node n = length-pair (bits64 n.length) (bits64 n.null_count)

pub length-buffer : (b : Buffer) → length (buffer_bytes b) ≡ 16
length-buffer b = length-pair (bits64 b.offset) (bits64 b.length)

pub length-block : (b : Block) → length (block_bytes b) ≡ 24
length-block b =
    let offset = le 8 (bits64 b.offset) in
    let metadata = le 4 (bits32 b.meta_data_length) in
    let body = le 8 (bits64 b.body_length) in
    omega (
      arith,
      length-append offset (metadata ++ (le 4 0 ++ body)),
      length-append metadata (le 4 0 ++ body),
      length-append (le 4 0) body,
      long 8 (bits64 b.offset),
      long 4 (bits32 b.meta_data_length),
      long 4 0,
      long 8 (bits64 b.body_length),
    )
