-- How a message is framed in a stream or a file.
-- (Arrow columnar format, "Encapsulated message format".)
use Rattle.std.specs.Prelude.{ℕ, ℤ, pos, ◌+◌, ◌-◌, List, ◌++◌, length, replicate}
use Rattle.std.specs.Int.{w32, cast_unsigned, next_multiple_of}
use Rattle.ipc_model.specs.WrittenLaws.{prefix}

-- These bytes, and zeros up to the next multiple.
unfoldable pub padded : List ℕ → ℕ → List ℕ
padded bytes multiple = bytes ++ replicate (next_multiple_of (length bytes) multiple - length bytes) 0

-- The continuation marker, and a length as a signed 32-bit integer, little-endian.
unfoldable pub prefix_bytes : ℤ → List ℕ
prefix_bytes n = prefix (cast_unsigned w32 n)

-- The bytes before a body: the prefix with the length of the padded metadata, and the metadata
-- padded to a multiple of 8 bytes.
unfoldable pub head_bytes : List ℕ → List ℕ
head_bytes metadata = prefix_bytes (pos (next_multiple_of (length metadata) 8)) ++ padded metadata 8

-- How many bytes precede a body.
abbrev pub head_len : List ℕ → ℕ
head_len metadata = 8 + next_multiple_of (length metadata) 8

-- A message: the bytes before its body, and the body padded to a multiple of 64 bytes.
unfoldable pub message_bytes : List ℕ → List ℕ → List ℕ
message_bytes metadata body = head_bytes metadata ++ padded body 64

-- How many bytes a message has.
abbrev pub message_len : List ℕ → List ℕ → ℕ
message_len metadata body = head_len metadata + next_multiple_of (length body) 64
