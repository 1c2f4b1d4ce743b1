-- The first frame of a stream.
-- (Arrow columnar format, "Encapsulated message format".)
use Rattle.std.specs.Prelude.{◌≡◌, ℕ, ◌^◌, ◌==◌, ◌<◌, nat_lt, if◌then◌else◌, List, ◌++◌, length, take, drop}
use Rattle.std.specs.Int.{w32, from_le_bytes}

-- The first frame of some bytes. A message is its metadata and the bytes after it: the body, and
-- then the next frame. A mark ends the stream. With fewer than the 4 bytes of a prefix, the stream
-- waits for more. Anything else is broken: a negative length, or fewer bytes than stated.
pub data Frame : Type 0 where
  message : (metadata rest : List ℕ) → Frame
  mark : (rest : List ℕ) → Frame
  waiting : (begun : List ℕ) → Frame
  broken : Frame

-- The number in the first 4 bytes, little-endian.
abbrev pub word : List ℕ → ℕ
word bytes = from_le_bytes w32 (take 4 bytes)

-- A message of n bytes of metadata; a mark if n is 0. From 2 ^ 31 on, n is negative as
-- a signed number and no length.
unfoldable pub sized : ℕ → List ℕ → Frame
sized n bytes =
    if nat_lt n (2 ^ 31)
    then (if n == 0 then mark bytes else if nat_lt (length bytes) n then broken else message (take n bytes)
    (drop n bytes))
    else broken

-- The length after the continuation marker, and its message.
unfoldable pub marked : List ℕ → Frame
marked bytes = if nat_lt (length bytes) 4 then broken else sized (word bytes) (drop 4 bytes)

-- The newer prefix is the continuation marker, 4 bytes of 255, and the length. The
-- older one is the length alone.
unfoldable pub frame : List ℕ → Frame
frame bytes =
    if nat_lt (length bytes) 4 then waiting bytes
    else if word bytes == 0xFFFF_FFFF then marked (drop 4 bytes)
    else sized (word bytes) (drop 4 bytes)

-- A complete message is the same if bytes are added, which go to its rest.
abbrev pub KeepsMessage : (bytes added : List ℕ) → Type 0
KeepsMessage bytes added = (metadata rest : List ℕ) → frame bytes ≡ message metadata rest
    → frame (bytes ++ added) ≡ message metadata (rest ++ added)

-- A message takes at least one byte.
abbrev pub TakesBytes : List ℕ → Type 0
TakesBytes bytes = (metadata rest : List ℕ) → frame bytes ≡ message metadata rest → length rest < length bytes

-- If a stream waits, the partial prefix is all of its bytes.
abbrev pub WaitsWithAll : List ℕ → Type 0
WaitsWithAll bytes = (begun : List ℕ) → frame bytes ≡ waiting begun → begun ≡ bytes
