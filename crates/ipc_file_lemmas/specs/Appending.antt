-- Where appending begins in an existing file, and what the bytes before that position mean.
-- (Arrow columnar format, "IPC File Format"; File.fbs, Block.)
use Rattle.std.specs.Prelude.{◌≡◌, ◌⊎◌, ℕ, ℤ, pos, negsuc, ◌+◌, min, max, List, [], ◌∷◌, ◌++◌, length, map, take}
use Rattle.lower.specs.Normal.{norm, norm_fields}
use Rattle.ipc_table_views.specs.declared.file.Block.{Block}
use Rattle.ipc_model.specs.Batches.{Chunk, Column, Schema}
use Rattle.ipc_model.specs.Entries.{Dictionaries, size}
use Rattle.ipc_model.specs.FileFollowLaws.{BlocksMean}
use Rattle.ipc_model.specs.Files.{FileMetadata, all_of}
use Rattle.ipc_stream_lemmas.specs.Remembered.{KnowsRemembered, Remembered}
use Rattle.ipc_file_lemmas.specs.FileBytes.{HoldsFile}

-- ---- the numbers of blocks

-- A signed number is negative.

abbrev pub IsNegative : ℤ → Type 0
IsNegative (pos n) = ⊥
IsNegative (negsuc n) = Unit {0}

-- One of the three numbers of a block is negative.
abbrev pub HasNegative : Block → Type 0
HasNegative b = IsNegative b.offset ⊎ (IsNegative b.meta_data_length ⊎ IsNegative b.body_length)

-- One of these blocks has a negative number.
abbrev pub HaveNegative : List Block → Type 0
HaveNegative [] = ⊥
HaveNegative (b ∷ bs) = HasNegative b ⊎ HaveNegative bs

-- Where a block ends: after its message and the message's body.
abbrev pub end_of : Block → ℕ
end_of b = size b.offset + size b.meta_data_length + size b.body_length

-- The greatest end of some blocks.
abbrev pub greatest_end : List Block → ℕ
greatest_end [] = 0
greatest_end (b ∷ bs) = max (end_of b) (greatest_end bs)

-- The append position: after all blocks of either kind, but not after the end of the file,
-- and not in the first eight bytes.
abbrev pub goes_on : FileMetadata → ℕ
goes_on m = max 8 (min m.size (greatest_end (m.dictionaries ++ m.blocks)))

-- ---- the bytes before the append position

-- The bytes of the file up to the end of a block.
abbrev pub inside : List ℕ → Block → List ℕ
inside bytes b = take (end_of b) bytes

-- The blocks of a file mean these dictionaries and chunks, read from the bytes
-- before the append position alone.
abbrev pub MeansBefore : FileMetadata → List ℕ → Dictionaries → List Chunk → Type 0
MeansBefore m bytes known cs = BlocksMean m (all_of (take (goes_on m) bytes)) known cs

-- Theorem: if blocks need no byte after their own end, they need none after the append position.
abbrev pub InsideLaw : Type 0
InsideLaw = (m : FileMetadata) (bytes : List ℕ) (known : Dictionaries) (cs : List Chunk) → m.size ≡ length bytes
    → BlocksMean m (inside bytes) known cs → MeansBefore m bytes known cs

-- Theorem: as long as the bytes before the append position stay, the old metadata give
-- the same dictionaries and chunks.
abbrev pub StayLaw : Type 0
StayLaw = (m : FileMetadata) (bytes then : List ℕ) (known : Dictionaries) (cs : List Chunk) → take (goes_on m) then ≡ take (goes_on m) bytes
    → MeansBefore m bytes known cs → BlocksMean m (all_of then) known cs

-- ---- the normal form

-- A schema in its normal form.
abbrev pub normal_schema : Schema → Schema
normal_schema s = record { fields = norm_fields s.fields; metadata = s.metadata; ids = s.ids; order = s.order }

-- A column whose type is in its normal form.
abbrev pub normal_column : Column → Column
normal_column c = record { type = norm c.type; slots = c.slots }

-- A chunk whose types are in their normal form.
abbrev pub normal_chunk : Chunk → Chunk
normal_chunk c = map normal_column c

-- Theorem: a writer that has the dictionaries of a file can append to its chunks, in
-- the normal form of its schema.
abbrev pub GoOnLaw : Type 0
GoOnLaw = (m : FileMetadata) (bytes : List ℕ) (known : Dictionaries) (r : Remembered) (cs : List Chunk) → KnowsRemembered r known → MeansBefore m bytes known cs
    → HoldsFile (normal_schema m.schema) m.size (take (goes_on m) bytes) m.dictionaries m.blocks r (map normal_chunk cs)
