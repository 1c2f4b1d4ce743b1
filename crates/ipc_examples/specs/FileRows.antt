-- Files as bytes, and what they mean. Beside each is one that has no meaning. A definition by which
-- a footer has one byte more than its length says fails `cut_by_a_byte`.
-- (Arrow columnar format, "IPC File Format"; File.fbs.)
use Rattle.std.specs.Prelude.{◌≡◌, ℕ, pos, negsuc, List, [], ◌∷◌, ◌++◌, ◌+◌, ◌-◌, ◌^◌, length, take, slice_set, codes, Option, Some, None, option_map, ◌<◌}
use Rattle.lower.specs.TypeTrees.{Pairs, int32, plain}
use Rattle.ipc_table_views.specs.Tables.{root_at}
use Rattle.ipc_table_views.specs.declared.file.Block.{Block}
use Rattle.ipc_model.specs.Batches.{Chunk}
use Rattle.ipc_examples.specs.ColumnRows.{number}
use Rattle.ipc_examples.specs.DictionaryRows.{text_head, texts, a, b, values_are, a_and_b, b_alone, two_keys, b_and_a, chunk_is}
use Rattle.ipc_model.specs.Entries.{Dictionaries}
use Rattle.ipc_model.specs.Files.{FileMetadata, magic, footer_at, footer_of_length, metadata_of, BlockHeader, block_header, file_dictionaries, file_chunk}
use Rattle.ipc_examples.specs.SchemaBytes.{four, three_slots, table_bytes, counted, entry_of, pair_bytes, all_pairs}
use Rattle.ipc_model.specs.Schemas.{made, given}
use Rattle.ipc_examples.specs.StreamRows.{schema_metadata, record_metadata, demo_record, demo_schema, demo_chunk, marker, mark}

-- A footer: a schema of x and y, no dictionaries, and one block (208, 192, 128).
abbrev pub footer : List ℕ
footer =
    0x10 ∷ 0 ∷ 0 ∷ 0 ∷ 0x0C ∷ 0 ∷ 0x12 ∷ 0 ∷ 0x10 ∷ 0 ∷ 4 ∷ 0 ∷ 8 ∷ 0 ∷ 0x0C ∷ 0 ∷
    0x0C ∷ 0 ∷ 0 ∷ 0 ∷ 0x18 ∷ 0 ∷ 0 ∷ 0 ∷ 0xB4 ∷ 0 ∷ 0 ∷ 0 ∷ 0xB8 ∷ 0 ∷ 0 ∷ 0 ∷
    4 ∷ 0 ∷ 0 ∷ 0 ∷ 8 ∷ 0 ∷ 8 ∷ 0 ∷ 0 ∷ 0 ∷ 4 ∷ 0 ∷ 8 ∷ 0 ∷ 0 ∷ 0 ∷
    4 ∷ 0 ∷ 0 ∷ 0 ∷ 2 ∷ 0 ∷ 0 ∷ 0 ∷ 0x18 ∷ 0 ∷ 0 ∷ 0 ∷ 0x58 ∷ 0 ∷ 0 ∷ 0 ∷
    0x10 ∷ 0 ∷ 0x12 ∷ 0 ∷ 4 ∷ 0 ∷ 0x10 ∷ 0 ∷ 0x11 ∷ 0 ∷ 8 ∷ 0 ∷ 0 ∷ 0 ∷ 0x0C ∷ 0 ∷
    0x10 ∷ 0 ∷ 0 ∷ 0 ∷ 0x10 ∷ 0 ∷ 0 ∷ 0 ∷ 0x1C ∷ 0 ∷ 0 ∷ 0 ∷ 0x24 ∷ 0 ∷ 0 ∷ 0 ∷
    1 ∷ 2 ∷ 0 ∷ 0 ∷ 1 ∷ 0 ∷ 0 ∷ 0 ∷ 0x78 ∷ 0 ∷ 0 ∷ 0 ∷ 8 ∷ 0 ∷ 9 ∷ 0 ∷
    4 ∷ 0 ∷ 8 ∷ 0 ∷ 8 ∷ 0 ∷ 0 ∷ 0 ∷ 0x20 ∷ 0 ∷ 0 ∷ 0 ∷ 1 ∷ 0 ∷ 0 ∷ 0 ∷
    0 ∷ 0 ∷ 0 ∷ 0 ∷ 0x10 ∷ 0 ∷ 0x12 ∷ 0 ∷ 4 ∷ 0 ∷ 0x10 ∷ 0 ∷ 0x11 ∷ 0 ∷ 8 ∷ 0 ∷
    0 ∷ 0 ∷ 0x0C ∷ 0 ∷ 0x10 ∷ 0 ∷ 0 ∷ 0 ∷ 0x10 ∷ 0 ∷ 0 ∷ 0 ∷ 0x1C ∷ 0 ∷ 0 ∷ 0 ∷
    0x24 ∷ 0 ∷ 0 ∷ 0 ∷ 1 ∷ 2 ∷ 0 ∷ 0 ∷ 1 ∷ 0 ∷ 0 ∷ 0 ∷ 0x79 ∷ 0 ∷ 0 ∷ 0 ∷
    8 ∷ 0 ∷ 9 ∷ 0 ∷ 4 ∷ 0 ∷ 8 ∷ 0 ∷ 8 ∷ 0 ∷ 0 ∷ 0 ∷ 0x20 ∷ 0 ∷ 0 ∷ 0 ∷
    1 ∷ 0 ∷ 0 ∷ 0 ∷ 0 ∷ 0 ∷ 0 ∷ 0 ∷ 0 ∷ 0 ∷ 0 ∷ 0 ∷ 0 ∷ 0 ∷ 0 ∷ 0 ∷
    0 ∷ 0 ∷ 0 ∷ 0 ∷ 1 ∷ 0 ∷ 0 ∷ 0 ∷ 0xD0 ∷ 0 ∷ 0 ∷ 0 ∷ 0 ∷ 0 ∷ 0 ∷ 0 ∷
    0xC0 ∷ 0 ∷ 0 ∷ 0 ∷ 0 ∷ 0 ∷ 0 ∷ 0 ∷ 0x80 ∷ 0 ∷ 0 ∷ 0 ∷ 0 ∷ 0 ∷ 0 ∷ 0 ∷ []

-- A file of one record, which is at offset 208.
abbrev pub demo_file : List ℕ
demo_file =
    magic ++ 0 ∷ 0 ∷ [] ++ marker ++ (192 ∷ 0 ∷ 0 ∷ 0 ∷ []) ++ schema_metadata ++ demo_record ++ mark
    ++ footer ++ (240 ∷ 0 ∷ 0 ∷ 0 ∷ []) ++ magic

abbrev pub block_at : ℕ → Block
block_at offset = record { offset = pos offset; meta_data_length = pos 192; body_length = pos 128 }

abbrev pub with_block : Block → FileMetadata
with_block b = record { schema = demo_schema; pairs = []; dictionaries = []; blocks = b ∷ []; size = length demo_file }

abbrev pub demo_metadata : FileMetadata
demo_metadata = with_block (block_at 208)

abbrev pub second_column : Chunk
second_column = record { type = plain int32; slots = number 1 ∷ [] } ∷ []

-- The file's footer, its dictionaries and its chunk, whole and pruned. No meaning:
-- another head or tail, a footer that is too long, a block at the offset of the
-- schema, and a block that isn't there.
pub record FileRows : Type 0 where
  pub its_metadata : metadata_of demo_file ≡ Some demo_metadata
  pub its_dictionaries : file_dictionaries demo_metadata demo_file ≡ Some []
  pub its_chunk : file_chunk demo_metadata [] demo_file None None 0 ≡ Some demo_chunk
  pub pruned : file_chunk demo_metadata [] demo_file (Some (1 ∷ [])) (Some 1) 0 ≡ Some second_column
  pub another_head : metadata_of (slice_set demo_file 5 0x32) ≡ None
  pub another_tail : metadata_of (slice_set demo_file (length demo_file - 1) 0x32) ≡ None
  pub too_long : metadata_of (slice_set demo_file (length demo_file - 8) 1) ≡ None
  pub negative : metadata_of (slice_set demo_file (length demo_file - 7) 0xFF) ≡ None
  pub no_record : file_chunk (with_block (block_at 8)) [] demo_file None None 0 ≡ None
  pub no_block : file_chunk demo_metadata [] demo_file None None 1 ≡ None

-- ---- the footer

-- The file up to its footer.
abbrev pub before_footer : List ℕ
before_footer = take (length demo_file - 250) demo_file

-- With a byte of the footer's vtable set to 0: that field is absent.
abbrev pub without_slot : ℕ → Option FileMetadata
without_slot place = metadata_of (slice_set demo_file (length demo_file - 250 + place) 0)

-- A footer is as long as its length says: bytes after its end aren't its own. A length from 2 ^ 31
-- on is negative, however long the file is. The schema and the record blocks must be present;
-- without a list of dictionary blocks there are none.
pub record FooterRows : Type 0 where
  pub cut_off : metadata_of (before_footer ++ take 236 footer ++ (236 ∷ 0 ∷ 0 ∷ 0 ∷ []) ++ magic) ≡ None
  pub cut_by_a_byte : metadata_of
      (before_footer ++ take 239 footer ++ (239 ∷ 0 ∷ 0 ∷ 0 ∷ []) ++ magic) ≡ None
  pub a_byte_before : metadata_of (before_footer ++ footer ++ 0 ∷ (240 ∷ 0 ∷ 0 ∷ 0 ∷ []) ++ magic) ≡ None
  pub negative_length : (bytes : List ℕ) → footer_of_length bytes (2 ^ 31) ≡ None
  pub no_schema : without_slot 10 ≡ None
  pub no_dictionaries : without_slot 12 ≡ Some demo_metadata
  pub no_records : without_slot 14 ≡ None
  pub short_file : metadata_of magic ≡ None
  pub longer_than_the_file : (bytes : List ℕ) (n : ℕ) → length bytes < n + 10 → footer_of_length bytes n ≡ None

-- ---- the pairs of a footer

-- A footer without fields and without blocks, with pairs if they aren't empty.
abbrev pub footer_bytes : List ℕ → List ℕ
footer_bytes pairs =
    four 18 ++ table_bytes (4 ∷ 8 ∷ 0 ∷ 16 ∷ entry_of pairs 20 ∷ [])
    (4 ∷ 0 ∷ 0 ∷ 0 ∷ [] ++ four 26 ++ four 0 ++ four 30 ++ four 30 ++ three_slots 0 4 0 (four 4 ++ four 0) ++ four 0 ++ pairs)

-- "m" without a value.
abbrev pub half_a_pair : List ℕ
half_a_pair = table_bytes (4 ∷ 0 ∷ []) (four 4 ++ counted (codes "m"))

abbrev pub pairs_in : List ℕ → Option Pairs
pairs_in pairs = option_map (λ (m : FileMetadata). m.pairs) (given (made (root_at (footer_bytes pairs))) (footer_at 0))

-- Pairs of the footer are read as those of a schema: the later of equal keys wins, and a pair
-- without a key or a value is skipped. An invalid pair has no meaning.
pub record FooterPairRows : Type 0 where
  pub none_there : pairs_in [] ≡ Some []
  pub later_wins : pairs_in (all_pairs (pair_bytes (codes "k") (codes "1") ∷ pair_bytes (codes "k") (codes "2") ∷ half_a_pair ∷ [])) ≡ Some ((codes "k", codes "2") ∷ [])
  pub no_text : pairs_in (all_pairs (pair_bytes (0xFF ∷ []) (codes "1") ∷ [])) ≡ None

-- ---- blocks

-- A block of a message at this offset, whose body has so many bytes.
abbrev pub block_of : ℕ → List ℕ → ℕ → Block
block_of place message body = record { offset = pos place; meta_data_length = pos (length message - body); body_length = pos body }

-- Two messages with values of the id 0, and two records.
abbrev pub messages : List ℕ
messages = a_and_b ++ b_alone ++ two_keys 1 0 ++ two_keys 0 0

abbrev pub first_block : Block
first_block = block_of 0 a_and_b 128

abbrev pub second_block : Block
second_block = block_of (length a_and_b) b_alone 128

abbrev pub third_block : Block
third_block = block_of (length (a_and_b ++ b_alone)) (two_keys 1 0) 64

abbrev pub last_block : Block
last_block = block_of (length (a_and_b ++ b_alone ++ two_keys 1 0)) (two_keys 0 0) 64

abbrev pub blocks_are : List Block → List Block → FileMetadata
blocks_are ds bs = record { schema = text_head.schema; pairs = []; dictionaries = ds; blocks = bs; size = length messages }

abbrev pub text_blocks : FileMetadata
text_blocks = blocks_are (first_block ∷ second_block ∷ []) (third_block ∷ last_block ∷ [])

abbrev pub both_known : Dictionaries
both_known = (pos 0, values_are (b ∷ [])) ∷ (pos 0, values_are (a ∷ b ∷ [])) ∷ []

abbrev pub first_known : Dictionaries
first_known = (pos 0, values_are (a ∷ b ∷ [])) ∷ []

abbrev pub extra_of_block : ℕ → Option ℕ
extra_of_block version = option_map (λ (h : BlockHeader). h.extra) (block_header (slice_set record_metadata 36 version))

-- Dictionary blocks are read in the footer's order, and the last of an id counts; records by their
-- index. A block's message has either prefix, the right header, and its own version counts. Neither
-- of the block's two numbers that are used is negative. What the message says of its body isn't
-- used. Its buffers are present to their last byte.
pub record BlockRows : Type 0 where
  pub in_order : file_dictionaries text_blocks messages ≡ Some both_known
  pub in_other_order : file_dictionaries (blocks_are (second_block ∷ first_block ∷ []) []) messages
      ≡ Some ((pos 0, values_are (a ∷ b ∷ [])) ∷ (pos 0, values_are (b ∷ [])) ∷ [])
  pub first_record : file_chunk text_blocks first_known messages None None 0 ≡ Some b_and_a
  pub second_record : file_chunk text_blocks first_known messages None None 1 ≡ Some (chunk_is texts (a ∷ a ∷ []))
  pub last_counts : file_chunk text_blocks both_known messages None None 0 ≡ None
  pub older_prefix : file_chunk (blocks_are [] (record { offset = pos 4; meta_data_length = pos (length (two_keys 1 0) - 68); body_length = pos 64 } ∷ [])) first_known (two_keys 1 0) None None 0 ≡ Some b_and_a
  pub a_dictionary : file_chunk (blocks_are [] (first_block ∷ [])) first_known messages None None 0 ≡ None
  pub a_record : file_dictionaries (blocks_are (third_block ∷ []) []) messages ≡ None
  pub negative_offset : file_chunk (with_block (record { offset = negsuc 0; meta_data_length = pos 192; body_length = pos 128 })) [] demo_file None None 0 ≡ None
  pub negative_length : file_chunk (with_block (record { offset = pos 208; meta_data_length = negsuc 0; body_length = pos 128 })) [] demo_file None None 0 ≡ None
  pub negative_body : file_chunk (with_block (record { offset = pos 208; meta_data_length = pos 192; body_length = negsuc 0 })) [] demo_file None None 0 ≡ Some demo_chunk
  pub fifth_version : extra_of_block 4 ≡ Some 0
  pub fourth_version : extra_of_block 3 ≡ Some 1
  pub first_version : extra_of_block 0 ≡ Some 1
  pub no_version : extra_of_block 5 ≡ None
  pub to_the_last_byte : file_chunk demo_metadata [] (take 472 demo_file) None None 0 ≡ Some demo_chunk
  pub a_byte_short : file_chunk demo_metadata [] (take 471 demo_file) None None 0 ≡ None
  pub negative_in_the_message : file_chunk demo_metadata [] (slice_set demo_file 247 0xFF) None None 0 ≡ Some demo_chunk
