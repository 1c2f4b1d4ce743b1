-- Batches and streams as bytes: columns after others, versions and byte orders. Beside
-- most is one that has no meaning.
-- (Arrow columnar format, "RecordBatch message", "Dictionary messages" and "Byte Order
-- (Endianness)"; Message.fbs, MetadataVersion.)
use Rattle.std.specs.Prelude.{◌≡◌, ℕ, pos, false, List, [], ◌∷◌, ◌++◌, length, codes, slice_set, Option, Some, None}
use Rattle.lower.specs.TypeTrees.{TypeTree, int32, list, choice, plain, single, group, dictionary, more_fields}
use Rattle.lower.specs.declared.datatypes.IntegerType.TheVariants.{Int32}
use Rattle.lower.specs.declared.datatypes.UnionMode.TheVariants.{Sparse}
use Rattle.lower_types.specs.declared.Endianness.{Endianness}
use Rattle.lower_types.specs.declared.Endianness.TheVariants.{Little, Big}
use Rattle.lower_arrays.specs.Slots.{Slot}
use Rattle.ipc_base.specs.IdTrees.{IdTree, ids, no_ids, more_ids}
use Rattle.ipc_table_views.specs.declared.file.Block.{Block}
use Rattle.ipc_model.specs.Batches.{Schema, Chunk, batch}
use Rattle.ipc_model.specs.Samples.{node_is, buffer_is, entries, named, alone}
use Rattle.ipc_examples.specs.ColumnRows.{padded, word, number, numbers_of, variant}
use Rattle.ipc_examples.specs.DictionaryRows.{record_message, dictionary_message, chunk_is, faulty_after}
use Rattle.ipc_model.specs.Entries.{Dictionaries, Limit}
use Rattle.ipc_examples.specs.FileRows.{block_of, demo_file, with_block, block_at, demo_metadata}
use Rattle.ipc_model.specs.Files.{FileMetadata, file_dictionaries, file_chunk}
use Rattle.ipc_examples.specs.StreamRows.{three_fields, minus_one, demo_chunk}
use Rattle.ipc_model.specs.Streams.{Head, nothing_known, waits, Meant, meaning}
use Rattle.ipc_table_views.specs.declared.schema.MetadataVersion.TheVariants.{V4, V5}
use Rattle.ipc_table_views.specs.declared.schema.MetadataVersion.{MetadataVersion}

abbrev pub integer : TypeTree
integer = plain int32

-- What a schema message of one field says, of this version.
abbrev pub head_with : MetadataVersion → Endianness → TypeTree → IdTree → Head
head_with version order t i = record {
  schema = record { fields = alone (named t (codes "f")); metadata = []; ids = more_ids i no_ids; order = order };
  version = version;
}

abbrev pub no_id : IdTree
no_id = ids None no_ids

abbrev pub one_chunk : TypeTree → List Slot → Meant
one_chunk t xs = record { chunks = chunk_is t xs ∷ []; end = waits nothing_known [] }

-- What is known of the id 0 after one message.
abbrev pub known_values : TypeTree → List Slot → Dictionaries
known_values t xs = (pos 0, record { type = t; slots = xs }) ∷ []

abbrev pub one_known : TypeTree → List Slot → Meant
one_known t xs = record { chunks = []; end = waits (record { dictionaries = known_values t xs; count = 1 }) [] }

-- ---- versions

-- A sparse union of integers alone.
abbrev pub variants : TypeTree
variants = group (choice None Sparse) (alone (named integer (codes "f")))

abbrev pub variant_ids : IdTree
variant_ids = ids None (more_ids no_id no_ids)

-- Keys of such a union's slots, under the id 0.
abbrev pub keyed_variants : TypeTree
keyed_variants = dictionary Int32 variants false

abbrev pub keyed_ids : IdTree
keyed_ids = ids (Some (pos 0)) (more_ids no_id no_ids)

abbrev pub seven : List Slot
seven = variant 0 (number 7) ∷ []

-- The buffer of type ids is the first, as from version 5 on, or comes after another one.
abbrev pub newer_buffers : List (ℕ × ℕ)
newer_buffers = (0, 1) ∷ (0, 0) ∷ (64, 4) ∷ []

abbrev pub older_buffers : List (ℕ × ℕ)
older_buffers = (0, 0) ∷ (0, 1) ∷ (0, 0) ∷ (64, 4) ∷ []

abbrev pub one_seven : List (ℕ × ℕ) → List ℕ
one_seven bs = record_message ((1, 0) ∷ (1, 0) ∷ []) bs (padded (0 ∷ []) ++ padded (word 7))

abbrev pub seven_as_values : List (ℕ × ℕ) → List ℕ
seven_as_values bs = dictionary_message 0 ((1, 0) ∷ (1, 0) ∷ []) bs (padded (0 ∷ []) ++ padded (word 7))

-- The same message with the number of version 4.
abbrev pub in_fourth : List ℕ → List ℕ
in_fourth message = slice_set message 44 3

-- A file of one message.
abbrev pub file_of : Schema → List Block → List Block → List ℕ → FileMetadata
file_of schema ds bs message = record { schema = schema; pairs = []; dictionaries = ds; blocks = bs; size = length message }

abbrev pub record_in_file : List ℕ → Option Chunk
record_in_file message = file_chunk (file_of (head_with V5 Little variants variant_ids).schema [] (block_of 0 message 128 ∷ []) message) [] message None None 0

abbrev pub values_in_file : List ℕ → Option Dictionaries
values_in_file message = file_dictionaries (file_of (head_with V5 Little keyed_variants keyed_ids).schema (block_of 0 message 128 ∷ []) [] message) message

-- In a stream the version of the schema message counts for each batch and for the
-- values of dictionaries, whatever the message of the batch says. In a file the version
-- of the batch's own message counts.
pub record VersionBatchRows : Type 0 where
  pub newer_stream : meaning (head_with V5 Little variants variant_ids) nothing_known (one_seven newer_buffers) ≡ one_chunk variants seven
  pub older_stream : meaning (head_with V4 Little variants variant_ids) nothing_known (one_seven older_buffers) ≡ one_chunk variants seven
  pub older_batch : meaning (head_with V5 Little variants variant_ids) nothing_known (in_fourth (one_seven newer_buffers)) ≡ one_chunk variants seven
  pub older_buffers_alone : meaning (head_with V5 Little variants variant_ids) nothing_known (in_fourth (one_seven older_buffers)) ≡ faulty_after []
  pub older_values : meaning (head_with V4 Little keyed_variants keyed_ids) nothing_known (seven_as_values older_buffers) ≡ one_known variants seven
  pub newer_values : meaning (head_with V5 Little keyed_variants keyed_ids) nothing_known (in_fourth (seven_as_values newer_buffers)) ≡ one_known variants seven
  pub newer_block : record_in_file (one_seven newer_buffers) ≡ Some (chunk_is variants seven)
  pub older_block : record_in_file (in_fourth (one_seven older_buffers)) ≡ Some (chunk_is variants seven)
  pub newer_buffers_of_older : record_in_file (in_fourth (one_seven newer_buffers)) ≡ None
  pub older_block_of_values : values_in_file (in_fourth (seven_as_values older_buffers)) ≡ Some (known_values variants seven)
  pub newer_block_of_values : values_in_file (seven_as_values older_buffers) ≡ None
  pub no_such_version : meaning (head_with V5 Little variants variant_ids) nothing_known (slice_set (one_seven newer_buffers) 44 9) ≡ one_chunk variants seven

-- ---- byte orders

abbrev pub keyed_integers : TypeTree
keyed_integers = dictionary Int32 integer false

abbrev pub id_0 : IdTree
id_0 = ids (Some (pos 0)) no_ids

abbrev pub five_last : List ℕ
five_last = padded (0 ∷ 0 ∷ 0 ∷ 5 ∷ [])

-- The numbers of a batch, and of a dictionary's values, are in the byte order that the schema says.
pub record OrderBatchRows : Type 0 where
  pub highest_first : meaning (head_with V5 Big integer no_id) nothing_known (record_message ((1, 0) ∷ []) ((0, 0) ∷ (0, 4) ∷ []) five_last) ≡ one_chunk integer (number 5 ∷ [])
  pub lowest_first : meaning (head_with V5 Little integer no_id) nothing_known (record_message ((1, 0) ∷ []) ((0, 0) ∷ (0, 4) ∷ []) five_last) ≡ one_chunk integer (number 83886080 ∷ [])
  pub values_highest_first : meaning (head_with V5 Big keyed_integers id_0) nothing_known (dictionary_message 0 ((1, 0) ∷ []) ((0, 0) ∷ (0, 4) ∷ []) five_last) ≡ one_known integer (number 5 ∷ [])
  pub values_lowest_first : meaning (head_with V5 Little keyed_integers id_0) nothing_known (dictionary_message 0 ((1, 0) ∷ []) ((0, 0) ∷ (0, 4) ∷ []) five_last)
      ≡ one_known integer (number 83886080 ∷ [])

-- ---- columns after others

abbrev pub and_integer : TypeTree → IdTree → Schema
and_integer t i = record {
  fields = more_fields (named t (codes "f")) (alone (named integer (codes "g")));
  metadata = [];
  ids = more_ids i (more_ids no_id no_ids);
  order = Little;
}

abbrev pub integer_lists : TypeTree
integer_lists = single list (named integer (codes "f"))

abbrev pub both_are : TypeTree → List Slot → List Slot → Option Chunk
both_are t xs ys = Some (record { type = t; slots = xs } ∷ record { type = integer; slots = ys } ∷ [])

-- Three columns of one, two and one rows.
abbrev pub one_two_one : Limit → Option Chunk
one_two_one limit = batch (entries Little 0 (node_is 1 0 ∷ node_is 2 0 ∷ node_is 1 0 ∷ [])
    (buffer_is 0 0 ∷ buffer_is 0 4 ∷ buffer_is 0 0 ∷ buffer_is 0 8 ∷ buffer_is 0 0 ∷ buffer_is 4 4 ∷ []) (word 1 ++ word 2)) 16 three_fields None limit

-- A column begins after all nodes and buffers of the columns before it, the extra buffer of a union
-- included. Columns with different numbers of rows may have as many under a limit.
pub record BehindRows : Type 0 where
  pub behind_a_list : batch (entries Little 0 (node_is 1 0 ∷ node_is 2 0 ∷ node_is 1 0 ∷ [])
      (buffer_is 0 0 ∷ buffer_is 0 8 ∷ buffer_is 0 0 ∷ buffer_is 8 8 ∷ buffer_is 0 0 ∷ buffer_is 16 4 ∷ []) (word 0 ++ word 2 ++ word 3 ++ word 4 ++ word 5))
      20 (and_integer integer_lists (ids None (more_ids no_id no_ids))) None None ≡ both_are integer_lists (numbers_of (3 ∷ 4 ∷ []) ∷ []) (number 5 ∷ [])
  pub behind_a_union : batch (entries Little 0 (node_is 1 0 ∷ node_is 1 0 ∷ node_is 1 0 ∷ [])
      (buffer_is 0 1 ∷ buffer_is 0 0 ∷ buffer_is 1 4 ∷ buffer_is 0 0 ∷ buffer_is 5 4 ∷ []) (0 ∷ word 7 ++ word 5))
      9 (and_integer variants variant_ids) None None ≡ both_are variants seven (number 5 ∷ [])
  pub behind_an_older_union : batch (entries Little 1 (node_is 1 0 ∷ node_is 1 0 ∷ node_is 1 0 ∷ [])
      (buffer_is 0 0 ∷ buffer_is 0 1 ∷ buffer_is 0 0 ∷ buffer_is 1 4 ∷ buffer_is 0 0 ∷ buffer_is 5 4 ∷ []) (0 ∷ word 7 ++ word 5))
      9 (and_integer variants variant_ids) None None ≡ both_are variants seven (number 5 ∷ [])
  pub other_numbers_of_rows : one_two_one None ≡ None
  pub as_many_under_a_limit : one_two_one (Some 1)
      ≡ Some (record { type = integer; slots = number 1 ∷ [] } ∷ record { type = integer; slots = number 1 ∷ [] } ∷ record { type = integer; slots = number 2 ∷ [] } ∷ [])

-- ---- bodies in a file

abbrev pub two_integers : List Slot → List Slot → Option Chunk
two_integers xs ys = both_are integer xs ys

abbrev pub of_size : ℕ → FileMetadata
of_size n = record { schema = demo_metadata.schema; pairs = []; dictionaries = []; blocks = demo_metadata.blocks; size = n }

-- A body begins at the offset that the block's two numbers give, wherever its message ends. The
-- encoded lengths of its buffers sum to at most the length of the file.
pub record BodyRows : Type 0 where
  pub behind_the_message : file_chunk (with_block (block_at 208)) [] demo_file None None 0 ≡ Some demo_chunk
  pub four_further : file_chunk (with_block (record { offset = pos 208; meta_data_length = pos 196; body_length = pos 128 })) [] demo_file None None 0
      ≡ two_integers (number 1 ∷ number 0 ∷ []) (minus_one ∷ number 0 ∷ [])
  pub as_long_as_listed : file_chunk (of_size 16) [] demo_file None None 0 ≡ Some demo_chunk
  pub shorter_than_listed : file_chunk (of_size 15) [] demo_file None None 0 ≡ None
