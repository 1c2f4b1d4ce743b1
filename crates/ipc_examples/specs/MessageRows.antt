-- Messages of a stream, field by field, and what they mean. Beside most is one that has no meaning.
-- A definition that is changed in one word fails one of these cases. Each limit is tried at its
-- edge: the last value that passes, and the first that doesn't. Mutated definitions fail here:
-- * with three bytes as a length: `cut_length`
-- * with one byte more of metadata than their length says: `a_byte_behind`, `behind_the_marker`
-- * with one byte more of a body than its length says: `body_a_byte_short`, `values_a_byte_short`
-- (Arrow columnar format, "RecordBatch message", "Dictionary messages" and "IPC
-- Streaming Format"; Message.fbs.)
use Rattle.std.specs.Prelude.{◌≡◌, ℕ, ℤ, pos, ◌+◌, ◌-◌, ◌*◌, ◌^◌, true, false, List, [], ◌∷◌, ◌++◌, length, codes, slice_set, flat_map, map, Option, Some, None, option_map}
use Rattle.std.specs.Int.{w64, to_le_bytes}
use Rattle.lower.specs.Normal.{data_key}
use Rattle.lower.specs.TypeTrees.{Pairs, TypeTree, int32, boolean, utf8, binary, list, structure, plain, single, group, dictionary, extension, FieldTree, field, more_fields}
use Rattle.lower.specs.declared.datatypes.IntegerType.TheVariants.{Int32}
use Rattle.lower_types.specs.declared.Endianness.TheVariants.{Little}
use Rattle.lower_arrays.specs.Slots.{Slot}
use Rattle.ipc_base.specs.IdTrees.{IdTree, ids, no_ids, more_ids}
use Rattle.ipc_model.specs.Batches.{Chunk, Place, places, extra_of}
use Rattle.ipc_examples.specs.ColumnRows.{number, numbers_of, padded, word}
use Rattle.ipc_examples.specs.DictionaryRows.{message_bytes, framed, dictionary_message, record_message, text_head, two_texts, head_of_field, a, b, a_and_b, chunk_is, values_are, known_texts, faulty_after}
use Rattle.ipc_model.specs.Entries.{Dictionary}
use Rattle.ipc_model.specs.Frame.{message, mark, waiting, broken, frame, sized}
use Rattle.ipc_model.specs.Schemas.{head_of}
use Rattle.ipc_examples.specs.SchemaBytes.{four, table_bytes}
use Rattle.ipc_examples.specs.StreamRows.{smallest, marker}
use Rattle.ipc_model.specs.Streams.{Head, Known, nothing_known, marked, waits, Meant, meaning}
use Rattle.ipc_model.specs.Samples.{named, alone}
use Rattle.ipc_table_views.specs.declared.schema.MetadataVersion.{MetadataVersion}
use Rattle.ipc_table_views.specs.declared.schema.MetadataVersion.TheVariants.{V1, V2, V3, V4, V5}

-- ---- frames

-- A stream of three bytes waits, as it does with one and two. A length from 2 ^ 31 on
-- is negative, whatever follows.
pub record FrameRows : Type 0 where
  pub three_begun : frame (0xFF ∷ 0xFF ∷ 0xFF ∷ []) ≡ waiting (0xFF ∷ 0xFF ∷ 0xFF ∷ [])
  pub nothing : frame [] ≡ waiting []
  pub negative : (rest : List ℕ) → sized (2 ^ 31) rest ≡ broken
  pub minus_one : (rest : List ℕ) → sized (2 ^ 32 - 1) rest ≡ broken
  pub one_byte_short : frame (2 ∷ 0 ∷ 0 ∷ 0 ∷ 7 ∷ []) ≡ broken
  pub to_the_last : frame (2 ∷ 0 ∷ 0 ∷ 0 ∷ 7 ∷ 8 ∷ []) ≡ message (7 ∷ 8 ∷ []) []
  pub a_byte_behind : frame (2 ∷ 0 ∷ 0 ∷ 0 ∷ 7 ∷ 8 ∷ 9 ∷ []) ≡ message (7 ∷ 8 ∷ []) (9 ∷ [])
  pub behind_the_marker : frame (marker ++ 2 ∷ 0 ∷ 0 ∷ 0 ∷ 7 ∷ 8 ∷ 9 ∷ []) ≡ message (7 ∷ 8 ∷ []) (9 ∷ [])
  pub cut_length : frame (marker ++ 0 ∷ 0 ∷ 0 ∷ []) ≡ broken
  pub behind_a_mark : frame (0 ∷ 0 ∷ 0 ∷ 0 ∷ 7 ∷ []) ≡ mark (7 ∷ [])

-- ---- records

-- Numbers of 64 bits, two for each struct.
abbrev pub structs : List (ℕ × ℕ) → List ℕ
structs ps = flat_map (λ p. to_le_bytes w64 p.0 ++ to_le_bytes w64 p.1) ps

-- Which fields of a record batch are present.
pub record Slots : Type 0 where
  pub nodes : ℕ
  pub buffers : ℕ
  pub compression : ℕ

abbrev pub usual : Slots
usual = record { nodes = 12; buffers = 16; compression = 0 }

-- A record batch with its length, which isn't used, and a compression's table,
-- which is present if its field is.
abbrev pub batch_with : Slots → List (ℕ × ℕ) → List (ℕ × ℕ) → List ℕ
batch_with s ns bs =
    table_bytes (4 ∷ s.nodes ∷ s.buffers ∷ s.compression ∷ [])
    (to_le_bytes w64 99 ++ four 20 ++ four (20 + 16 * length ns) ++ four 8 ++ table_bytes [] []
    ++ four (length ns) ++ structs ns ++ four (length bs) ++ structs bs)

abbrev pub integer_head : Head
integer_head = head_of_field (plain int32) (ids None no_ids)

abbrev pub in_message : ℕ → ℕ → List ℕ → List ℕ → Meant
in_message tag n header body = meaning integer_head nothing_known (framed (message_bytes tag n header) body)

-- One integer, 5, by its nodes and buffers, in a body of 64 bytes.
abbrev pub five_by : Slots → List (ℕ × ℕ) → List (ℕ × ℕ) → Meant
five_by s ns bs = in_message 3 64 (batch_with s ns bs) (padded (word 5))

abbrev pub five : Meant
five = record { chunks = chunk_is (plain int32) (number 5 ∷ []) ∷ []; end = waits nothing_known [] }

abbrev pub nothing_read : Meant
nothing_read = faulty_after []

abbrev pub minus_one : ℕ
minus_one = 2 ^ 64 - 1

-- The values "a" and a zero byte, in a body whose message says this length: they take 66 bytes. The
-- bytes after them are zeros, which are a mark.
abbrev pub values_in : ℕ → Meant
values_in n = meaning text_head nothing_known
    (slice_set (dictionary_message 0 ((2, 0) ∷ []) ((0, 0) ∷ (0, 12) ∷ (64, 2) ∷ [])
    (two_texts (0x61 ∷ 0 ∷ []))) 32 n)

-- A batch that names a compression, or has no list of nodes or of buffers, has no meaning. Nodes
-- and buffers that are left over aren't used; yet each encoded length is at least 0, and the sum at
-- most the body. A body has the stated length, which is at least 0, and no byte after it is the
-- batch's. Messages of other kinds have no meaning.
pub record RecordRows : Type 0 where
  pub as_it_stands : five_by usual ((1, 0) ∷ []) ((0, 0) ∷ (0, 4) ∷ []) ≡ five
  pub compressed : five_by (record { nodes = 12; buffers = 16; compression = 20 }) ((1, 0) ∷ []) ((0, 0) ∷ (0, 4) ∷ []) ≡ nothing_read
  pub no_nodes : five_by (record { nodes = 0; buffers = 16; compression = 0 }) ((1, 0) ∷ []) ((0, 0) ∷ (0, 4) ∷ []) ≡ nothing_read
  pub no_buffers : five_by (record { nodes = 12; buffers = 0; compression = 0 }) ((1, 0) ∷ []) ((0, 0) ∷ (0, 4) ∷ []) ≡ nothing_read
  pub few_nodes : five_by usual [] ((0, 0) ∷ (0, 4) ∷ []) ≡ nothing_read
  pub few_buffers : five_by usual ((1, 0) ∷ []) ((0, 4) ∷ []) ≡ nothing_read
  pub negative_rows : five_by usual ((minus_one, 0) ∷ []) ((0, 0) ∷ (0, 4) ∷ []) ≡ nothing_read
  pub left_over : five_by usual ((1, 0) ∷ (minus_one, 0) ∷ []) ((0, 0) ∷ (0, 4) ∷ (minus_one, 60) ∷ []) ≡ five
  pub negative_left_over : five_by usual ((1, 0) ∷ []) ((0, 0) ∷ (0, 4) ∷ (0, minus_one) ∷ []) ≡ nothing_read
  pub more_left_over : five_by usual ((1, 0) ∷ []) ((0, 0) ∷ (0, 4) ∷ (0, 61) ∷ []) ≡ nothing_read
  pub listed_past_the_body : five_by usual ((1, 0) ∷ []) ((0, 0) ∷ (0, 64) ∷ []) ≡ five
  pub one_byte_past : five_by usual ((1, 0) ∷ []) ((0, 0) ∷ (0, 65) ∷ []) ≡ nothing_read
  pub past_the_end : five_by usual ((1, 0) ∷ []) ((0, 0) ∷ (61, 4) ∷ []) ≡ nothing_read
  pub listed_past_the_end : five_by usual ((1, 0) ∷ []) ((0, 0) ∷ (60, 60) ∷ [])
      ≡ record { chunks = chunk_is (plain int32) (number 0 ∷ []) ∷ []; end = waits nothing_known [] }
  pub reaches_past_the_end : five_by usual ((1, 0) ∷ []) ((0, 0) ∷ (0, 4) ∷ (60, 60) ∷ []) ≡ five
  pub shorter_body : in_message 3 60 (batch_with usual ((1, 0) ∷ []) ((0, 0) ∷ (60, 4) ∷ [])) (padded (word 5)) ≡ nothing_read
  pub body_a_byte_short : in_message 3 63
      (batch_with usual ((1, 0) ∷ []) ((0, 0) ∷ (60, 4) ∷ [])) (padded (word 5)) ≡ nothing_read
  pub longer_body : in_message 3 65 (batch_with usual ((1, 0) ∷ []) ((0, 0) ∷ (0, 4) ∷ [])) (padded (word 5)) ≡ nothing_read
  pub negative_body : meaning integer_head nothing_known (framed (slice_set (message_bytes 3 0 (batch_with usual ((0, 0) ∷ []) ((0, 0) ∷ (0, 0) ∷ []))) 31 0xFF) []) ≡ nothing_read
  pub values_to_the_last : values_in 66 ≡ record { chunks = []; end = marked }
  pub values_a_byte_short : values_in 65 ≡ nothing_read
  pub a_schema : in_message 1 64 (batch_with usual ((1, 0) ∷ []) ((0, 0) ∷ (0, 4) ∷ [])) (padded (word 5)) ≡ nothing_read
  pub a_tensor : in_message 4 64 (batch_with usual ((1, 0) ∷ []) ((0, 0) ∷ (0, 4) ∷ [])) (padded (word 5)) ≡ nothing_read
  pub a_sparse_tensor : in_message 5 64 (batch_with usual ((1, 0) ∷ []) ((0, 0) ∷ (0, 4) ∷ [])) (padded (word 5)) ≡ nothing_read
  pub no_header : in_message 0 64 (batch_with usual ((1, 0) ∷ []) ((0, 0) ∷ (0, 4) ∷ [])) (padded (word 5)) ≡ nothing_read
  pub ill_made_compression : meaning integer_head nothing_known (slice_set (framed (message_bytes 3 64 (batch_with (record { nodes = 12; buffers = 16; compression = 20 }) ((1, 0) ∷ []) ((0, 0) ∷ (0, 4) ∷ []))) (padded (word 5))) 81 0xFF) ≡ nothing_read

-- The version of a schema message with this number, and how many extra buffers a union has by it.
abbrev pub version_in : ℕ → Option MetadataVersion
version_in version = option_map (λ (h : Head). h.version) (head_of (slice_set smallest 24 version))

abbrev pub extra_in : ℕ → Option ℕ
extra_in version = option_map (λ (h : Head). extra_of h.version) (head_of (slice_set smallest 24 version))

-- A union has one extra buffer, before its own, in each version before the
-- fifth. There are five versions.
pub record VersionRows : Type 0 where
  pub first : extra_in 0 ≡ Some 1
  pub second : extra_in 1 ≡ Some 1
  pub third : extra_in 2 ≡ Some 1
  pub fourth : extra_in 3 ≡ Some 1
  pub fifth : extra_in 4 ≡ Some 0
  pub sixth : extra_in 5 ≡ None
  pub in_order : map version_in (0 ∷ 1 ∷ 2 ∷ 3 ∷ 4 ∷ []) ≡ map Some (V1 ∷ V2 ∷ V3 ∷ V4 ∷ V5 ∷ [])

-- ---- dictionaries

abbrev pub after_messages : ℕ → Known
after_messages n = record { dictionaries = []; count = n }

-- What is known of a dictionary's id after a message with these values.
abbrev pub known_as : Dictionary → ℕ → Known
known_as d n = record { dictionaries = (pos 0, d) ∷ []; count = n }

-- A dictionary batch without its data.
abbrev pub without_data : List ℕ
without_data = framed (message_bytes 2 0 (table_bytes (4 ∷ 0 ∷ 0 ∷ 0 ∷ []) (to_le_bytes w64 0))) []

-- At most 65,536 dictionary messages come before a record, those before a wait included.
pub record CountRows : Type 0 where
  pub first : meaning text_head (after_messages 0) a_and_b ≡ record { chunks = []; end = waits (known_texts 1) [] }
  pub most : meaning text_head (after_messages 65535) a_and_b ≡ record { chunks = []; end = waits (known_texts 65536) [] }
  pub one_more : meaning text_head (after_messages 65536) a_and_b ≡ nothing_read
  pub no_data : meaning text_head nothing_known without_data ≡ nothing_read

abbrev pub keyed : TypeTree → TypeTree
keyed t = dictionary Int32 t false

abbrev pub under_0 : IdTree
under_0 = ids (Some (pos 0)) no_ids

-- Two columns of one id, whose values have these types.
abbrev pub columns_of : TypeTree → IdTree → TypeTree → IdTree → Head
columns_of t i u j = record {
  schema = record {
    fields = more_fields (named (keyed t) (codes "d")) (alone (named (keyed u) (codes "e")));
    metadata = [];
    ids = more_ids i (more_ids j no_ids);
    order = Little;
  };
  version = V5;
}

-- A list of integers, whose field has metadata.
abbrev pub lists_with : Pairs → TypeTree
lists_with metadata = single list (field (codes "f") (plain int32) true metadata)

abbrev pub list_ids : IdTree
list_ids = ids (Some (pos 0)) (more_ids (ids None no_ids) no_ids)

-- One list, [5], as the values of the id 0.
abbrev pub list_of_five : List ℕ
list_of_five = dictionary_message 0 ((1, 0) ∷ (1, 0) ∷ []) ((0, 0) ∷ (0, 8) ∷ (0, 0) ∷ (64, 4) ∷ []) (padded (word 0 ++ word 1) ++ padded (word 5))

abbrev pub one_row_of_both : List ℕ
one_row_of_both = record_message ((1, 0) ∷ (1, 0) ∷ []) ((0, 0) ∷ (0, 4) ∷ (0, 0) ∷ (0, 4) ∷ []) (padded (word 0))

abbrev pub both_are : TypeTree → TypeTree → List Slot → Chunk
both_are t u xs = record { type = keyed t; slots = xs } ∷ record { type = keyed u; slots = xs } ∷ []

abbrev pub with_data_key : Pairs
with_data_key = (data_key, codes "m") ∷ []

-- The values of an id are read by the type of its first field, whatever the later ones have; a
-- column of another type has no meaning. Types are compared in their normal form: a key of an
-- extension without a name doesn't count, and any other metadata do. A field without an id belongs
-- to no id, and its column has no meaning.
pub record FirstPlaceRows : Type 0 where
  pub texts_first : meaning (columns_of (plain utf8) under_0 (plain binary) under_0) nothing_known a_and_b
      ≡ record { chunks = []; end = waits (known_as (values_are (a ∷ b ∷ [])) 1) [] }
  pub bytes_in_texts : meaning (columns_of (plain utf8) under_0 (plain binary) under_0) nothing_known (a_and_b ++ one_row_of_both) ≡ nothing_read
  pub normal_values : meaning (columns_of (lists_with with_data_key) list_ids (lists_with []) list_ids) nothing_known list_of_five
      ≡ record { chunks = []; end = waits (known_as (record { type = lists_with []; slots = numbers_of (5 ∷ []) ∷ [] }) 1) [] }
  pub one_normal_form : meaning (columns_of (lists_with with_data_key) list_ids (lists_with []) list_ids) nothing_known (list_of_five ++ one_row_of_both)
      ≡ record {
        chunks = both_are (lists_with with_data_key) (lists_with []) (numbers_of (5 ∷ []) ∷ []) ∷ [];
        end = waits (known_as (record { type = lists_with []; slots = numbers_of (5 ∷ []) ∷ [] }) 0) [];
      }
  pub other_metadata : meaning (columns_of (lists_with ((codes "k", codes "m") ∷ [])) list_ids (lists_with []) list_ids) nothing_known (list_of_five ++ one_row_of_both)
      ≡ nothing_read
  pub no_id_first : meaning (columns_of (plain binary) (ids None no_ids) (plain utf8) under_0) nothing_known a_and_b
      ≡ record { chunks = []; end = waits (known_as (values_are (a ∷ b ∷ [])) 1) [] }
  pub no_values_without_an_id : meaning (columns_of (plain utf8) (ids None no_ids) (plain utf8) under_0) nothing_known (a_and_b ++ one_row_of_both) ≡ nothing_read

abbrev pub ids_in : List Place → List (Option ℤ)
ids_in [] = []
ids_in (p ∷ ps) = p.id ∷ ids_in ps

abbrev pub places_of : FieldTree → IdTree → List (Option ℤ)
places_of f i = ids_in (places (alone f) (more_ids i no_ids))

-- An extension of a dictionary is a dictionary field, and so is a dictionary in an extension's
-- struct. A dictionary comes before those in its values.
pub record WhereRows : Type 0 where
  pub behind_an_extension : places_of (named (extension (codes "e") (keyed (plain utf8)) None) (codes "d")) under_0 ≡ Some (pos 0) ∷ []
  pub in_a_struct : places_of (named (extension (codes "e") (group structure (more_fields (named (plain boolean) []) (alone (named (keyed (plain utf8)) [])))) None) (codes "s"))
      (ids None (more_ids (ids None no_ids) (more_ids (ids (Some (pos 7)) no_ids) no_ids))) ≡ Some (pos 7) ∷ []
  pub in_its_values : places_of (named (keyed (single list (named (keyed (plain utf8)) []))) (codes "d")) (ids (Some (pos 3)) (more_ids (ids (Some (pos 2)) no_ids) no_ids))
      ≡ Some (pos 3) ∷ Some (pos 2) ∷ []
