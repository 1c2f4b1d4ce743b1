-- Messages and streams as bytes, and what they mean. Beside most is one that has no meaning.
-- A definition by which a cut prefix is broken and doesn't wait fails `no_more`,
-- `begun_prefix`, and `ResumeLaw`.
-- (Arrow columnar format, "Encapsulated message format" and "IPC Streaming Format".)
use Rattle.std.specs.Prelude.{◌≡◌, ℕ, pos, negsuc, true, false, List, [], ◌∷◌, ◌++◌, replicate, take, drop, slice_set, codes, Some, None}
use Rattle.lower.specs.Normal.{norm_field, name_key, data_key}
use Rattle.lower_types.specs.NumberTypes.{whole as whole_number}
use Rattle.lower.specs.TypeTrees.{Pairs, int32, utf8, plain, dictionary, extension, field, no_fields, more_fields}
use Rattle.lower.specs.declared.datatypes.IntegerType.TheVariants.{Int8}
use Rattle.lower_types.specs.declared.Endianness.TheVariants.{Little}
use Rattle.lower_arrays.specs.Slots.{Slot, number_slot}
use Rattle.ipc_base.specs.IdTrees.{ids, no_ids, more_ids}
use Rattle.ipc_model.specs.Batches.{Schema, Chunk, batch}
use Rattle.ipc_model.specs.Samples.{entries, node_is, buffer_is}
use Rattle.ipc_examples.specs.ColumnRows.{number, padded, word}
use Rattle.ipc_model.specs.Streams.{Head, nothing_known, marked, waits, faulty, Meant, meaning}
use Rattle.ipc_model.specs.WholeStreams.{stream_of}
use Rattle.ipc_model.specs.Schemas.{schema_of, head_of, with_read, Read, field_with}
use Rattle.ipc_table_views.specs.declared.schema.MetadataVersion.TheVariants.{V4, V5}

-- ---- the smallest schema message

-- The root's offset; the vtable and the table of the message; the vtable and the
-- table of the schema; no fields.
abbrev pub smallest : List ℕ
smallest =
    0x10 ∷ 0 ∷ 0 ∷ 0 ∷ 0x0A ∷ 0 ∷ 0x0C ∷ 0 ∷ 8 ∷ 0 ∷ 0x0A ∷ 0 ∷
    4 ∷ 0 ∷ 0 ∷ 0 ∷ 0x0C ∷ 0 ∷ 0 ∷ 0 ∷ 0x10 ∷ 0 ∷ 0 ∷ 0 ∷
    4 ∷ 0 ∷ 1 ∷ 0 ∷ 8 ∷ 0 ∷ 8 ∷ 0 ∷ 0 ∷ 0 ∷ 4 ∷ 0 ∷
    8 ∷ 0 ∷ 0 ∷ 0 ∷ 4 ∷ 0 ∷ 0 ∷ 0 ∷ 0 ∷ 0 ∷ 0 ∷ 0 ∷ []

abbrev pub no_schema_fields : Schema
no_schema_fields = record { fields = no_fields; metadata = []; ids = no_ids; order = Little }

-- It is a schema message whatever its version; a stream must have a version that exists. It has
-- no meaning without its last four bytes, without a header, with that of a record or of an
-- unknown kind, and without fields.
pub record SmallestRows : Type 0 where
  pub smallest_schema : schema_of smallest ≡ Some no_schema_fields
  pub its_version : head_of smallest ≡ Some (record { schema = no_schema_fields; version = V5 })
  pub older_version : head_of (slice_set smallest 24 3) ≡ Some (record { schema = no_schema_fields; version = V4 })
  pub unknown_version : head_of (slice_set smallest 24 5) ≡ None
  pub cut_off : schema_of (take 44 smallest) ≡ None
  pub no_header : schema_of (slice_set smallest 26 0) ≡ None
  pub a_record : schema_of (slice_set smallest 26 3) ≡ None
  pub no_kind : schema_of (slice_set smallest 26 6) ≡ None
  pub no_fields_slot : schema_of (slice_set smallest 34 0) ≡ None
  pub in_no_version : schema_of (slice_set smallest 24 5) ≡ Some no_schema_fields

-- ---- metadata

abbrev pub key : List ℕ
key = codes "k"

abbrev pub one : List ℕ
one = codes "1"

abbrev pub two_text : List ℕ
two_text = codes "2"

abbrev pub later_pair : Pairs
later_pair = (key, two_text) ∷ []

-- A schema message whose schema has three pairs: "k" and "1", "k" and "2", and "j" without a value.
abbrev pub metadata_message : List ℕ
metadata_message =
    0x10 ∷ 0 ∷ 0 ∷ 0 ∷ 0x0A ∷ 0 ∷ 0x0C ∷ 0 ∷ 8 ∷ 0 ∷ 0x0A ∷ 0 ∷ 4 ∷ 0 ∷ 0 ∷ 0 ∷
    0x0C ∷ 0 ∷ 0 ∷ 0 ∷ 0x14 ∷ 0 ∷ 0 ∷ 0 ∷ 4 ∷ 0 ∷ 1 ∷ 0 ∷ 0x0A ∷ 0 ∷ 0x0C ∷ 0 ∷
    0 ∷ 0 ∷ 4 ∷ 0 ∷ 8 ∷ 0 ∷ 0 ∷ 0 ∷ 0x0C ∷ 0 ∷ 0 ∷ 0 ∷ 8 ∷ 0 ∷ 0 ∷ 0 ∷
    8 ∷ 0 ∷ 0 ∷ 0 ∷ 0 ∷ 0 ∷ 0 ∷ 0 ∷ 3 ∷ 0 ∷ 0 ∷ 0 ∷ 0x14 ∷ 0 ∷ 0 ∷ 0 ∷
    0x1C ∷ 0 ∷ 0 ∷ 0 ∷ 0x2C ∷ 0 ∷ 0 ∷ 0 ∷ 8 ∷ 0 ∷ 0x0C ∷ 0 ∷ 4 ∷ 0 ∷ 8 ∷ 0 ∷
    8 ∷ 0 ∷ 0 ∷ 0 ∷ 0x24 ∷ 0 ∷ 0 ∷ 0 ∷ 0x28 ∷ 0 ∷ 0 ∷ 0 ∷ 0x14 ∷ 0 ∷ 0 ∷ 0 ∷
    0x18 ∷ 0 ∷ 0 ∷ 0 ∷ 0x24 ∷ 0 ∷ 0 ∷ 0 ∷ 6 ∷ 0 ∷ 8 ∷ 0 ∷ 4 ∷ 0 ∷ 0 ∷ 0 ∷
    8 ∷ 0 ∷ 0 ∷ 0 ∷ 0x1C ∷ 0 ∷ 0 ∷ 0 ∷ 1 ∷ 0 ∷ 0 ∷ 0 ∷ 0x6B ∷ 0 ∷ 0 ∷ 0 ∷
    1 ∷ 0 ∷ 0 ∷ 0 ∷ 0x31 ∷ 0 ∷ 0 ∷ 0 ∷ 1 ∷ 0 ∷ 0 ∷ 0 ∷ 0x32 ∷ 0 ∷ 0 ∷ 0 ∷
    1 ∷ 0 ∷ 0 ∷ 0 ∷ 0x6A ∷ 0 ∷ 0 ∷ 0 ∷ []

abbrev pub with_metadata : Pairs → Schema
with_metadata pairs = record { fields = no_fields; metadata = pairs; ids = no_ids; order = Little }

abbrev pub extended_field : Read
extended_field = (
  field (codes "f") (dictionary Int8 (extension (codes "e") (plain utf8) None) false) true
      ((name_key, codes "e") ∷ []),
  ids (Some (pos 0)) no_ids,
)

-- The later of equal keys wins, and a pair without a value is skipped; a key that is no text
-- has no meaning. The extension of a dictionary field is that of its values, and the key
-- stays in what is read. The normal form of a field without an extension has none of the
-- extension keys, and keeps others.
pub record MetadataRows : Type 0 where
  pub later_wins : with_read (Some (codes "j")) None
      (with_read (Some key) (Some two_text) (with_read (Some key) (Some one) [])) ≡ later_pair
  pub earlier_loses : with_read (Some key) (Some one) (with_read (Some key) (Some two_text) []) ≡ (key, one) ∷ []
  pub three_pairs : schema_of metadata_message ≡ Some (with_metadata later_pair)
  pub another_order : schema_of (slice_set (slice_set metadata_message 140 0x31) 132 0x32) ≡ Some (with_metadata ((key, one) ∷ []))
  pub no_text : schema_of (slice_set metadata_message 124 0xFF) ≡ None
  pub extended_values :
      field_with (codes "f") true ((name_key, codes "e") ∷ [])
      (Some (record { keys = Int8; id = pos 0; ordered = false })) (plain utf8, no_ids)
      ≡ extended_field
  pub normal_form : norm_field (field (codes "f") (plain int32) true ((data_key, codes "m") ∷ (key, codes "v") ∷ []))
      ≡ field (codes "f") (plain int32) true ((key, codes "v") ∷ [])
  pub other_keys : norm_field (field (codes "f") (plain int32) true ((codes "j", codes "m") ∷ (key, codes "v") ∷ []))
      ≡ field (codes "f") (plain int32) true ((codes "j", codes "m") ∷ (key, codes "v") ∷ [])

-- ---- a stream of two columns of numbers

-- A schema message: x and y, integers of 32 bits.
abbrev pub schema_metadata : List ℕ
schema_metadata =
    0x10 ∷ 0 ∷ 0 ∷ 0 ∷ 0x0A ∷ 0 ∷ 0x0B ∷ 0 ∷ 8 ∷ 0 ∷ 0x0A ∷ 0 ∷ 4 ∷ 0 ∷ 0 ∷ 0 ∷
    0x0C ∷ 0 ∷ 0 ∷ 0 ∷ 0x10 ∷ 0 ∷ 0 ∷ 0 ∷ 4 ∷ 0 ∷ 1 ∷ 0 ∷ 8 ∷ 0 ∷ 8 ∷ 0 ∷
    0 ∷ 0 ∷ 4 ∷ 0 ∷ 8 ∷ 0 ∷ 0 ∷ 0 ∷ 4 ∷ 0 ∷ 0 ∷ 0 ∷ 2 ∷ 0 ∷ 0 ∷ 0 ∷
    0x18 ∷ 0 ∷ 0 ∷ 0 ∷ 0x58 ∷ 0 ∷ 0 ∷ 0 ∷ 0x10 ∷ 0 ∷ 0x12 ∷ 0 ∷ 4 ∷ 0 ∷ 0x10 ∷ 0 ∷
    0x11 ∷ 0 ∷ 8 ∷ 0 ∷ 0 ∷ 0 ∷ 0x0C ∷ 0 ∷ 0x10 ∷ 0 ∷ 0 ∷ 0 ∷ 0x10 ∷ 0 ∷ 0 ∷ 0 ∷
    0x1C ∷ 0 ∷ 0 ∷ 0 ∷ 0x24 ∷ 0 ∷ 0 ∷ 0 ∷ 1 ∷ 2 ∷ 0 ∷ 0 ∷ 1 ∷ 0 ∷ 0 ∷ 0 ∷
    0x78 ∷ 0 ∷ 0 ∷ 0 ∷ 8 ∷ 0 ∷ 9 ∷ 0 ∷ 4 ∷ 0 ∷ 8 ∷ 0 ∷ 8 ∷ 0 ∷ 0 ∷ 0 ∷
    0x20 ∷ 0 ∷ 0 ∷ 0 ∷ 1 ∷ 0 ∷ 0 ∷ 0 ∷ 0 ∷ 0 ∷ 0 ∷ 0 ∷ 0x10 ∷ 0 ∷ 0x12 ∷ 0 ∷
    4 ∷ 0 ∷ 0x10 ∷ 0 ∷ 0x11 ∷ 0 ∷ 8 ∷ 0 ∷ 0 ∷ 0 ∷ 0x0C ∷ 0 ∷ 0x10 ∷ 0 ∷ 0 ∷ 0 ∷
    0x10 ∷ 0 ∷ 0 ∷ 0 ∷ 0x1C ∷ 0 ∷ 0 ∷ 0 ∷ 0x24 ∷ 0 ∷ 0 ∷ 0 ∷ 1 ∷ 2 ∷ 0 ∷ 0 ∷
    1 ∷ 0 ∷ 0 ∷ 0 ∷ 0x79 ∷ 0 ∷ 0 ∷ 0 ∷ 8 ∷ 0 ∷ 9 ∷ 0 ∷ 4 ∷ 0 ∷ 8 ∷ 0 ∷
    8 ∷ 0 ∷ 0 ∷ 0 ∷ 0x20 ∷ 0 ∷ 0 ∷ 0 ∷ 1 ∷ 0 ∷ 0 ∷ 0 ∷ 0 ∷ 0 ∷ 0 ∷ 0 ∷ []

-- A record message: nodes (2, 0) twice, buffers (0, 0), (0, 8), (64, 0),
-- (64, 8), and a body of 128 bytes.
abbrev pub record_metadata : List ℕ
record_metadata =
    0x14 ∷ 0 ∷ 0 ∷ 0 ∷ 0x0C ∷ 0 ∷ 0x13 ∷ 0 ∷ 0x10 ∷ 0 ∷ 0x12 ∷ 0 ∷ 0x0C ∷ 0 ∷ 4 ∷ 0 ∷
    0 ∷ 0 ∷ 0 ∷ 0 ∷ 0x10 ∷ 0 ∷ 0 ∷ 0 ∷ 0x80 ∷ 0 ∷ 0 ∷ 0 ∷ 0 ∷ 0 ∷ 0 ∷ 0 ∷
    0x14 ∷ 0 ∷ 0 ∷ 0 ∷ 4 ∷ 0 ∷ 3 ∷ 0 ∷ 0x0A ∷ 0 ∷ 0x14 ∷ 0 ∷ 4 ∷ 0 ∷ 0x0C ∷ 0 ∷
    0x10 ∷ 0 ∷ 0 ∷ 0 ∷ 0x0C ∷ 0 ∷ 0 ∷ 0 ∷ 2 ∷ 0 ∷ 0 ∷ 0 ∷ 0 ∷ 0 ∷ 0 ∷ 0 ∷
    0x0C ∷ 0 ∷ 0 ∷ 0 ∷ 0x30 ∷ 0 ∷ 0 ∷ 0 ∷ 0 ∷ 0 ∷ 0 ∷ 0 ∷ 2 ∷ 0 ∷ 0 ∷ 0 ∷
    2 ∷ 0 ∷ 0 ∷ 0 ∷ 0 ∷ 0 ∷ 0 ∷ 0 ∷ 0 ∷ 0 ∷ 0 ∷ 0 ∷ 0 ∷ 0 ∷ 0 ∷ 0 ∷
    2 ∷ 0 ∷ 0 ∷ 0 ∷ 0 ∷ 0 ∷ 0 ∷ 0 ∷ 0 ∷ 0 ∷ 0 ∷ 0 ∷ 0 ∷ 0 ∷ 0 ∷ 0 ∷
    0 ∷ 0 ∷ 0 ∷ 0 ∷ 4 ∷ 0 ∷ 0 ∷ 0 ∷ 0 ∷ 0 ∷ 0 ∷ 0 ∷ 0 ∷ 0 ∷ 0 ∷ 0 ∷
    0 ∷ 0 ∷ 0 ∷ 0 ∷ 0 ∷ 0 ∷ 0 ∷ 0 ∷ 0 ∷ 0 ∷ 0 ∷ 0 ∷ 0 ∷ 0 ∷ 0 ∷ 0 ∷
    8 ∷ 0 ∷ 0 ∷ 0 ∷ 0 ∷ 0 ∷ 0 ∷ 0 ∷ 0x40 ∷ 0 ∷ 0 ∷ 0 ∷ 0 ∷ 0 ∷ 0 ∷ 0 ∷
    0 ∷ 0 ∷ 0 ∷ 0 ∷ 0 ∷ 0 ∷ 0 ∷ 0 ∷ 0x40 ∷ 0 ∷ 0 ∷ 0 ∷ 0 ∷ 0 ∷ 0 ∷ 0 ∷
    8 ∷ 0 ∷ 0 ∷ 0 ∷ 0 ∷ 0 ∷ 0 ∷ 0 ∷ []

abbrev pub demo_body : List ℕ
demo_body =
    padded (0xFF ∷ 0xFF ∷ 0xFF ∷ 0xFF ∷ 1 ∷ 0 ∷ 0 ∷ 0 ∷ []) ++ padded (1 ∷ 0 ∷ 0 ∷ 0 ∷ 0xFF ∷ 0xFF ∷ 0xFF ∷ 0xFF ∷ [])

abbrev pub demo_schema : Schema
demo_schema = record {
  fields = more_fields (field (codes "x") (plain int32) true [])
      (more_fields (field (codes "y") (plain int32) true []) no_fields);
  metadata = [];
  ids = more_ids (ids None no_ids) (more_ids (ids None no_ids) no_ids);
  order = Little;
}

abbrev pub demo_head : Head
demo_head = record { schema = demo_schema; version = V5 }

abbrev pub minus_one : Slot
minus_one = number_slot (whole_number (negsuc 0))

-- -1, 1 and 1, -1.
abbrev pub demo_chunk : Chunk
demo_chunk = record { type = plain int32; slots = minus_one ∷ number 1 ∷ [] } ∷ record { type = plain int32; slots = number 1 ∷ minus_one ∷ [] } ∷ []

abbrev pub marker : List ℕ
marker = 0xFF ∷ 0xFF ∷ 0xFF ∷ 0xFF ∷ []

-- A record as it is in a stream.
abbrev pub demo_record : List ℕ
demo_record = marker ++ word 184 ++ record_metadata ++ demo_body

abbrev pub mark : List ℕ
mark = marker ++ word 0

abbrev pub meant : List ℕ → Meant
meant bytes = meaning demo_head nothing_known bytes

abbrev pub ends_waiting : List Chunk → List ℕ → Meant
ends_waiting cs begun = record { chunks = cs; end = waits nothing_known begun }

-- A schema, a stream of it with both prefixes, and one that is cut: in a prefix it waits, anywhere
-- else it is faulty. A partial prefix is read with what comes later. No meaning: an unknown type, a
-- width that no integer has, a field without a name, and a column longer than its buffer.
pub record DemoRows : Type 0 where
  pub schema : head_of schema_metadata ≡ Some demo_head
  pub unknown_type : head_of (slice_set schema_metadata 89 22) ≡ None
  pub no_such_width : head_of (slice_set schema_metadata 112 33) ≡ None
  pub no_name : head_of (slice_set schema_metadata 60 0) ≡ None
  pub marked_end : meant (demo_record ++ demo_record ++ mark)
      ≡ record { chunks = demo_chunk ∷ demo_chunk ∷ []; end = marked }
  pub behind_the_mark : meant (mark ++ demo_record) ≡ record { chunks = []; end = marked }
  pub older_prefix : meant (drop 4 demo_record ++ word 0) ≡ record { chunks = demo_chunk ∷ []; end = marked }
  pub no_more : meant demo_record ≡ ends_waiting (demo_chunk ∷ []) []
  pub begun_prefix : meant (demo_record ++ 0xFF ∷ 0xFF ∷ []) ≡ ends_waiting (demo_chunk ∷ []) (0xFF ∷ 0xFF ∷ [])
  pub begun_alone : meant (0xFF ∷ 0xFF ∷ []) ≡ ends_waiting [] (0xFF ∷ 0xFF ∷ [])
  pub gone_on : meant ((0xFF ∷ 0xFF ∷ []) ++ drop 2 demo_record) ≡ ends_waiting (demo_chunk ∷ []) []
  pub longer_column : meant (slice_set demo_record 88 3) ≡ record { chunks = []; end = faulty }
  pub cut_marker : meant (demo_record ++ marker) ≡ record { chunks = demo_chunk ∷ []; end = faulty }
  pub cut_metadata : meant (take 100 demo_record) ≡ record { chunks = []; end = faulty }
  pub cut_body : meant (take 319 demo_record) ≡ record { chunks = []; end = faulty }
  pub whole : stream_of (marker ++ word 192 ++ schema_metadata ++ demo_record ++ mark)
      ≡ Some (record { head = demo_head; meant = record { chunks = demo_chunk ∷ []; end = marked } })
  pub five_chunks : stream_of (marker ++ word 192 ++ schema_metadata ++ demo_record ++ demo_record ++ demo_record ++ demo_record ++ demo_record ++ mark)
      ≡ Some (record { head = demo_head; meant = record { chunks = replicate 5 demo_chunk; end = marked } })
  pub no_schema : stream_of (demo_record ++ mark) ≡ None
  pub another_schema : meant (marker ++ word 192 ++ schema_metadata) ≡ record { chunks = []; end = faulty }

-- ---- a stream of the smallest schema

abbrev pub smallest_head : Head
smallest_head = record { schema = no_schema_fields; version = V5 }

-- After either prefix it waits. With a length that is one byte too long, or
-- with no length, it is no stream.
pub record AloneRows : Type 0 where
  pub newer_prefix : stream_of (marker ++ word 48 ++ smallest) ≡ Some (record { head = smallest_head; meant = ends_waiting [] [] })
  pub older_prefix : stream_of (word 48 ++ smallest) ≡ Some (record { head = smallest_head; meant = ends_waiting [] [] })
  pub marked_end : stream_of (marker ++ word 48 ++ smallest ++ mark)
      ≡ Some (record { head = smallest_head; meant = record { chunks = []; end = marked } })
  pub longer_prefix : stream_of (marker ++ word 49 ++ smallest) ≡ None
  pub no_prefix : stream_of smallest ≡ None

-- ---- too few nodes

abbrev pub three_fields : Schema
three_fields = record {
  fields = more_fields (field [] (plain int32) true [])
      (more_fields (field [] (plain int32) true []) (more_fields (field [] (plain int32) true []) no_fields));
  metadata = [];
  ids = no_ids;
  order = Little;
}

-- Three columns with two nodes are no batch, whichever are chosen. With three nodes they
-- are, in the order in which they are chosen. A projection that names a column that isn't
-- there, or one twice, has no meaning.
pub record ChosenRows : Type 0 where
  pub first_alone : batch
      (entries Little 0 (node_is 0 0 ∷ node_is 0 0 ∷ []) (replicate 6 (buffer_is 0 0)) []) 0 three_fields
      (Some (0 ∷ [])) None ≡ None
  pub none : batch (entries Little 0 (node_is 0 0 ∷ node_is 0 0 ∷ []) (replicate 6 (buffer_is 0 0)) []) 0 three_fields
      (Some []) None ≡ None
  pub no_columns : batch
      (entries Little 0 (node_is 0 0 ∷ node_is 0 0 ∷ node_is 0 0 ∷ [])
      (replicate 6 (buffer_is 0 0)) []) 0 three_fields (Some []) None ≡ Some []
  pub in_order : batch (entries Little 0 (node_is 1 0 ∷ node_is 2 0 ∷ node_is 1 0 ∷ [])
      (buffer_is 0 0 ∷ buffer_is 0 4 ∷ buffer_is 0 0 ∷ buffer_is 0 8 ∷ buffer_is 0 0 ∷ buffer_is 4 4 ∷ []) (word 1
      ++ word 2)) 16 three_fields (Some (2 ∷ 0 ∷ [])) None
      ≡ Some (record { type = plain int32; slots = number 2 ∷ [] } ∷ record { type = plain int32; slots = number 1 ∷ [] } ∷ [])
  pub no_such_column : batch
      (entries Little 0 (node_is 0 0 ∷ node_is 0 0 ∷ node_is 0 0 ∷ []) (replicate 6 (buffer_is 0 0)) []) 0 three_fields (Some (3 ∷ [])) None ≡ None
  pub last_column : batch
      (entries Little 0 (node_is 0 0 ∷ node_is 0 0 ∷ node_is 0 0 ∷ []) (replicate 6 (buffer_is 0 0)) []) 0 three_fields (Some (2 ∷ [])) None
      ≡ Some (record { type = plain int32; slots = [] } ∷ [])
  pub chosen_twice : batch
      (entries Little 0 (node_is 0 0 ∷ node_is 0 0 ∷ node_is 0 0 ∷ []) (replicate 6 (buffer_is 0 0)) []) 0 three_fields (Some (1 ∷ 0 ∷ 1 ∷ [])) None ≡ None
  pub unequal : batch (entries Little 0 (node_is 1 0 ∷ node_is 2 0 ∷ node_is 1 0 ∷ [])
      (buffer_is 0 0 ∷ buffer_is 0 4 ∷ buffer_is 0 0 ∷ buffer_is 0 8 ∷ buffer_is 0 0 ∷ buffer_is 4 4 ∷ []) (word 1
      ++ word 2)) 16 three_fields None None ≡ None
  pub beyond_the_size : batch (entries Little 0 (node_is 0 0 ∷ node_is 0 0 ∷ node_is 0 0 ∷ [])
      (buffer_is 0 9 ∷ buffer_is 0 0 ∷ buffer_is 0 0 ∷ buffer_is 0 0 ∷ buffer_is 0 0 ∷ buffer_is 0 0 ∷ []) []) 8 three_fields None None ≡ None
