-- Streams with dictionaries as bytes, and what they mean. Beside most is one that has no meaning.
-- (Arrow columnar format, "Dictionary messages" and "IPC Streaming Format".)
use Rattle.std.specs.Prelude.{◌≡◌, ℕ, pos, ◌+◌, ◌*◌, true, false, List, [], ◌∷◌, ◌++◌, length, codes, Some}
use Rattle.lower.specs.TypeTrees.{TypeTree, utf8, plain, list, single, dictionary, field, no_fields, more_fields}
use Rattle.lower.specs.declared.datatypes.IntegerType.TheVariants.{Int32}
use Rattle.lower_types.specs.declared.Endianness.TheVariants.{Little}
use Rattle.lower_arrays.specs.Slots.{Slot, null_slot, text_slot, list_slot, slots_of}
use Rattle.ipc_base.specs.IdTrees.{IdTree, ids, no_ids, more_ids}
use Rattle.ipc_model.specs.Batches.{Chunk}
use Rattle.ipc_examples.specs.ColumnRows.{padded, word}
use Rattle.ipc_model.specs.Entries.{Dictionary}
use Rattle.ipc_examples.specs.StreamRows.{marker, mark}
use Rattle.ipc_model.specs.Streams.{Head, Known, nothing_known, marked, waits, faulty, Meant, meaning}
use Rattle.ipc_table_views.specs.declared.schema.MetadataVersion.TheVariants.{V5}

-- ---- messages as bytes

-- A small number of 64 bits.
abbrev pub long : ℕ → List ℕ
long n = word n ++ word 0

-- A vector of structs of two numbers: nodes (length, null count), or buffers (offset, length).
abbrev pub pairs : List (ℕ × ℕ) → List ℕ
pairs [] = []
pairs (p ∷ ps) = long p.0 ++ long p.1 ++ pairs ps

-- The vtable of a record batch, its table (the length, which isn't used, and the offsets of the
-- nodes and of the buffers), and both vectors.
abbrev pub batch_bytes : List (ℕ × ℕ) → List (ℕ × ℕ) → List ℕ
batch_bytes ns bs =
    0x0A ∷ 0 ∷ 0x14 ∷ 0 ∷ 4 ∷ 0 ∷ 0x0C ∷ 0 ∷ 0x10 ∷ 0 ∷ 0 ∷ 0 ∷ []
    ++ word 0x0C ++ long 0 ++ word 0x0C ++ word (16 + 16 * length ns) ++ word 0
    ++ word (length ns) ++ pairs ns ++ word 0 ++ word (length bs) ++ pairs bs

-- The root's offset, the vtable of the message, and its table: the length of the body, the offset
-- of the header after it, version 5, and the header's tag.
abbrev pub message_bytes : ℕ → ℕ → List ℕ → List ℕ
message_bytes tag body header =
    0x14 ∷ 0 ∷ 0 ∷ 0 ∷ 0x0C ∷ 0 ∷ 0x13 ∷ 0 ∷ 0x10 ∷ 0 ∷ 0x12 ∷ 0 ∷ 0x0C ∷ 0 ∷ 4 ∷ 0 ∷ []
    ++ word 0 ++ word 0x10 ++ long body ++ word 0x14 ++ 4 ∷ 0 ∷ tag ∷ 0 ∷ [] ++ header

-- A message with its prefix and its body.
abbrev pub framed : List ℕ → List ℕ → List ℕ
framed metadata body = marker ++ word (length metadata) ++ metadata ++ body

abbrev pub record_message : List (ℕ × ℕ) → List (ℕ × ℕ) → List ℕ → List ℕ
record_message ns bs body = framed (message_bytes 3 (length body) (batch_bytes ns bs)) body

-- The vtable of a dictionary batch and its table: the id, the offset of the batch after
-- it, and whether it is a delta.
abbrev pub dictionary_with : ℕ → ℕ → List (ℕ × ℕ) → List (ℕ × ℕ) → List ℕ → List ℕ
dictionary_with delta id ns bs body =
    framed (message_bytes 2 (length body) (0x0A ∷ 0 ∷ 0x11 ∷ 0 ∷ 4 ∷ 0 ∷ 0x0C ∷ 0 ∷ 0x10 ∷ 0 ∷ 0 ∷ 0 ∷ []
    ++ word 0x0C ++ long id ++ word 0x14 ++ word delta ++ batch_bytes ns bs)) body

abbrev pub dictionary_message : ℕ → List (ℕ × ℕ) → List (ℕ × ℕ) → List ℕ → List ℕ
dictionary_message id ns bs body = dictionary_with 0 id ns bs body

-- ---- a column of texts under one id

abbrev pub head_of_field : TypeTree → IdTree → Head
head_of_field t i = record {
  schema = record {
    fields = more_fields (field (codes "d") t true []) no_fields;
    metadata = [];
    ids = more_ids i no_ids;
    order = Little;
  };
  version = V5;
}

-- Keys of 32 bits, texts, and the id 0.
abbrev pub texts : TypeTree
texts = dictionary Int32 (plain utf8) false

abbrev pub text_head : Head
text_head = head_of_field texts (ids (Some (pos 0)) no_ids)

abbrev pub text_meant : List ℕ → Meant
text_meant bytes = meaning text_head nothing_known bytes

abbrev pub a : Slot
a = text_slot (codes "a")

abbrev pub b : Slot
b = text_slot (codes "b")

-- Two texts of a byte each, by the offsets 0, 1, 2.
abbrev pub two_texts : List ℕ → List ℕ
two_texts bytes = padded (word 0 ++ word 1 ++ word 2) ++ padded bytes

-- The values "a", "b".
abbrev pub a_and_b : List ℕ
a_and_b = dictionary_message 0 ((2, 0) ∷ []) ((0, 0) ∷ (0, 12) ∷ (64, 2) ∷ []) (two_texts (codes "ab"))

-- Two keys, none of them null.
abbrev pub two_keys : ℕ → ℕ → List ℕ
two_keys k l = record_message ((2, 0) ∷ []) ((0, 0) ∷ (0, 8) ∷ []) (padded (word k ++ word l))

-- The value "b".
abbrev pub b_alone : List ℕ
b_alone = dictionary_message 0 ((1, 0) ∷ []) ((0, 0) ∷ (0, 8) ∷ (64, 1) ∷ []) (padded (word 0 ++ word 1) ++ padded (codes "b"))

-- The key 0 and a null, whose key would be past the values.
abbrev pub key_and_null : List ℕ
key_and_null = record_message ((2, 1) ∷ []) ((0, 1) ∷ (64, 8) ∷ []) (padded (1 ∷ []) ++ padded (word 0 ++ word 7))

abbrev pub chunk_is : TypeTree → List Slot → Chunk
chunk_is t xs = record { type = t; slots = xs } ∷ []

abbrev pub b_and_a : Chunk
b_and_a = chunk_is texts (b ∷ a ∷ [])

abbrev pub values_are : List Slot → Dictionary
values_are xs = record { type = plain utf8; slots = xs }

abbrev pub known_texts : ℕ → Known
known_texts n = record { dictionaries = (pos 0, values_are (a ∷ b ∷ [])) ∷ []; count = n }

abbrev pub faulty_after : List Chunk → Meant
faulty_after cs = record { chunks = cs; end = faulty }

-- No key at all.
abbrev pub no_rows : List ℕ
no_rows = record_message ((0, 0) ∷ []) ((0, 0) ∷ (0, 0) ∷ []) []

-- A dictionary is known to the messages after it, also to the second record, until another one
-- replaces it. A record whose dictionary was never sent has no meaning, even without a key. Nor
-- have a delta, an id that no field has, and a key past the values.
pub record DictionaryRows : Type 0 where
  pub dictionary_alone : text_meant a_and_b ≡ record { chunks = []; end = waits (known_texts 1) [] }
  pub first_record : text_meant (a_and_b ++ two_keys 1 0)
      ≡ record { chunks = b_and_a ∷ []; end = waits (known_texts 0) [] }
  pub replaced : text_meant (a_and_b ++ two_keys 1 0 ++ two_keys 1 0 ++ b_alone ++ key_and_null ++ mark)
      ≡ record { chunks = b_and_a ∷ b_and_a ∷ chunk_is texts (b ∷ null_slot ∷ []) ∷ []; end = marked }
  pub never_sent : text_meant (two_keys 1 0 ++ mark) ≡ faulty_after []
  pub delta : text_meant (dictionary_with 1 0 ((2, 0) ∷ []) ((0, 0) ∷ (0, 12) ∷ (64, 2) ∷ []) (two_texts (codes "ab")) ++ mark)
      ≡ faulty_after []
  pub no_place : text_meant (dictionary_message 1 ((2, 0) ∷ []) ((0, 0) ∷ (0, 12) ∷ (64, 2) ∷ []) (two_texts (codes "ab")) ++ mark)
      ≡ faulty_after []
  pub key_past_the_values : text_meant (a_and_b ++ two_keys 1 2 ++ mark) ≡ faulty_after []
  pub key_of_replaced_values : text_meant (a_and_b ++ two_keys 1 0 ++ b_alone ++ two_keys 1 0 ++ mark)
      ≡ faulty_after (b_and_a ∷ [])
  pub no_keys : text_meant (a_and_b ++ no_rows ++ mark) ≡ record { chunks = chunk_is texts [] ∷ []; end = marked }
  pub no_keys_never_sent : text_meant (no_rows ++ mark) ≡ faulty_after []

-- ---- two columns of one id

abbrev pub shared_head : Head
shared_head = record {
  schema = record {
    fields = more_fields (field (codes "d") texts true []) (more_fields (field (codes "e") texts true []) no_fields);
    metadata = [];
    ids = more_ids (ids (Some (pos 0)) no_ids) (more_ids (ids (Some (pos 0)) no_ids) no_ids);
    order = Little;
  };
  version = V5;
}

-- One dictionary serves all columns of its id.
pub record SharedRows : Type 0 where
  pub one_for_both : meaning shared_head nothing_known
      (a_and_b ++ record_message ((1, 0) ∷ (1, 0) ∷ []) ((0, 0) ∷ (0, 4) ∷ (0, 0) ∷ (64, 4) ∷ [])
      (padded (word 1) ++ padded (word 0)) ++ mark)
      ≡ record {
        chunks = (record { type = texts; slots = b ∷ [] } ∷ record { type = texts; slots = a ∷ [] } ∷ []) ∷ [];
        end = marked;
      }
  pub last_for_both : meaning shared_head nothing_known
      (a_and_b ++ b_alone ++ record_message ((1, 0) ∷ (1, 0) ∷ []) ((0, 0) ∷ (0, 4) ∷ (0, 0) ∷ (64, 4) ∷ [])
      (padded (word 1) ++ padded (word 0)) ++ mark)
      ≡ faulty_after []

-- ---- a dictionary whose values have one

-- Lists of texts under the id 1, which are themselves under the id 0.
abbrev pub lists : TypeTree
lists = dictionary Int32 (single list (field (codes "item") texts true [])) false

abbrev pub list_meant : List ℕ → Meant
list_meant bytes =
    meaning (head_of_field lists (ids (Some (pos 0)) (more_ids (ids (Some (pos 1)) no_ids) no_ids))) nothing_known bytes

abbrev pub inner : List ℕ → List ℕ
inner bytes = dictionary_message 1 ((2, 0) ∷ []) ((0, 0) ∷ (0, 12) ∷ (64, 2) ∷ []) (two_texts bytes)

-- Two lists of one inner key each.
abbrev pub outer : ℕ → ℕ → List ℕ
outer k l = dictionary_message 0 ((2, 0) ∷ (2, 0) ∷ []) ((0, 0) ∷ (0, 12) ∷ (64, 0) ∷ (64, 8) ∷ [])
    (padded (word 0 ++ word 1 ++ word 2) ++ padded (word k ++ word l))

abbrev pub one_key : ℕ → List ℕ
one_key k = record_message ((1, 0) ∷ []) ((0, 0) ∷ (0, 4) ∷ []) (padded (word k))

abbrev pub list_of_text : List ℕ → Slot
list_of_text text = list_slot (slots_of (text_slot text ∷ []))

-- Inner keys get their values when the outer dictionary is read: an inner dictionary that comes
-- later changes no list that is there. An outer dictionary before its inner one has no meaning.
pub record NestedRows : Type 0 where
  pub two_records : list_meant (inner (codes "pq") ++ outer 0 1 ++ two_keys 0 1 ++ inner (codes "qp") ++ one_key 1 ++ mark)
      ≡ record {
        chunks = chunk_is lists (list_of_text (codes "p") ∷ list_of_text (codes "q") ∷ []) ∷ chunk_is lists (list_of_text (codes "q") ∷ []) ∷ [];
        end = marked;
      }
  pub outer_first : list_meant (outer 0 1 ++ inner (codes "pq") ++ two_keys 0 1 ++ mark) ≡ faulty_after []
