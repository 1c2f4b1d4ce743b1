-- Chunks that a writer accepts. Beside each is one that it refuses.
-- (Arrow columnar format, "RecordBatch message", "Dictionary messages" and "IPC File Format".)
use Rattle.std.specs.Prelude.{◌≡◌, ℕ, ℤ, pos, ◌+◌, ◌-◌, ◌^◌, true, List, [], ◌∷◌, length, codes, replicate, Option, Some, None, negsuc}
use Rattle.lower.specs.Normal.{data_key}
use Rattle.lower.specs.TypeTrees.{Pairs, TypeTree, FieldTrees, int32, float64, utf8, list, plain, single, field, no_fields, more_fields}
use Rattle.ipc_base.specs.IdTrees.{ids, IdTrees, no_ids, more_ids}
use Rattle.ipc_table_views.specs.declared.file.Block.{Block}
use Rattle.lower_arrays.specs.Slots.{Slot}
use Rattle.ipc_model.specs.Accepted.{Brought, Offer, body_length, IsAccepted, IsAcceptedByFile, fields_of, MayBeEncoded}
use Rattle.ipc_model.specs.Batches.{Column}
use Rattle.ipc_examples.specs.ColumnRows.{number}
use Rattle.ipc_examples.specs.DictionaryRows.{texts, a, b, values_are}
use Rattle.ipc_model.specs.Entries.{Dictionaries}

abbrev pub two_fields : TypeTree → TypeTree → FieldTrees
two_fields t u = more_fields (field [] t true []) (more_fields (field [] u true []) no_fields)

abbrev pub column_is : TypeTree → List Slot → Column
column_is t xs = record { type = t; slots = xs }

abbrev pub brought : List Slot → Brought
brought xs = record { id = pos 0; values = values_are xs }

-- Two columns of one row, and one buffer of so many bytes.
abbrev pub offer : List Column → List Brought → ℕ → Offer
offer cs ds n = record { columns = cs; dictionaries = ds; nodes = 1 ∷ 1 ∷ []; bodies = (0 ∷ n ∷ []) ∷ [] }

-- Two columns of the id 0, each with values of its own.
abbrev pub under_one_id : List Slot → List Slot → Offer
under_one_id xs ys = offer (column_is texts (a ∷ []) ∷ column_is texts (a ∷ []) ∷ []) (brought xs ∷ brought ys ∷ []) 4

abbrev pub two_numbers : Offer
two_numbers = offer (column_is (plain int32) (number 1 ∷ []) ∷ column_is (plain int32) (number 2 ∷ []) ∷ []) [] 8

abbrev pub written : Dictionaries
written = (pos 0, values_are (a ∷ b ∷ [])) ∷ []

abbrev pub block_is : ℕ → ℕ → ℕ → Block
block_is place metadata body = record { offset = pos place; meta_data_length = pos metadata; body_length = pos body }

-- Two columns of the id 0 with these values: a message for each of the two fields, and the
-- record's.
abbrev pub offered_to_file : List Slot → Offer
offered_to_file xs = record {
  columns = column_is texts (a ∷ []) ∷ column_is texts (a ∷ []) ∷ [];
  dictionaries = brought xs ∷ brought xs ∷ [];
  nodes = 2 ∷ 2 ∷ 1 ∷ 1 ∷ [];
  bodies = (0 ∷ 12 ∷ 2 ∷ []) ∷ (0 ∷ 12 ∷ 2 ∷ []) ∷ (0 ∷ 4 ∷ 0 ∷ 4 ∷ []) ∷ [];
}

-- Columns of one id have the same values, and a file keeps those that it has. It gets one
-- more block for each message that is written, from the append position on: for a dictionary
-- that isn't known, once, and for the record. A body is padded to multiples of 64 bytes, and
-- may be less than 2 ^ 63 bytes long.
pub record AcceptedRows : Type 0 where
  pub numbers : IsAccepted (two_fields (plain int32) (plain int32)) two_numbers
  pub another_type : ¬ IsAccepted (two_fields (plain int32) (plain utf8)) two_numbers
  pub another_count : ¬ IsAccepted (more_fields (field [] (plain int32) true []) no_fields) two_numbers
  pub same_values : IsAccepted (two_fields texts texts) (under_one_id (a ∷ []) (a ∷ []))
  pub other_values : ¬ IsAccepted (two_fields texts texts) (under_one_id (a ∷ []) (b ∷ []))
  pub kept : IsAcceptedByFile (two_fields texts texts) written 3 1024 (block_is 1024 200 128 ∷ []) (offered_to_file (a ∷ b ∷ []))
  pub replaced : ¬ IsAcceptedByFile (two_fields texts texts) written 3 1024 (block_is 1024 200 128 ∷ []) (offered_to_file (b ∷ []))
  pub first_time : IsAcceptedByFile (two_fields texts texts) [] 3 1024 (block_is 1024 200 128 ∷ block_is 1352 192 128 ∷ []) (offered_to_file (a ∷ b ∷ []))
  pub no_block_for_values : ¬ IsAcceptedByFile (two_fields texts texts) [] 3 1024 (block_is 1024 192 128 ∷ []) (offered_to_file (a ∷ b ∷ []))
  pub block_for_known_values : ¬ IsAcceptedByFile (two_fields texts texts) written 3 1024 (block_is 1024 200 128 ∷ block_is 1352 192 128 ∷ []) (offered_to_file (a ∷ b ∷ []))
  pub not_at_the_place : ¬ IsAcceptedByFile (two_fields texts texts) written 3 1024 (block_is 1032 200 128 ∷ []) (offered_to_file (a ∷ b ∷ []))
  pub not_behind : ¬ IsAcceptedByFile (two_fields texts texts) [] 3 1024 (block_is 1024 200 128 ∷ block_is 1360 192 128 ∷ []) (offered_to_file (a ∷ b ∷ []))
  pub other_body : ¬ IsAcceptedByFile (two_fields texts texts) written 3 1024 (block_is 1024 200 64 ∷ []) (offered_to_file (a ∷ b ∷ []))
  pub padded_body : body_length (0 ∷ 1 ∷ 64 ∷ 65 ∷ []) ≡ 256
  pub long_body : ¬ IsAccepted (two_fields (plain int32) (plain int32))
      (offer (column_is (plain int32) [] ∷ column_is (plain int32) [] ∷ []) [] (2 ^ 63 - 63))

-- ---- at the edges

-- A chunk without columns, whose messages have these lengths of nodes and of buffers.
abbrev pub lengths_offered : List ℕ → List ℕ → Offer
lengths_offered ns body = record { columns = []; dictionaries = []; nodes = ns; bodies = body ∷ [] }

-- A chunk without columns, with these values: a message for each and the
-- record's, none of which has a buffer.
abbrev pub values_offered : List Brought → Offer
values_offered ds = record { columns = []; dictionaries = ds; nodes = []; bodies = replicate (1 + length ds) [] }

abbrev pub brought_as : ℤ → TypeTree → List Slot → Brought
brought_as id t xs = record { id = id; values = record { type = t; slots = xs } }

-- A list of integers, whose field has metadata.
abbrev pub lists_with : Pairs → TypeTree
lists_with metadata = single list (field [] (plain int32) true metadata)

-- A file of so many blocks, which knows values of the id 0, accepts these values and gets
-- these blocks from offset 1024 on.
abbrev pub TakesValues : ℕ → List Block → List Brought → Type 0
TakesValues blocks added ds =
    IsAcceptedByFile no_fields ((pos 0, record { type = lists_with []; slots = a ∷ [] }) ∷ []) blocks 1024 added (values_offered ds)

-- Lengths and ends are at most 2 ^ 63 - 1, a body's with its padding, and a file has at most 2 ^ 25
-- blocks. Values of one id are the same in all fields; those of two ids may differ. In a file they
-- keep their type too, in its normal form.
pub record EdgeRows : Type 0 where
  pub longest_node : IsAccepted no_fields (lengths_offered (1 ∷ (2 ^ 63 - 1) ∷ []) [])
  pub longer_node : ¬ IsAccepted no_fields (lengths_offered (1 ∷ (2 ^ 63) ∷ []) [])
  pub longest_body : IsAccepted no_fields (lengths_offered [] (1 ∷ (2 ^ 63 - 128) ∷ []))
  pub longer_body : ¬ IsAccepted no_fields (lengths_offered [] (1 ∷ (2 ^ 63 - 127) ∷ []))
  pub third_is_other : ¬ IsAccepted no_fields (values_offered (brought (a ∷ []) ∷ brought_as (pos 1) (plain utf8) (b ∷ []) ∷ brought (b ∷ []) ∷ []))
  pub two_ids : IsAccepted no_fields (values_offered (brought (a ∷ []) ∷ brought_as (pos 1) (plain utf8) (b ∷ []) ∷ []))
  pub most_blocks_there : TakesValues (2 ^ 25 - 1) (block_is 1024 8 0 ∷ []) []
  pub one_block_more : ¬ TakesValues (2 ^ 25) (block_is 1024 8 0 ∷ []) []
  pub last_end : TakesValues 1 (block_is 1024 (2 ^ 63 - 1025) 0 ∷ []) []
  pub past_the_last_end : ¬ TakesValues 1 (block_is 1024 (2 ^ 63 - 1024) 0 ∷ []) []
  pub kept_in_normal_form : TakesValues 1 (block_is 1024 8 0 ∷ []) (brought_as (pos 0) (lists_with ((data_key, codes "m") ∷ [])) (a ∷ []) ∷ [])
  pub other_type : ¬ TakesValues 1 (block_is 1024 8 0 ∷ []) (brought_as (pos 0) (plain utf8) (a ∷ []) ∷ [])
  pub another_id : TakesValues 1 (block_is 1024 8 0 ∷ block_is 1032 8 0 ∷ []) (brought_as (pos 1) (plain utf8) (b ∷ []) ∷ [])
  pub negative_metadata : ¬ TakesValues 1 (record { offset = pos 1024; meta_data_length = negsuc 7; body_length = pos 0 } ∷ []) []
  pub one_list_of_two_types : IsAccepted no_fields (values_offered (brought_as (pos 0) (lists_with ((data_key, codes "m") ∷ [])) (a ∷ []) ∷ brought_as (pos 0) (lists_with []) (a ∷ []) ∷ []))

-- ---- without a schema

-- Two columns of one row without a schema: numbers, and texts under an id.
abbrev pub number_and_text : Offer
number_and_text = offer (column_is (plain int32) (number 1 ∷ []) ∷ column_is texts (a ∷ []) ∷ []) (brought (a ∷ []) ∷ []) 4

abbrev pub ids_of_both : Option ℤ → IdTrees
ids_of_both o = more_ids (ids None no_ids) (more_ids (ids o no_ids) no_ids)

-- Columns are encoded with one id for each dictionary, if their types can be
-- written. Their fields have no name.
pub record EncodedRows : Type 0 where
  pub with_an_id : MayBeEncoded (ids_of_both (Some (pos 0))) number_and_text
  pub no_id : ¬ MayBeEncoded (ids_of_both None) number_and_text
  pub few_ids : ¬ MayBeEncoded (more_ids (ids None no_ids) no_ids) number_and_text
  pub a_float : ¬ MayBeEncoded (more_ids (ids None no_ids) no_ids) (offer (column_is (plain float64) [] ∷ []) [] 0)
  pub no_name : fields_of (plain int32 ∷ []) ≡ more_fields (field [] (plain int32) true []) no_fields
