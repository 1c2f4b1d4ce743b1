-- What a record batch means: its columns, each with its type and its slots. It means something if
-- its lists are present, nothing is compressed, no buffer length is negative, and their sum is at
-- most the size. The entries must suffice for all fields, and the chosen columns be well formed
-- with equal numbers of rows. A projection that names a missing column, or one twice, has no
-- meaning. A dictionary batch has the id of a dictionary field of the schema; its data are a batch
-- of one column of that field's value type.
-- (Arrow columnar format, "RecordBatch message" and "Dictionary messages".)
use Rattle.std.specs.Prelude.{ℕ, zero, suc, ℤ, ◌+◌, ◌<◌, ◌≤◌, ◌==◌, ◌&&◌, not, nat_lt, nat_le, Bool, true, false, List, [], ◌∷◌, ◌++◌, map, length, take, drop, if◌then◌else◌, Option, Some, None, Result, Ok, All}
use Rattle.std.specs.List.{range_with_len, sum_by, list_all, AllByRecursion, IsDistinct}
use Rattle.std.specs.Option.{option_and_then}
use Rattle.std.specs.Ordering.{int_eq}
use Rattle.lower.specs.Normal.{norm}
use Rattle.lower.specs.TypeTrees.{Pairs, TypeTree, plain, null, single, group, dictionary, extension, FieldTree, field, FieldTrees, no_fields, more_fields}
use Rattle.ipc_base.specs.IdTrees.{IdTree, ids, IdTrees, no_ids, more_ids}
use Rattle.ipc_table_views.specs.declared.message.FieldNode.{FieldNode}
use Rattle.ipc_table_views.specs.declared.schema.Buffer.{Buffer}
use Rattle.ipc_table_views.specs.declared.schema.MetadataVersion.{MetadataVersion}
use Rattle.ipc_table_views.specs.declared.schema.MetadataVersion.TheVariants.{V5}
use Rattle.ipc_devices.specs.declared.fault.TableFault.{TableFault}
use Rattle.ipc_table_views.specs.MessageSlots.{record_batch_nodes, record_batch_buffers, record_batch_compression, dictionary_batch_id, dictionary_batch_data, dictionary_batch_is_delta}
use Rattle.ipc_table_views.specs.Spot.{Spot}
use Rattle.lower_types.specs.declared.Endianness.{Endianness}
use Rattle.lower_arrays.specs.Slots.{Slot}
use Rattle.ipc_model.specs.Kinds.{Kind, null_kind, Kinds, no_kinds, more_kinds, count, nodes, all_nodes, buffers, all_buffers}
use Rattle.ipc_model.specs.TypeKinds.{first_ids, other_ids, kinds_of}
use Rattle.ipc_model.specs.Entries.{Entries, IsSize, size, part_at, Dictionaries, Limit, rows}
use Rattle.ipc_model.specs.Columns.{WithRows, IsWell, column}
use Rattle.ipc_model.specs.Tests.{is_size, with_rows, is_well}

-- A schema: its fields, its metadata, the ids of its dictionaries, and the byte
-- order of the bodies of its batches.
pub record Schema : Type 0 where
  pub fields : FieldTrees
  pub metadata : Pairs
  pub ids : IdTrees
  pub order : Endianness

-- The kinds of a schema's columns.
abbrev pub kinds : Schema → Kinds
kinds schema = kinds_of schema.fields schema.ids

-- How many extra buffers precede a union's own: 1 before version 5 of the metadata, else 0.
abbrev pub extra_of : MetadataVersion → ℕ
extra_of V5 = 0
extra_of _ = 1

-- ---- the entries

-- Where the body of a batch is: at offset `base` of `source`. The encoded lengths of its
-- buffers sum to at most `size` bytes.
pub record Body : Type 0 where
  pub source : List ℕ
  pub base : ℕ
  pub size : ℕ

-- The nodes and the buffers that the table of a record batch has.
pub record Lists : Type 0 where
  pub nodes : List FieldNode
  pub buffers : List Buffer

-- The nodes and buffers of a record batch; none if one of the lists is absent,
-- or the buffers are compressed.
abbrev pub both_lists : Result (Option Spot) TableFault → Result (Option (List FieldNode)) TableFault
    → Result (Option (List Buffer)) TableFault → Option Lists
both_lists (Ok None) (Ok (Some ns)) (Ok (Some bs)) = Some (record { nodes = ns; buffers = bs })
both_lists _ _ _ = None

-- The nodes and buffers that a record batch's table has, if they are valid and uncompressed.
unfoldable pub lists_of : Spot → Option Lists
lists_of t = both_lists (record_batch_compression t) (record_batch_nodes t) (record_batch_buffers t)

-- What the columns of a batch are read from: its nodes, and its buffers with their bytes in a body.
unfoldable pub entries_of : Lists → Body → Endianness → ℕ → Dictionaries → Entries
entries_of lists body order extra dictionaries = record {
  nodes = lists.nodes;
  parts = map (part_at body.source body.base) lists.buffers;
  order = order;
  extra = extra;
  dictionaries = dictionaries;
}

-- ---- the columns, by their indices

-- The kind of column j.

abbrev pub kind_at : Kinds → ℕ → Kind
kind_at no_kinds j = null_kind
kind_at (more_kinds t ts) zero = t
kind_at (more_kinds t ts) (suc j) = kind_at ts j

-- The type of a field.
abbrev pub field_type : FieldTree → TypeTree
field_type (field name t nullable metadata) = t

-- The type of column j.
abbrev pub type_at : FieldTrees → ℕ → TypeTree
type_at no_fields j = plain null
type_at (more_fields f fs) zero = field_type f
type_at (more_fields f fs) (suc j) = type_at fs j

-- How many nodes the columns before column j take.
abbrev pub nodes_before : Kinds → ℕ → ℕ
nodes_before no_kinds j = 0
nodes_before (more_kinds t ts) zero = 0
nodes_before (more_kinds t ts) (suc j) = nodes t + nodes_before ts j

-- How many buffers the columns before column j take.
abbrev pub buffers_before : ℕ → Kinds → ℕ → ℕ
buffers_before extra no_kinds j = 0
buffers_before extra (more_kinds t ts) zero = 0
buffers_before extra (more_kinds t ts) (suc j) = buffers extra t + buffers_before extra ts j

-- The entries of column j alone: its nodes and its buffers.
abbrev pub own : Entries → Kinds → ℕ → Entries
own s ts j = record {
  nodes = take (nodes (kind_at ts j)) (drop (nodes_before ts j) s.nodes);
  parts = take (buffers s.extra (kind_at ts j)) (drop (buffers_before s.extra ts j) s.parts);
  order = s.order;
  extra = s.extra;
  dictionaries = s.dictionaries;
}

-- Column j is well formed up to the limit, read from its own entries.
abbrev pub IsWellAt : Entries → Kinds → Limit → ℕ → Type 0
IsWellAt s ts limit j = IsWell (own s ts j) (kind_at ts j) 0 0 limit

-- How many slots of column j are read.
abbrev pub rows_at : Entries → Kinds → Limit → ℕ → ℕ
rows_at s ts limit j = rows (own s ts j) 0 limit

-- The slots of column j up to the limit.
abbrev pub slots_of_column : Entries → Kinds → Limit → ℕ → List Slot
slots_of_column s ts limit j = column (own s ts j) (kind_at ts j) 0 0 limit

-- ---- a batch

-- The indices of the columns that are read, in order: all without a projection.
abbrev pub chosen : Option (List ℕ) → ℕ → List ℕ
chosen None n = range_with_len 0 n
chosen (Some js) n = js

-- Each chosen column is one of n, and none is chosen twice.
abbrev pub IsProjection : Option (List ℕ) → ℕ → Type 0
IsProjection None n = Unit {0}
IsProjection (Some js) n = AllByRecursion (λ j. j < n) js × IsDistinct (λ i j. i == j) js

-- How many rows the first of some columns has.
abbrev pub first_rows : Entries → Kinds → Limit → List ℕ → ℕ
first_rows s ts limit [] = 0
first_rows s ts limit (j ∷ js) = rows_at s ts limit j

-- Each of these columns is well formed and has k slots.
abbrev pub AllRead : Entries → Kinds → Limit → ℕ → List ℕ → Type 0
AllRead s ts limit k [] = Unit {0}
AllRead s ts limit k (j ∷ js) = WithRows (IsWellAt s ts limit j) (rows_at s ts limit j) k × AllRead s ts limit k js

-- The sum of the encoded lengths of all buffers.
abbrev pub listed_bytes : Entries → ℕ
listed_bytes s = sum_by (λ p. size p.length) s.parts

-- No buffer has a negative length, used or not, and the lengths sum to at most `most`.
pub record AreBounded (s : Entries) (most : ℕ) : Type 0 where
  pub lengths : All (λ p. IsSize p.length) s.parts
  pub total : listed_bytes s ≤ most

-- The entries suffice for all fields, and the chosen columns are well
-- formed with equal numbers of rows.
pub record IsBatch (s : Entries) (most : ℕ) (ts : Kinds) (js : List ℕ) (limit : Limit) : Type 0 where
  pub bounded : AreBounded s most
  pub nodes_listed : all_nodes ts ≤ length s.nodes
  pub buffers_listed : all_buffers s.extra ts ≤ length s.parts
  pub columns : AllRead s ts limit (first_rows s ts limit js) js

-- A column that was read: its type and its slots.
pub record Column : Type 0 where
  pub type : TypeTree
  pub slots : List Slot

-- A chunk of rows: its columns.
abbrev pub Chunk : Type 0
Chunk = List Column

-- The chosen columns of a batch, with the types of the fields.
abbrev pub chunk_of : Entries → FieldTrees → Kinds → List ℕ → Limit → Chunk
chunk_of s fs ts js limit = map (λ j. record { type = type_at fs j; slots = slots_of_column s ts limit j }) js

-- `AllRead` as a test.
abbrev pub all_read : Entries → Kinds → Limit → ℕ → List ℕ → Bool
all_read s ts limit k [] = true
all_read s ts limit k (j ∷ js) =
    with_rows (is_well (own s ts j) (kind_at ts j) 0 0 limit) (rows_at s ts limit j) k && all_read s ts limit k js

-- `AreBounded` as a test.
abbrev pub are_bounded : Entries → ℕ → Bool
are_bounded s most = list_all (λ p. is_size p.length) s.parts && nat_le (listed_bytes s) most

-- No element of a list is i.
abbrev pub is_apart : ℕ → List ℕ → Bool
is_apart i js = list_all (λ j. not (i == j)) js

-- No two elements of a list are equal.
abbrev pub are_apart : List ℕ → Bool
are_apart [] = true
are_apart (i ∷ js) = is_apart i js && are_apart js

-- `IsProjection` as a test.
abbrev pub is_projection : Option (List ℕ) → ℕ → Bool
is_projection None n = true
is_projection (Some js) n = list_all (λ j. nat_lt j n) js && are_apart js

-- `IsBatch` as a test.
abbrev pub is_batch : Entries → ℕ → Kinds → List ℕ → Limit → Bool
is_batch s most ts js limit =
    are_bounded s most
    && (nat_le (all_nodes ts) (length s.nodes)
    && (nat_le (all_buffers s.extra ts) (length s.parts) && all_read s ts limit (first_rows s ts limit js) js))

-- The chunk of the columns with these indices, if the entries are a valid batch.
abbrev pub chunk_in : Entries → ℕ → Schema → List ℕ → Limit → Option Chunk
chunk_in s most schema js limit =
    if is_batch s most (kinds schema) js limit then Some (chunk_of s schema.fields (kinds schema) js limit) else None

-- The chunk of the chosen columns, if the entries are a valid batch. A projection that names a
-- missing column, or one twice, has no meaning.
unfoldable pub batch : Entries → ℕ → Schema → Option (List ℕ) → Limit → Option Chunk
batch s most schema projection limit =
    if is_projection projection (count (kinds schema)) then chunk_in s most schema (chosen projection (count (kinds schema))) limit else None

-- What a record batch means, read from its table and its body: the chunk of the
-- chosen columns up to the limit.
unfoldable pub record_meaning : Schema → ℕ → Dictionaries → Body → Spot → Option (List ℕ) → Limit → Option Chunk
record_meaning schema extra known body t projection limit =
    option_and_then (λ lists. batch
    (entries_of lists body schema.order extra known) body.size schema projection limit) (lists_of t)

-- ---- dictionaries

-- A field whose type is a dictionary: its id, the type of its values, and the ids in that type.
pub record Place : Type 0 where
  pub id : Option ℤ
  pub type : TypeTree
  pub ids : IdTrees

abbrev mutual
  -- The dictionary fields of a field in pre-order, itself included.
  pub field_places : FieldTree → IdTree → List Place
  field_places (field name t nullable metadata) (ids id is) = own_place t id is ++ inner_places t is

  -- The dictionary field that a field of this type is; none if it isn't one.
  pub own_place : TypeTree → Option ℤ → IdTrees → List Place
  own_place (plain p) id is = []
  own_place (single s f) id is = []
  own_place (group g fs) id is = []
  own_place (dictionary keys t ordered) id is = record { id = id; type = t; ids = is } ∷ []
  own_place (extension name t text) id is = own_place t id is

  -- The dictionary fields below a type, in pre-order.
  pub inner_places : TypeTree → IdTrees → List Place
  inner_places (plain p) is = []
  inner_places (single s f) is = field_places f (first_ids is)
  inner_places (group g fs) is = places fs is
  inner_places (dictionary keys t ordered) is = inner_places t is
  inner_places (extension name t text) is = inner_places t is

  -- The dictionary fields of some fields, in pre-order.
  pub places : FieldTrees → IdTrees → List Place
  places no_fields is = []
  places (more_fields f fs) is = field_places f (first_ids is) ++ places fs (other_ids is)

-- A field has this dictionary id.
abbrev pub has_id : Option ℤ → ℤ → Bool
has_id None id = false
has_id (Some i) id = int_eq i id

-- The first dictionary field with an id.
abbrev pub place_of : List Place → ℤ → Option Place
place_of [] id = None
place_of (p ∷ ps) id = if has_id p.id id then Some p else place_of ps id

-- A schema of one field, which has the value type of a dictionary field.
abbrev pub values_schema : Place → Endianness → Schema
values_schema p order = record {
  fields = more_fields (field [] p.type true []) no_fields;
  metadata = [];
  ids = more_ids (ids None p.ids) no_ids;
  order = order;
}

-- The dictionaries with these values under the id; they replace earlier ones.
abbrev pub with_values : Dictionaries → ℤ → Place → Chunk → Option Dictionaries
with_values known id p (c ∷ []) = Some ((id, record { type = norm p.type; slots = c.slots }) ∷ known)
with_values known id p _ = None

-- The dictionaries after a batch of values for one dictionary field.
abbrev pub values_meaning : Schema → ℕ → Dictionaries → Body → ℤ → Spot → Place → Option Dictionaries
values_meaning schema extra known body id data_ p =
    option_and_then (with_values known id p)
    (record_meaning (values_schema p schema.order) extra known body data_ None None)

-- The dictionaries after a dictionary batch, by its id, its delta flag and its data.
abbrev pub batch_meaning : Schema → ℕ → Dictionaries → Body → Result ℤ TableFault → Result Bool TableFault
    → Result (Option Spot) TableFault → Option Dictionaries
batch_meaning schema extra known body (Ok id) (Ok false) (Ok (Some data_)) =
    option_and_then (values_meaning schema extra known body id data_) (place_of (places schema.fields schema.ids) id)
batch_meaning schema extra known body _ _ _ = None

-- The dictionaries after a dictionary batch; a delta has no meaning.
unfoldable pub dictionary_meaning : Schema → ℕ → Dictionaries → Body → Spot → Option Dictionaries
dictionary_meaning schema extra known body t =
    batch_meaning schema extra known body (dictionary_batch_id t) (dictionary_batch_is_delta t)
    (dictionary_batch_data t)
