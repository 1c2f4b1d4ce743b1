-- The kind of a column: what its type says of the layout of its bytes, without names.
-- (Arrow columnar format, "Physical Memory Layout", "Buffer Listing for Each Layout".)
use Rattle.std.specs.Prelude.{ℕ, ℤ, ◌+◌, List, Option}
use Rattle.lower.specs.declared.datatypes.UnionMode.{UnionMode}
use Rattle.lower.specs.Counts.{union_buffers}
use Rattle.lower.specs.TypeTrees.{TypeTree}
use Rattle.lower_types.specs.declared.PrimitiveType.{PrimitiveType}

-- The width of an offset: 32 or 64 bits.
pub data OffsetWidth : Type 0 where
  offsets_32 : OffsetWidth
  offsets_64 : OffsetWidth

-- How many bytes an offset has.
abbrev pub offset_width : OffsetWidth → ℕ
offset_width offsets_32 = 4
offset_width offsets_64 = 8

mutual
  -- The kind of a column.
  pub data Kind : Type 0 where
    null_kind : Kind
    boolean_kind : Kind
    number_kind : PrimitiveType → Kind
    -- A float, which has no meaning here.
    float_kind : Kind
    -- Bytes of a fixed number.
    fixed_binary_kind : ℕ → Kind
    -- Bytes, texts and lists of any length, by offsets.
    binary_kind : OffsetWidth → Kind
    utf8_kind : OffsetWidth → Kind
    list_kind : OffsetWidth → Kind → Kind
    map_kind : Kind → Kind
    fixed_list_kind : ℕ → Kind → Kind
    struct_kind : Kinds → Kind
    union_kind : UnionMode → Option (List ℤ) → Kinds → Kind
    -- The type of the keys, the dictionary's id, and the type of the values in its normal form.
    dictionary_kind : PrimitiveType → Option ℤ → TypeTree → Kind
    extension_kind : Kind → Kind

  -- The kinds of some columns, in order.
  pub data Kinds : Type 0 where
    no_kinds : Kinds
    more_kinds : Kind → Kinds → Kinds

-- How many kinds there are: one for each column.
abbrev pub count : Kinds → ℕ
count no_kinds = 0
count (more_kinds t ts) = 1 + count ts

abbrev mutual
  -- How many nodes a column takes: its own and those of its children.
  pub nodes : Kind → ℕ
  nodes null_kind = 1
  nodes boolean_kind = 1
  nodes (number_kind f) = 1
  nodes float_kind = 1
  nodes (fixed_binary_kind n) = 1
  nodes (binary_kind w) = 1
  nodes (utf8_kind w) = 1
  nodes (list_kind w t) = 1 + nodes t
  nodes (map_kind t) = 1 + nodes t
  nodes (fixed_list_kind n t) = 1 + nodes t
  nodes (struct_kind ts) = 1 + all_nodes ts
  nodes (union_kind mode ids ts) = 1 + all_nodes ts
  nodes (dictionary_kind f id t) = 1
  nodes (extension_kind t) = nodes t

  -- How many nodes some columns take.
  pub all_nodes : Kinds → ℕ
  all_nodes no_kinds = 0
  all_nodes (more_kinds t ts) = nodes t + all_nodes ts

abbrev mutual
  -- How many buffers a column takes, with those of its children. Before version 5 of the metadata a
  -- union has one more, before its own: then `extra` is 1, else 0.
  pub buffers : ℕ → Kind → ℕ
  buffers extra null_kind = 0
  buffers extra boolean_kind = 2
  buffers extra (number_kind f) = 2
  buffers extra float_kind = 2
  buffers extra (fixed_binary_kind n) = 2
  buffers extra (binary_kind w) = 3
  buffers extra (utf8_kind w) = 3
  buffers extra (list_kind w t) = 2 + buffers extra t
  buffers extra (map_kind t) = 2 + buffers extra t
  buffers extra (fixed_list_kind n t) = 1 + buffers extra t
  buffers extra (struct_kind ts) = 1 + all_buffers extra ts
  buffers extra (union_kind mode ids ts) = (union_buffers mode + extra) + all_buffers extra ts
  buffers extra (dictionary_kind f id t) = 2
  buffers extra (extension_kind t) = buffers extra t

  -- How many buffers some columns take.
  pub all_buffers : ℕ → Kinds → ℕ
  all_buffers extra no_kinds = 0
  all_buffers extra (more_kinds t ts) = buffers extra t + all_buffers extra ts
