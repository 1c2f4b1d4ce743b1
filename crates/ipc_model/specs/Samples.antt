-- Columns, arrays and fields that are written out, of which examples are made, in `ipc_examples`
-- and in other crates.
use Rattle.std.specs.Prelude.{ℕ, ℤ, pos, negsuc, true, false, List, [], ◌∷◌, length, map, codes, Some, None}
use Rattle.lower_types.specs.NumberTypes.{whole}
use Rattle.lower_types.specs.declared.Endianness.{Endianness}
use Rattle.lower_types.specs.declared.Endianness.TheVariants.{Little}
use Rattle.lower_types.specs.declared.PrimitiveType.TheVariants.{Int32}
use Rattle.lower.specs.TypeTrees.{TypeTree, null, int32 as int32_type, utf8, binary, list, plain, single, dictionary, FieldTree, field, FieldTrees, no_fields, more_fields}
use Rattle.lower.specs.declared.datatypes.IntegerType.TheVariants.{Int8}
use Rattle.lower_arrays.specs.Layouts.{Validity, Parts, nothing, numbers, Layout, layout, Layouts, no_layouts}
use Rattle.ipc_table_views.specs.declared.message.FieldNode.{FieldNode}
use Rattle.ipc_table_views.specs.declared.schema.Buffer.{Buffer}
use Rattle.ipc_base.specs.IdTrees.{ids, IdTrees, no_ids, more_ids}
use Rattle.ipc_model.specs.Kinds.{Kind, number_kind, Kinds, no_kinds, more_kinds}
use Rattle.ipc_model.specs.Entries.{Entries, part_at, Limit}
use Rattle.ipc_model.specs.ReadArrays.{array_at}

-- ---- columns as entries of a batch

abbrev pub node_is : ℕ → ℕ → FieldNode
node_is n nulls = record { length = pos n; null_count = pos nulls }

abbrev pub buffer_is : ℕ → ℕ → Buffer
buffer_is offset length = record { offset = pos offset; length = pos length }

-- The entries of a batch with this body.
abbrev pub entries : Endianness → ℕ → List FieldNode → List Buffer → List ℕ → Entries
entries order extra ns bs body = record {
  nodes = ns;
  parts = map
      (part_at body 0) bs;
  order = order;
  extra = extra;
  dictionaries = [];
}

abbrev pub int32 : Kind
int32 = number_kind Int32

abbrev pub two : Kind → Kind → Kinds
two t u = more_kinds t (more_kinds u no_kinds)

abbrev pub no_texts : Entries
no_texts = entries Little 0 (node_is 0 0 ∷ []) (buffer_is 0 0 ∷ buffer_is 0 0 ∷ buffer_is 0 0 ∷ []) []

-- ---- arrays

abbrev pub array_is : TypeTree → ℕ → Validity → Parts → Layouts → Layout
array_is t n v p cs = layout (record { type = t; len = n; validity = v; parts = p }) cs

-- n slots that take no memory.
abbrev pub nulls_are : ℕ → Layout
nulls_are n = array_is (plain null) n None nothing no_layouts

abbrev pub integers_are : List ℤ → Layout
integers_are zs = array_is (plain int32_type) (length zs) None (numbers Int32 (map (λ z. whole z) zs)) no_layouts

abbrev pub x_and_y : Layout → Layout → List Layout
x_and_y x y = x ∷ y ∷ []

-- Two columns of two rows.
abbrev pub demo : List Layout
demo = x_and_y (integers_are (negsuc 0 ∷ pos 1 ∷ [])) (integers_are (pos 1 ∷ negsuc 0 ∷ []))

-- The array of the first column, if no dictionary is known.
abbrev pub read_array : Kind → TypeTree → Limit → Entries → Layout
read_array t u limit s = array_at s (λ id. nulls_are 0) t u 0 0 limit

-- ---- fields and their ids

abbrev pub named : TypeTree → List ℕ → FieldTree
named t name = field name t true []

abbrev pub alone : FieldTree → FieldTrees
alone f = more_fields f no_fields

-- a dictionary of texts, and one of lists whose items are a dictionary of bytes: their ids in
-- pre-order
abbrev pub two_dictionaries : FieldTrees
two_dictionaries = more_fields (named (dictionary Int8 (plain utf8) false) (codes "a"))
    (alone (named (dictionary Int8 (single list (named (dictionary Int8 (plain binary) false) (codes "item"))) false)
    (codes "b")))

abbrev pub their_ids : IdTrees
their_ids = more_ids (ids (Some (pos 0)) no_ids)
    (more_ids (ids (Some (pos 1)) (more_ids (ids (Some (pos 2)) no_ids) no_ids)) no_ids)
