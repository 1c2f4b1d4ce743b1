-- A kind has the nodes and buffers of its type.
use Rattle.std.proofs.Common.{◌≡◌, ℕ, ◌+◌, ℤ, Option, refl, ap, arith}
use Rattle.lower.specs.Counts as types
use Rattle.lower.specs.declared.datatypes.IntegerType.{IntegerType}
use Rattle.lower.specs.declared.datatypes.IntegerType.TheVariants.{Int8, Int16, Int32, Int64, UInt8, UInt16, UInt32, UInt64}
use Rattle.lower.specs.declared.datatypes.IntervalUnit.TheVariants.{YearMonth, DayTime, MonthDayNano}
use Rattle.lower.specs.TypeTrees.{Plain, null, boolean, int8, int16, int32, int64, uint8, uint16, uint32, uint64, float16, float32, float64, timestamp, date32, date64, time32, time64, duration, interval, binary, fixed_binary, large_binary, utf8, large_utf8, decimal, decimal256, Single, list, large_list, fixed_list, entries, Group, structure, choice, TypeTree, plain, single, group, dictionary, extension, FieldTree, field, FieldTrees, no_fields, more_fields}
use Rattle.ipc_base.specs.IdTrees.{IdTree, ids, IdTrees}
use Rattle.ipc_model.specs.Kinds.{Kind, Kinds, nodes, all_nodes, buffers, all_buffers}
use Rattle.ipc_model.specs.TypeKinds.{key_form, plain_kind, single_kind, group_kind, first_ids, other_ids, kind_of, field_kind, kinds_of}
use Rattle.ipc_model.specs.KindLaws.{NodeCountLaw, BufferCountLaw, IsNoFloat, HasNoFloat, HaveNoFloat, NoFloatLaw}

plain_nodes : (p : Plain) → nodes (plain_kind p) ≡ 1
plain_nodes null = refl
plain_nodes boolean = refl
plain_nodes binary = refl
plain_nodes (fixed_binary n) = refl
plain_nodes _ = refl

plain_buffers : (extra : ℕ) (p : Plain) → buffers extra (plain_kind p) ≡ types.plain_buffers p
plain_buffers extra null = refl
plain_buffers extra _ = refl

mutual
  pub node_counts : (t : TypeTree) (id : Option ℤ) (is : IdTrees) → nodes (kind_of t id is) ≡ types.nodes t
  node_counts (plain p) id is = plain_nodes p
  node_counts (single list f) id is = ap (λ n. 1 + n) (field_node_counts f (first_ids is))
  node_counts (single large_list f) id is = ap (λ n. 1 + n) (field_node_counts f (first_ids is))
  node_counts (single (fixed_list k) f) id is = ap (λ n. 1 + n) (field_node_counts f (first_ids is))
  node_counts (single (entries s) f) id is = ap (λ n. 1 + n) (field_node_counts f (first_ids is))
  node_counts (group structure fs) id is = ap (λ n. 1 + n) (all_node_counts fs is)
  node_counts (group (choice type_ids mode) fs) id is = ap (λ n. 1 + n) (all_node_counts fs is)
  node_counts (dictionary keys t ordered) id is = refl
  node_counts (extension name t text) id is = node_counts t id is

  field_node_counts : (f : FieldTree) (i : IdTree) → nodes (field_kind f i) ≡ types.field_nodes f
  field_node_counts (field name t nullable metadata) (ids id is) = node_counts t id is

  pub all_node_counts : (fs : FieldTrees) (is : IdTrees) → all_nodes (kinds_of fs is) ≡ types.fields_nodes fs
  all_node_counts no_fields is = refl
  all_node_counts (more_fields f fs) is =
      let one = field_node_counts f (first_ids is) in
      let rest = all_node_counts fs (other_ids is) in
      omega (arith, one, rest)

mutual
  pub buffer_counts : (extra : ℕ) (t : TypeTree) (id : Option ℤ) (is : IdTrees) → buffers extra (kind_of t id is) ≡ types.buffers extra t
  buffer_counts extra (plain p) id is = plain_buffers extra p
  buffer_counts extra (single list f) id is = ap (λ n. 2 + n) (field_buffer_counts extra f (first_ids is))
  buffer_counts extra (single large_list f) id is = ap (λ n. 2 + n) (field_buffer_counts extra f (first_ids is))
  buffer_counts extra (single (fixed_list k) f) id is = ap (λ n. 1 + n) (field_buffer_counts extra f (first_ids is))
  buffer_counts extra (single (entries s) f) id is = ap (λ n. 2 + n) (field_buffer_counts extra f (first_ids is))
  buffer_counts extra (group structure fs) id is = ap (λ n. 1 + n) (all_buffer_counts extra fs is)
  buffer_counts extra (group (choice type_ids mode) fs) id is = ap (λ n. (types.union_buffers mode + extra) + n) (all_buffer_counts extra fs is)
  buffer_counts extra (dictionary keys t ordered) id is = refl
  buffer_counts extra (extension name t text) id is = buffer_counts extra t id is

  field_buffer_counts : (extra : ℕ) (f : FieldTree) (i : IdTree) → buffers extra (field_kind f i) ≡ types.field_buffers extra f
  field_buffer_counts extra (field name t nullable metadata) (ids id is) = buffer_counts extra t id is

  pub all_buffer_counts : (extra : ℕ) (fs : FieldTrees) (is : IdTrees) → all_buffers extra (kinds_of fs is) ≡ types.fields_buffers extra fs
  all_buffer_counts extra no_fields is = refl
  all_buffer_counts extra (more_fields f fs) is =
      let one = field_buffer_counts extra f (first_ids is) in
      let rest = all_buffer_counts extra fs (other_ids is) in
      omega (arith, one, rest)

pub node_count_law : NodeCountLaw
node_count_law fs is = all_node_counts fs is

pub buffer_count_law : BufferCountLaw
buffer_count_law extra fs is = all_buffer_counts extra fs is

-- ---- floats

plain_floats : (p : Plain) → HasNoFloat (plain_kind p)
plain_floats null = tt
plain_floats boolean = tt
plain_floats int8 = tt
plain_floats int16 = tt
plain_floats int32 = tt
plain_floats int64 = tt
plain_floats uint8 = tt
plain_floats uint16 = tt
plain_floats uint32 = tt
plain_floats uint64 = tt
plain_floats float16 = tt
plain_floats float32 = tt
plain_floats float64 = tt
plain_floats (timestamp unit place) = tt
plain_floats date32 = tt
plain_floats date64 = tt
plain_floats (time32 unit) = tt
plain_floats (time64 unit) = tt
plain_floats (duration unit) = tt
plain_floats binary = tt
plain_floats (fixed_binary n) = tt
plain_floats large_binary = tt
plain_floats utf8 = tt
plain_floats large_utf8 = tt
plain_floats (decimal precision scale) = tt
plain_floats (decimal256 precision scale) = tt
plain_floats (interval YearMonth) = tt
plain_floats (interval DayTime) = tt
plain_floats (interval MonthDayNano) = tt

key_floats : (keys : IntegerType) → IsNoFloat (key_form keys)
key_floats Int8 = tt
key_floats Int16 = tt
key_floats Int32 = tt
key_floats Int64 = tt
key_floats UInt8 = tt
key_floats UInt16 = tt
key_floats UInt32 = tt
key_floats UInt64 = tt

single_floats : (s : Single) (t : Kind) → HasNoFloat t → HasNoFloat (single_kind s t)
single_floats list t h = h
single_floats large_list t h = h
single_floats (fixed_list n) t h = h
single_floats (entries sorted) t h = h

group_floats : (g : Group) (ts : Kinds) → HaveNoFloat ts → HasNoFloat (group_kind g ts)
group_floats structure ts h = h
group_floats (choice type_ids mode) ts h = h

mutual
  no_floats : (t : TypeTree) (id : Option ℤ) (is : IdTrees) → HasNoFloat (kind_of t id is)
  no_floats (plain p) id is = plain_floats p
  no_floats (single s f) id is = single_floats s (field_kind f (first_ids is)) (no_field_floats f (first_ids is))
  no_floats (group g fs) id is = group_floats g (kinds_of fs is) (no_float_law fs is)
  no_floats (dictionary keys t ordered) id is = key_floats keys
  no_floats (extension name t text) id is = no_floats t id is

  no_field_floats : (f : FieldTree) (i : IdTree) → HasNoFloat (field_kind f i)
  no_field_floats (field name t nullable metadata) (ids id is) = no_floats t id is

  pub no_float_law : NoFloatLaw
  no_float_law no_fields is = tt
  no_float_law (more_fields f fs) is = (no_field_floats f (first_ids is), no_float_law fs (other_ids is))
