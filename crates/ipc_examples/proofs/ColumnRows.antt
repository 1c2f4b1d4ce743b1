-- Each case is computed.
use Rattle.std.proofs.Common.{refl}
use Rattle.std.specs.Str.{is_utf8, chars}
use lib.Utf8.{encode}
use Rattle.ipc_examples.specs.ColumnRows.{FlatRows, TextRows, ListRows, StructRows, MapRows, UnionRows, CountRows}

pub flat_rows : FlatRows
flat_rows = record {
  numbers = refl;
  no_validity = refl;
  a_null = refl;
  short = refl;
  cut_off = refl;
  empty = refl;
  not_there = refl;
  big_endian = refl;
  bits = refl;
  below_zero = refl;
  nulls = refl;
}

pub text_rows : TextRows
unfolding is_utf8 chars encode
text_rows = record {
  sliced = refl;
  falling = refl;
  text = refl;
  parted = refl;
  under_null = refl;
  null_text = refl;
  omitted = refl;
  one_slot = refl;
}

pub list_rows : ListRows
list_rows = record {
  all = refl;
  first_two = refl;
  few_offsets = refl;
  sliced = refl;
  few = refl;
  fixed = refl;
  fixed_limit = refl;
  fixed_few = refl;
  fixed_zero = refl;
  fixed_many = refl;
  fixed_many_limited = refl;
}

pub struct_rows : StructRows
struct_rows = record {
  third_null = refl;
  unequal = refl;
  two_rows = refl;
  no_child = refl;
}

pub map_rows : MapRows
unfolding is_utf8 chars encode
map_rows = record {
  two_maps = refl;
  no_pair = refl;
}

pub union_rows : UnionRows
union_rows = record {
  two_variants = refl;
  older_version = refl;
  in_front = refl;
  three_variants = refl;
  past_the_child = refl;
  negative_offset = refl;
  given_ids = refl;
  no_such_id = refl;
  equal_ids = refl;
  under_a_list = refl;
  few_under_a_list = refl;
}

pub count_rows : CountRows
count_rows = record {
  sparse_nodes = refl;
  sparse_buffers = refl;
  sparse_buffers_before = refl;
  dense_nodes = refl;
  dense_buffers = refl;
  dense_buffers_before = refl;
}
