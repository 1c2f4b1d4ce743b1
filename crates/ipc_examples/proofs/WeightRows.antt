-- Each case is computed.
use Rattle.std.proofs.Common.{refl}
use Rattle.ipc_examples.specs.WeightRows.{WeightRows, PlaceRows}

pub weight_rows : WeightRows
weight_rows = record {
  two_integers = refl;
  a_longer_name = refl;
  an_extension = refl;
  with_metadata = refl;
  a_timezone = refl;
  no_timezone = refl;
  union_ids = refl;
  no_union_ids = refl;
  dictionary_values = refl;
  list_child = refl;
  struct_fields = refl;
  schema_metadata = refl;
  footer_pairs = refl;
  normal_metadata = refl;
}

pub place_rows : PlaceRows
place_rows = record { in_order = refl }
