-- Each case is computed.
use Rattle.std.proofs.Common.{refl}
use Rattle.ipc_examples.specs.SlicedRows.{SlicedRows}

pub sliced_rows : SlicedRows
sliced_rows = record {
  two_variants = refl;
  first_alone = refl;
  few_numbers = refl;
  past_the_numbers = refl;
}
