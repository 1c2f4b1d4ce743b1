use Rattle.ipc_table_bytes.specs.Parts.{is_offset, no_more}
use Rattle.ipc_tables.proofs.schema.pair_part.Goals as goal

pub returns : goal.returns
returns c =
    c.in_ok-part.ensures _ (is_offset (rw c.as_str.ensures.value at c.in_ok-key.ensures) (is_offset (rw c.as_str-2.ensures.value at c.in_ok-value.ensures) no_more))
