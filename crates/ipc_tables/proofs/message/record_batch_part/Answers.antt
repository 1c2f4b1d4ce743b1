use Rattle.std.proofs.Common.{rules, ◌≡◌}
use Rattle.std.specs.Prelude.{option_map}
use Rattle.ipc_table_bytes.specs.Parts.{is_offset, no_more}
use Rattle.ipc_table_bytes.specs.Tree.{table}
use Rattle.ipc_tables.specs.Slots.{bits64}
use Rattle.ipc_tables.proofs.SlotLists.{is_long, is_optional}
use Rattle.ipc_tables.specs.Messages.{compression_slots, record_batch_slots}
use Rattle.ipc_tables.proofs.message.record_batch_part.Goals as goal

pub returns : goal.returns
returns c =
    let rows : c.long.result ≡ bits64 c.args.batch.now.length = search rules in
    let compression = option_map (λ c. table (compression_slots c)) c.args.batch.now.compression in
    c.table.ensures (record_batch_slots c.args.batch.now)
    (is_long rows c.long.ensures.small
    (is_offset (rw c.as_slice.ensures.value at c.in_ok-nodes.ensures)
    (is_offset (rw c.as_slice-2.ensures.value at c.in_ok-buffers.ensures)
    (is_optional c.in_ok-compression.compression compression c.in_ok-compression.ensures no_more))))
