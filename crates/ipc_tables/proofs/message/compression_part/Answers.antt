use Rattle.ipc_table_bytes.specs.Parts.{no_more}
use Rattle.ipc_tables.proofs.SlotLists.{is_byte}
use Rattle.ipc_tables.specs.Messages.{compression_slots}
use Rattle.ipc_tables.proofs.message.compression_part.Goals as goal

pub returns : goal.returns
returns c =
    c.table.ensures (compression_slots c.args.compression)
    (is_byte c.codec_number.ensures.value c.codec_number.ensures.small (is_byte c.method_number.ensures.value c.method_number.ensures.small no_more))
