use Rattle.std.proofs.Common.{length, ap, ◌∙◌, ◌%◌}
use Rattle.ipc_table_bytes.proofs.VectorBytes.{vector-done, vector-whole}
use Rattle.ipc_table_bytes.proofs.vector_parts.vector_bytes.Goals as goal

pub returns : goal.returns
returns c =
    let parts = c.args.parts.now in
    let done = vector-done _ _ _ _ c.put_joined.new.bytes.items parts c.short.result c.gap_after-gap.result c.in_ok-bytes.ensures c.short.ensures c.gap_after-gap.ensures.value
    c.in_ok-put_u32.ensures.items c.in_ok-put_offsets.ensures c.in_ok-put_zeros.ensures c.in_ok-put_joined.ensures in
    record { items = done; whole = ap (λ xs. length xs % 8) done ∙ vector-whole parts }
