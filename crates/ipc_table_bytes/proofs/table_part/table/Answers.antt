use Rattle.std.proofs.Common.{◌≡◌, ◌%◌, length, ap, arith, ◌∙◌}
use Rattle.ipc_table_bytes.specs.Parts.{vtable_size}
use Rattle.ipc_table_bytes.proofs.TableBytes.{length-vtable, table-done, table-whole}
use Rattle.ipc_table_bytes.proofs.TableHolds.{IsPart-table}
use Rattle.ipc_table_bytes.proofs.table_part.table.Goals as goal

pub invariant_of-result : goal.invariant_of-result
invariant_of-result c =
    let slots = c.args.slots.now in
    let entry : c.len-entry.result ≡ vtable_size (length slots) = omega (arith, c.len-entry.ensures, c.in_ok-bytes.bytes.ok.0, ap length c.in_ok-bytes.ensures, length-vtable slots) in
    let done = table-done _ _ _ c.put_tails.new.bytes.items slots c.len-entry.result c.in_ok-bytes.ensures entry c.in_ok-put_u64.ensures.items c.in_ok-put_numbers.ensures c.in_ok-put_tails.ensures in
    let whole : length c.put_tails.new.bytes.items % 8 ≡ 0 = ap (λ xs. length xs % 8) done ∙ table-whole slots in
    record { whole = whole; near = omega arith }

pub returns : goal.returns
returns c =
    let slots = c.args.slots.now in
    let entry : c.len-entry.result ≡ vtable_size (length slots) = omega (arith, c.len-entry.ensures, c.in_ok-bytes.bytes.ok.0, ap length c.in_ok-bytes.ensures, length-vtable slots) in
    let done = table-done _ _ _ c.put_tails.new.bytes.items slots c.len-entry.result c.in_ok-bytes.ensures entry c.in_ok-put_u64.ensures.items c.in_ok-put_numbers.ensures c.in_ok-put_tails.ensures in
    λ xs are. IsPart-table _ slots xs done entry are (omega arith)
