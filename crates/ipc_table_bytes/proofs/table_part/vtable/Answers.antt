use Rattle.std.proofs.Common.{length, ap, arith}
use Rattle.ipc_table_bytes.proofs.TableBytes.{unpadded, entries-done, length-unpadded, vtable-padded}
use Rattle.ipc_table_bytes.proofs.table_part.vtable.Goals as goal

pub pad-requires : goal.pad-requires
pad-requires c =
    let slots = c.args.slots.now in
    let done = entries-done c.loop-i.bytes.items (unpadded slots) slots c.loop-i.i (omega arith) c.loop-i.invariant in
    omega (arith, ap length done, length-unpadded slots)

pub returns : goal.returns
returns c =
    let slots = c.args.slots.now in
    let done = entries-done c.loop-i.bytes.items (unpadded slots) slots c.loop-i.i (omega arith) c.loop-i.invariant in
    vtable-padded c.loop-i.bytes.items _ slots done c.in_ok-pad.ensures.items
