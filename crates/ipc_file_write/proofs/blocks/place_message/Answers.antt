use Rattle.std.proofs.Common.{arith, inl, inr, length-append}
use Rattle.ipc_plan.specs.Pieces.{pieces_bytes}
use Rattle.ipc_file_write.proofs.blocks.place_message.Goals as goal
use Rattle.ipc_file_write.proofs.blocks.place_message.Goals.{then-head-via-then-head, then-head-via-else-head+then-not-is_inside}

pub returns-then-head-clause-only : goal.returns-then-head-clause-only
returns-then-head-clause-only c =
    let e = c.args.encoded.now in
    let end = c.requires.end in
    let len = c.len.ensures in
    let whole = length-append e.metadata.items (pieces_bytes e.body.order e.body.pieces.items) in
    elim c.then-head.branch [
      | then-head-via-then-head w ↦ inl (omega (arith, len))
      | then-head-via-else-head+then-not-is_inside w ↦ let out = w.if-not-is_inside.ensures in inr (omega (arith, len, end, whole, out))
    ]

pub returns-clause-end : goal.returns-clause-end
returns-clause-end c =
    let e = c.args.encoded.now in
    let end = c.requires.end in
    let len = c.len.ensures in
    omega (arith, len, end, length-append e.metadata.items (pieces_bytes e.body.order e.body.pieces.items))
