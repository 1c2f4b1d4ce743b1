use Rattle.std.proofs.Common.{◌++◌, ap, ◌∙◌, refl}
use Rattle.ipc_plan.specs.Pieces.{pieces_bytes}
use Rattle.ipc_encode.proofs.Vectors.{written_at_end}
use Rattle.ipc_encode.proofs.serialize.append_plan.Goals as goal

pub returns-clause-bytes : goal.returns-clause-bytes
returns-clause-bytes c =
    let order = c.args.plan.now.order in
    let bytes = pieces_bytes order c.deref.result.now in
    written_at_end c.reserve-3.new.self c.send_pieces.new.writer bytes (c.in_ok-send_pieces.ensures.memory refl)
    ∙ ap (λ xs. xs ++ bytes) c.reserve-3.ensures.items
    ∙ ap (λ ps. c.args.arrow_data.now.items ++ pieces_bytes order ps) c.deref.ensures.value
