use Rattle.std.proofs.Common.{rules, ◌≡◌, Err, replicate}
use Rattle.ipc_plan.specs.Pieces.{piece_bytes}
use Rattle.ipc_plan.proofs.Sends.{sends_stop, sends_then}
use Rattle.ipc_plan.proofs.sending.send_padded.Goals as goal

pub returns-in_err-send_piece-clause-sends : goal.returns-in_err-send_piece-clause-sends
returns-in_err-send_piece-clause-sends g c =
    let p = c.args.padded.now in
    let e : c.from_residual.result ≡ Err c.in_err-send_piece.field-0.0 = search rules in
    rw e (sends_stop {X = Unit {0}} {Y = Unit {0}} _ _ _ _ (piece_bytes c.args.order p.piece) (replicate p.zeros 0) c.in_err-send_piece.ensures.sends)

pub returns-clause-sends : goal.returns-clause-sends
returns-clause-sends g c =
    let p = c.args.padded.now in
    sends_then {X = Unit {0}} _ _ _ _ c.send_zeros.result (piece_bytes c.args.order p.piece) (replicate p.zeros 0) c.in_ok-send_piece.ensures.sends c.send_zeros.ensures
