use Rattle.std.proofs.Common.{rules, arith, ◌≡◌, ◌<◌, ◌++◌, length, length-append, Err}
use Rattle.ipc_devices.specs.Gives.{stop_of}
use Rattle.ipc_devices.proofs.reading.read_into.Goals as goal

pub returns-in_err-add_piece-clause-gives : goal.returns-in_err-add_piece-clause-gives
returns-in_err-add_piece-clause-gives g c =
    let fault = c.in_err-add_piece.field-0.0 in
    let e : c.from_residual-in_err-add_piece.result ≡ Err fault = search rules in
    let before = c.loop-bytes.bytes.items in
    let made : c.make_room.new.bytes.items ≡ before = search rules in
    let more = c.in_err-add_piece.ensures.gives in
    let short : length (before ++ more.0) < c.args.count = omega (arith, more.1, length-append before more.0, c.loop-bytes-test.true) in
    rw e (before ++ more.0, short, g.met.R.Reads.laws.in_order _ before _ more.0 (stop_of fault) _ c.loop-bytes.invariant.gave more.2)
