use Rattle.std.proofs.Common.{arith, ◌≡◌, ◌<◌, take, length}
use Rattle.std.proofs.lemmas.List.{length-take-le}
use Rattle.std.proofs.lemmas.Grind.{common_steps}
use Rattle.ipc_devices.proofs.reading.add_piece.Goals as goal

pub returns-then-n-count-clause-gives : goal.returns-then-n-count-clause-gives
returns-then-n-count-clause-gives g c =
    let n = c.in_ok-n.n in
    let buf = c.fill.new.buf in
    let size : length buf ≡ c.args.count = grind (arith, common_steps) in
    let few : n < length buf = omega (arith, size, c.if-n-count.true) in
    (take n buf, omega (arith, length-take-le n buf (omega (arith, few)), c.if-n-count.true), c.in_ok-n.ensures.gives.short few)
