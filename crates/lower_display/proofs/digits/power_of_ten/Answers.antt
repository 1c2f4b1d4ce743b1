use Rattle.std.proofs.Common.{arith, ◌^◌, ◌<◌, ◌≤◌}
use Rattle.std.proofs.Math.Nat.{pow-le-pow_right}
use Rattle.lower_display.proofs.DigitSteps.{pow_some}
use Rattle.lower_display.proofs.digits.power_of_ten.Goals as goal

pub pow-requires : goal.pow-requires
pow-requires c =
    let cap : 10 ^ c.args.exponent ≤ 10 ^ 38 = pow-le-pow_right (omega arith) c.requires in
    omega (arith, cap)

pub returns-clause-positive : goal.returns-clause-positive
returns-clause-positive c =
    let some : 0 < 10 ^ c.args.exponent = pow_some c.args.exponent in
    omega (arith, some, c.pow.ensures)
