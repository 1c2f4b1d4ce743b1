use Rattle.std.proofs.Common.{◌≡◌, ◌*◌, ◌^◌, ◌%◌, rules, arith}
use Rattle.std.proofs.lemmas.Grind.{common_steps}
use lib.Pow.{shl_exact}
use Rattle.lower.proofs.Halves.{quotient}
use Rattle.lower.proofs.floats.scaled.Goals as goal

pub returns : goal.returns
returns c =
    let q = c.args.significand in
    let j = c.args.shift in
    let exact : (q * 2 ^ j) % 2 ^ 64 ≡ q * 2 ^ j = shl_exact {a = q} 11 j 64 (omega arith) (omega arith) in
    quotient c.nearest_u64_to_f32.result _ q j c.nearest_u64_to_f32.ensures (first_of (search (rules, exact), grind (arith, common_steps, exact))) (omega arith) (omega arith)
