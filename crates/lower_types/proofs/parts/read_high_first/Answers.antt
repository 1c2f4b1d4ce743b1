use Rattle.std.proofs.Common.{arith, rules, ◌≡◌, ◌∙◌, ap, take, drop}
use Rattle.std.proofs.lemmas.Grind.{common_steps}
use Rattle.std.specs.Int.{w128, cast_signed}
use Rattle.std.specs.Int.RustNames.{FitsSigned}
use Rattle.std.proofs.Math.Facts.{to_z-of_z}
use mir.Val.{to_z, of_z}
use Rattle.lower_types.proofs.parts.read_high_first.Goals as goal

pub returns : goal.returns
returns g c =
    let number = g.B.ByteOrder.number_of in
    let after : take 16 (drop 16 c.args.bytes.now) ≡ drop 16 c.args.bytes.now = grind (arith, common_steps) in
    let fits : FitsSigned w128 c.read_i128.result = search rules in
    let high : to_z w128 (of_z w128 c.read_i128.result) ≡ cast_signed w128 (number 16 c.args.bytes.now) = to_z-of_z fits ∙ c.read_i128.ensures in
    let low : c.read_u128.result ≡ number 16 (drop 16 c.args.bytes.now) = c.read_u128.ensures ∙ ap (number 16) after in
    λ i. record { high = high i; low = low i }
