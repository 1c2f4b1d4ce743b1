use Rattle.std.proofs.Common.{arith, rules, ◌≡◌, ◌∙◌, ap, take, drop}
use Rattle.std.proofs.lemmas.Grind.{common_steps}
use Rattle.std.specs.Int.{w32, w64, cast_signed}
use Rattle.std.specs.Int.RustNames.{FitsSigned}
use Rattle.std.proofs.Math.Facts.{to_z-of_z}
use mir.Val.{to_z, of_z}
use Rattle.lower_types.proofs.parts.read_months_days_ns.Goals as goal

pub returns : goal.returns
returns g c =
    let number = g.B.ByteOrder.number_of in
    let after4 : take 12 (drop 4 c.args.bytes.now) ≡ drop 4 c.args.bytes.now = grind (arith, common_steps) in
    let after8 : take 8 (drop 8 c.args.bytes.now) ≡ drop 8 c.args.bytes.now = grind (arith, common_steps) in
    let months_fits : FitsSigned w32 c.read_i32.result = search rules in
    let months : to_z w32 (of_z w32 c.read_i32.result) ≡ cast_signed w32 (number 4 c.args.bytes.now) = to_z-of_z months_fits ∙ c.read_i32.ensures in
    let days_fits : FitsSigned w32 c.read_i32-2.result = search rules in
    let days : to_z w32 (of_z w32 c.read_i32-2.result) ≡ cast_signed w32 (number 4 (drop 4 c.args.bytes.now)) = to_z-of_z days_fits ∙ c.read_i32-2.ensures ∙ ap (λ bytes. cast_signed w32 (number 4 bytes)) after4 in
    let nanoseconds_fits : FitsSigned w64 c.read_i64.result = search rules in
    let nanoseconds : to_z w64 (of_z w64 c.read_i64.result) ≡ cast_signed w64 (number 8 (drop 8 c.args.bytes.now)) = to_z-of_z nanoseconds_fits ∙ c.read_i64.ensures ∙ ap (λ bytes. cast_signed w64 (number 8 bytes)) after8 in
    λ i. record { months = months i; days = days i; nanoseconds = nanoseconds i }
