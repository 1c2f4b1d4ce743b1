use Rattle.std.proofs.Common.{arith, rules, ◌-◌, ◌++◌, ◌∙◌, ap, drop, take, length}
use Rattle.std.specs.Int.{w128, cast_unsigned}
use Rattle.std.specs.Int.RustNames.{FitsSigned}
use Rattle.std.proofs.Math.Facts.{to_z-of_z}
use Rattle.lower_types.proofs.PartWrites.{second_write}
use Rattle.lower_types.proofs.parts.write_low_first.Goals as goal

pub returns : goal.returns
returns g c =
    let write = g.B.ByteOrder.bytes_of in
    let to = c.args.to.now in
    let high_fits : FitsSigned w128 c.args.value.high = search rules in
    second_write 16 16 to (write 16 c.args.value.low) (write 16 (cast_unsigned w128 c.args.value.high)) c.write_u128.new.buf c.write_i128.new.buf
    (omega (arith, c.requires)) (g.met.B.ByteOrder.length_bytes 16 c.args.value.low)
    c.write_u128.ensures
    (c.write_i128.ensures ∙ ap (λ z. write 16 (cast_unsigned w128 z) ++ drop 16 (take (length c.write_u128.new.buf - 16) (drop 16 c.write_u128.new.buf))) (to_z-of_z high_fits))
