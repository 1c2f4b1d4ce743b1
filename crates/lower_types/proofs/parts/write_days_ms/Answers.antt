use Rattle.std.proofs.Common.{arith, rules, ◌-◌, ◌++◌, ◌∙◌, ap, drop, take, length}
use Rattle.std.specs.Int.{w32, cast_unsigned}
use Rattle.std.specs.Int.RustNames.{FitsSigned}
use Rattle.std.proofs.Math.Facts.{to_z-of_z}
use Rattle.lower_types.proofs.PartWrites.{second_write}
use Rattle.lower_types.proofs.parts.write_days_ms.Goals as goal

pub returns : goal.returns
returns g c =
    let write = g.B.ByteOrder.bytes_of in
    let to = c.args.to.now in
    let days_fits : FitsSigned w32 c.args.value.days = search rules in
    let milliseconds_fits : FitsSigned w32 c.args.value.milliseconds = search rules in
    second_write 4 4 to (write 4 (cast_unsigned w32 c.args.value.days)) (write 4 (cast_unsigned w32 c.args.value.milliseconds)) c.write_i32.new.buf c.write_i32-2.new.buf
    (omega (arith, c.requires)) (g.met.B.ByteOrder.length_bytes 4 (cast_unsigned w32 c.args.value.days))
    (c.write_i32.ensures ∙ ap (λ z. write 4 (cast_unsigned w32 z) ++ drop 4 to) (to_z-of_z days_fits))
    (c.write_i32-2.ensures ∙ ap (λ z. write 4 (cast_unsigned w32 z) ++ drop 4 (take (length c.write_i32.new.buf - 4) (drop 4 c.write_i32.new.buf))) (to_z-of_z milliseconds_fits))
