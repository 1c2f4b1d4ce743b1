use Rattle.std.proofs.Common.{rules, arith, [], refl}
use Rattle.std.proofs.Output.{has_written_append, has_written_of_eq}
use Rattle.lower_display.proofs.DigitSteps.{hex_more, hex_end}
use Rattle.lower_display.proofs.digits.write_hex.Goals as goal

pub loop-byte-init : goal.loop-byte-init
loop-byte-init g c = λ plain. ([], search rules, refl)

pub loop-byte-preserved : goal.loop-byte-preserved
loop-byte-preserved g c = λ plain.
    let (done, wrote, left) = c.loop-byte.invariant plain in
    let one = c.write_byte.ensures wrote.plain (search rules) in (
      _,
      has_written_append _ _ _ _ _ _ wrote one,
      hex_more c.args.bytes.now c.loop-byte.byte-index _ done _ (omega arith) (search rules) left,
    )

pub returns : goal.returns
returns g c plain ok =
    let (done, wrote, left) = c.loop-byte.invariant plain in
    has_written_of_eq _ _ _ _ _ (hex_end c.args.bytes.now c.loop-byte.byte-index done _ (omega arith) left) wrote
