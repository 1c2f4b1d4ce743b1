use Rattle.std.proofs.Common.{rules, arith, [], ◌/◌, ◌^◌}
use Rattle.std.proofs.Output.{has_written_append, has_written_of_eq}
use Rattle.lower_display.specs.Wide.{groups_value}
use Rattle.lower_display.proofs.DigitSteps.{digits_begin, digits_more, digits_end}
use Rattle.lower_display.proofs.wide.write_places.Goals as goal

pub loop-index-init : goal.loop-index-init
loop-index-init g c = λ plain. ([], search rules, digits_begin (groups_value c.args.groups.now / 10 ^ c.args.scale) c.args.count)

pub loop-index-preserved : goal.loop-index-preserved
loop-index-preserved g c = λ plain.
    let (done, wrote, left) = c.loop-index.invariant plain in
    let one = c.write_place.ensures wrote.plain (search rules) in (
      _,
      has_written_append _ _ _ _ _ _ wrote one,
      digits_more (groups_value c.args.groups.now / 10 ^ c.args.scale) c.args.count c.loop-index.index done _ (omega arith) left,
    )

pub returns : goal.returns
returns g c plain ok =
    let (done, wrote, left) = c.loop-index.invariant plain in
    has_written_of_eq _ _ _ _ _ (digits_end (groups_value c.args.groups.now / 10 ^ c.args.scale) c.args.count c.loop-index.index done _ (omega arith) left) wrote
