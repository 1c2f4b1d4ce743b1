use Rattle.std.proofs.Common.{rules}
use Rattle.std.proofs.Output.{has_written_append, has_written_of_eq}
use Rattle.lower_display.specs.Wide.{groups_value}
use Rattle.lower_display.proofs.WideDigits.{size_long, size_pointed}
use Rattle.lower_display.proofs.wide.write_size.Goals as goal

pub returns-then-scale-gt76 : goal.returns-then-scale-gt76
returns-then-scale-gt76 g c plain ok =
    let one = c.write_long.ensures plain (search rules) in
    let two = c.write.ensures.writes one.plain ok in
    has_written_of_eq _ _ _ _ _ (size_long (groups_value c.args.groups.now) c.args.scale c.if-scale-gt76.true) (has_written_append _ _ _ _ _ _ one two)

pub returns : goal.returns
returns g c plain ok =
    let one = c.write_long-2.ensures plain (search rules) in
    let two = c.write_after_point.ensures one.plain ok in
    has_written_of_eq _ _ _ _ _ (size_pointed (groups_value c.args.groups.now) c.args.scale c.if-scale-gt76.false) (has_written_append _ _ _ _ _ _ one two)
