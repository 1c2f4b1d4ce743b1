use Rattle.std.proofs.Common.{rules}
use Rattle.std.proofs.Output.{has_written_append}
use Rattle.lower_display.proofs.clock.write_moment.Goals as goal

pub returns : goal.returns
returns g c plain ok =
    let one = c.write_day.ensures plain (search rules) in
    let two = c.write_str.ensures.writes one.plain (search rules) in
    let three = c.write_clock.ensures two.plain (search rules) in
    let four = c.write_suffix.ensures three.plain ok in
    has_written_append _ _ _ _ _ _ one (has_written_append _ _ _ _ _ _ two (has_written_append _ _ _ _ _ _ three four))
