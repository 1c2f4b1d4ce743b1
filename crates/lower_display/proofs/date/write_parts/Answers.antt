use Rattle.std.proofs.Common.{rules, ap, ◌≡◌, to_z, of_z}
use Rattle.std.proofs.Output.{has_written_append, has_written_of_eq}
use Rattle.std.specs.Int.{w128}
use Rattle.lower_display.specs.Dates.{year_text}
use Rattle.lower_display.proofs.date.write_parts.Goals as goal

pub returns : goal.returns
returns g c plain ok =
    let year : to_z w128 (of_z w128 c.args.year) ≡ c.args.year = search rules in
    let one = has_written_of_eq _ _ _ _ _ (ap year_text year) (c.write_year.ensures plain (search rules)) in
    let two = c.write_str.ensures.writes one.plain (search rules) in
    let three = c.write_two.ensures two.plain (search rules) in
    let four = c.write_str-2.ensures.writes three.plain (search rules) in
    let five = c.write_two-2.ensures four.plain ok in
    has_written_append _ _ _ _ _ _ one (has_written_append _ _ _ _ _ _ two (has_written_append _ _ _ _ _ _ three (has_written_append _ _ _ _ _ _ four five)))
