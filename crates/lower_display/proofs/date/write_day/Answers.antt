use Rattle.std.proofs.Common.{rules, ◌≡◌, ◌∙◌, to_z, of_z}
use Rattle.std.proofs.Output.{has_written_of_eq}
use Rattle.std.specs.Int.{w128}
use Rattle.lower_display.specs.Dates.{iso_date}
use Rattle.lower_display.proofs.Days.{date_is}
use Rattle.lower_display.proofs.date.write_day.Goals as goal

pub returns : goal.returns
returns g c plain ok =
    let date = c.args.date in
    let year : to_z w128 (of_z w128 c.from.result) ≡ date.year = search rules in
    let month : c.from-2.result ≡ date.month = search rules in
    let day : c.from-3.result ≡ date.day = search rules in
    let parts : iso_date (to_z w128 (of_z w128 c.from.result)) c.from-2.result c.from-3.result ≡ iso_date date.year date.month date.day =
    λ i. iso_date (year i) (month i) (day i)
    in
    has_written_of_eq _ _ _ _ _ (parts ∙ date_is date) (c.write_parts.ensures plain ok)
