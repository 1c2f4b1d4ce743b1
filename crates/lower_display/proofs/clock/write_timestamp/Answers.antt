use Rattle.std.proofs.Common.{rules, ◌≡◌, pos, true, ◌+ℤ◌, ◌*ℤ◌, to_z, of_z}
use Rattle.std.proofs.Output.{has_written_of_eq}
use Rattle.std.specs.Int.{w128}
use Rattle.lower_display.specs.Clocks.{fits_64, per_minute, local_text}
use Rattle.lower_display.specs.Zones.{minutes_of, suffix_of}
use Rattle.lower_display.proofs.Days.{stamp_there}
use Rattle.lower_display.proofs.clock.write_timestamp.Goals as goal

pub returns-in-Some : goal.returns-in-Some
returns-in-Some g c plain ok =
    let wrote = c.write_local.ensures plain ok in
    let number : to_z w128 (of_z w128 c.args.number) ≡ c.args.number = search rules in
    let fits : fits_64 c.args.number ≡ true = search rules in
    let local : to_z w128 (of_z w128 (c.from.result +ℤ c.units_of_minutes.result)) ≡ c.args.number +ℤ minutes_of c.args.zone *ℤ pos (per_minute c.args.unit) = search rules in
    let from : to_z w128 (of_z w128 c.from.result) ≡ c.from.result = search rules in
    let units : to_z w128 (of_z w128 c.units_of_minutes.result) ≡ c.units_of_minutes.result = search rules in
    has_written_of_eq _ _ _ _ _ (stamp_there c.args.unit (minutes_of c.args.zone) c.args.number _ (suffix_of c.args.zone) fits local)
    (has_written_of_eq _ _ _ _ _ (λ i. local_text c.args.unit (to_z w128 (of_z w128 (from i +ℤ units i))) (suffix_of c.args.zone) (number i)) wrote)
