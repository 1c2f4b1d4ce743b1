use Rattle.std.proofs.Common.{rules, ◌≡◌, pos, unsigned_abs, to_z, of_z}
use Rattle.std.proofs.Output.{has_written_of_eq}
use Rattle.std.specs.Int.{w128, int_div_euclid, int_rem_euclid}
use Rattle.lower_display.specs.Clocks.{per_day, at_text}
use Rattle.lower_display.specs.Zones.{suffix_of}
use Rattle.lower_display.proofs.clock.write_local.Goals as goal

pub returns : goal.returns
returns g c plain ok =
    let wrote = c.write_at.ensures plain ok in
    let day : to_z w128 (of_z w128 c.split_days-day.result.0) ≡ int_div_euclid c.args.time (pos (per_day c.args.unit)) = search rules in
    let clock : c.unsigned_abs.result ≡ unsigned_abs (int_rem_euclid c.args.time (pos (per_day c.args.unit))) = search rules in
    let number : to_z w128 (of_z w128 c.args.number) ≡ c.args.number = search rules in
    has_written_of_eq _ _ _ _ _ (λ i. at_text c.args.unit (day i) (clock i) (suffix_of c.args.zone) (number i)) wrote
