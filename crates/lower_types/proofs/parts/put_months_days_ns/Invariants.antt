use Rattle.std.proofs.Common.{◌≡◌, ◌*◌, take}
use Rattle.std.specs.List.{flat_map}
use Rattle.lower_types.specs.PartNumbers.{months_days_ns_spelt}
use Rattle.lower_types.proofs.parts.put_months_days_ns.Given as goal

abbrev pub invariant-items : goal.invariant-items
invariant-items g l = take (16 * l.i) l.to ≡ flat_map (months_days_ns_spelt g.B.ByteOrder.bytes_of) (take l.i l.values)
