use Rattle.std.proofs.Common.{◌≡◌, ◌*◌, take}
use Rattle.std.specs.List.{flat_map}
use Rattle.lower_types.specs.PartNumbers.{days_ms_spelt}
use Rattle.lower_types.proofs.parts.put_days_ms.Given as goal

abbrev pub invariant-items : goal.invariant-items
invariant-items g l = take (8 * l.i) l.to ≡ flat_map (days_ms_spelt g.B.ByteOrder.bytes_of) (take l.i l.values)
