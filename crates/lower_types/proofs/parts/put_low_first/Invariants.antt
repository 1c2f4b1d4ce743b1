use Rattle.std.proofs.Common.{◌≡◌, ◌*◌, take}
use Rattle.std.specs.List.{flat_map}
use Rattle.lower_types.specs.PartNumbers.{low_first_spelt}
use Rattle.lower_types.proofs.parts.put_low_first.Given as goal

abbrev pub invariant-items : goal.invariant-items
invariant-items g l = take (32 * l.i) l.to ≡ flat_map (low_first_spelt g.B.ByteOrder.bytes_of) (take l.i l.values)
