use Rattle.std.proofs.Common.{arith, rules, ◌≡◌, ◌<◌, length, ap}
use Rattle.lower.specs.Offsets.{places}
use Rattle.lower.proofs.OffsetPlaces.{keeps_at}
use Rattle.lower.proofs.offset.OffsetsBuffer.get.Goals as goal

pub to_usize-requires : goal.to_usize-requires
to_usize-requires g c =
    let integer = g.O.Offset.integer in
    let offsets = c.self.inside.offsets in
    let count : length (places integer offsets) ≡ length c.args.self.now = ap length c.self.view_is in
    let within : c.args.i < length (places integer offsets) = omega (arith, count, c.requires) in
    keeps_at integer offsets c.args.i c.index-as_slice-i.result within (search rules) c.self.invariant
