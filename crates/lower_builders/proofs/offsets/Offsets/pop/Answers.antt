use Rattle.std.proofs.Common.{arith, ◌≡◌, ◌+◌, ◌-◌, ◌<◌, length, take, vec_len, sym, ap, subst}
use Rattle.lower.specs.Offsets.{places}
use Rattle.lower.proofs.OffsetPlaces.{KeepsOffsets}
use Rattle.lower_builders.proofs.OffsetPushes.{count, keeps_front}
use Rattle.lower_builders.proofs.offsets.Offsets.pop.Goals as goal

pub invariant_of-self : goal.invariant_of-self
invariant_of-self g c =
    let integer = g.O.Offset.integer in
    let v = c.self.inside.offsets in
    let os = v.items in
    let n = vec_len v - 1 in
    let same : length (places integer os) ≡ length c.args.self.now = ap length c.self.view_is in
    let whole : vec_len v - 1 + 1 ≡ length os = omega (arith, v.ok.0, same, count integer os, c.requires) in
    let some : 0 < vec_len v - 1 = omega (arith, v.ok.0, same, count integer os, c.requires) in
    subst (KeepsOffsets integer) {x = take n os} (sym {b = take n os} c.pop.ensures.rest) (keeps_front integer os n whole some c.self.invariant)
