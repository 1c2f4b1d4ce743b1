use Rattle.std.proofs.Common.{arith, ◌≡◌, ◌+◌, ◌<◌, length, take, drop, ap, sym, subst, ◌∙◌}
use Rattle.lower.specs.Offsets.{places}
use Rattle.lower.proofs.OffsetPlaces.{KeepsOffsets, keeps_part, places-part}
use Rattle.lower.proofs.offset.OffsetsBuffer.slice.Goals as goal

pub invariant_of-self : goal.invariant_of-self
invariant_of-self g c =
    let integer = g.O.Offset.integer in
    let offsets = c.self.inside.offsets in
    let count : length (places integer offsets) ≡ length c.args.self.now = ap length c.self.view_is in
    let within : c.args.offset + c.args.len < length (places integer offsets) = omega (arith, count, c.requires) in
    let part = take (c.args.len + 1) (drop c.args.offset offsets) in
    subst (KeepsOffsets integer) {x = part} (sym {b = part} c.slice.ensures) (keeps_part integer offsets c.args.offset c.args.len within c.self.invariant)

pub returns : goal.returns
returns g c =
    let integer = g.O.Offset.integer in
    let offsets = c.self.inside.offsets in
    ap (places integer) c.slice.ensures
    ∙ places-part integer offsets c.args.offset (c.args.len + 1)
    ∙ ap (λ ns. take (c.args.len + 1) (drop c.args.offset ns)) c.self.view_is
