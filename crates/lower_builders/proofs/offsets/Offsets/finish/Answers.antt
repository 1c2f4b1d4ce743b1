use Rattle.std.proofs.Common.{map, sym, ap, subst, ◌∙◌}
use Rattle.lower.specs.Offsets.{AreOffsets, places}
use Rattle.lower_builders.proofs.OffsetPushes.{offsets_from_keeps, same_numbers}
use Rattle.lower_builders.proofs.offsets.Offsets.finish.Goals as goal

pub unreachable-requires : goal.unreachable-requires
unreachable-requires g c =
    let integer = g.O.Offset.integer in
    let os = c.self.inside.offsets.items in
    c.in-Err.ensures.exact (subst (AreOffsets integer) {x = os} (sym {b = os} c.in_ok-new.ensures) (offsets_from_keeps integer os c.self.invariant))

pub returns : goal.returns
returns g c =
    let integer = g.O.Offset.integer in
    let os = c.self.inside.offsets.items in
    same_numbers c.in-Ok.offsets (places integer os) (c.in-Ok.ensures.exact.0 ∙ ap (map integer) c.in_ok-new.ensures ∙ sym c.self.invariant.0) ∙ c.self.view_is
