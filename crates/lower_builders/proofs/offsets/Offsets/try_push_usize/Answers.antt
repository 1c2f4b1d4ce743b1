use Rattle.std.proofs.Common.{arith, ◌≡◌, ◌≤◌, [], ◌∷◌, ◌++◌, sym, ap, subst}
use Rattle.lower.specs.Offsets.{places}
use Rattle.lower.proofs.OffsetPlaces.{KeepsOffsets}
use Rattle.lower_builders.specs.Growing.{last_end_of}
use Rattle.lower_builders.proofs.OffsetPushes.{keeps_push}
use Rattle.lower_builders.proofs.offsets.Offsets.try_push_usize.Goals as goal

pub invariant_of-self-2 : goal.invariant_of-self-2
invariant_of-self-2 g c =
    let integer = g.O.Offset.integer in
    let os = c.self.inside.offsets.items in
    let o = c.in-Some-from_usize.offset in
    let end = c.in-Some.end in
    let last : last_end_of (places integer os) ≡ last_end_of c.args.self.now = ap last_end_of c.self.view_is in
    let le : last_end_of (places integer os) ≤ end = omega (arith, last, c.last.ensures.value, c.in-Some.ensures.1) in
    subst (KeepsOffsets integer) {x = os ++ o ∷ []} (sym {b = os ++ o ∷ []} c.in_ok-push.ensures.items) (keeps_push integer os o end c.self.invariant c.in-Some-from_usize.ensures.0 le)
