use Rattle.lower_builders.proofs.SpanPushes.{parts_of}
use Rattle.lower_builders.proofs.binary.MutableBinaryArray.into_parts.Goals as goal

pub returns : goal.returns
returns g c =
    let s = c.self.inside in
    rw (c.in_ok-offsets.ensures, c.in_ok-values.ensures, c.in_ok-validity.ensures, ← c.self.view_is) (parts_of s.offsets s.values.items s.validity c.self.invariant)
