use Rattle.std.proofs.Common.{length, sym, ap, ◌∙◌}
use Rattle.lower_builders.proofs.SpanPushes.{length-spans}
use Rattle.lower_builders.proofs.binary.MutableBinaryArray.len.Goals as goal

pub returns : goal.returns
returns g c =
    let s = c.self.inside in
    c.len.ensures ∙ sym (length-spans s.offsets s.values.items s.validity c.self.invariant) ∙ ap length c.self.view_is
