use Rattle.std.proofs.Common.{arith, ◌≡◌, ◌+◌, ◌<◌, length, ap}
use Rattle.lower_flat_arrays.specs.Spans.{span_count}
use Rattle.lower_flat_arrays.proofs.utf8.Utf8Array.value.Goals as goal

pub from_utf8_unchecked-requires : goal.from_utf8_unchecked-requires
from_utf8_unchecked-requires g c =
    let count : span_count c.self.inside.offsets ≡ span_count c.args.self.now.offsets = ap (λ a. span_count a.offsets) c.self.view_is in
    let within : c.args.index + 1 < length c.self.inside.offsets = omega (arith, count, c.requires) in
    rw (c.get-start.ensures, c.get-end.ensures, c.as_slice.ensures) (c.self.invariant.texts.each c.args.index within)
