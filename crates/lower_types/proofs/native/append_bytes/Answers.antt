use Rattle.std.proofs.Common.{arith, ◌≡◌, ◌<◌}
use Rattle.std.proofs.lemmas.List.Elements.{All-weaker}
use Rattle.lower_types.proofs.NumberPieces.{length-spelt, values_of-spelt}
use Rattle.lower_types.proofs.native.append_bytes.Goals as goal

pub returns-clause-len : goal.returns-clause-len
returns-clause-len g c =
    length-spelt (g.T.NativeType.spelt c.args.order) g.T.NativeType.width (g.met.T.NativeType.spelt_length c.args.order) c.args.values.now

pub returns-clause-read_back : goal.returns-clause-read_back
returns-clause-read_back g c =
    let order = c.args.order in
    let pos : 0 < g.T.NativeType.width = omega (arith, c.width-width.ensures.value, c.width-width.ensures.bounds.0) in
    let same = All-weaker _ (λ x. g.T.NativeType.value order (g.T.NativeType.spelt order x) ≡ x) (g.met.T.NativeType.reads_back order) c.args.values.now c.are_in_range.ensures in
    values_of-spelt (g.T.NativeType.value order) (g.T.NativeType.spelt order) g.T.NativeType.width pos (g.met.T.NativeType.spelt_length order) c.args.values.now same
