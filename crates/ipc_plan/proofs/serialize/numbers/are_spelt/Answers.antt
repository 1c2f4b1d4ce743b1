use Rattle.ipc_plan.proofs.Numbers.{numbers_read}
use Rattle.ipc_plan.proofs.serialize.numbers.are_spelt.Goals as goal

pub returns : goal.returns
returns g c = record {
  each = λ order.
      let T = g.T.NativeType in
      let laws = g.met.T.NativeType in
      numbers_read order T.primitive T.number (T.value order) (T.spelt order) T.width laws.width_is (laws.spelt_length order) (laws.number_is order) (laws.reads_first order) T.fits (laws.reads_back order)
      c.args.values.now c.read_ranges.ensures;
}
