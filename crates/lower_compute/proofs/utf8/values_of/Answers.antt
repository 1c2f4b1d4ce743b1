use Rattle.std.proofs.Common.{arith, ◌∙◌}
use Rattle.lower_flat_arrays.specs.Spans.{EndsWithin, AreTexts}
use Rattle.lower_compute.proofs.Steps.{all_more_read, pushed}
use Rattle.lower_compute.proofs.utf8.values_of.Goals as goal

pub loop-array-preserved : goal.loop-array-preserved
loop-array-preserved g c =
    let x = c.array-item.result in
    let i = c.loop-array.array-index in (
      pushed (λ l. l.now) (λ a. a.now.values) c.loop-array.all.items c.push.new.self.items c.as_slice.result c.args.arrays.now i x
          (omega (arith, c.loop-array-test.true)) c.array-item.is c.in_ok-push.ensures.items (c.as_slice.ensures ∙ c.values.ensures.bytes) c.loop-array.invariant.0,
      all_more_read (λ a. EndsWithin a.now.offsets a.now.values) c.args.arrays.now i x (omega (arith, c.loop-array-test.true)) c.array-item.is
          c.loop-array.invariant.1 c.values.ensures.valid.within,
      all_more_read (λ a. AreTexts a.now.offsets a.now.values) c.args.arrays.now i x (omega (arith, c.loop-array-test.true)) c.array-item.is
          c.loop-array.invariant.2 c.values.ensures.valid.texts,
    )
