use Rattle.std.proofs.Common.{arith}
use Rattle.lower.specs.Offsets.{IsOffsets}
use Rattle.lower_compute.proofs.Steps.{all_more_read, pushed}
use Rattle.lower_compute.proofs.utf8.offsets_of.Goals as goal

pub loop-array-preserved : goal.loop-array-preserved
loop-array-preserved g c =
    let x = c.array-item.result in
    let i = c.loop-array.array-index in (
      pushed (λ os. os.now) (λ a. a.now.offsets) c.loop-array.all.items c.push.new.self.items c.offsets.result c.args.arrays.now i x
          (omega (arith, c.loop-array-test.true)) c.array-item.is c.in_ok-push.ensures.items c.offsets.ensures.offsets c.loop-array.invariant.0,
      all_more_read (λ a. IsOffsets a.now.offsets) c.args.arrays.now i x (omega (arith, c.loop-array-test.true)) c.array-item.is
          c.loop-array.invariant.1 c.offsets.ensures.valid.offsets,
    )
