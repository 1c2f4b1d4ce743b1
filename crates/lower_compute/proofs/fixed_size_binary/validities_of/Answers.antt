use Rattle.std.proofs.Common.{arith}
use Rattle.std.specs.Option.{option_copied}
use Rattle.lower_flat_arrays.specs.Validities.{ValidityFits}
use Rattle.lower_compute.proofs.Steps.{all_more_read, pushed}
use Rattle.lower_compute.proofs.fixed_size_binary.validities_of.Goals as goal

pub loop-array-preserved : goal.loop-array-preserved
loop-array-preserved c =
    let x = c.array-item.result in
    let i = c.loop-array.array-index in (
      pushed option_copied (λ a. a.now.validity) c.loop-array.all.items c.push.new.self.items c.validity.result c.args.arrays.now i x
          (omega (arith, c.loop-array-test.true)) c.array-item.is c.in_ok-push.ensures.items c.validity.ensures.bits c.loop-array.invariant.0,
      all_more_read (λ a. ValidityFits a.now.validity (a.now.len)) c.args.arrays.now i x (omega (arith, c.loop-array-test.true)) c.array-item.is
          c.loop-array.invariant.1 c.validity.ensures.valid.fits,
    )
