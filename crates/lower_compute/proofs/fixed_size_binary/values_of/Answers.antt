use Rattle.std.proofs.Common.{arith, ◌≡◌, ◌*◌, ◌^◌, ◌<◌, length, ap, ◌∙◌}
use Rattle.lower_compute.proofs.Steps.{all_more_read, pushed}
use Rattle.lower_compute.proofs.fixed_size_binary.values_of.Goals as goal

pub loop-array-preserved : goal.loop-array-preserved
loop-array-preserved c =
    let x = c.array-item.result in
    let i = c.loop-array.array-index in
    let xs = c.args.arrays.now in
    let bytes = c.as_slice-bytes.result in
    let same : bytes.now ≡ x.now.values = c.as_slice-bytes.ensures ∙ c.values.ensures.bytes in
    let long : length bytes.now ≡ length x.now.values = ap (λ l. length l) same in
    let small : length x.now.values < 2 ^ 64 = omega (arith, c.if-prove.false, long) in (
      pushed (λ l. l.now) (λ a. a.now.values) c.loop-array.all.items c.push.new.self.items bytes xs i x
          (omega (arith, c.loop-array-test.true)) c.array-item.is c.in_ok-push.ensures.items same c.loop-array.invariant.0,
      all_more_read (λ a. length a.now.values ≡ a.now.len * a.now.size) xs i x (omega (arith, c.loop-array-test.true)) c.array-item.is
          c.loop-array.invariant.1 c.values.ensures.valid.whole,
      all_more_read (λ a. length a.now.values < 2 ^ 64) xs i x (omega (arith, c.loop-array-test.true)) c.array-item.is
          c.loop-array.invariant.2 small,
    )
