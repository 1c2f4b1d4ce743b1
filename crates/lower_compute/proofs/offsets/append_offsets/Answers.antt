use Rattle.std.proofs.Common.{arith, ◌≡◌, ◌+◌, ◌-◌, ◌++◌, ap, ap₂, ◌∙◌}
use Rattle.std.specs.Prelude.{slice_index, sum}
use Rattle.lower_flat_arrays.specs.Validities.{part}
use Rattle.lower_builders.specs.Growing.{last_end_of}
use Rattle.lower_builders.proofs.OffsetPushes.{misses_more}
use Rattle.lower_compute.specs.Runs.{widths}
use Rattle.lower_compute.proofs.OffsetRuns.{offset_more, offset_within_all}
use Rattle.lower_compute.proofs.offsets.append_offsets.Goals as goal

pub returns-in-Err : goal.returns-in-Err
returns-in-Err g c =
    let os = c.args.from.now in
    let o = c.args.offset in
    let i = c.loop-i.i in
    let w = c.get-end.result - c.loop-i.last in
    let wide : w ≡ slice_index os (o + i + 1) - slice_index os (o + i) = ap₂ (λ a b. a - b) c.get-end.ensures c.loop-i.invariant.0 in
    λ ns e. misses_more g.O.Offset.limit (last_end_of c.loop-i.all + w) (sum (ns ++ part o c.args.len (widths os))) c.in-Err.error
    (offset_within_all os c.len.ensures.offsets o c.args.len c.requires i (omega (arith, c.loop-i-test.true)) ns c.loop-i.all w (c.loop-i.invariant.1 ns e) wide)
    c.in-Err.ensures.1

pub loop-i-preserved : goal.loop-i-preserved
loop-i-preserved g c =
    let os = c.args.from.now in
    let o = c.args.offset in
    let i = c.loop-i.i in
    let w = c.get-end.result - c.loop-i.last in
    let wide : w ≡ slice_index os (o + i + 1) - slice_index os (o + i) = ap₂ (λ a b. a - b) c.get-end.ensures c.loop-i.invariant.0 in
    let e : o + i + 1 ≡ o + (i + 1) = omega arith in (
      c.get-end.ensures ∙ ap (slice_index os) e,
      λ ns was. offset_more os c.len.ensures.offsets o c.args.len c.requires i (omega (arith, c.loop-i-test.true)) ns c.loop-i.all c.try_push_usize.new.self w
          (c.loop-i.invariant.1 ns was) wide c.in_default.ensures.0,
    )
