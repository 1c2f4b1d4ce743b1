use Rattle.std.proofs.Common.{arith, ◌≡◌, ◌<◌, ◌++◌, length, map, take, get_or, sym, ap, subst, ◌∙◌}
use Rattle.std.specs.Prelude.{sum}
use Rattle.std.proofs.lemmas.List.{length-map, get_or_default}
use Rattle.lower_flat_arrays.specs.Validities.{part}
use Rattle.lower_flat_arrays.specs.Spans.{span_count}
use Rattle.lower_builders.specs.Growing.{offsets_by_lengths}
use Rattle.lower_builders.proofs.OffsetPushes.{misses_more}
use Rattle.lower_compute.specs.declared.runs.Run.{Run}
use Rattle.lower_compute.specs.Runs.{items_of_run, items_of_runs, widths}
use Rattle.lower_compute.proofs.RunPlaces.{items_more}
use Rattle.lower_compute.proofs.OffsetRuns.{widths_there, sum_of_first}
use Rattle.lower_compute.proofs.offsets.copy_offsets.Goals as goal

pub returns-in-Err-append_offsets : goal.returns-in-Err-append_offsets
returns-in-Err-append_offsets g c =
    let arrays = c.args.offsets.now in
    let runs = c.args.runs.now in
    let k = c.loop-run.run-index in
    let x = c.index-offsets-run.result in
    let d : Run = record { array = 0; offset = 0; len = 0 } in
    let run = get_or runs k d in
    let h : k < length runs = omega (arith, c.loop-run-test.true) in
    let lists = map widths (map (λ os. os.now) arrays) in
    let inside : run.array < length arrays = subst (λ m. run.array < m) (length-map arrays (λ os. span_count os.now)) (c.requires k d h).0 in
    let wide : items_of_run lists run ≡ part run.offset run.len (widths x.now) = widths_there (λ os. os.now) arrays run x inside c.index-offsets-run.is in
    let le = sum_of_first lists runs k run (part run.offset run.len (widths x.now)) h (get_or_default runs k d run h) wide in
    misses_more g.O.Offset.limit (sum (items_of_runs lists (take k runs) ++ part run.offset run.len (widths x.now))) (sum (items_of_runs lists runs)) c.in-Err-append_offsets.error le
    (c.in-Err-append_offsets.ensures (items_of_runs lists (take k runs)) c.loop-run.invariant)

pub loop-run-preserved : goal.loop-run-preserved
loop-run-preserved g c =
    let arrays = c.args.offsets.now in
    let runs = c.args.runs.now in
    let k = c.loop-run.run-index in
    let x = c.index-offsets-run.result in
    let d : Run = record { array = 0; offset = 0; len = 0 } in
    let run = get_or runs k d in
    let h : k < length runs = omega (arith, c.loop-run-test.true) in
    let lists = map widths (map (λ os. os.now) arrays) in
    let inside : run.array < length arrays = subst (λ m. run.array < m) (length-map arrays (λ os. span_count os.now)) (c.requires k d h).0 in
    let wide : items_of_run lists run ≡ part run.offset run.len (widths x.now) = widths_there (λ os. os.now) arrays run x inside c.index-offsets-run.is in
    c.in_default.ensures (items_of_runs lists (take k runs)) c.loop-run.invariant
    ∙ ap offsets_by_lengths (ap (λ l. items_of_runs lists (take k runs) ++ l) (sym wide) ∙ sym (items_more lists runs k run h (get_or_default runs k d run h)))
