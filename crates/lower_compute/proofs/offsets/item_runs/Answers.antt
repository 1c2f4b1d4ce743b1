use Rattle.std.proofs.Common.{arith, ◌<◌, ◌∷◌, [], ◌++◌, length, map, get_or, sym, ap₂, subst, ◌∙◌}
use Rattle.std.proofs.lemmas.List.{length-map, map_more}
use Rattle.lower_flat_arrays.specs.Spans.{span_count}
use Rattle.lower_compute.specs.declared.runs.Run.{Run}
use Rattle.lower_compute.specs.Runs.{run_of_items}
use Rattle.lower_compute.proofs.RunPlaces.{within_there}
use Rattle.lower_compute.proofs.OffsetRuns.{run_there}
use Rattle.lower_compute.proofs.offsets.item_runs.Goals as goal

pub items_between-requires : goal.items_between-requires
items_between-requires g c =
    let d : Run = record { array = 0; offset = 0; len = 0 } in
    let h : c.loop-run.run-index < length c.args.runs.now = omega (arith, c.loop-run-test.true) in
    within_there (λ os. span_count os.now) c.args.offsets.now (get_or c.args.runs.now c.loop-run.run-index d) c.index-offsets-run.result
    (c.requires c.loop-run.run-index d h) c.index-offsets-run.is

pub loop-run-preserved : goal.loop-run-preserved
loop-run-preserved g c =
    let d : Run = record { array = 0; offset = 0; len = 0 } in
    let arrays = c.args.offsets.now in
    let runs = c.args.runs.now in
    let k = c.loop-run.run-index in
    let run = get_or runs k d in
    let h : k < length runs = omega (arith, c.loop-run-test.true) in
    let inside : run.array < length arrays = subst (λ m. run.array < m) (length-map arrays (λ os. span_count os.now)) (c.requires k d h).0 in
    c.in_ok-push.ensures.items
    ∙ ap₂ (λ rs r. rs ++ r ∷ []) c.loop-run.invariant (c.items_between.ensures ∙ run_there (λ os. os.now) arrays run c.index-offsets-run.result inside c.index-offsets-run.is)
    ∙ sym (map_more (run_of_items (map (λ os. os.now) arrays)) runs k d h)
