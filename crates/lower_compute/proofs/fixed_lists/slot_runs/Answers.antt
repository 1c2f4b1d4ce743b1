use Rattle.std.proofs.Common.{rules, arith, ◌<◌, length, get_or}
use Rattle.std.proofs.lemmas.List.{length-map}
use Rattle.lower_arrays.specs.Layouts.{children, len_of}
use Rattle.lower_arrays.specs.Children.{child_count}
use Rattle.lower_arrays.specs.Choices.{child}
use Rattle.lower_arrays.specs.AnyLayouts.{layout_of}
use Rattle.lower_compute.specs.declared.runs.Run.{Run}
use Rattle.lower_compute.specs.Runs.{scaled}
use Rattle.lower_compute.proofs.FixedListCopies.{scaled_there}
use Rattle.lower_compute.proofs.RunPlaces.{within_there}
use Rattle.lower_compute.proofs.CopySlots.{read_at}
use Rattle.lower_compute.proofs.fixed_lists.slot_runs.Goals as goal

pub offset_bounds-arrays-run : goal.offset_bounds-arrays-run
offset_bounds-arrays-run c =
    let d : Run = record { array = 0; offset = 0; len = 0 } in
    let arrays = c.args.arrays.now in
    let h : c.loop-run.run-index < length c.args.runs.now = omega (arith, c.loop-run-test.true) in
    let fit = scaled_there (λ a. layout_of a.now) arrays c.args.runs.now c.args.size c.loop-run.run-index d h c.requires.within in
    let count = length-map arrays (λ a. len_of (child (children (layout_of a.now)) 0)) in
    let low = fit.0 in
    let lt : (get_or c.args.runs.now c.loop-run.run-index d).array < length arrays = omega (arith, low, count) in
    search (rules, lt)

pub bounds-arrays-run : goal.bounds-arrays-run
bounds-arrays-run c =
    let d : Run = record { array = 0; offset = 0; len = 0 } in
    let arrays = c.args.arrays.now in
    let h : c.loop-run.run-index < length c.args.runs.now = omega (arith, c.loop-run-test.true) in
    let fit = scaled_there (λ a. layout_of a.now) arrays c.args.runs.now c.args.size c.loop-run.run-index d h c.requires.within in
    let count = length-map arrays (λ a. len_of (child (children (layout_of a.now)) 0)) in
    let low = fit.0 in
    omega (arith, low, count)

pub slot_run-requires : goal.slot_run-requires
slot_run-requires c =
    let d : Run = record { array = 0; offset = 0; len = 0 } in
    let arrays = c.args.arrays.now in
    let size = c.args.size in
    let h : c.loop-run.run-index < length c.args.runs.now = omega (arith, c.loop-run-test.true) in
    let run = get_or c.args.runs.now c.loop-run.run-index d in
    let x = c.index-arrays-run.result in
    let fit = scaled_there (λ a. layout_of a.now) arrays c.args.runs.now size c.loop-run.run-index d h c.requires.within in
    let count = length-map arrays (λ a. len_of (child (children (layout_of a.now)) 0)) in
    let low = fit.0 in
    let inside : run.array < length arrays = omega (arith, low, count) in
    record {
      have = read_at (λ l. 0 < child_count (children l)) (λ a. layout_of a.now) arrays run.array x inside c.index-arrays-run.is c.requires.have;
      within = within_there (λ a. len_of (child (children (layout_of a.now)) 0)) arrays (scaled size run) x fit c.index-arrays-run.is;
    }
