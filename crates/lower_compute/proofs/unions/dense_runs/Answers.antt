use Rattle.std.proofs.Common.{arith, refl, ◌≡◌, ◌+◌, ◌<◌, length, map, take, get_or, sym, ap, subst, ◌∙◌}
use Rattle.std.proofs.lemmas.List.{length-map, get_or-map, get_or_default, take_all}
use Rattle.lower_arrays.specs.Layouts.{layouts}
use Rattle.lower_arrays.specs.Children.{child_count}
use Rattle.lower_arrays.specs.Choices.{no_child}
use Rattle.lower_arrays.specs.Unions.{union_layout}
use Rattle.lower_compute.specs.declared.runs.Run.{Run}
use Rattle.lower_compute.specs.Runs.{origins}
use Rattle.lower_compute.specs.Variants.{AreRecorded}
use Rattle.lower_compute.proofs.RunPlaces.{within_there}
use Rattle.lower_compute.proofs.CopySlots.{viewed_within}
use Rattle.lower_compute.proofs.DenseSteps.{recorded_dense}
use Rattle.lower_compute.proofs.LoopSteps.{none_recorded, places_more}
use Rattle.lower_compute.proofs.unions.dense_runs.Goals as goal

pub loop-run-init : goal.loop-run-init
loop-run-init c =
    none_recorded (map (λ a. union_layout a.now) c.args.arrays.now) c.args.count c.new-offsets.result.items (map (λ v. v.items) c.in_ok-parts.parts.items) c.in_ok-lens.lens.items
    c.new-offsets.ensures.items c.in_ok-parts.ensures c.in_ok-lens.ensures

pub append_dense-requires : goal.append_dense-requires
append_dense-requires c =
    let d : Run = record { array = 0; offset = 0; len = 0 } in
    let arrays = c.args.arrays.now in
    let k = c.loop-run.run-index in
    let h : k < length c.args.runs.now = omega (arith, c.loop-run-test.true) in
    let run = get_or c.args.runs.now k d in
    let x = c.index-arrays-run.result in
    let fits = viewed_within (λ a. union_layout a.now) arrays (map (λ a. union_layout a.now) arrays) c.args.runs.now refl c.requires.within in
    let inside : run.array < length arrays = subst (λ m. run.array < m) (length-map arrays (λ a. length a.now.types)) (fits k d h).0 in
    let count : child_count (layouts x.now.children) ≡ c.args.count = subst (λ y. child_count (layouts y.now.children) ≡ c.args.count) (sym c.index-arrays-run.is) (c.requires.counts run.array x inside) in
    let parts = c.loop-run.invariant.parts_count in
    let lens = c.loop-run.invariant.lens_count in
    let same = length-map c.loop-run.parts.items (λ v. v.items) in
    record {
      within = within_there (λ a. length a.now.types) arrays run x (fits k d h) c.index-arrays-run.is;
      counts = (omega (arith, count, parts, same), omega (arith, lens, parts, same));
    }

pub loop-run-preserved : goal.loop-run-preserved
loop-run-preserved c =
    let d : Run = record { array = 0; offset = 0; len = 0 } in
    let arrays = c.args.arrays.now in
    let ls = map (λ a. union_layout a.now) arrays in
    let runs = c.args.runs.now in
    let k = c.loop-run.run-index in
    let h : k < length runs = omega (arith, c.loop-run-test.true) in
    let run = get_or runs k d in
    let x = c.index-arrays-run.result in
    let fits = viewed_within (λ a. union_layout a.now) arrays ls runs refl c.requires.within in
    let inside : run.array < length arrays = subst (λ m. run.array < m) (length-map arrays (λ a. length a.now.types)) (fits k d h).0 in
    let all = length-map arrays (λ a. union_layout a.now) in
    let size : length c.loop-run.parts.items ≡ c.args.count = sym (length-map c.loop-run.parts.items (λ v. v.items)) ∙ c.loop-run.invariant.parts_count in
    let at : get_or ls run.array no_child ≡ union_layout x.now =
    get_or-map (λ a. union_layout a.now) arrays run.array x no_child inside ∙ ap (λ y. union_layout y.now) (sym c.index-arrays-run.is)
    in
    let was = subst (λ n. AreRecorded ls n (origins (take k runs)) c.loop-run.offsets.items (map (λ v. v.items) c.loop-run.parts.items) c.loop-run.lens.items) (sym size) c.loop-run.invariant in
    let now' = c.in_ok-append_dense.ensures.recorded ls (origins (take k runs)) at (omega (arith, all, inside)) was in
    subst (λ n. AreRecorded ls n (origins (take (k + 1) runs)) c.append_dense.new.offsets.items (map (λ v. v.items) c.append_dense.new.parts.items) c.append_dense.new.lens.items) size
    (subst (λ ps. AreRecorded ls (length c.loop-run.parts.items) ps c.append_dense.new.offsets.items (map (λ v. v.items) c.append_dense.new.parts.items) c.append_dense.new.lens.items)
    (sym (places_more runs k run h (get_or_default runs k d run h))) now')

pub returns : goal.returns
returns c =
    let ls = map (λ a. union_layout a.now) c.args.arrays.now in
    let runs = c.args.runs.now in
    let all : take c.loop-run.run-index runs ≡ runs = take_all c.loop-run.run-index runs (omega (arith, c.loop-run-test.false)) in (
      recorded_dense ls c.args.count (origins runs) c.loop-run.offsets.items (map (λ v. v.items) c.loop-run.parts.items) c.loop-run.lens.items
          (subst (λ rs. AreRecorded ls c.args.count (origins rs) c.loop-run.offsets.items (map (λ v. v.items) c.loop-run.parts.items) c.loop-run.lens.items) all c.loop-run.invariant),
      sym (length-map c.loop-run.parts.items (λ v. v.items)) ∙ c.loop-run.invariant.parts_count,
    )
