use Rattle.std.proofs.Common.{arith, ◌≡◌, ◌+◌, ◌^◌, ◌<◌, [], ◌++◌, length, map, get_or, sym, ap, ap₂, subst, ◌∙◌}
use Rattle.std.proofs.lemmas.List.{length-map, get_or-map, get_or_default}
use Rattle.lower_flat_arrays.specs.Validities.{part}
use Rattle.lower_arrays.specs.Layouts.{len_of}
use Rattle.lower_compute.specs.declared.runs.Run.{Run}
use Rattle.lower_compute.specs.Runs.{items_of_run}
use Rattle.lower_compute.specs.Keyed.{value_places}
use Rattle.lower_compute.proofs.RunPlaces.{within_there, items_more}
use Rattle.lower_compute.proofs.keys.places_of_runs.Goals as goal

pub append_places-requires : goal.append_places-requires
append_places-requires c =
    let d : Run = record { array = 0; offset = 0; len = 0 } in
    let arrays = c.args.arrays.now in
    let x = c.index-arrays-run.result in
    let h : c.loop-run.run-index < length c.args.runs.now = omega (arith, c.loop-run-test.true) in
    let run = get_or c.args.runs.now c.loop-run.run-index d in
    let fit = c.requires.fits c.loop-run.run-index d h in
    let inside : run.array < length arrays = subst (λ m. run.array < m) (length-map arrays (λ p. length p.1.now.keys.integers)) fit.0 in record {
      within = within_there (λ p. length p.1.now.keys.integers) arrays run x fit c.index-arrays-run.is;
      small = subst (λ p. p.0 + len_of p.1.now.values < 2 ^ 64) (sym c.index-arrays-run.is) (c.requires.small run.array x inside);
    }

pub loop-run-preserved : goal.loop-run-preserved
loop-run-preserved c =
    let d : Run = record { array = 0; offset = 0; len = 0 } in
    let arrays = c.args.arrays.now in
    let runs = c.args.runs.now in
    let k = c.loop-run.run-index in
    let x = c.index-arrays-run.result in
    let h : k < length runs = omega (arith, c.loop-run-test.true) in
    let run = get_or runs k d in
    let lists = map (λ p. value_places p.0 p.1.now) arrays in
    let inside : run.array < length arrays = subst (λ m. run.array < m) (length-map arrays (λ p. length p.1.now.keys.integers)) (c.requires.fits k d h).0 in
    let this : part run.offset run.len (value_places x.0 x.1.now) ≡ items_of_run lists run =
    ap (part run.offset run.len) (ap (λ p. value_places p.0 p.1.now) c.index-arrays-run.is ∙ sym (get_or-map (λ p. value_places p.0 p.1.now) arrays run.array x [] inside))
    in
    c.in_ok-append_places.ensures
    ∙ ap₂ (λ us ws. us ++ ws) c.loop-run.invariant this
    ∙ sym (items_more lists runs k run h (get_or_default runs k d run h))
