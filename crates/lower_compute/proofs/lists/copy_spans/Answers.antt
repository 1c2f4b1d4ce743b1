use Rattle.std.proofs.Common.{map, sym, ap, subst, ◌∙◌}
use Rattle.std.specs.List.{All}
use Rattle.lower_arrays.specs.Layouts.{level}
use Rattle.lower_arrays.specs.AnyLayouts.{layout_of}
use Rattle.lower_compute.specs.Kinds.{offsets_in}
use Rattle.lower_compute.specs.Runs.{RunFits, run_of_items, offsets_of_runs}
use Rattle.lower_compute.proofs.LoopSteps.{offsets_same, spans_same}
use Rattle.lower_compute.proofs.lists.copy_spans.Goals as goal

pub copy_offsets-requires : goal.copy_offsets-requires
copy_offsets-requires g c =
    let same = ap (map (λ os. os.now)) c.deref.ensures.value ∙ c.in_ok-all.ensures in
    subst (λ ns. All (RunFits ns) c.args.runs.now)
    (sym (spans_same (λ os. os.now) (λ l. offsets_in (level l).parts) (λ a. layout_of a.now) c.deref.result.now c.args.arrays.now same))
    c.requires.fits

pub item_runs-requires : goal.item_runs-requires
item_runs-requires g c =
    let same = ap (map (λ os. os.now)) c.deref-2.ensures.value ∙ c.in_ok-all.ensures in
    subst (λ ns. All (RunFits ns) c.args.runs.now)
    (sym (spans_same (λ os. os.now) (λ l. offsets_in (level l).parts) (λ a. layout_of a.now) c.deref-2.result.now c.args.arrays.now same))
    c.requires.fits

pub returns : goal.returns
returns g c =
    let first = ap (map (λ os. os.now)) c.deref.ensures.value ∙ c.in_ok-all.ensures in
    let second = ap (map (λ os. os.now)) c.deref-2.ensures.value ∙ c.in_ok-all.ensures in
    let runs = c.args.runs.now in (
      c.in_ok-offsets.ensures ∙ ap (λ oss. offsets_of_runs oss runs) (offsets_same (λ os. os.now) (λ l. offsets_in (level l).parts) (λ a. layout_of a.now) c.deref.result.now c.args.arrays.now first),
      c.in_ok-parts.ensures ∙ ap (λ oss. map (run_of_items oss) runs) (offsets_same (λ os. os.now) (λ l. offsets_in (level l).parts) (λ a. layout_of a.now) c.deref-2.result.now c.args.arrays.now second),
    )
