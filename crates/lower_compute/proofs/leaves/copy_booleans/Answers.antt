use Rattle.std.proofs.Common.{◌≡◌, refl, map, ap, ◌∙◌}
use Rattle.lower.specs.Physical.{physical}
use Rattle.lower_flat_arrays.specs.Columns.{truth_column}
use Rattle.lower_arrays.specs.Flat.{boolean_layout}
use Rattle.lower_arrays.specs.AnyLayouts.{layout_of}
use Rattle.lower_compute.specs.Runs.{column_of_runs}
use Rattle.lower_compute.proofs.CopySlots.{viewed_copy, viewed_within}
use Rattle.lower_compute.proofs.Alike.{truths_like}
use Rattle.lower_compute.proofs.leaves.copy_booleans.Goals as goal

pub all_of-requires : goal.all_of-requires
all_of-requires c = truths_like (boolean_layout c.args.like.now) (map (λ a. layout_of a.now) c.args.arrays.now) c.requires.alike refl

pub copy_boolean-requires : goal.copy_boolean-requires
copy_boolean-requires c =
    let ls = map (λ a. layout_of a.now) c.args.arrays.now in
    let typed = c.deref.result.now in
    let same : map (λ a. boolean_layout a.now) typed ≡ ls = ap (map (λ a. boolean_layout a.now)) c.deref.ensures.value ∙ c.in_ok-typed.ensures in
    record { lies = ap physical c.data_type.ensures.tree ∙ c.requires.alike.0.1.0; fits = viewed_within (λ a. boolean_layout a.now) typed ls c.args.runs.now same c.requires.within }

pub returns : goal.returns
returns c =
    let ls = map (λ a. layout_of a.now) c.args.arrays.now in
    let runs = c.args.runs.now in
    let typed = c.deref.result.now in
    let same : map (λ a. boolean_layout a.now) typed ≡ ls = ap (map (λ a. boolean_layout a.now)) c.deref.ensures.value ∙ c.in_ok-typed.ensures in
    viewed_copy (λ a. boolean_layout a.now) typed ls c.args.like.now.type runs (boolean_layout c.in_ok-copy_boolean.field-0) same
    (c.in_ok-copy_boolean.ensures ∙ ap (λ t. column_of_runs t (map (λ a. truth_column a.now) typed) runs) c.data_type.ensures.tree)
