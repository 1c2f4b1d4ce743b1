use Rattle.std.proofs.Common.{◌≡◌, map, sym, ap, subst, ◌∙◌}
use Rattle.std.specs.Prelude.{IfOk}
use Rattle.std.specs.List.{All}
use Rattle.std.specs.Option.{option_copied}
use Rattle.lower_arrays.specs.Layouts.{level}
use Rattle.lower_arrays.specs.AnyLayouts.{layout_of}
use Rattle.lower_compute.specs.Runs.{BitsFit, IsValidityOf}
use Rattle.lower_compute.proofs.RunPlaces.{map-map}
use Rattle.lower_compute.proofs.children.validity_of_runs.Goals as goal

pub copy_validity-requires : goal.copy_validity-requires
copy_validity-requires c =
    let arrays = c.args.arrays.now in
    let same : map option_copied c.deref.result.now ≡ map (λ l. (level l).validity) (map (λ a. layout_of a.now) arrays) =
    ap (map option_copied) c.deref.ensures.value ∙ c.in_ok-validities.ensures ∙ sym (map-map (λ l. (level l).validity) (λ a. layout_of a.now) arrays)
    in
    subst (λ vs. All (BitsFit vs) c.args.runs.now) (sym same) c.requires

pub returns : goal.returns
returns c =
    let arrays = c.args.arrays.now in
    let same : map option_copied c.deref.result.now ≡ map (λ l. (level l).validity) (map (λ a. layout_of a.now) arrays) =
    ap (map option_copied) c.deref.ensures.value ∙ c.in_ok-validities.ensures ∙ sym (map-map (λ l. (level l).validity) (λ a. layout_of a.now) arrays)
    in
    subst (λ vs. IfOk c.copy_validity.result (IsValidityOf vs c.args.runs.now)) same c.copy_validity.ensures
