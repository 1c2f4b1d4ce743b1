use Rattle.std.proofs.Common.{◌≡◌, length, map, refl, sym, ap, subst, ◌∙◌}
use Rattle.std.specs.Prelude.{Some}
use Rattle.std.specs.List.{All}
use Rattle.std.specs.Option.{option_copied}
use Rattle.lower.specs.TypeViews.{type_view}
use Rattle.lower_compute.specs.Runs.{BitsFit, IsValidityOf}
use Rattle.lower_compute.proofs.NumberRuns.{bits-fit, booleans_of_runs}
use Rattle.lower_compute.proofs.boolean.copy_boolean.Goals as goal

pub copy_bits-requires : goal.copy_bits-requires
copy_bits-requires c =
    let arrays = c.args.arrays.now in
    let runs = c.args.runs.now in
    let vs_are : map option_copied c.deref.result.now ≡ map (λ a. Some a.now.values) arrays = ap (map option_copied) c.deref.ensures.value ∙ c.in_ok-values.ensures in
    subst (λ vs. All (BitsFit vs) runs) (sym vs_are) (bits-fit (λ a. length a.now.values) (λ a. Some a.now.values) arrays runs (λ k d lt. refl) c.requires.fits)

pub copy_validity-requires : goal.copy_validity-requires
copy_validity-requires c =
    let arrays = c.args.arrays.now in
    let runs = c.args.runs.now in
    let vs_are : map option_copied c.deref-2.result.now ≡ map (λ a. a.now.validity) arrays = ap (map option_copied) c.deref-2.ensures.value ∙ c.in_ok-validities.ensures.bits in
    subst (λ vs. All (BitsFit vs) runs) (sym vs_are) (bits-fit (λ a. length a.now.values) (λ a. a.now.validity) arrays runs c.in_ok-validities.ensures.fits c.requires.fits)

pub returns : goal.returns
returns c =
    let arrays = c.args.arrays.now in
    let runs = c.args.runs.now in
    let array = c.in-Ok.array in
    let made = c.in-Ok.ensures.0 in
    let bits_are : map option_copied c.deref.result.now ≡ map (λ a. Some a.now.values) arrays = ap (map option_copied) c.deref.ensures.value ∙ c.in_ok-values.ensures in
    let vs_are : map option_copied c.deref-2.result.now ≡ map (λ a. a.now.validity) arrays = ap (map option_copied) c.deref-2.ensures.value ∙ c.in_ok-validities.ensures.bits in
    booleans_of_runs (λ a. a.now) arrays runs (type_view c.args.data_type.now) array c.requires.fits
    (ap (λ a. a.type) made ∙ c.in_ok-clone.ensures)
    (subst (λ vs. IsValidityOf vs runs (Some array.values)) bits_are
    (subst (λ b. IsValidityOf (map option_copied c.deref.result.now) runs (Some b)) (sym (ap (λ a. a.values) made)) c.in_ok-items.ensures.each))
    (subst (λ vs. IsValidityOf vs runs array.validity) vs_are
    (subst (λ v. IsValidityOf (map option_copied c.deref-2.result.now) runs v) (sym (ap (λ a. a.validity) made)) c.in_ok-validity.ensures))
