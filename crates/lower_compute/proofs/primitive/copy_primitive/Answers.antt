use Rattle.std.proofs.Common.{◌≡◌, length, map, refl, sym, ap, subst, ◌∙◌}
use Rattle.std.specs.List.{All}
use Rattle.std.specs.Option.{option_copied}
use Rattle.lower.specs.Physical.{physical}
use Rattle.lower.specs.TypeViews.{type_view}
use Rattle.lower_flat_arrays.specs.Validities.{ValidityFits}
use Rattle.lower_flat_arrays.specs.Primitives.{primitive_seen}
use Rattle.lower_compute.specs.Runs.{RunFits, BitsFit, IsValidityOf, items_of_runs, origins}
use Rattle.lower_compute.proofs.Steps.{lens_of}
use Rattle.lower_compute.proofs.Refusals.{primitive_kept}
use Rattle.lower_compute.proofs.NumberRuns.{bits-fit, values_count, numbers_of_runs}
use Rattle.lower_compute.proofs.primitive.copy_primitive.Goals as goal

pub copy_items-requires : goal.copy_items-requires
copy_items-requires g c =
    let arrays = c.args.arrays.now in
    subst (λ ns. All (RunFits ns) c.args.runs.now) (sym (lens_of (λ xs. xs.now) (λ a. a.now.values) c.deref.result.now c.in_ok-values.values.items arrays c.deref.ensures.value c.in_ok-values.ensures)) c.requires.fits

pub copy_validity-requires : goal.copy_validity-requires
copy_validity-requires g c =
    let arrays = c.args.arrays.now in
    let runs = c.args.runs.now in
    let vs_are : map option_copied c.deref-2.result.now ≡ map (λ a. a.now.validity) arrays = ap (map option_copied) c.deref-2.ensures.value ∙ c.in_ok-validities.ensures.bits in
    subst (λ vs. All (BitsFit vs) runs) (sym vs_are) (bits-fit (λ a. length a.now.values) (λ a. a.now.validity) arrays runs c.in_ok-validities.ensures.fits c.requires.fits)

pub unreachable-requires : goal.unreachable-requires
unreachable-requires g c =
    let arrays = c.args.arrays.now in
    let runs = c.args.runs.now in
    let lists_are : map (λ xs. xs.now) c.deref.result.now ≡ map (λ a. a.now.values) arrays = ap (map (λ xs. xs.now)) c.deref.ensures.value ∙ c.in_ok-values.ensures in
    let values_are : c.in_ok-buffer.buffer ≡ items_of_runs (map (λ a. a.now.values) arrays) runs =
    c.in_ok-buffer.ensures ∙ c.in_ok-items.ensures ∙ ap (λ ls. items_of_runs ls runs) lists_are
    in
    let count : length c.in_ok-buffer.buffer ≡ length (origins runs) = ap (λ l. length l) values_are ∙ values_count (λ a. length a.now.values) (λ a. a.now.values) arrays runs (λ a. refl) c.requires.fits in
    primitive_kept g.T.NativeType.primitive (primitive_seen (type_view c.in_ok-clone.field-0) c.in_ok-buffer.buffer c.in_ok-validity.validity) c.in-Err.field-0
    (ap physical c.in_ok-clone.ensures ∙ c.requires.lies)
    (subst (ValidityFits c.in_ok-validity.validity) (sym count) c.in_ok-validity.ensures.fits)
    c.in-Err.ensures

pub returns : goal.returns
returns g c =
    let arrays = c.args.arrays.now in
    let runs = c.args.runs.now in
    let array = c.in-Ok.array in
    let made = c.in-Ok.ensures.0 in
    let lists_are : map (λ xs. xs.now) c.deref.result.now ≡ map (λ a. a.now.values) arrays = ap (map (λ xs. xs.now)) c.deref.ensures.value ∙ c.in_ok-values.ensures in
    let vs_are : map option_copied c.deref-2.result.now ≡ map (λ a. a.now.validity) arrays = ap (map option_copied) c.deref-2.ensures.value ∙ c.in_ok-validities.ensures.bits in
    numbers_of_runs (λ a. a.now) g.T.NativeType.number arrays runs (type_view c.args.data_type.now) array c.requires.fits
    (ap (λ a. a.type) made ∙ c.in_ok-clone.ensures)
    (ap (λ a. a.values) made ∙ c.in_ok-buffer.ensures ∙ c.in_ok-items.ensures ∙ ap (λ ls. items_of_runs ls runs) lists_are)
    (subst (λ vs. IsValidityOf vs runs array.validity) vs_are
    (subst (λ v. IsValidityOf (map option_copied c.deref-2.result.now) runs v) (sym (ap (λ a. a.validity) made)) c.in_ok-validity.ensures))
