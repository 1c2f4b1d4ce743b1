use Rattle.std.proofs.Common.{◌≡◌, ◌*◌, ◌/◌, ◌<◌, length, map, sym, ap, ap₂, subst, ◌∙◌}
use Rattle.std.specs.List.{All}
use Rattle.std.specs.Prelude.{get_or}
use Rattle.std.specs.Option.{option_copied}
use Rattle.lower.specs.Physical.{physical}
use Rattle.lower.specs.TypeViews.{type_view}
use Rattle.lower_flat_arrays.specs.Validities.{ValidityFits}
use Rattle.lower_flat_arrays.specs.FixedBinaries.{fixed_seen, byte_size}
use Rattle.lower_compute.specs.Runs.{RunFits, BitsFit, IsValidityOf, items_of_runs, origins, scaled}
use Rattle.lower_compute.proofs.RunPlaces.{map-map}
use Rattle.lower_compute.proofs.Steps.{lens_of, count_of_size}
use Rattle.lower_compute.proofs.Refusals.{fixed_kept}
use Rattle.lower_compute.proofs.NumberRuns.{bits-fit}
use Rattle.lower_compute.proofs.ScaledRuns.{scaled_small, scaled-fit, scaled_count, fixed_of_runs}
use Rattle.lower_compute.proofs.fixed_size_binary.copy_fixed_size_binary.Goals as goal

pub scaled_runs-requires : goal.scaled_runs-requires
scaled_runs-requires c =
    let arrays = c.args.arrays.now in
    let size = c.args.size in
    let long : All (λ a. length a.now.values ≡ a.now.len * size) arrays =
    λ k d lt. c.in_ok-values.ensures.whole k d lt ∙ ap (λ s. (get_or arrays k d).now.len * s) (c.requires.sizes k d lt)
    in
    scaled_small (λ a. a.now.len) (λ a. a.now.values) size arrays long c.in_ok-values.ensures.small c.args.runs.now c.requires.fits

pub copy_items-requires : goal.copy_items-requires
copy_items-requires c =
    let arrays = c.args.arrays.now in
    let runs = c.args.runs.now in
    let size = c.args.size in
    let long : All (λ a. length a.now.values ≡ a.now.len * size) arrays =
    λ k d lt. c.in_ok-values.ensures.whole k d lt ∙ ap (λ s. (get_or arrays k d).now.len * s) (c.requires.sizes k d lt)
    in
    subst (λ rs. All (RunFits (map (λ xs. length xs.now) c.deref.result.now)) rs) (sym (c.deref-2.ensures.value ∙ c.in_ok-parts.ensures))
    (subst (λ ns. All (RunFits ns) (map (scaled size) runs))
    (map-map (λ l. length l) (λ a. a.now.values) arrays
    ∙ sym (lens_of (λ xs. xs.now) (λ a. a.now.values) c.deref.result.now c.in_ok-values.values.items arrays c.deref.ensures.value c.in_ok-values.ensures.bytes))
    (scaled-fit (λ a. a.now.len) (λ a. a.now.values) size arrays long runs c.requires.fits))

pub copy_validity-requires : goal.copy_validity-requires
copy_validity-requires c =
    let arrays = c.args.arrays.now in
    let runs = c.args.runs.now in
    let vs_are : map option_copied c.deref-3.result.now ≡ map (λ a. a.now.validity) arrays = ap (map option_copied) c.deref-3.ensures.value ∙ c.in_ok-validities.ensures.bits in
    subst (λ vs. All (BitsFit vs) runs) (sym vs_are) (bits-fit (λ a. a.now.len) (λ a. a.now.validity) arrays runs c.in_ok-validities.ensures.fits c.requires.fits)

pub unreachable-requires : goal.unreachable-requires
unreachable-requires c =
    let arrays = c.args.arrays.now in
    let runs = c.args.runs.now in
    let size = c.args.size in
    let t = type_view c.in_ok-clone.field-0 in
    let long : All (λ a. length a.now.values ≡ a.now.len * size) arrays =
    λ k d lt. c.in_ok-values.ensures.whole k d lt ∙ ap (λ s. (get_or arrays k d).now.len * s) (c.requires.sizes k d lt)
    in
    let lists_are : map (λ xs. xs.now) c.deref.result.now ≡ map (λ a. a.now.values) arrays = ap (map (λ xs. xs.now)) c.deref.ensures.value ∙ c.in_ok-values.ensures.bytes in
    let values_are : c.in_ok-buffer.buffer ≡ items_of_runs (map (λ a. a.now.values) arrays) (map (scaled size) runs) =
    c.in_ok-buffer.ensures ∙ c.in_ok-items.ensures ∙ ap₂ (λ ls rs. items_of_runs ls rs) lists_are (c.deref-2.ensures.value ∙ c.in_ok-parts.ensures)
    in
    let count : length c.in_ok-buffer.buffer ≡ length (origins runs) * size = ap (λ l. length l) values_are ∙ scaled_count (λ a. a.now.len) (λ a. a.now.values) size arrays long runs c.requires.fits in
    let named : byte_size t ≡ size = ap byte_size c.in_ok-clone.ensures ∙ c.requires.named.0 in
    let len : length c.in_ok-buffer.buffer / byte_size t ≡ length (origins runs) = count_of_size (length c.in_ok-buffer.buffer) (byte_size t) size (length (origins runs)) count named c.requires.named.1 in
    fixed_kept (fixed_seen t c.in_ok-buffer.buffer c.in_ok-validity.validity) c.in-Err.field-0
    (ap physical c.in_ok-clone.ensures ∙ c.requires.lies)
    (subst (λ s. 0 < s) (sym named) c.requires.named.1)
    (count ∙ sym (ap₂ (λ a b. a * b) len named))
    (subst (ValidityFits c.in_ok-validity.validity) (sym len) c.in_ok-validity.ensures.fits)
    c.in-Err.ensures

pub returns : goal.returns
returns c =
    let arrays = c.args.arrays.now in
    let runs = c.args.runs.now in
    let size = c.args.size in
    let t = type_view c.in_ok-clone.field-0 in
    let array = c.in-Ok.array in
    let made = c.in-Ok.ensures.0 in
    let long : All (λ a. length a.now.values ≡ a.now.len * size) arrays =
    λ k d lt. c.in_ok-values.ensures.whole k d lt ∙ ap (λ s. (get_or arrays k d).now.len * s) (c.requires.sizes k d lt)
    in
    let lists_are : map (λ xs. xs.now) c.deref.result.now ≡ map (λ a. a.now.values) arrays = ap (map (λ xs. xs.now)) c.deref.ensures.value ∙ c.in_ok-values.ensures.bytes in
    let values_are : c.in_ok-buffer.buffer ≡ items_of_runs (map (λ a. a.now.values) arrays) (map (scaled size) runs) =
    c.in_ok-buffer.ensures ∙ c.in_ok-items.ensures ∙ ap₂ (λ ls rs. items_of_runs ls rs) lists_are (c.deref-2.ensures.value ∙ c.in_ok-parts.ensures)
    in
    let count : length c.in_ok-buffer.buffer ≡ length (origins runs) * size = ap (λ l. length l) values_are ∙ scaled_count (λ a. a.now.len) (λ a. a.now.values) size arrays long runs c.requires.fits in
    let named : byte_size t ≡ size = ap byte_size c.in_ok-clone.ensures ∙ c.requires.named.0 in
    let len : length c.in_ok-buffer.buffer / byte_size t ≡ length (origins runs) = count_of_size (length c.in_ok-buffer.buffer) (byte_size t) size (length (origins runs)) count named c.requires.named.1 in
    let vs_are : map option_copied c.deref-3.result.now ≡ map (λ a. a.now.validity) arrays = ap (map option_copied) c.deref-3.ensures.value ∙ c.in_ok-validities.ensures.bits in
    fixed_of_runs (λ a. a.now) size arrays runs (type_view c.args.data_type.now) array c.requires.sizes long c.requires.fits
    (ap (λ a. a.type) made ∙ c.in_ok-clone.ensures)
    (ap (λ a. a.size) made ∙ named)
    (ap (λ a. a.len) made ∙ len)
    (ap (λ a. a.values) made ∙ values_are)
    (subst (λ vs. IsValidityOf vs runs array.validity) vs_are
    (subst (λ v. IsValidityOf (map option_copied c.deref-3.result.now) runs v) (sym (ap (λ a. a.validity) made)) c.in_ok-validity.ensures))
