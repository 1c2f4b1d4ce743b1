use Rattle.std.proofs.Common.{◌≡◌, length, map, sym, ap, ap₂, subst, ◌∙◌}
use Rattle.std.specs.Prelude.{sum}
use Rattle.std.specs.List.{All}
use Rattle.std.specs.Option.{option_copied}
use Rattle.lower.specs.Physical.{physical}
use Rattle.lower.specs.TypeViews.{type_view}
use Rattle.lower_flat_arrays.specs.Validities.{ValidityFits}
use Rattle.lower_flat_arrays.specs.Spans.{span_count, spans_seen, EndsWithin, AreTexts}
use Rattle.lower_builders.specs.Growing.{CantReach}
use Rattle.lower_compute.specs.Runs.{RunFits, BitsFit, IsValidityOf, items_of_runs, origins, widths, run_of_items, offsets_of_runs}
use Rattle.lower_compute.proofs.RunPlaces.{map-map}
use Rattle.lower_compute.proofs.Steps.{lens_of, counts_of}
use Rattle.lower_compute.proofs.Refusals.{text_kept}
use Rattle.lower_compute.proofs.NumberRuns.{bits-fit}
use Rattle.lower_compute.proofs.SpanRuns.{items-fit, ends_there, spans_count}
use Rattle.lower_compute.proofs.TextSpans.{texts_there, texts_of_runs}
use Rattle.lower_compute.proofs.utf8.copy_utf8.Goals as goal

pub copy_offsets-requires : goal.copy_offsets-requires
copy_offsets-requires g c =
    let arrays = c.args.arrays.now in
    subst (λ ns. All (RunFits ns) c.args.runs.now)
    (sym (counts_of span_count (λ os. os.now) (λ a. a.now.offsets) c.deref.result.now c.in_ok-offsets.offsets.items arrays c.deref.ensures.value c.in_ok-offsets.ensures.offsets)) c.requires.fits

pub returns-in-Err : goal.returns-in-Err
returns-in-Err g c =
    let arrays = c.args.arrays.now in
    let oss_are : map (λ os. os.now) c.deref.result.now ≡ map (λ a. a.now.offsets) arrays = ap (map (λ os. os.now)) c.deref.ensures.value ∙ c.in_ok-offsets.ensures.offsets in
    subst (λ oss. CantReach g.O.Offset.limit (sum (items_of_runs (map widths oss) c.args.runs.now)) c.in-Err.error) oss_are c.in-Err.ensures

pub item_runs-requires : goal.item_runs-requires
item_runs-requires g c =
    let arrays = c.args.arrays.now in
    subst (λ ns. All (RunFits ns) c.args.runs.now)
    (sym (counts_of span_count (λ os. os.now) (λ a. a.now.offsets) c.deref-2.result.now c.in_ok-offsets.offsets.items arrays c.deref-2.ensures.value c.in_ok-offsets.ensures.offsets)) c.requires.fits

pub copy_items-requires : goal.copy_items-requires
copy_items-requires g c =
    let arrays = c.args.arrays.now in
    let runs = c.args.runs.now in
    let oss_are : map (λ os. os.now) c.deref-2.result.now ≡ map (λ a. a.now.offsets) arrays = ap (map (λ os. os.now)) c.deref-2.ensures.value ∙ c.in_ok-offsets.ensures.offsets in
    let parts_are : c.deref-4.result.now ≡ map (run_of_items (map (λ a. a.now.offsets) arrays)) runs =
    c.deref-4.ensures.value ∙ c.in_ok-parts.ensures ∙ ap (λ oss. map (run_of_items oss) runs) oss_are
    in
    subst (λ rs. All (RunFits (map (λ xs. length xs.now) c.deref-3.result.now)) rs) (sym parts_are)
    (subst (λ ns. All (RunFits ns) (map (run_of_items (map (λ a. a.now.offsets) arrays)) runs))
    (map-map (λ l. length l) (λ a. a.now.values) arrays
    ∙ sym (lens_of (λ xs. xs.now) (λ a. a.now.values) c.deref-3.result.now c.in_ok-values.values.items arrays c.deref-3.ensures.value c.in_ok-values.ensures.bytes))
    (items-fit (λ a. a.now.offsets) (λ a. a.now.values) arrays c.in_ok-offsets.ensures.rising c.in_ok-values.ensures.within runs c.requires.fits))

pub copy_validity-requires : goal.copy_validity-requires
copy_validity-requires g c =
    let arrays = c.args.arrays.now in
    let runs = c.args.runs.now in
    let vs_are : map option_copied c.deref-5.result.now ≡ map (λ a. a.now.validity) arrays = ap (map option_copied) c.deref-5.ensures.value ∙ c.in_ok-validities.ensures.bits in
    subst (λ vs. All (BitsFit vs) runs) (sym vs_are) (bits-fit (λ a. span_count a.now.offsets) (λ a. a.now.validity) arrays runs c.in_ok-validities.ensures.fits c.requires.fits)

pub unreachable-requires : goal.unreachable-requires
unreachable-requires g c =
    let arrays = c.args.arrays.now in
    let runs = c.args.runs.now in
    let oss_are : map (λ os. os.now) c.deref.result.now ≡ map (λ a. a.now.offsets) arrays = ap (map (λ os. os.now)) c.deref.ensures.value ∙ c.in_ok-offsets.ensures.offsets in
    let ends_are : c.in-Ok.ends ≡ offsets_of_runs (map (λ a. a.now.offsets) arrays) runs = c.in-Ok.ensures ∙ ap (λ oss. offsets_of_runs oss runs) oss_are in
    let again : map (λ os. os.now) c.deref-2.result.now ≡ map (λ a. a.now.offsets) arrays = ap (map (λ os. os.now)) c.deref-2.ensures.value ∙ c.in_ok-offsets.ensures.offsets in
    let parts_are : c.deref-4.result.now ≡ map (run_of_items (map (λ a. a.now.offsets) arrays)) runs =
    c.deref-4.ensures.value ∙ c.in_ok-parts.ensures ∙ ap (λ oss. map (run_of_items oss) runs) again
    in
    let lists_are : map (λ xs. xs.now) c.deref-3.result.now ≡ map (λ a. a.now.values) arrays = ap (map (λ xs. xs.now)) c.deref-3.ensures.value ∙ c.in_ok-values.ensures.bytes in
    let values_are : c.in_ok-buffer.buffer ≡ items_of_runs (map (λ a. a.now.values) arrays) (map (run_of_items (map (λ a. a.now.offsets) arrays)) runs) =
    c.in_ok-buffer.ensures ∙ c.in_ok-items.ensures ∙ ap₂ (λ ls rs. items_of_runs ls rs) lists_are parts_are
    in
    let count : span_count c.in-Ok.ends ≡ length (origins runs) = ap span_count ends_are ∙ spans_count (λ a. a.now) arrays runs c.requires.fits in
    let within = ends_there (λ a. a.now.offsets) (λ a. a.now.values) arrays c.in_ok-offsets.ensures.rising c.in_ok-values.ensures.within runs c.requires.fits in
    text_kept g.O.NativeType.primitive (spans_seen (type_view c.in_ok-clone.field-0) c.in-Ok.ends c.in_ok-buffer.buffer c.in_ok-validity.validity) c.in-Err-try_new.field-0
    (ap physical c.in_ok-clone.ensures ∙ c.requires.lies)
    (subst (λ os. EndsWithin os c.in_ok-buffer.buffer) (sym ends_are)
    (subst (λ vs. EndsWithin (offsets_of_runs (map (λ a. a.now.offsets) arrays) runs) vs) (sym values_are) within))
    (subst (λ os. AreTexts os c.in_ok-buffer.buffer) (sym ends_are)
    (subst (λ vs. AreTexts (offsets_of_runs (map (λ a. a.now.offsets) arrays) runs) vs) (sym values_are)
    (texts_there (λ a. a.now) arrays c.in_ok-offsets.ensures.rising c.in_ok-values.ensures.within c.in_ok-values.ensures.texts runs c.requires.fits)))
    (subst (ValidityFits c.in_ok-validity.validity) (sym count) c.in_ok-validity.ensures.fits)
    c.in-Err-try_new.ensures

pub returns : goal.returns
returns g c =
    let arrays = c.args.arrays.now in
    let runs = c.args.runs.now in
    let array = c.in-Ok-try_new.array in
    let made = c.in-Ok-try_new.ensures.0 in
    let oss_are : map (λ os. os.now) c.deref.result.now ≡ map (λ a. a.now.offsets) arrays = ap (map (λ os. os.now)) c.deref.ensures.value ∙ c.in_ok-offsets.ensures.offsets in
    let ends_are : c.in-Ok.ends ≡ offsets_of_runs (map (λ a. a.now.offsets) arrays) runs = c.in-Ok.ensures ∙ ap (λ oss. offsets_of_runs oss runs) oss_are in
    let again : map (λ os. os.now) c.deref-2.result.now ≡ map (λ a. a.now.offsets) arrays = ap (map (λ os. os.now)) c.deref-2.ensures.value ∙ c.in_ok-offsets.ensures.offsets in
    let parts_are : c.deref-4.result.now ≡ map (run_of_items (map (λ a. a.now.offsets) arrays)) runs =
    c.deref-4.ensures.value ∙ c.in_ok-parts.ensures ∙ ap (λ oss. map (run_of_items oss) runs) again
    in
    let lists_are : map (λ xs. xs.now) c.deref-3.result.now ≡ map (λ a. a.now.values) arrays = ap (map (λ xs. xs.now)) c.deref-3.ensures.value ∙ c.in_ok-values.ensures.bytes in
    let values_are : c.in_ok-buffer.buffer ≡ items_of_runs (map (λ a. a.now.values) arrays) (map (run_of_items (map (λ a. a.now.offsets) arrays)) runs) =
    c.in_ok-buffer.ensures ∙ c.in_ok-items.ensures ∙ ap₂ (λ ls rs. items_of_runs ls rs) lists_are parts_are
    in
    let vs_are : map option_copied c.deref-5.result.now ≡ map (λ a. a.now.validity) arrays = ap (map option_copied) c.deref-5.ensures.value ∙ c.in_ok-validities.ensures.bits in
    texts_of_runs (λ a. a.now) arrays runs (type_view c.args.data_type.now) array c.in_ok-offsets.ensures.rising c.in_ok-values.ensures.within c.requires.fits
    (ap (λ a. a.type) made ∙ c.in_ok-clone.ensures)
    (ap (λ a. a.offsets) made ∙ ends_are)
    (ap (λ a. a.values) made ∙ values_are)
    (subst (λ vs. IsValidityOf vs runs array.validity) vs_are
    (subst (λ v. IsValidityOf (map option_copied c.deref-5.result.now) runs v) (sym (ap (λ a. a.validity) made)) c.in_ok-validity.ensures))
