use Rattle.std.proofs.Common.{◌≡◌, ◌+◌, [], ◌∷◌, length, map, refl, sym, ap, subst, ◌∙◌}
use Rattle.std.specs.List.{All}
use Rattle.std.specs.Option.{option_copied}
use Rattle.lower.specs.Physical.{physical}
use Rattle.lower.specs.TypeViews.{type_view}
use Rattle.lower_flat_arrays.specs.Validities.{ValidityFits, ValidityHolds}
use Rattle.lower_flat_arrays.specs.Primitives.{primitive_seen}
use Rattle.lower_compute.specs.Runs.{single, origins, items_of_runs, IsValidityOf}
use Rattle.lower_compute.proofs.Refusals.{primitive_kept}
use Rattle.lower_compute.proofs.NumberRuns.{values_count, numbers_of_runs}
use Rattle.lower_compute.proofs.Gathered.{single-fits, bits_hold}
use Rattle.lower_compute.proofs.gather.primitive_at.Goals as goal

pub validity_at-requires : goal.validity_at-requires
validity_at-requires g c =
    let a = c.args.array.now in
    let is = c.args.indices.now in
    subst (λ v. All (λ i. ValidityHolds v (i + 1)) is) (sym c.validity.ensures.bits) (bits_hold a.validity (length a.values) is c.validity.ensures.valid.fits c.requires)

pub unreachable-requires : goal.unreachable-requires
unreachable-requires g c =
    let a = c.args.array.now in
    let is = c.args.indices.now in
    let runs = map single is in
    let values : c.in_ok-buffer.buffer ≡ items_of_runs (a.values ∷ []) runs =
    c.in_ok-buffer.ensures ∙ c.in_ok-values.ensures ∙ ap (λ xs. items_of_runs (xs ∷ []) runs) (c.as_slice.ensures ∙ c.values.ensures.numbers)
    in
    let count : length c.in_ok-buffer.buffer ≡ length (origins runs) =
    ap (λ l. length l) values ∙ values_count (λ b. length b.values) (λ b. b.values) (a ∷ []) runs (λ b. refl) (single-fits (length a.values) is c.requires)
    in
    primitive_kept g.T.NativeType.primitive (primitive_seen (type_view c.in_ok-clone.field-0) c.in_ok-buffer.buffer c.in_ok-validity.validity) c.in-Err.field-0
    (ap physical (c.in_ok-clone.ensures ∙ c.data_type.ensures.tree) ∙ c.data_type.ensures.valid.lies)
    (subst (ValidityFits c.in_ok-validity.validity) (sym count) c.in_ok-validity.ensures.fits)
    c.in-Err.ensures

pub returns : goal.returns
returns g c =
    let a = c.args.array.now in
    let is = c.args.indices.now in
    let runs = map single is in
    let copy = c.in-Ok.array in
    let made = c.in-Ok.ensures.0 in
    numbers_of_runs (λ b. b) g.T.NativeType.number (a ∷ []) runs a.type copy (single-fits (length a.values) is c.requires)
    (ap (λ b. b.type) made ∙ c.in_ok-clone.ensures ∙ c.data_type.ensures.tree)
    (ap (λ b. b.values) made ∙ c.in_ok-buffer.ensures ∙ c.in_ok-values.ensures ∙ ap (λ xs. items_of_runs (xs ∷ []) runs) (c.as_slice.ensures ∙ c.values.ensures.numbers))
    (subst (λ v. IsValidityOf (v ∷ []) runs copy.validity) c.validity.ensures.bits
    (subst (λ w. IsValidityOf (option_copied c.validity.result ∷ []) runs w) (sym (ap (λ b. b.validity) made)) c.in_ok-validity.ensures))
