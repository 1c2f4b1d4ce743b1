use Rattle.std.proofs.Common.{◌+◌, [], ◌∷◌, map, sym, subst}
use Rattle.std.specs.List.{All}
use Rattle.std.specs.Prelude.{None, Some}
use Rattle.std.specs.Option.{option_copied}
use Rattle.lower_flat_arrays.specs.Validities.{ValidityHolds}
use Rattle.lower_compute.specs.Runs.{single, IsValidityOf}
use Rattle.lower_compute.proofs.Gathered.{low_bits, some_taken, none_taken}
use Rattle.lower_compute.proofs.gather.validity_at.Goals as goal

pub bits_at-requires : goal.bits_at-requires
bits_at-requires c =
    let is = c.args.indices.now in
    low_bits c.in-Some.bits.now is (subst (λ v. All (λ i. ValidityHolds (option_copied v) (i + 1)) is) c.in-Some.is c.requires)

pub returns-in-None : goal.returns-in-None
returns-in-None c =
    let is = c.args.indices.now in
    subst (λ v. IsValidityOf (option_copied v ∷ []) (map single is) None) (sym c.in-None.is)
    (none_taken is (subst (λ v. All (λ i. ValidityHolds (option_copied v) (i + 1)) is) c.in-None.is c.requires))

pub returns-in_ok-bits_at-in-Some : goal.returns-in_ok-bits_at-in-Some
returns-in_ok-bits_at-in-Some c =
    let is = c.args.indices.now in
    subst (λ v. IsValidityOf (option_copied v ∷ []) (map single is) (Some c.in_ok-bits_at-in-Some.field-0)) (sym c.in-Some.is)
    (some_taken c.in-Some.bits.now c.in_ok-bits_at-in-Some.field-0 is (subst (λ v. All (λ i. ValidityHolds (option_copied v) (i + 1)) is) c.in-Some.is c.requires) c.in_ok-bits_at-in-Some.ensures)
