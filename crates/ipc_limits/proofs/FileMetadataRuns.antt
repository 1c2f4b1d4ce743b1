-- The result of reading the metadata of a file within a limit.
use Rattle.std.proofs.Common.{◌≡◌, ℕ, ◌-◌, ◌≤◌, List, length, Option, Some, None, Result, Ok, Err, IfErr, refl, sym, subst}
use Rattle.std.specs.Prelude.{IfSome, IsSomeAnd}
use Rattle.ipc_devices.proofs.Claims.{both_claimed, claimed, claims_through}
use Rattle.ipc_devices.specs.Faults.{OwnFault}
use Rattle.ipc_devices.specs.declared.fault.Fault.{Fault}
use Rattle.ipc_devices.specs.declared.fault.Fault.TheVariants.{Argument}
use Rattle.ipc_devices.specs.declared.fault.ArgFault.TheVariants.{TooLarge}
use Rattle.ipc_devices.specs.declared.fault.TableFault.{TableFault}
use Rattle.ipc_table_views.specs.Spot.{Spot}
use Rattle.ipc_table_views.specs.Tables.{root_at}
use Rattle.ipc_model.specs.Files.{footer_at}
use Rattle.ipc_model.specs.Schemas.{given, made}
use Rattle.ipc_costs.specs.Costs.{footer_cost}
use Rattle.ipc_files.proofs.Openings.{given-metadata, given-nothing}
use Rattle.ipc_files.proofs.Reasons.{ends_reason, footer_reason}
use Rattle.ipc_files.specs.Files.{EndsFault, FileReason, GivesFooter, footer_bytes, metadata_from}
use Rattle.ipc_files.specs.Footers.{GivesPart, RootFault, file_seen}
use Rattle.ipc_files.specs.declared.read.file.metadata.FileMetadata.{FileMetadata}
use Rattle.ipc_limits.specs.Files.{GivesFileWithin}

-- ---- errors that don't come from the limit

IsOther : Fault → Type 0
IsOther e = e ≡ Argument TooLarge → ⊥

ends-other : (e : Fault) → OwnFault e (EndsFault e) → IsOther e
unfolding IsOther
ends-other e h is = subst (λ (e : Fault). OwnFault e (EndsFault e)) is h

footer-other : (e : Fault) (root : Result Spot TableFault) → RootFault e root → IsOther e
unfolding IsOther
footer-other e (Ok t) h is = subst (λ (e : Fault). RootFault e (Ok t)) is h
footer-other e (Err f) h is = cc

module _ (limit start : ℕ) (bytes : List ℕ) where
  unlimited : (e : Fault) → IsOther e
      → OwnFault e (IfSome (footer_bytes start bytes) (λ f. footer_cost f ≤ limit) × (metadata_from start bytes ≡ None) × FileReason start bytes e)
      → GivesFileWithin limit start bytes (Err e)
  unfolding IsOther
  unlimited (Argument TooLarge) other h = absurd (other refl)
  unlimited _ other h = h

  refused : (e : Fault) → IsOther e → OwnFault e (IfSome (footer_bytes start bytes) (λ f. footer_cost f ≤ limit))
      → OwnFault e (metadata_from start bytes ≡ None) → OwnFault e (FileReason start bytes e) → GivesFileWithin limit start bytes (Err e)
  refused e other small none why =
      let both = both_claimed e (IfSome (footer_bytes start bytes) (λ f. footer_cost f ≤ limit)) (metadata_from start bytes ≡ None) small none in
      unlimited e other (claims_through e ((IfSome (footer_bytes start bytes) (λ f. footer_cost f ≤ limit) × (metadata_from start bytes ≡ None)) × FileReason start bytes e)
      (IfSome (footer_bytes start bytes) (λ f. footer_cost f ≤ limit) × (metadata_from start bytes ≡ None) × FileReason start bytes e)
      (λ x. (x.0.0, x.0.1, x.1))
      (both_claimed e (IfSome (footer_bytes start bytes) (λ f. footer_cost f ≤ limit) × (metadata_from start bytes ≡ None)) (FileReason start bytes e) both why))

  -- no footer was read
  pub within_ends : (e : Fault) → OwnFault e (EndsFault e) → GivesFooter start bytes (Err e) → GivesFileWithin limit start bytes (Err e)
  within_ends e only h =
      refused e (ends-other e only)
      (claims_through e _ (IfSome (footer_bytes start bytes) (λ f. footer_cost f ≤ limit))
      (λ x. subst (λ (o : Option (List ℕ)). IfSome o (λ f. footer_cost f ≤ limit)) (sym x.0) tt) h)
      (given-nothing (Err e) start bytes e refl h) (ends_reason {X = FileMetadata} (Err e) start bytes e refl h)

  -- a footer was read that costs at most the limit
  pub within_read : (footer : List ℕ) → footer_bytes start bytes ≡ Some footer → (r : Result FileMetadata Fault) (size : ℕ) → size ≡ length bytes - start → footer_cost footer ≤ limit
      → GivesPart file_seen r (given (made (root_at footer)) (footer_at size)) → IfErr r (λ e. RootFault e (root_at footer)) → GivesFileWithin limit start bytes r
  within_read footer is (Ok m) size long small means only =
      (subst (λ (o : Option (List ℕ)). IsSomeAnd o (λ f. footer_cost f ≤ limit)) (sym is) small, given-metadata (Ok m) start bytes footer size is long means)
  within_read footer is (Err e) size long small means only =
      refused e (footer-other e (root_at footer) only)
      (claimed e (IfSome (footer_bytes start bytes) (λ f. footer_cost f ≤ limit)) (subst (λ (o : Option (List ℕ)). IfSome o (λ f. footer_cost f ≤ limit)) (sym is) small))
      (given-metadata (Err e) start bytes footer size is long means) (footer_reason {X = FileMetadata} (Err e) start bytes footer is only)
