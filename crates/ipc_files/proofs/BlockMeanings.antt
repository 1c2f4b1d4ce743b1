-- What the message at a block means, by its offset, its metadata and its header.
use Rattle.std.proofs.Common.{◌≡◌, ℕ, List, drop, Option, None, Some, Result, Ok, Err, IsSome, refl, sym, ap, ◌∙◌}
use Rattle.ipc_devices.proofs.Claims.{claims_through}
use Rattle.ipc_devices.specs.Faults.{OwnFault, Answers}
use Rattle.ipc_devices.specs.declared.fault.Fault.{Fault}
use Rattle.ipc_table_views.specs.declared.file.Block.{Block}
use Rattle.ipc_model.specs.Files.{Placed, BlockHeader, placed, metadata_at, front_metadata, block_header}
use Rattle.ipc_model.specs.Frame.{Frame, message, mark, waiting, broken, frame}
use Rattle.ipc_model.specs.Schemas.{given}
use Rattle.ipc_files.specs.Blocks.{stated_metadata}
use Rattle.ipc_files.specs.Footers.{GivesPart}
use Rattle.ipc_files.proofs.BlockHeaders.{no-header}

module _ {X : Type 0} where
  -- what is read of a block, by its message
  abbrev pub at-place : (Placed → BlockHeader → Option X) → List ℕ → Placed → Option X
  at-place k source p = given (metadata_at source p) (λ metadata. given (block_header metadata) (k p))

  abbrev pub at-block : (Placed → BlockHeader → Option X) → List ℕ → Block → Option X
  at-block k source b = given (placed b) (at-place k source)

  -- A mark instead of a message has no header.
  stated-given : (f : Frame) (k : BlockHeader → Option X)
      → given (front_metadata f) (λ metadata. given (block_header metadata) k) ≡ given (stated_metadata f) (λ metadata. given (block_header metadata) k)
  stated-given (message m rest) k = refl
  stated-given (mark rest) k = sym (ap (λ (h : Option BlockHeader). given h k) no-header)
  stated-given (waiting begun) k = refl
  stated-given broken k = refl

  module _ (k : Placed → BlockHeader → Option X) (source : List ℕ) (b : Block) where
    pub refused-place : (e : Fault) → OwnFault e (placed b ≡ None) → OwnFault e (at-block k source b ≡ None)
    refused-place e h = claims_through e _ _ (ap (λ (o : Option Placed). given o (at-place k source))) h

    module _ (p : Placed) (stands : placed b ≡ Some p) where
      placed-is : at-block k source b ≡ given (stated_metadata (frame (drop p.message source))) (λ metadata. given (block_header metadata) (k p))
      placed-is = ap (λ (o : Option Placed). given o (at-place k source)) stands ∙ stated-given (frame (drop p.message source)) (k p)

      pub refused-message : (e : Fault) → OwnFault e (stated_metadata (frame (drop p.message source)) ≡ None) → OwnFault e (at-block k source b ≡ None)
      refused-message e h =
          claims_through e _ _ (λ none. placed-is ∙ ap (λ (o : Option (List ℕ)). given o (λ metadata. given (block_header metadata) (k p))) none) h

      module _ (metadata : List ℕ) (framed : stated_metadata (frame (drop p.message source)) ≡ Some metadata) where
        framed-is : at-block k source b ≡ given (block_header metadata) (k p)
        framed-is = placed-is ∙ ap (λ (o : Option (List ℕ)). given o (λ metadata. given (block_header metadata) (k p))) framed

        pub refused-header : (e : Fault) → OwnFault e (block_header metadata ≡ None) → OwnFault e (at-block k source b ≡ None)
        refused-header e h = claims_through e _ _ (λ none. framed-is ∙ ap (λ (o : Option BlockHeader). given o (k p)) none) h

        pub opened-is : (h : BlockHeader) → block_header metadata ≡ Some h → at-block k source b ≡ k p h
        opened-is h e = framed-is ∙ ap (λ (o : Option BlockHeader). given o (k p)) e

-- ---- results

none-there : {X : Type 0} (o : Option X) → (IsSome o → ⊥) → o ≡ None
none-there None h = refl
none-there (Some x) h = absurd (h refl)

pub gives-part : {X Y : Type 0} (view : X → Y) (r : Result X Fault) (o : Option Y) → Answers r (IsSome o) (λ x. o ≡ Some (view x)) → GivesPart view r o
gives-part view (Ok x) o h = h.1
gives-part view (Err e) o h = claims_through e _ _ (none-there o) h
