-- A file that was written is refused by no reader.
use Rattle.std.proofs.Common.{◌≡◌, ℕ, List, None, Err, sym, ◌∙◌}
use Rattle.lower.specs.TypeTrees.{FieldTrees, Pairs}
use Rattle.lower_types.specs.declared.Endianness.{Endianness}
use Rattle.ipc_devices.proofs.Claims.{claims_through}
use Rattle.ipc_base.specs.IdTrees.{IdTrees}
use Rattle.ipc_devices.specs.Faults.{OnIo, OwnFault}
use Rattle.ipc_devices.specs.declared.fault.Fault.{Fault}
use Rattle.ipc_devices.specs.declared.fault.Fault.TheVariants as faults
use Rattle.ipc_model.specs.Batches.{Chunk}
use Rattle.ipc_write.specs.declared.calls.StreamCall.{StreamCall}
use Rattle.ipc_file_write.specs.Calls.{IsWrittenFile}
use Rattle.ipc_file_write.specs.WrittenFiles.{RefusesWholeFile}
use Rattle.ipc_file_round_trip.proofs.ReadBack.{whole_law}
use Rattle.ipc_file_round_trip.specs.Reading.{file_by}
use Rattle.ipc_file_round_trip.specs.declared.read.WholeFile.{WholeFile}

module _ (order : Endianness) (fs : FieldTrees) (es : Pairs) (is : IdTrees) (ps : Pairs) (calls : List StreamCall) where
  memory_alone : (e : Fault) → OnIo {X = WholeFile} (Err e) ⊥ → OwnFault e ⊥ → RefusesWholeFile order fs es is ps calls e
  memory_alone faults.Memory device h = tt
  memory_alone (faults.Io x) device h = absurd device
  memory_alone _ device h = absurd h

  -- A file that was written is refused only if an allocation fails.
  pub never_refused : (bytes : List ℕ) (cs : List Chunk) (e : Fault) → IsWrittenFile bytes order fs es is ps cs → OnIo {X = WholeFile} (Err e) ⊥
      → OwnFault e (file_by None None bytes ≡ None) → RefusesWholeFile order fs es is ps calls e
  never_refused bytes cs e w device h =
      memory_alone e device (claims_through e _ _ (λ none. let no = sym none ∙ whole_law bytes _ cs w.file in absurd cc) h)
