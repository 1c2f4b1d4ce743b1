-- Lists of calls of a file writer, those that set its metadata pairs
-- included; each `write` has ids or none.
-- (Arrow columnar format, "IPC File Format".)
use Rattle.std.specs.Prelude.{◌≡◌, ℕ, List, [], ◌∷◌, take, Result, Ok, Err}
use Rattle.lower.specs.TypeTrees.{Pairs}
use Rattle.lower.specs.TypeViews.{pairs_of}
use Rattle.ipc_devices.specs.declared.fault.Fault.{Fault}
use Rattle.ipc_model.specs.WriterStates.{Outcome, Writer}
use Rattle.ipc_model.specs.Writers.{Call, start_call, write_call, finish_call}
use Rattle.ipc_write.specs.Calls.{outcome, state_seen, writer_in}
use Rattle.ipc_write.specs.Meaning.{chunk_written}
use Rattle.ipc_write.specs.Writers.{seen_ids}
use Rattle.ipc_file_write.specs.Api.{FinishesFile, SetsPairs, StartsFile, WritesToFile}
use Rattle.ipc_file_write.specs.Calls.{HasChosen}
use Rattle.ipc_file_write.specs.FileWriters.{FileSeen}
use Rattle.ipc_calls.specs.declared.files.FileCall.{FileCall}
use Rattle.ipc_calls.specs.declared.files.FileCall.TheVariants.{SetCustomMetadata, Start, Write, Finish}
use Rattle.ipc_devices.specs.Device.{Device}

-- ---- one call

-- A call returned r and left the writer b, by the call's contract.
abbrev pub IsMade : {W : Type 0} → (d : Device W) → FileSeen W → FileCall → Result Unit Fault → FileSeen W → Type 0
IsMade d a (SetCustomMetadata pairs) r b = SetsPairs d a (pairs_of pairs.now.entries) r b
IsMade d a Start r b = StartsFile d a r b
IsMade d a (Write chunk ids) r b = WritesToFile d a chunk.now (seen_ids ids) r b
IsMade d a Finish r b = FinishesFile d a r b

-- ---- what theorems know of calls

-- The calls that change the writer's state, each with how it ended; those that set pairs don't.
abbrev pub ended_as : List FileCall → List (Result Unit Fault) → List (Call × Outcome)
ended_as (SetCustomMetadata pairs ∷ calls) (r ∷ rs) = ended_as calls rs
ended_as (Start ∷ calls) (r ∷ rs) = (start_call, outcome r) ∷ ended_as calls rs
ended_as (Write chunk ids ∷ calls) (r ∷ rs) = (write_call (chunk_written chunk.now), outcome r) ∷ ended_as calls rs
ended_as (Finish ∷ calls) (r ∷ rs) = (finish_call, outcome r) ∷ ended_as calls rs
ended_as _ _ = []

-- The pairs after a call; one that sets them and returned Ok replaces them.
abbrev pub pairs_after : FileCall → Result Unit Fault → Pairs → Pairs
pairs_after (SetCustomMetadata pairs) (Ok x) ps = pairs_of pairs.now.entries
pairs_after (SetCustomMetadata pairs) (Err e) ps = ps
pairs_after Start r ps = ps
pairs_after (Write chunk ids) r ps = ps
pairs_after Finish r ps = ps

-- The pairs after some calls: those last set, or else ps.
abbrev pub last_pairs : List FileCall → List (Result Unit Fault) → Pairs → Pairs
last_pairs (call ∷ calls) (r ∷ rs) ps = last_pairs calls rs (pairs_after call r ps)
last_pairs _ _ ps = ps

-- The state of a file writer, and its byte order.
abbrev pub stage_of : {W : Type 0} → FileSeen W → Writer
stage_of w = writer_in w.order (state_seen w.state)

-- ---- calls one after the other

-- Each call is made on the writer that the call before it left, with these results.
abbrev pub AreMade : {W : Type 0} → (d : Device W) → FileSeen W → List FileCall → List (Result Unit Fault) → FileSeen W → Type 0
AreMade d a [] [] b = b ≡ a
AreMade {W = W} d a (call ∷ calls) (r ∷ rs) b =
    (m : FileSeen W) × (IsMade d a call r m × AreMade d m calls rs b)
AreMade d a _ _ b = ⊥

-- The first of some calls are made, and the others aren't.
pub record FirstAreMade {W : Type 0} (d : Device W) (a : FileSeen W) (calls : List FileCall) (b : FileSeen W) : Type 0 where
  pub count : ℕ
  pub answers : List (Result Unit Fault)
  pub made : AreMade d a (take count calls) answers b

-- A writer keeps its schema, ids, byte order and size, and its footer will have these pairs.
pub record KeepsFile {W : Type 0} (a b : FileSeen W) (pairs : Pairs) : Type 0 where
  pub order : b.order ≡ a.order
  pub fields : b.fields ≡ a.fields
  pub metadata : b.metadata ≡ a.metadata
  pub chosen : b.chosen ≡ a.chosen
  pub size : b.size ≡ a.size
  pub pairs_are : b.pairs ≡ pairs
  pub has_chosen : HasChosen a → HasChosen b
