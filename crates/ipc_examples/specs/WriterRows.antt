-- Lists of calls of a writer, and the chunks that they write. Beside most is one that isn't
-- possible. A definition that is changed in one word fails one of these cases.
-- (Arrow columnar format, "IPC Streaming Format": a schema, then batches, then the end.)
use Rattle.std.specs.Prelude.{◌≡◌, List, [], ◌∷◌}
use Rattle.lower_types.specs.declared.Endianness.TheVariants.{Little}
use Rattle.ipc_examples.specs.StreamRows.{demo_chunk}
use Rattle.ipc_model.specs.Writers.{Call, start_call, write_call, finish_call, taken}
use Rattle.ipc_model.specs.WriterStates.{State, new_writer, started_writer, finished_writer, failed_writer, Outcome, is_taken, is_refused, is_broken, Writer, IsRun, answered}

abbrev pub writer_in : State → Writer
writer_in s = record { state = s; order = Little; pairs = [] }

abbrev pub Runs : State → List (Call × Outcome) → State → Type 0
Runs s calls t = IsRun (writer_in s) calls (writer_in t)

abbrev pub write_demo : Call
write_demo = write_call demo_chunk

-- One write between a start and an end, each of which ends so.
abbrev pub one_write : Outcome → List (Call × Outcome)
one_write o = (start_call, is_taken) ∷ (write_demo, o) ∷ (finish_call, is_taken) ∷ []

-- A stream is started once, written to while it is open, and finished once. A refused call changes
-- nothing. A call that is broken off closes the writer; only an open writer's call can be. The
-- chunks that were written are those of the writes that returned Ok, in their order.
pub record RunRows : Type 0 where
  pub whole : Runs new_writer (one_write is_taken) finished_writer
  pub refused_between : Runs new_writer (one_write is_refused) finished_writer
  pub broken_between : ¬ Runs new_writer (one_write is_broken) finished_writer
  pub broken : Runs new_writer ((start_call, is_taken) ∷ (write_demo, is_broken) ∷ []) failed_writer
  pub broken_start : Runs new_writer ((start_call, is_broken) ∷ []) failed_writer
  pub broken_end : Runs started_writer ((finish_call, is_broken) ∷ []) failed_writer
  pub write_before : ¬ Runs new_writer ((write_demo, is_taken) ∷ []) started_writer
  pub end_before : ¬ Runs new_writer ((finish_call, is_taken) ∷ []) finished_writer
  pub second_start : ¬ Runs started_writer ((start_call, is_taken) ∷ []) started_writer
  pub second_end : ¬ Runs finished_writer ((finish_call, is_taken) ∷ []) finished_writer
  pub write_behind : ¬ Runs finished_writer ((write_demo, is_taken) ∷ []) finished_writer
  pub start_behind : ¬ Runs failed_writer ((start_call, is_taken) ∷ []) started_writer
  pub broken_before : ¬ Runs new_writer ((write_demo, is_broken) ∷ []) failed_writer
  pub broken_behind : ¬ Runs finished_writer ((finish_call, is_broken) ∷ []) failed_writer
  pub refused_anywhere : Runs failed_writer ((start_call, is_refused) ∷ (write_demo, is_refused) ∷ (finish_call, is_refused) ∷ []) failed_writer
  pub refused_start : ¬ Runs new_writer ((start_call, is_refused) ∷ []) started_writer
  pub one_taken : taken (answered (one_write is_taken)) ≡ demo_chunk ∷ []
  pub none_refused : taken (answered (one_write is_refused)) ≡ []
  pub none_broken : taken (answered (one_write is_broken)) ≡ []
  pub in_order : taken (answered ((write_call [], is_taken) ∷ (write_demo, is_refused) ∷ (write_demo, is_taken) ∷ [])) ≡ [] ∷ demo_chunk ∷ []
