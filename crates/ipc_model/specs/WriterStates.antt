-- The states of a writer, and which lists of calls are possible.
-- (Arrow columnar format, "IPC Streaming Format": a schema, then batches, then the end. That a
-- writer accepts nothing after its device failed is this project's own.)
use Rattle.std.specs.Prelude.{◌≡◌, Bool, true, false, List, [], ◌∷◌, map}
use Rattle.lower.specs.TypeTrees.{Pairs}
use Rattle.lower_types.specs.declared.Endianness.{Endianness}
use Rattle.ipc_model.specs.Writers.{Call, start_call, write_call, finish_call, taken}

-- The state of a writer: new, started, finished, or failed.
pub data State : Type 0 where
  new_writer : State
  started_writer : State
  finished_writer : State
  failed_writer : State

-- How a call ends: Ok; refused, with nothing changed; or broken off by a failure of the device.
pub data Outcome : Type 0 where
  is_taken : Outcome
  is_refused : Outcome
  is_broken : Outcome

-- The states in which a call may reach the device: a new writer is started once, and a started one
-- written to until it is finished.
abbrev pub MaySend : Call → State → Type 0
MaySend start_call s = s ≡ new_writer
MaySend (write_call c) s = s ≡ started_writer
MaySend finish_call s = s ≡ started_writer

-- How a call may end in a state: in one where it may not reach the device it is refused.
abbrev pub MayEnd : Call → Outcome → State → Type 0
MayEnd call is_taken s = MaySend call s
MayEnd call is_refused s = Unit {0}
MayEnd call is_broken s = MaySend call s

-- The state after a call that returned Ok.
abbrev pub opened_by : Call → State
opened_by start_call = started_writer
opened_by (write_call c) = started_writer
opened_by finish_call = finished_writer

-- The state after a call, by how it ended.
abbrev pub state_after : Call → Outcome → State → State
state_after call is_taken s = opened_by call
state_after call is_refused s = s
state_after call is_broken s = failed_writer

-- What a list of calls can change of a writer, and what it keeps: its state, its byte order, and
-- the pairs of metadata for the footer of a file.
pub record Writer : Type 0 where
  pub state : State
  pub order : Endianness
  pub pairs : Pairs

-- The writer after a call; byte order and pairs stay.
abbrev pub writer_after : Call → Outcome → Writer → Writer
writer_after call o w = record { state = state_after call o w.state; order = w.order; pairs = w.pairs }

-- A list of calls, each with how it ended, that takes writer w to writer v; each is possible in the
-- state that the calls before it left.
abbrev pub IsRun : Writer → List (Call × Outcome) → Writer → Type 0
IsRun w [] v = w ≡ v
IsRun w ((call, o) ∷ rest) v = MayEnd call o w.state × IsRun (writer_after call o w) rest v

-- A call returned Ok.
abbrev pub was_taken : Outcome → Bool
was_taken is_taken = true
was_taken is_refused = false
was_taken is_broken = false

-- Some calls, each with whether it returned Ok.
abbrev pub answered : List (Call × Outcome) → List (Call × Bool)
answered calls = map (λ c. (c.0, was_taken c.1)) calls

-- The writer is finished, or its device failed.
abbrev pub IsClosed : State → Type 0
IsClosed new_writer = ⊥
IsClosed started_writer = ⊥
IsClosed finished_writer = Unit {0}
IsClosed failed_writer = Unit {0}

-- A writer stays as it is through some calls, and accepts no chunk.
pub record Stays (calls : List (Call × Outcome)) (w v : Writer) : Type 0 where
  pub writer : v ≡ w
  pub none_taken : taken (answered calls) ≡ []

-- A writer that is finished, or whose device failed, accepts no more chunks.
abbrev pub ClosedLaw : Type 0
ClosedLaw = (w v : Writer) (calls : List (Call × Outcome)) → IsClosed w.state → IsRun w calls v → Stays calls w v

-- Byte order and pairs are the same.
pub record Keeps (w v : Writer) : Type 0 where
  pub order : v.order ≡ w.order
  pub pairs : v.pairs ≡ w.pairs

-- Byte order and pairs stay through each list of calls.
abbrev pub KeepLaw : Type 0
KeepLaw = (w v : Writer) (calls : List (Call × Outcome)) → IsRun w calls v → Keeps w v
