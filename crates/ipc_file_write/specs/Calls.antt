-- What the calls of a file writer do, one and many, by the definitions of `ipc_model`.
-- (Arrow columnar format, "IPC File Format".)
use Rattle.std.specs.Prelude.{◌≡◌, ℕ, IsTrue, List, [], ◌∷◌, ◌++◌, length, take, None, Result, Vec, vec_len}
use Rattle.std.specs.declared.alloc.Global.{Global}
use Rattle.lower.specs.TypeTrees.{FieldTrees, Pairs}
use Rattle.lower_types.specs.declared.Endianness.{Endianness}
use Rattle.ipc_base.specs.IdTrees.{IdTrees}
use Rattle.ipc_devices.specs.Device.{Device, Memory}
use Rattle.ipc_devices.specs.declared.fault.Fault.{Fault}
use Rattle.ipc_model.specs.Batches.{Chunk}
use Rattle.ipc_model.specs.WriterStates.{IsRun, MayEnd, Writer, answered, writer_after}
use Rattle.ipc_model.specs.Writers.{taken}
use Rattle.ipc_write.specs.Calls.{call_seen, ended_as, outcome, state_seen}
use Rattle.ipc_write.specs.declared.calls.StreamCall.{StreamCall}
use Rattle.ipc_write.specs.declared.calls.StreamCall.TheVariants.{Start, Write, Finish}
use Rattle.ipc_table_views.specs.declared.file.Block.{Block}
use Rattle.ipc_schema_write.specs.WriterAnswers.{written_head_as}
use Rattle.ipc_write.specs.declared.stream.WriterState.{WriterState}
use Rattle.ipc_write.specs.declared.stream.WriterState.TheVariants.{Started, Finished}
use Rattle.ipc_footer_write.specs.Footers.{file_written}
use Rattle.ipc_file_lemmas.specs.FileBytes.{EndsStreamBehind, IsFile}
use Rattle.ipc_file_write.specs.Api.{FinishesFile, StartsFile, WritesToFile}
use Rattle.ipc_file_write.specs.FileWriters.{Agrees, FileSeen, IsSameFile}
use Rattle.ipc_write.specs.Vectors.{vectors}

-- ---- one call

-- A call returned r and left the writer b, by the call's contract.
abbrev pub IsMade : {W : Type 0} → (d : Device W) → FileSeen W → StreamCall → Result Unit Fault → FileSeen W → Type 0
IsMade d a Start r b = StartsFile d a r b
IsMade d a (Write chunk) r b = WritesToFile d a chunk.now None r b
IsMade d a Finish r b = FinishesFile d a r b

-- ---- calls one after the other

-- Each call is made on the writer that the call before it left, with these results.
abbrev pub AreMade : {W : Type 0} → (d : Device W) → FileSeen W → List StreamCall → List (Result Unit Fault) → FileSeen W → Type 0
AreMade d a [] [] b = b ≡ a
AreMade {W = W} d a (call ∷ calls) (r ∷ rs) b =
    (m : FileSeen W) × (IsMade d a call r m × AreMade d m calls rs b)
AreMade d a _ _ b = ⊥

-- The first of some calls are made.
pub record FirstAreMade {W : Type 0} (d : Device W) (a : FileSeen W) (calls : List StreamCall) (b : FileSeen W) : Type 0 where
  pub count : ℕ
  pub answers : List (Result Unit Fault)
  pub made : AreMade d a (take count calls) answers b

-- ---- what they leave

-- The state, the byte order and the pairs of a file writer.
abbrev pub writer_seen : {W : Type 0} → FileSeen W → Writer
writer_seen w = record { state = state_seen w.state; order = w.order; pairs = w.pairs }

-- From writer a to b, calls append these chunks to the file.
pub record GrowsBy {W : Type 0} (d : Device W) (a b : FileSeen W) (added : List Chunk) : Type 0 where
  pub followed : IsTrue d.is_memory → (base : List ℕ) (cs : List Chunk) → Agrees d a base cs → Agrees d b base (cs ++ added)

-- A writer whose file was started has the ids that were chosen for it.
abbrev pub IdsAre : WriterState → IdTrees → IdTrees → Type 0
IdsAre Started is chosen = is ≡ chosen
IdsAre Finished is chosen = is ≡ chosen
IdsAre _ is chosen = Unit {0}

-- The ids of a started writer are those that were chosen for it.
abbrev pub HasChosen : {W : Type 0} → FileSeen W → Type 0
HasChosen w = IdsAre w.state w.ids w.chosen

-- A call was made and returned r: the call may end so in the writer's state, and changes the state
-- accordingly. If it returned Ok, the file has the call's chunk more.
pub record MakesCall {W : Type 0} (d : Device W) (a : FileSeen W) (call : StreamCall) (r : Result Unit Fault) (b : FileSeen W) : Type 0 where
  pub may : MayEnd (call_seen call) (outcome r) (writer_seen a).state
  pub after : writer_seen b ≡ writer_after (call_seen call) (outcome r) (writer_seen a)
  pub follows : GrowsBy d a b (taken (answered ((call_seen call, outcome r) ∷ [])))
  pub same : IsSameFile a b
  pub chosen : HasChosen a → HasChosen b

-- `run_calls`: the calls had these results, and took the writer from a to b.
pub record RunsFile {W : Type 0} (d : Device W) (a : FileSeen W) (calls : List StreamCall) (answers : List (Result Unit Fault)) (b : FileSeen W) : Type 0 where
  -- Each call was made on the writer that the call before it left.
  pub made : AreMade d a calls answers b
  -- The states that the calls go through, by their results.
  pub state : IsRun (writer_seen a) (ended_as calls answers) (writer_seen b)
  -- In memory, the file has exactly the chunks more whose `write` returned Ok.
  pub content : GrowsBy d a b (taken (answered (ended_as calls answers)))
  -- Byte order, schema, chosen ids, pairs and size stay.
  pub same : IsSameFile a b
  -- A started writer has the ids that were chosen for it, if it had.
  pub chosen : HasChosen a → HasChosen b

-- ---- whole files

-- The bytes are a whole file of a schema in its normal form, with these ids, byte order, pairs and
-- chunks. Without the first eight bytes they are a stream of the same.
pub record IsWrittenFile (bytes : List ℕ) (order : Endianness) (fields : FieldTrees) (metadata : Pairs) (ids : IdTrees) (pairs : Pairs) (cs : List Chunk) : Type 0 where
  pub dictionaries : List Block
  pub blocks : List Block
  pub file : IsFile bytes (file_written order fields metadata ids pairs dictionaries blocks (length bytes)) cs
  pub stream : EndsStreamBehind bytes (written_head_as order fields metadata ids) cs

-- The bytes of a vector, as memory that is written to at its end.
abbrev pub vector : Vec ℕ Global → Memory
vector v = record { whole = v.items; place = vec_len v }

-- The bytes are a whole file that a writer finished, which began with empty memory.
pub record EndsFile (w : FileSeen (Vec ℕ Global)) (bytes : List ℕ) : Type 0 where
  pub file : (cs : List Chunk) → HasChosen w → Agrees vectors w [] cs → IsWrittenFile bytes w.order w.fields w.metadata w.chosen w.pairs cs
