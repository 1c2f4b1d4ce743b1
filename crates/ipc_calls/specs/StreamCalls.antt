-- Lists of calls of a stream writer; each `start` has a schema and ids of its
-- own, each `write` ids or none.
-- (Arrow columnar format, "IPC Streaming Format".)
use Rattle.std.specs.Prelude.{◌≡◌, ℕ, IsTrue, List, [], ◌∷◌, ◌++◌, take, Option, None, Some, option_map, Result, Ok, Err, Vec}
use Rattle.std.specs.Borrow.{Bor}
use Rattle.std.specs.declared.alloc.Global.{Global}
use Rattle.lower.specs.TypeTrees.{FieldTrees}
use Rattle.lower.specs.TypeViews.{fields_view, pairs_of}
use Rattle.lower.specs.declared.datatypes.schema.Schema.{Schema}
use Rattle.lower_types.specs.declared.Endianness.{Endianness}
use Rattle.ipc_base.specs.IdTrees.{IdTrees, all_ids_view}
use Rattle.ipc_base.specs.declared.ipc.IpcField.{IpcField}
use Rattle.ipc_devices.specs.declared.fault.Fault.{Fault}
use Rattle.ipc_model.specs.Batches.{Chunk}
use Rattle.ipc_model.specs.Streams.{Head}
use Rattle.ipc_model.specs.WriterStates.{Outcome, Writer}
use Rattle.ipc_model.specs.Writers.{Call, start_call, write_call, finish_call}
use Rattle.ipc_schema_write.specs.DefaultIds.{default_all}
use Rattle.ipc_schema_write.specs.WriterAnswers.{written_head_as}
use Rattle.ipc_write.specs.Agreement.{Agrees}
use Rattle.ipc_write.specs.Api.{FinishesStream, StartsStream, WritesToStream}
use Rattle.ipc_write.specs.Calls.{outcome, state_seen, writer_in}
use Rattle.ipc_write.specs.Meaning.{chunk_written}
use Rattle.ipc_write.specs.Writers.{WriterSeen, seen_ids}
use Rattle.ipc_calls.specs.declared.streams.WriterCall.{WriterCall}
use Rattle.ipc_calls.specs.declared.streams.WriterCall.TheVariants.{Start, Write, Finish}
use Rattle.ipc_devices.specs.Device.{Device}

-- ---- ids and heads

-- The ids that a `start` is given, if there are any.
abbrev pub vec_ids : Option (Bor (Vec IpcField Global)) → Option IdTrees
vec_ids ids = option_map (λ given. all_ids_view given.now.items) ids

-- The ids of a stream of these fields: those given, or else 0, 1, 2 and so on, in pre-order.
abbrev pub ids_for : Option IdTrees → FieldTrees → IdTrees
ids_for None fs = default_all 0 fs
ids_for (Some given) fs = given

-- The head of the stream that a `start` with this schema and these ids begins.
abbrev pub head_begun : Endianness → Bor Schema → Option (Bor (Vec IpcField Global)) → Head
head_begun order schema ids =
    written_head_as order (fields_view schema.now.fields.items) (pairs_of schema.now.metadata.entries) (ids_for (vec_ids ids) (fields_view schema.now.fields.items))

-- The head after a call: a `start` that returned Ok sets it, and no other call does.
abbrev pub head_after : Endianness → WriterCall → Result Unit Fault → Head → Head
head_after order (Start schema ids) (Ok x) h = head_begun order schema ids
head_after order (Start schema ids) (Err e) h = h
head_after order (Write chunk ids) r h = h
head_after order Finish r h = h

-- The head after some calls with these results.
abbrev pub head_left : Endianness → List WriterCall → List (Result Unit Fault) → Head → Head
head_left order (call ∷ calls) (r ∷ rs) h = head_left order calls rs (head_after order call r h)
head_left order _ _ h = h

-- ---- what theorems know of calls

-- A call without its schema and ids; a `write` has its chunk.

abbrev pub call_seen : WriterCall → Call
call_seen (Start schema ids) = start_call
call_seen (Write chunk ids) = write_call (chunk_written chunk.now)
call_seen Finish = finish_call

-- The calls, each with how it ended.
abbrev pub ended_as : List WriterCall → List (Result Unit Fault) → List (Call × Outcome)
ended_as (call ∷ calls) (r ∷ rs) = (call_seen call, outcome r) ∷ ended_as calls rs
ended_as _ _ = []

-- The state of a stream writer, and its byte order.
abbrev pub stage_of : {W : Type 0} → WriterSeen W → Writer
stage_of w = writer_in w.order (state_seen w.state)

-- ---- calls one after the other

-- A call returned r and left the writer b, by the call's contract.
abbrev pub IsMade : {W : Type 0} → (d : Device W) → WriterSeen W → WriterCall → Result Unit Fault → WriterSeen W → Type 0
IsMade d a (Start schema ids) r b =
    StartsStream d a (fields_view schema.now.fields.items) (pairs_of schema.now.metadata.entries) (ids_for (vec_ids ids) (fields_view schema.now.fields.items)) r b
IsMade d a (Write chunk ids) r b = WritesToStream d a chunk.now (seen_ids ids) r b
IsMade d a Finish r b = FinishesStream d a r b

-- Each call is made on the writer that the call before it left, with these results.
abbrev pub AreMade : {W : Type 0} → (d : Device W) → WriterSeen W → List WriterCall → List (Result Unit Fault) → WriterSeen W → Type 0
AreMade d a [] [] b = b ≡ a
AreMade {W = W} d a (call ∷ calls) (r ∷ rs) b =
    (m : WriterSeen W) × (IsMade d a call r m × AreMade d m calls rs b)
AreMade d a _ _ b = ⊥

-- The first of some calls are made, and the others aren't.
pub record FirstAreMade {W : Type 0} (d : Device W) (a : WriterSeen W) (calls : List WriterCall) (b : WriterSeen W) : Type 0 where
  pub count : ℕ
  pub answers : List (Result Unit Fault)
  pub made : AreMade d a (take count calls) answers b

-- From writer a to b, calls append these chunks to the stream, and its head becomes what `left`
-- makes of it. A writer that has written nothing agrees with every head.
pub record LeadsTo {W : Type 0} (d : Device W) (a b : WriterSeen W) (left : Head → Head) (added : List Chunk) : Type 0 where
  pub followed : IsTrue d.is_memory → (base : List ℕ) (head : Head) (chunks : List Chunk) → Agrees d a base head chunks → Agrees d b base (left head) (chunks ++ added)
