-- Calls of `next` return what the stream means.
use Rattle.std.proofs.Common.{◌≡◌, ◌≢◌, List, [], ◌∷◌, None, Some, Ok, Err, true, false, IsTrue, sym, ap, subst, ◌∙◌}
use Rattle.ipc_devices.proofs.Claims.{claims_through}
use Rattle.ipc_devices.specs.Device.{Device}
use Rattle.ipc_devices.specs.Gives.{Gives}
use Rattle.ipc_model.specs.Batches.{Chunk}
use Rattle.ipc_model.specs.Streams.{Known, End, marked, waits, faulty, Meant}
use Rattle.ipc_read.specs.Chunks.{chunk_seen}
use Rattle.ipc_readers.proofs.Loops.{same_request}
use Rattle.ipc_readers.specs.ChosenStreams.{Request, chosen_meaning}
use Rattle.ipc_readers.specs.Runs.{Answer, Calls, AreNone, AreAnswers}
use Rattle.ipc_readers.specs.Streams.{Knows, ahead, request_of, begun_of, is_over}
use Rattle.ipc_readers.specs.declared.read.stream.reader.StreamReader.{StreamReader}
use Rattle.ipc_readers.specs.declared.read.stream.reader.StreamState.TheVariants as states

-- A reader that has ended returns None.
over_none :
    {R : Type 0} (gives : Gives R) (d : Device R) (a : StreamReader R) (rs : List Answer) → is_over a ≡ true
    → Calls gives d a rs → AreNone rs
over_none gives d a [] over calls = tt
over_none gives d a (None ∷ rs) over calls = over_none gives d calls.0 rs (calls.1.state.over over).1 calls.2
over_none gives d a (Some r ∷ rs) over calls = let e = (calls.1.state.over over).0 in absurd cc

-- The first chunk, and those after it.
first_chunk : (c d : Chunk) (cs ds : List Chunk) → c ∷ cs ≡ d ∷ ds → (c ≡ d) × (cs ≡ ds)
first_chunk c d cs ds e = (cc, cc)

pub read_law : {R : Type 0} (gives : Gives R) (d : Device R) (a : StreamReader R) (rs : List Answer) (s : Known) (cs : List Chunk) (e : End)
    → IsTrue d.is_memory → is_over a ≡ false → Knows a s → e ≢ faulty
    → chosen_meaning (request_of a) s (ahead d a) ≡ record { chunks = cs; end = e } → Calls gives d a rs
    → AreAnswers cs e rs
read_law gives d a [] s cs e k going at sound means calls = tt
read_law gives d a (Some (Err f) ∷ rs) s cs e k going at sound means calls = (
  claims_through f _ ⊥ (λ refused. sound (sym (ap (λ (m : Meant). m.end) means) ∙ ap (λ (m : Meant). m.end) refused)) ((calls.1.exact k going).each s at),
  over_none gives d calls.0 rs (calls.1.state.finished going) calls.2,
)
read_law gives d a (None ∷ rs) s cs e k going at sound means calls =
    let here = sym ((calls.1.exact k going).each s at) ∙ means in
    let none : [] ≡ cs = ap (λ (m : Meant). m.chunks) here in
    let end : marked ≡ e = ap (λ (m : Meant). m.end) here in
    subst (λ (ds : List Chunk). AreAnswers ds e (None ∷ rs)) none
    (subst (λ (x : End). AreAnswers [] x (None ∷ rs)) end
    (over_none gives d calls.0 rs (calls.1.state.finished going) calls.2))
read_law gives d a (Some (Ok states.Waiting) ∷ rs) s cs e k going at sound means calls =
    let given = (calls.1.exact k going).each s at in
    let here = sym given.2 ∙ means in
    let none : [] ≡ cs = ap (λ (m : Meant). m.chunks) here in
    let end : waits given.0 (begun_of calls.0) ≡ e = ap (λ (m : Meant). m.end) here in
    subst (λ (ds : List Chunk). AreAnswers ds e (Some (Ok states.Waiting) ∷ rs)) none
    (subst (λ (x : End). AreAnswers [] x (Some (Ok states.Waiting) ∷ rs)) end tt)
read_law gives d a (Some (Ok (states.Some chunk)) ∷ rs) s [] e k going at sound means calls =
    let given = (calls.1.exact k going).each s at in
    let here = ap (λ (m : Meant). m.chunks) (sym given.2 ∙ means) in
    absurd cc
read_law gives d a (Some (Ok (states.Some chunk)) ∷ rs) s (c ∷ cs) e k going at sound means calls =
    let h = request_of a in
    let b = calls.0 in
    let given = (calls.1.exact k going).each s at in
    let t = given.0 in
    let same : request_of b ≡ h = same_request a b calls.1.state.described calls.1.state.projected in
    let here = sym given.2 ∙ means in
    let parts = first_chunk (chunk_seen chunk) c (chosen_meaning h t (ahead d b)).chunks cs (ap (λ (m : Meant). m.chunks) here) in
    let left : chosen_meaning h t (ahead d b) ≡ record { chunks = cs; end = e } =
    λ i. record { chunks = parts.1 i; end = ap (λ (m : Meant). m.end) here i } in (
      parts.0,
      read_law gives d b rs t cs e k (calls.1.state.finished going) given.1 sound
          (ap (λ (g : Request). chosen_meaning g t (ahead d b)) same ∙ left)
          calls.2,
    )
