-- Streams of chunks, by lists of calls.
-- (Arrow columnar format, "IPC Streaming Format".)
use Rattle.std.specs.Prelude.{◌≡◌, ℕ, ℤ, Bool, true, false, List, [], ◌∷◌, ◌++◌}
use Rattle.ipc_model.specs.Batches.{Chunk}
use Rattle.ipc_model.specs.Streams.{Head, Known, nothing_known}
use Rattle.ipc_model.specs.Writers.{Call, start_call, write_call, finish_call, taken, IsStarted, IsFinished}
use Rattle.ipc_model.specs.WrittenLaws.{prefix}
use Rattle.ipc_stream_lemmas.specs.Moves.{MeansChunk}
use Rattle.ipc_stream_lemmas.specs.Remembered.{Remembered, nothing_remembered, KnowsRemembered}

-- A started stream with these chunks, whose reader knows what its writer remembers.
pub record IsOpen (bytes : List ℕ) (head : Head) (m : Remembered) (cs : List Chunk) : Type 0 where
  pub known : Known
  pub agrees : KnowsRemembered m known.dictionaries
  pub none : known.count ≡ 0
  pub stream : IsStarted bytes head known cs

-- ---- one call

-- Theorem: a stream that was started has no dictionaries, and its writer remembers none.
abbrev pub OpenStartLaw : Type 0
OpenStartLaw = (bytes : List ℕ) (h : Head) → IsStarted bytes h nothing_known [] → IsOpen bytes h nothing_remembered []

-- Theorem: the messages of a chunk add it to the stream, and what is
-- remembered afterwards is known then.
abbrev pub OpenWriteLaw : Type 0
OpenWriteLaw = (bytes added : List ℕ) (h : Head) (m after : Remembered) (cs : List Chunk) (c : Chunk) → IsOpen bytes h m cs
    → MeansChunk h added m after c → IsOpen (bytes ++ added) h after (cs ++ c ∷ [])

-- Theorem: the end-of-stream mark finishes the stream.
abbrev pub OpenFinishLaw : Type 0
OpenFinishLaw = (bytes : List ℕ) (h : Head) (m : Remembered) (cs : List Chunk) → IsOpen bytes h m cs → IsFinished (bytes ++ prefix 0) h cs

-- ---- lists of calls

-- The calls of a started writer, each with whether it returned Ok, append these
-- bytes. A chunk that is written appends its messages, and a refused call appends
-- nothing and leaves what is remembered.
abbrev pub Writes : Head → Remembered → List (Call × Bool) → List ℕ → Remembered → Type 0
Writes h m [] bytes after = (bytes ≡ []) × ((i : ℤ) → after i ≡ m i)
Writes h m ((call, false) ∷ calls) bytes after = Writes h m calls bytes after
Writes h m ((write_call c, true) ∷ calls) bytes after =
    (own rest : List ℕ) × (then : Remembered) × MeansChunk h own m then c × (bytes ≡ own ++ rest) × Writes h then calls rest after
Writes h m ((start_call, true) ∷ calls) bytes after = ⊥
Writes h m ((finish_call, true) ∷ calls) bytes after = ⊥

-- Theorem: some calls append to a stream the chunks whose `write` returned Ok.
abbrev pub OpenRunLaw : Type 0
OpenRunLaw = (bytes added : List ℕ) (h : Head) (m after : Remembered) (cs : List Chunk) (calls : List (Call × Bool))
    → IsOpen bytes h m cs → Writes h m calls added after → IsOpen (bytes ++ added) h after (cs ++ taken calls)

-- Theorem: a stream from its start to its mark has the chunks whose `write` returned Ok.
abbrev pub FinishedRunLaw : Type 0
FinishedRunLaw = (bytes added : List ℕ) (h : Head) (after : Remembered) (calls : List (Call × Bool))
    → IsStarted bytes h nothing_known [] → Writes h nothing_remembered calls added after
    → IsFinished (bytes ++ added ++ prefix 0) h (taken calls)

-- Theorem: omitting dictionaries changes no slot: two writers that write the same chunks
-- write streams of the same chunks.
abbrev pub OmitLaw : Type 0
OmitLaw = (xs ys : List ℕ) (h : Head) (a b : Remembered) (calls : List (Call × Bool)) (start : List ℕ)
    → IsStarted start h nothing_known []
    → Writes h nothing_remembered calls xs a → Writes h nothing_remembered calls ys b
    → IsFinished (start ++ xs ++ prefix 0) h (taken calls) × IsFinished (start ++ ys ++ prefix 0) h (taken calls)
