-- Streams of chunks.
use Rattle.std.proofs.Common.{◌≡◌, ℕ, ℤ, true, false, List, [], ◌∷◌, ◌++◌, Some, refl, sym, ap, ◌∙◌, subst, append_assoc, append-nil}
use Rattle.ipc_model.proofs.Growing.{grow_law}
use Rattle.ipc_model.proofs.Meanings.{meaning_done}
use Rattle.ipc_model.proofs.WriterSteps.{item_none, finish_law}
use Rattle.ipc_model.specs.Batches.{Chunk}
use Rattle.ipc_model.specs.Streams.{Head, Known, nothing_known, waits, Meant, with_chunks, meaning}
use Rattle.ipc_model.specs.Writers.{start_call, write_call, finish_call, taken}
use Rattle.ipc_stream_lemmas.specs.Remembered.{Remembered, nothing_remembered}
use Rattle.ipc_stream_lemmas.specs.Runs.{IsOpen, OpenStartLaw, OpenWriteLaw, OpenFinishLaw, OpenRunLaw, FinishedRunLaw, OmitLaw}

meaning_none : (h : Head) (s : Known) → meaning h s [] ≡ record { chunks = []; end = waits s [] }
meaning_none h s = meaning_done h s [] (waits s []) (item_none h s)

-- one chunk more
pub open_write : OpenWriteLaw
open_write bytes added h m after cs c o means =
    let r = means.reads o.known o.agrees o.none in
    let here : meaning h o.known added ≡ record { chunks = c ∷ []; end = waits r.known [] } =
    ap (meaning h o.known) (sym (append-nil added)) ∙ r.means [] ∙ ap (with_chunks (c ∷ [])) (meaning_none h r.known) in
    record {
      known = r.known;
      agrees = r.agrees;
      none = r.none;
      stream = record {
        stream =
            grow_law bytes (record { head = h; meant = record { chunks = cs; end = waits o.known [] } }) o.known [] added o.stream.stream refl
            ∙ ap (λ (x : Meant). Some (record { head = h; meant = with_chunks cs x })) here;
      };
    }

-- The same by another definition of what is remembered.
open_same : (bytes : List ℕ) (h : Head) (m after : Remembered) (cs : List Chunk) → ((i : ℤ) → after i ≡ m i) → IsOpen bytes h m cs → IsOpen bytes h after cs
open_same bytes h m after cs same o = record { known = o.known; agrees = record { each = λ i. o.agrees.each i ∙ sym (same i) }; none = o.none; stream = o.stream }

open_at : (xs ys : List ℕ) (h : Head) (m : Remembered) (cs ds : List Chunk) → xs ≡ ys → cs ≡ ds → IsOpen xs h m cs → IsOpen ys h m ds
open_at xs ys h m cs ds e f o = subst (λ (zs : List ℕ). IsOpen zs h m ds) e (subst (λ (bs : List Chunk). IsOpen xs h m bs) f o)

pub open_run : OpenRunLaw
open_run bytes added h m after cs [] o w =
    open_at bytes (bytes ++ added) h after cs (cs ++ []) (sym (append-nil bytes) ∙ ap (λ (xs : List ℕ). bytes ++ xs) (sym w.0)) (sym (append-nil cs)) (open_same bytes h m after cs w.1 o)
open_run bytes added h m after cs ((call, false) ∷ calls) o w = open_run bytes added h m after cs calls o w
open_run bytes added h m after cs ((write_call c, true) ∷ calls) o w =
    let one = open_write bytes w.0 h m w.2 cs c o w.3 in
    let rest = open_run (bytes ++ w.0) w.1 h w.2 after (cs ++ c ∷ []) calls one w.5 in
    open_at ((bytes ++ w.0) ++ w.1) (bytes ++ added) h after ((cs ++ c ∷ []) ++ taken calls) (cs ++ (c ∷ taken calls))
    (append_assoc bytes w.0 w.1 ∙ ap (λ (xs : List ℕ). bytes ++ xs) (sym w.4)) (append_assoc cs (c ∷ []) (taken calls)) rest
open_run bytes added h m after cs ((start_call, true) ∷ calls) o w = absurd w
open_run bytes added h m after cs ((finish_call, true) ∷ calls) o w = absurd w

pub open_start : OpenStartLaw
open_start bytes h s = record { known = nothing_known; agrees = record { each = λ i. refl }; none = refl; stream = s }

pub open_finish : OpenFinishLaw
open_finish bytes h m cs o = finish_law bytes h o.known cs o.stream

pub finished_run : FinishedRunLaw
finished_run bytes added h after calls s w =
    let o = open_run bytes added h nothing_remembered after [] calls (open_start bytes h s) w in
    finish_law (bytes ++ added) h o.known (taken calls) o.stream

pub omit_law : OmitLaw
omit_law xs ys h a b calls start s v w = (finished_run start xs h a calls s v, finished_run start ys h b calls s w)
