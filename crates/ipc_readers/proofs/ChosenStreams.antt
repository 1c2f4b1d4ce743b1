-- The meaning of a stream by a projection is found message by message, and without a
-- projection it is what the stream means.
use Rattle.std.proofs.Common.{◌≡◌, ℕ, zero, suc, ◌<◌, ◌≤◌, ◌==◌, nat_lt, List, [], length, Option, None, Some, option_to_list, refl, ap, ◌∙◌, length-drop, arith, inl, inr}
use Rattle.ipc_model.proofs.Frames.{by_test, frame_shorter, frame_waits}
use Rattle.ipc_model.proofs.Meanings.{chunk_never, chunk_rest, known_never, known_rest, same_from, waits_same}
use Rattle.ipc_model.specs.Batches.{Chunk}
use Rattle.ipc_model.specs.Frame.{Frame, message, mark, waiting, broken, frame}
use Rattle.ipc_model.specs.Streams.{Header, header_of, Head, Known, End, waits, more, done, most_dictionaries, body_item, message_item, frame_item, item, with_chunks, from_item, meant_within, meaning}
use Rattle.ipc_readers.specs.ChosenStreams.{Request, chosen_body, chosen_message, chosen_frame, chosen_item, chosen_within, chosen_meaning, WholeLaw}

-- ---- one message

-- A message that isn't the end has all of its body.
body_shorter : (h : Request) (s : Known) (m : Header) (r : List ℕ) (c : Option Chunk) (t : Known) (rest : List ℕ) → chosen_body h s m r ≡ more c t rest → length rest ≤ length r
unfolding chosen_body
body_shorter h s m r c t rest e =
    elim (by_test (nat_lt (length r) m.body) _ _ _ e) [
      | inl p ↦ absurd cc
      | inr p ↦ elim (by_test (m.tag == 3) _ _ _ p.1) [
        | inl q ↦ omega (arith, ap length (chunk_rest _ _ _ c t rest q.1), length-drop m.body r)
        | inr q ↦ elim (by_test (m.tag == 2) _ _ _ q.1) [
          | inl u ↦ elim (by_test (nat_lt s.count most_dictionaries) _ _ _ u.1) [
            | inl v ↦ omega (arith, ap length (known_rest _ _ _ c t rest v.1), length-drop m.body r)
            | inr v ↦ absurd cc
          ]
          | inr u ↦ absurd cc
        ]
      ]
    ]

message_shorter : (h : Request) (s : Known) (o : Option Header) (r : List ℕ) (c : Option Chunk) (t : Known) (rest : List ℕ) → chosen_message h s o r ≡ more c t rest → length rest ≤ length r
message_shorter h s None r c t rest e = absurd cc
message_shorter h s (Some m) r c t rest e = body_shorter h s m r c t rest e

frame_rest : (h : Request) (s : Known) (bytes : List ℕ) (f : Frame) (c : Option Chunk) (t : Known) (rest : List ℕ) → frame bytes ≡ f → chosen_frame h s f ≡ more c t rest → length rest < length bytes
frame_rest h s bytes (message x r) c t rest f e = omega (arith, frame_shorter bytes x r f, message_shorter h s (header_of x) r c t rest e)
frame_rest h s bytes (mark r) c t rest f e = absurd cc
frame_rest h s bytes (waiting b) c t rest f e = absurd cc
frame_rest h s bytes broken c t rest f e = absurd cc

chosen_shorter : (h : Request) (s : Known) (bytes : List ℕ) (c : Option Chunk) (t : Known) (rest : List ℕ) → chosen_item h s bytes ≡ more c t rest → length rest < length bytes
unfolding chosen_item
chosen_shorter h s bytes c t rest e = frame_rest h s bytes (frame bytes) c t rest refl e

-- ---- what waits

-- a body never waits
body_never : (h : Request) (s : Known) (m : Header) (r : List ℕ) (t : Known) (b : List ℕ) → chosen_body h s m r ≡ done (waits t b) → ⊥
unfolding chosen_body
body_never h s m r t b e =
    elim (by_test (nat_lt (length r) m.body) _ _ _ e) [
      | inl p ↦ cc
      | inr p ↦ elim (by_test (m.tag == 3) _ _ _ p.1) [
        | inl q ↦ chunk_never _ _ _ t b q.1
        | inr q ↦ elim (by_test (m.tag == 2) _ _ _ q.1) [
          | inl u ↦ elim (by_test (nat_lt s.count most_dictionaries) _ _ _ u.1) [
            | inl v ↦ known_never _ _ _ t b v.1
            | inr v ↦ cc
          ]
          | inr u ↦ cc
        ]
      ]
    ]

message_never : (h : Request) (s : Known) (o : Option Header) (r : List ℕ) (t : Known) (b : List ℕ) → chosen_message h s o r ≡ done (waits t b) → ⊥
message_never h s None r t b e = cc
message_never h s (Some m) r t b e = body_never h s m r t b e

frame_waiting : (h : Request) (s : Known) (f : Frame) (t : Known) (begun : List ℕ) → chosen_frame h s f ≡ done (waits t begun) → (f ≡ waiting begun) × (s ≡ t)
frame_waiting h s (message x r) t begun e = absurd (message_never h s (header_of x) r t begun e)
frame_waiting h s (mark r) t begun e = absurd cc
frame_waiting h s (waiting b) t begun e = let w = waits_same s t b begun e in (ap waiting w.1, w.0)
frame_waiting h s broken t begun e = absurd cc

pub chosen_waits : (h : Request) (s : Known) (bytes : List ℕ) (t : Known) (begun : List ℕ) → chosen_item h s bytes ≡ done (waits t begun) → (begun ≡ bytes) × (s ≡ t)
unfolding chosen_item
chosen_waits h s bytes t begun e = let w = frame_waiting h s (frame bytes) t begun e in (frame_waits bytes begun w.0, w.1)

-- ---- all messages

-- Any sufficient number of messages gives the same.
enough : (h : Request) (k j : ℕ) (s : Known) (bytes : List ℕ) → length bytes < k → length bytes < j → chosen_within h k s bytes ≡ chosen_within h j s bytes
unfolding chosen_within
enough h zero j s bytes a b = absurd (omega arith)
enough h (suc k) zero s bytes a b = absurd (omega arith)
enough h (suc k) (suc j) s bytes a b = same_from (chosen_within h k) (chosen_within h j) (chosen_item h s bytes) (λ c t rest e.
    let shorter = chosen_shorter h s bytes c t rest e in enough h k j t rest (omega arith) (omega arith))

chosen_is : (h : Request) (s : Known) (bytes : List ℕ) → chosen_meaning h s bytes ≡ from_item (chosen_meaning h) (chosen_item h s bytes)
unfolding chosen_meaning chosen_within
chosen_is h s bytes = same_from (chosen_within h (length bytes)) (chosen_meaning h) (chosen_item h s bytes) (λ c t rest e.
    let shorter = chosen_shorter h s bytes c t rest e in enough h (length bytes) (suc (length rest)) t rest shorter (omega arith))

pub chosen_more : (h : Request) (s : Known) (bytes : List ℕ) (c : Option Chunk) (t : Known) (rest : List ℕ) → chosen_item h s bytes ≡ more c t rest
    → chosen_meaning h s bytes ≡ with_chunks (option_to_list c) (chosen_meaning h t rest)
chosen_more h s bytes c t rest e = chosen_is h s bytes ∙ ap (from_item (chosen_meaning h)) e

pub chosen_done : (h : Request) (s : Known) (bytes : List ℕ) (d : End) → chosen_item h s bytes ≡ done d → chosen_meaning h s bytes ≡ record { chunks = []; end = d }
chosen_done h s bytes d e = chosen_is h s bytes ∙ ap (from_item (chosen_meaning h)) e

-- ---- without a projection

-- All columns are requested.
abbrev all_of : Head → Request
all_of h = record { head = h; projection = None }

whole_message : (h : Head) (s : Known) (o : Option Header) (rest : List ℕ) → chosen_message (all_of h) s o rest ≡ message_item h s o rest
unfolding chosen_body body_item
whole_message h s None rest = refl
whole_message h s (Some m) rest = refl

whole_frame : (h : Head) (s : Known) (f : Frame) → chosen_frame (all_of h) s f ≡ frame_item h s f
whole_frame h s (message m rest) = whole_message h s (header_of m) rest
whole_frame h s (mark rest) = refl
whole_frame h s (waiting b) = refl
whole_frame h s broken = refl

whole_item : (h : Head) (s : Known) (bytes : List ℕ) → chosen_item (all_of h) s bytes ≡ item h s bytes
unfolding chosen_item item
whole_item h s bytes = whole_frame h s (frame bytes)

whole_within : (h : Head) (k : ℕ) (s : Known) (bytes : List ℕ) → chosen_within (all_of h) k s bytes ≡ meant_within h k s bytes
unfolding chosen_within meant_within
whole_within h zero s bytes = refl
whole_within h (suc k) s bytes =
    ap (from_item (chosen_within (all_of h) k)) (whole_item h s bytes)
    ∙ same_from (chosen_within (all_of h) k) (meant_within h k) (item h s bytes) (λ c t rest e. whole_within h k t rest)

pub whole_law : WholeLaw
unfolding chosen_meaning meaning
whole_law h s bytes = whole_within h (suc (length bytes)) s bytes
