-- The meaning is found message by message, and bytes that are added go to its end.
use Rattle.std.proofs.Common.{◌≡◌, ℕ, ◌<◌, ◌≤◌, ◌==◌, nat_lt, List, [], ◌++◌, length, Option, None, Some, option_to_list, zero, suc, refl, sym, ap, ◌∙◌, append_assoc, length-drop, length-append, arith, inl, inr}
use Rattle.std.proofs.lemmas.List.{take-append-le, drop-append-le}
use Rattle.std.proofs.lemmas.Bool.{ltb-false, le-ltb}
use Rattle.ipc_model.proofs.Frames.{by_test, frame_append, frame_shorter, frame_waits}
use Rattle.ipc_model.specs.Batches.{Chunk}
use Rattle.ipc_model.specs.Entries.{Dictionaries}
use Rattle.ipc_model.specs.Frame.{Frame, message, mark, waiting, broken, frame}
use Rattle.ipc_model.specs.Streams.{Header, header_of, Head, Known, End, waits, Item, more, done, with_chunk, with_dictionaries, most_dictionaries, body_item, message_item, frame_item, item, Meant, with_chunks, from_item, meant_within, meaning, FrontLaw, ResumeLaw}

-- ---- one message

more_rest : (c c' : Option Chunk) (t t' : Known) (a r : List ℕ) → more c' t' a ≡ more c t r → a ≡ r
more_rest c c' t t' a r h = cc

more_moved : (c c' : Option Chunk) (t t' : Known) (a b r xs : List ℕ) → more c' t' a ≡ more c t r → b ≡ a ++ xs → more c' t' b ≡ more c t (r ++ xs)
more_moved c c' t t' a b r xs h e = cc

pub chunk_rest : (o : Option Chunk) (s : Known) (a : List ℕ) (c : Option Chunk) (t : Known) (r : List ℕ) → with_chunk o s a ≡ more c t r → a ≡ r
chunk_rest None s a c t r h = absurd cc
chunk_rest (Some x) s a c t r h = more_rest _ _ _ _ _ _ h

chunk_moved : (o : Option Chunk) (s : Known) (a b : List ℕ) (c : Option Chunk) (t : Known) (r xs : List ℕ) → with_chunk o s a ≡ more c t r → b ≡ a ++ xs
    → with_chunk o s b ≡ more c t (r ++ xs)
chunk_moved None s a b c t r xs h e = absurd cc
chunk_moved (Some x) s a b c t r xs h e = more_moved _ _ _ _ _ _ _ xs h e

pub known_rest : (o : Option Dictionaries) (s : Known) (a : List ℕ) (c : Option Chunk) (t : Known) (r : List ℕ) → with_dictionaries o s a ≡ more c t r → a ≡ r
known_rest None s a c t r h = absurd cc
known_rest (Some x) s a c t r h = more_rest _ _ _ _ _ _ h

known_moved : (o : Option Dictionaries) (s : Known) (a b : List ℕ) (c : Option Chunk) (t : Known) (r xs : List ℕ) → with_dictionaries o s a ≡ more c t r → b ≡ a ++ xs
    → with_dictionaries o s b ≡ more c t (r ++ xs)
known_moved None s a b c t r xs h e = absurd cc
known_moved (Some x) s a b c t r xs h e = more_moved _ _ _ _ _ _ _ xs h e

-- A message that isn't the end has all of its body, and is a record or a dictionary.
body_shorter : (h : Head) (s : Known) (m : Header) (r : List ℕ) (c : Option Chunk) (t : Known) (rest : List ℕ) → body_item h s m r ≡ more c t rest → length rest ≤ length r
unfolding body_item
body_shorter h s m r c t rest e =
    elim (by_test (nat_lt (length r) m.body) _ _ _ e) [
      | inl p ↦ absurd cc
      | inr p ↦ elim (by_test (m.tag == 3) _ _ _ p.1) [
        | inl q ↦ omega (arith, ap length (chunk_rest _ _ _ c t rest q.1), length-drop m.body r)
        | inr q ↦ elim (by_test (m.tag == 2) _ _ _ q.1) [
          | inl u ↦ elim (by_test (nat_lt s.count most_dictionaries) _ _ _ u.1) [
            | inl v ↦ omega (arith, ap length (known_rest _ _ _ c t rest v.1), length-drop m.body r)
            | inr v ↦ absurd cc
          ]
          | inr u ↦ absurd cc
        ]
      ]
    ]

body_append : (h : Head) (s : Known) (m : Header) (r : List ℕ) (c : Option Chunk) (t : Known) (rest xs : List ℕ) → body_item h s m r ≡ more c t rest
    → body_item h s m (r ++ xs) ≡ more c t (rest ++ xs)
unfolding body_item
body_append h s m r c t rest xs e =
    elim (by_test (nat_lt (length r) m.body) _ _ _ e) [
      | inl p ↦ absurd cc
      | inr p ↦
          let inside : m.body ≤ length r = ltb-false _ _ p.0 in
          let long : m.body ≤ length (r ++ xs) = omega (arith, inside, length-append r xs) in
          let same = take-append-le m.body r xs inside in
          let moved = drop-append-le m.body r xs inside in
          rw (le-ltb (length (r ++ xs)) m.body long, same)
          (elim (by_test (m.tag == 3) _ _ _ p.1) [
            | inl q ↦ rw q.0 (chunk_moved _ _ _ _ c t rest xs q.1 moved)
            | inr q ↦ rw q.0 (elim (by_test (m.tag == 2) _ _ _ q.1) [
              | inl u ↦ rw u.0 (elim (by_test (nat_lt s.count most_dictionaries) _ _ _ u.1) [
                | inl v ↦ rw v.0 (known_moved _ _ _ _ c t rest xs v.1 moved)
                | inr v ↦ absurd cc
              ])
              | inr u ↦ absurd cc
            ])
          ])
    ]

header_found : (h : Head) (s : Known) (o : Option Header) (r : List ℕ) (c : Option Chunk) (t : Known) (rest : List ℕ) → message_item h s o r ≡ more c t rest
    → (m : Header) × (o ≡ Some m) × (body_item h s m r ≡ more c t rest)
header_found h s None r c t rest e = absurd cc
header_found h s (Some m) r c t rest e = (m, refl, e)

-- What isn't the end begins with a message.
pub item_message : (h : Head) (s : Known) (f : Frame) (c : Option Chunk) (t : Known) (rest : List ℕ) → frame_item h s f ≡ more c t rest
    → (x r : List ℕ) × (f ≡ message x r) × (message_item h s (header_of x) r ≡ more c t rest)
item_message h s (message x r) c t rest e = (x, r, refl, e)
item_message h s (mark r) c t rest e = absurd cc
item_message h s (waiting b) c t rest e = absurd cc
item_message h s broken c t rest e = absurd cc

pub item_shorter : (h : Head) (s : Known) (bytes : List ℕ) (c : Option Chunk) (t : Known) (rest : List ℕ) → item h s bytes ≡ more c t rest → length rest < length bytes
unfolding item
item_shorter h s bytes c t rest e =
    let f = item_message h s (frame bytes) c t rest e in
    let m = header_found h s (header_of f.0) f.1 c t rest f.3 in
    omega (arith, frame_shorter bytes f.0 f.1 f.2, body_shorter h s m.0 f.1 c t rest m.2)

pub item_append : (h : Head) (s : Known) (bytes : List ℕ) (c : Option Chunk) (t : Known) (rest xs : List ℕ) → item h s bytes ≡ more c t rest
    → item h s (bytes ++ xs) ≡ more c t (rest ++ xs)
unfolding item
item_append h s bytes c t rest xs e =
    let f = item_message h s (frame bytes) c t rest e in
    let m = header_found h s (header_of f.0) f.1 c t rest f.3 in
    ap (frame_item h s) (frame_append bytes f.0 f.1 xs f.2)
    ∙ ap (λ (o : Option Header). message_item h s o (f.1 ++ xs)) m.1
    ∙ body_append h s m.0 f.1 c t rest xs m.2

-- ---- what waits

pub chunk_never : (o : Option Chunk) (s : Known) (a : List ℕ) (t : Known) (b : List ℕ) → with_chunk o s a ≡ done (waits t b) → ⊥
chunk_never None s a t b e = cc
chunk_never (Some x) s a t b e = cc

pub known_never : (o : Option Dictionaries) (s : Known) (a : List ℕ) (t : Known) (b : List ℕ) → with_dictionaries o s a ≡ done (waits t b) → ⊥
known_never None s a t b e = cc
known_never (Some x) s a t b e = cc

-- a body never waits
body_never : (h : Head) (s : Known) (m : Header) (r : List ℕ) (t : Known) (b : List ℕ) → body_item h s m r ≡ done (waits t b) → ⊥
unfolding body_item
body_never h s m r t b e =
    elim (by_test (nat_lt (length r) m.body) _ _ _ e) [
      | inl p ↦ cc
      | inr p ↦ elim (by_test (m.tag == 3) _ _ _ p.1) [
        | inl q ↦ chunk_never _ _ _ t b q.1
        | inr q ↦ elim (by_test (m.tag == 2) _ _ _ q.1) [
          | inl u ↦ elim (by_test (nat_lt s.count most_dictionaries) _ _ _ u.1) [
            | inl v ↦ known_never _ _ _ t b v.1
            | inr v ↦ cc
          ]
          | inr u ↦ cc
        ]
      ]
    ]

message_never : (h : Head) (s : Known) (o : Option Header) (r : List ℕ) (t : Known) (b : List ℕ) → message_item h s o r ≡ done (waits t b) → ⊥
message_never h s None r t b e = cc
message_never h s (Some m) r t b e = body_never h s m r t b e

pub waits_same : (s t : Known) (a b : List ℕ) → done (waits s a) ≡ done (waits t b) → (s ≡ t) × (a ≡ b)
waits_same s t a b e = (cc, cc)

frame_waiting : (h : Head) (s : Known) (f : Frame) (t : Known) (begun : List ℕ) → frame_item h s f ≡ done (waits t begun) → (f ≡ waiting begun) × (s ≡ t)
frame_waiting h s (message x r) t begun e = absurd (message_never h s (header_of x) r t begun e)
frame_waiting h s (mark r) t begun e = absurd cc
frame_waiting h s (waiting b) t begun e = let w = waits_same s t b begun e in (ap waiting w.1, w.0)
frame_waiting h s broken t begun e = absurd cc

pub item_waits : (h : Head) (s : Known) (bytes : List ℕ) (t : Known) (begun : List ℕ) → item h s bytes ≡ done (waits t begun) → (begun ≡ bytes) × (s ≡ t)
unfolding item
item_waits h s bytes t begun e = let w = frame_waiting h s (frame bytes) t begun e in (frame_waits bytes begun w.0, w.1)

-- ---- all messages

pub same_from : (f g : Known → List ℕ → Meant) (i : Item) → ((c : Option Chunk) (t : Known) (r : List ℕ) → i ≡ more c t r → f t r ≡ g t r) → from_item f i ≡ from_item g i
same_from f g (more c t r) e = ap (with_chunks (option_to_list c)) (e c t r refl)
same_from f g (done d) e = refl

-- Any sufficient number of messages gives the same.
enough : (h : Head) (k j : ℕ) (s : Known) (bytes : List ℕ) → length bytes < k → length bytes < j → meant_within h k s bytes ≡ meant_within h j s bytes
unfolding meant_within
enough h zero j s bytes a b = absurd (omega arith)
enough h (suc k) zero s bytes a b = absurd (omega arith)
enough h (suc k) (suc j) s bytes a b = same_from (meant_within h k) (meant_within h j) (item h s bytes) (λ c t rest e.
    let shorter = item_shorter h s bytes c t rest e in enough h k j t rest (omega arith) (omega arith))

pub meaning_is : FrontLaw
unfolding meaning meant_within
meaning_is h s bytes = same_from (meant_within h (length bytes)) (meaning h) (item h s bytes) (λ c t rest e.
    let shorter = item_shorter h s bytes c t rest e in enough h (length bytes) (suc (length rest)) t rest shorter (omega arith))

pub meaning_more : (h : Head) (s : Known) (bytes : List ℕ) (c : Option Chunk) (t : Known) (rest : List ℕ) → item h s bytes ≡ more c t rest
    → meaning h s bytes ≡ with_chunks (option_to_list c) (meaning h t rest)
meaning_more h s bytes c t rest e = meaning_is h s bytes ∙ ap (from_item (meaning h)) e

pub meaning_done : (h : Head) (s : Known) (bytes : List ℕ) (d : End) → item h s bytes ≡ done d → meaning h s bytes ≡ record { chunks = []; end = d }
meaning_done h s bytes d e = meaning_is h s bytes ∙ ap (from_item (meaning h)) e

-- Bytes that are added to a waiting stream are read from where it waits.
ReadsOn : Head → Known → List ℕ → Known → List ℕ → List ℕ → Type 0
ReadsOn h s bytes t begun xs = meaning h s (bytes ++ xs) ≡ with_chunks (meaning h s bytes).chunks (meaning h t (begun ++ xs))

with_both : (cs bs : List Chunk) (m : Meant) → with_chunks cs (with_chunks bs m) ≡ with_chunks (cs ++ bs) m
with_both cs bs m = rw append_assoc refl

on_more : (h : Head) (s : Known) (bytes : List ℕ) (c : Option Chunk) (u : Known) (rest : List ℕ) (t : Known) (begun xs : List ℕ)
    → item h s bytes ≡ more c u rest → ReadsOn h u rest t begun xs → ReadsOn h s bytes t begun xs
unfolding ReadsOn
on_more h s bytes c u rest t begun xs e on =
    meaning_more h s (bytes ++ xs) c u (rest ++ xs) (item_append h s bytes c u rest xs e)
    ∙ ap (with_chunks (option_to_list c)) on
    ∙ with_both (option_to_list c) (meaning h u rest).chunks (meaning h t (begun ++ xs))
    ∙ ap (λ (m : Meant). with_chunks m.chunks (meaning h t (begun ++ xs))) (sym (meaning_more h s bytes c u rest e))

on_done : (h : Head) (s : Known) (bytes : List ℕ) (t : Known) (begun xs : List ℕ) → item h s bytes ≡ done (waits t begun) → ReadsOn h s bytes t begun xs
unfolding ReadsOn
on_done h s bytes t begun xs e =
    let w = item_waits h s bytes t begun e in
    let none = ap (λ (m : Meant). m.chunks) (meaning_done h s bytes (waits t begun) e) in
    rw (none, w.1, ← w.0) refl

by_item : (h : Head) (s : Known) (bytes : List ℕ) (t : Known) (begun xs : List ℕ) (i : Item)
    → ((u : Known) (rest : List ℕ) → length rest < length bytes → (meaning h u rest).end ≡ waits t begun → ReadsOn h u rest t begun xs)
    → (meaning h s bytes).end ≡ waits t begun → item h s bytes ≡ i → ReadsOn h s bytes t begun xs
by_item h s bytes t begun xs (more c u rest) again e i =
    on_more h s bytes c u rest t begun xs i
    (again u rest (item_shorter h s bytes c u rest i) (sym (ap (λ (m : Meant). m.end) (meaning_more h s bytes c u rest i)) ∙ e))
by_item h s bytes t begun xs (done d) again e i =
    on_done h s bytes t begun xs (i ∙ ap done (sym (ap (λ (m : Meant). m.end) (meaning_done h s bytes d i)) ∙ e))

within : (h : Head) (k : ℕ) (s : Known) (bytes : List ℕ) (t : Known) (begun xs : List ℕ) → length bytes < k → (meaning h s bytes).end ≡ waits t begun → ReadsOn h s bytes t begun xs
within h zero s bytes t begun xs a e = absurd (omega arith)
within h (suc k) s bytes t begun xs a e =
    by_item h s bytes t begun xs (item h s bytes) (λ u rest shorter d. within h k u rest t begun xs (omega arith) d) e refl

pub resumed : ResumeLaw
unfolding ReadsOn
resumed h s bytes t begun xs e = within h (suc (length bytes)) s bytes t begun xs (omega arith) e
