-- No byte after a message or after the mark is read.
use Rattle.std.proofs.Common.{◌≡◌, ℕ, ◌+◌, ◌==◌, ◌^◌, ◌≤◌, nat_lt, if◌then◌else◌, List, [], ◌∷◌, length, take, drop, Option, Some, None, Bool, true, false, refl, sym, ap, ◌∙◌, subst, inl, inr, length-drop, arith}
use Rattle.std.proofs.lemmas.Bool.{ltb-false, eqb-true}
use Rattle.ipc_model.specs.Batches.{Chunk}
use Rattle.ipc_model.specs.Entries.{Dictionaries}
use Rattle.ipc_model.specs.Frame.{Frame, message, mark, waiting, broken, frame, marked, sized, word}
use Rattle.ipc_model.specs.Streams.{Header, Known, done, faulty, header_of, more, most_dictionaries, waits, with_chunk, with_dictionaries}
use Rattle.ipc_readers.proofs.ChosenStreams.{chosen_done}
use Rattle.ipc_readers.specs.ChosenStreams.{Request, chosen_body, chosen_frame, chosen_item, chosen_meaning, chosen_message}
use Rattle.ipc_readers.specs.Frames.{due, due_marked, due_sized}
use Rattle.ipc_readers.specs.Streams.{IsWithinMessage}

no_bytes : (xs : List ℕ) → length xs ≡ 0 → xs ≡ []
no_bytes [] e = refl
no_bytes (x ∷ xs) e = absurd (omega (arith, e))

-- ---- a frame, and what is due of it

-- Of n bytes, those after a message or the mark aren't due.
abbrev Leaves : Frame → (d n : ℕ) → Type 0
Leaves (message m rest) d n = n ≡ d + length rest
Leaves (mark rest) d n = n ≡ d + length rest
Leaves (waiting begun) d n = Unit {0}
Leaves broken d n = Unit {0}

sized_by : (small none short : Bool) (n : ℕ) (bytes : List ℕ) → (none ≡ true → n ≡ 0) → (short ≡ false → n ≤ length bytes)
    → Leaves (if small then (if none then mark bytes else if short then broken else message (take n bytes) (drop n bytes)) else broken) (if small then n else 0) (length bytes)
sized_by false none short n bytes z w = tt
sized_by true true short n bytes z w = omega (arith, z refl)
sized_by true false true n bytes z w = tt
sized_by true false false n bytes z w = omega (arith, w refl, length-drop n bytes)

sized_leaves : (n : ℕ) (bytes : List ℕ) → Leaves (sized n bytes) (due_sized n) (length bytes)
unfolding sized
sized_leaves n bytes = sized_by (nat_lt n (2 ^ 31)) (n == 0) (nat_lt (length bytes) n) n bytes (eqb-true n 0) (ltb-false (length bytes) n)

-- The same after 4 bytes.
four_more : (f : Frame) (d k n : ℕ) → n ≡ 4 + k → Leaves f d k → Leaves f (4 + d) n
four_more (message m rest) d k n e h = omega (arith, e, h)
four_more (mark rest) d k n e h = omega (arith, e, h)
four_more (waiting begun) d k n e h = tt
four_more broken d k n e h = tt

behind_four : (f : Frame) (d : ℕ) (bytes : List ℕ) → nat_lt (length bytes) 4 ≡ false → Leaves f d (length (drop 4 bytes)) → Leaves f (4 + d) (length bytes)
behind_four f d bytes long h =
    let some : 4 ≤ length bytes = ltb-false (length bytes) 4 long in
    four_more f d (length (drop 4 bytes)) (length bytes) (omega (arith, some, length-drop 4 bytes)) h

marked_by : (short : Bool) (f : Frame) (d n : ℕ) → (short ≡ false → Leaves f (4 + d) n) → Leaves (if short then broken else f) (if short then 4 else 4 + d) n
marked_by true f d n h = tt
marked_by false f d n h = h refl

marked_leaves : (bytes : List ℕ) → Leaves (marked bytes) (due_marked bytes) (length bytes)
unfolding marked due_marked
marked_leaves bytes = marked_by (nat_lt (length bytes) 4) (sized (word bytes) (drop 4 bytes)) (due_sized (word bytes)) (length bytes)
    (λ long. behind_four (sized (word bytes) (drop 4 bytes)) (due_sized (word bytes)) bytes long (sized_leaves (word bytes) (drop 4 bytes)))

frame_by : (short newer : Bool) (bytes : List ℕ) (f g : Frame) (d e n : ℕ) → (short ≡ false → Leaves f (4 + d) n × Leaves g (4 + e) n)
    → Leaves (if short then waiting bytes else if newer then f else g) (if short then 4 else if newer then 4 + d else 4 + e) n
frame_by true newer bytes f g d e n h = tt
frame_by false true bytes f g d e n h = (h refl).0
frame_by false false bytes f g d e n h = (h refl).1

frame_leaves : (bytes : List ℕ) → Leaves (frame bytes) (due bytes) (length bytes)
unfolding frame due
frame_leaves bytes = frame_by (nat_lt (length bytes) 4) (word bytes == 0xFFFF_FFFF) bytes (marked (drop 4 bytes)) (sized (word bytes) (drop 4 bytes)) (due_marked (drop 4 bytes)) (due_sized (word bytes)) (length bytes)
    (λ long. (
      behind_four (marked (drop 4 bytes)) (due_marked (drop 4 bytes)) bytes long (marked_leaves (drop 4 bytes)),
      behind_four (sized (word bytes) (drop 4 bytes)) (due_sized (word bytes)) bytes long (sized_leaves (word bytes) (drop 4 bytes)),
    ))

-- ---- the mark

pub mark_whole : (bytes rest : List ℕ) → frame bytes ≡ mark rest → IsWithinMessage bytes → rest ≡ []
mark_whole bytes rest is within = elim within.within [
  | inl short ↦
      let all : length bytes ≡ due bytes + length rest = subst (λ (f : Frame). Leaves f (due bytes) (length bytes)) is (frame_leaves bytes) in
      no_bytes rest (omega (arith, all, short))
  | inr it ↦ (let no : message it.0 it.1 ≡ mark rest = sym it.3 ∙ is in absurd cc)
]

-- ---- a message

chunk_left : (o : Option Chunk) (s : Known) (a : List ℕ) (c : Option Chunk) (t : Known) (rest : List ℕ) → with_chunk o s a ≡ more c t rest → a ≡ rest
chunk_left None s a c t rest e = absurd cc
chunk_left (Some x) s a c t rest e = cc

known_left : (o : Option Dictionaries) (s : Known) (a : List ℕ) (c : Option Chunk) (t : Known) (rest : List ℕ) → with_dictionaries o s a ≡ more c t rest → a ≡ rest
known_left None s a c t rest e = absurd cc
known_left (Some x) s a c t rest e = cc

body_by : (cut is_record is_dictionary room : Bool) (o : Option Chunk) (p : Option Dictionaries) (s : Known) (a : List ℕ) (c : Option Chunk) (t : Known) (rest : List ℕ)
    → (if cut then done faulty else if is_record then with_chunk o s a else if is_dictionary then (if room then with_dictionaries p s a else done faulty) else done faulty) ≡ more c t rest → a ≡ rest
body_by true is_record is_dictionary room o p s a c t rest e = absurd cc
body_by false true is_dictionary room o p s a c t rest e = chunk_left o s a c t rest e
body_by false false true true o p s a c t rest e = known_left p s a c t rest e
body_by false false true false o p s a c t rest e = absurd cc
body_by false false false room o p s a c t rest e = absurd cc

body_left : (h : Request) (s : Known) (m : Header) (r : List ℕ) (c : Option Chunk) (t : Known) (rest : List ℕ) → chosen_body h s m r ≡ more c t rest → drop m.body r ≡ rest
unfolding chosen_body
body_left h s m r c t rest e = body_by (nat_lt (length r) m.body) (m.tag == 3) (m.tag == 2) (nat_lt s.count most_dictionaries) _ _ s (drop m.body r) c t rest e

-- At most the body was read.
body_short : (bytes m r : List ℕ) (d : Header) → frame bytes ≡ message m r → header_of m ≡ Some d → IsWithinMessage bytes → length r ≤ d.body
body_short bytes m r d is header within = elim within.within [
  | inl short ↦
      let all : length bytes ≡ due bytes + length r = subst (λ (f : Frame). Leaves f (due bytes) (length bytes)) is (frame_leaves bytes) in
      omega (arith, all, short)
  | inr it ↦
      let same : message it.0 it.1 ≡ message m r = sym it.3 ∙ is in
      let metadata : it.0 ≡ m = cc in
      let rest : it.1 ≡ r = cc in
      let both : Some it.2 ≡ Some d = sym it.4 ∙ ap header_of metadata ∙ header in
      let one : it.2 ≡ d = cc in
      omega (arith, it.5, ap (λ (xs : List ℕ). length xs) rest, ap (λ (x : Header). x.body) one)
]

message_whole : (h : Request) (s : Known) (bytes m r : List ℕ) (o : Option Header) (c : Option Chunk) (t : Known) (rest : List ℕ) → frame bytes ≡ message m r → header_of m ≡ o
    → chosen_message h s o r ≡ more c t rest → IsWithinMessage bytes → rest ≡ []
message_whole h s bytes m r None c t rest is header e within = absurd cc
message_whole h s bytes m r (Some d) c t rest is header e within =
    let short : length r ≤ d.body = body_short bytes m r d is header within in
    no_bytes rest (omega (arith, short, ap (λ (xs : List ℕ). length xs) (body_left h s d r c t rest e), length-drop d.body r))

frame_whole : (h : Request) (s : Known) (bytes : List ℕ) (f : Frame) (c : Option Chunk) (t : Known) (rest : List ℕ) → frame bytes ≡ f → chosen_frame h s f ≡ more c t rest → IsWithinMessage bytes → rest ≡ []
frame_whole h s bytes (message m r) c t rest is e within = message_whole h s bytes m r (header_of m) c t rest is refl e within
frame_whole h s bytes (mark r) c t rest is e within = absurd cc
frame_whole h s bytes (waiting begun) c t rest is e within = absurd cc
frame_whole h s bytes broken c t rest is e within = absurd cc

pub item_whole : (h : Request) (s : Known) (bytes : List ℕ) (c : Option Chunk) (t : Known) (rest : List ℕ) → chosen_item h s bytes ≡ more c t rest → IsWithinMessage bytes → rest ≡ []
unfolding chosen_item
item_whole h s bytes c t rest e within = frame_whole h s bytes (frame bytes) c t rest refl e within

-- ---- no byte yet

nothing_ahead : (h : Request) (s : Known) → chosen_item h s [] ≡ done (waits s [])
unfolding chosen_item frame
nothing_ahead h s = refl

-- Without any bytes, the stream waits for the next message.
pub waits_for_next : (h : Request) (s : Known) → chosen_meaning h s [] ≡ record { chunks = []; end = waits s [] }
waits_for_next h s = chosen_done h s [] (waits s []) (nothing_ahead h s)
