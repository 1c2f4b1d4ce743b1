-- A frame is its prefix, and then what that states.
use Rattle.std.proofs.Common.{◌≡◌, ◌≢◌, ℕ, ◌+◌, ◌<◌, ◌≤◌, List, [], ◌++◌, length, drop, Some, None, Result, Ok, Err, refl, sym, ap, ◌∙◌, subst, arith, length-append, append_assoc}
use Rattle.std.proofs.lemmas.Bool.Decides.{nat_tests}
use Rattle.std.proofs.lemmas.Bool.{le-ltb, lt-ltb, eq-eqb, ne_eqb}
use Rattle.std.specs.declared.io.Error.{Error}
use Rattle.ipc_devices.specs.declared.fault.Fault.{Fault}
use Rattle.ipc_devices.specs.declared.fault.Fault.TheVariants.{Ended, Io}
use Rattle.ipc_model.specs.Frame.{Frame, waiting, broken, frame, marked, sized, word}
use Rattle.ipc_model.proofs.Frames.{marked_is, frame_newer}
use Rattle.ipc_devices.specs.Gives.{Stop, going, ended, failed, Gives, GivesInOrder, Gave}
use Rattle.ipc_devices.proofs.Gave.{gave_then, gave_as}
use Rattle.ipc_readers.specs.Frames.{due, due_marked, due_sized, frame_fault, frame_stop, marked_fault, sized_fault, GivesWord, GivesFrame, WordGave, SizedGave, MarkedGave, FrameGave}
use Rattle.ipc_readers.specs.declared.read.begun.Frame as read
use Rattle.ipc_readers.specs.declared.read.begun.Frame.TheVariants as frames

pub frame_older : (bytes : List ℕ) → 4 ≤ length bytes → word bytes ≢ 0xFFFF_FFFF → frame bytes ≡ sized (word bytes) (drop 4 bytes)
unfolding frame
frame_older bytes h e = rw (le-ltb (length bytes) 4 h, ne_eqb (word bytes) 0xFFFF_FFFF e) refl

pub frame_waiting : (bytes : List ℕ) → length bytes < 4 → frame bytes ≡ waiting bytes
unfolding frame
frame_waiting bytes h = grind (arith, nat_tests)

pub marked_broken : (bytes : List ℕ) → length bytes < 4 → marked bytes ≡ broken
unfolding marked
marked_broken bytes h = grind (arith, nat_tests)

due_older : (bytes : List ℕ) → 4 ≤ length bytes → word bytes ≢ 0xFFFF_FFFF → due bytes ≡ 4 + due_sized (word bytes)
unfolding due
due_older bytes h e = rw (le-ltb (length bytes) 4 h, ne_eqb (word bytes) 0xFFFF_FFFF e) refl

due_newer : (bytes : List ℕ) → 4 ≤ length bytes → word bytes ≡ 0xFFFF_FFFF → due bytes ≡ 4 + due_marked (drop 4 bytes)
unfolding due
due_newer bytes h e = rw (le-ltb (length bytes) 4 h, eq-eqb (word bytes) 0xFFFF_FFFF e) refl

due_marked_is : (bytes : List ℕ) → 4 ≤ length bytes → due_marked bytes ≡ 4 + due_sized (word bytes)
unfolding due_marked
due_marked_is bytes h = rw (le-ltb (length bytes) 4 h) refl

pub four_marked : (bytes : List ℕ) → 4 ≤ due_marked bytes
unfolding due_marked
four_marked bytes = grind (arith, nat_tests)

pub four_due : (bytes : List ℕ) → 4 ≤ due bytes
unfolding due
four_due bytes = grind (arith, nat_tests)

-- ---- the error of a broken frame

fault_older : (bytes : List ℕ) → word bytes ≢ 0xFFFF_FFFF → frame_fault bytes ≡ sized_fault (word bytes)
unfolding frame_fault
fault_older bytes e = rw (ne_eqb (word bytes) 0xFFFF_FFFF e) refl

fault_newer : (bytes : List ℕ) → word bytes ≡ 0xFFFF_FFFF → frame_fault bytes ≡ marked_fault (drop 4 bytes)
unfolding frame_fault
fault_newer bytes e = rw (eq-eqb (word bytes) 0xFFFF_FFFF e) refl

fault_marked : (bytes : List ℕ) → 4 ≤ length bytes → marked_fault bytes ≡ sized_fault (word bytes)
unfolding marked_fault
fault_marked bytes h = rw (le-ltb (length bytes) 4 h) refl

fault_alone : (bytes : List ℕ) → length bytes < 4 → Ended ≡ marked_fault bytes
unfolding marked_fault
fault_alone bytes h = rw (lt-ltb (length bytes) 4 h) refl

module _ {S : Type 0} (gives : Gives S) (law : GivesInOrder gives) where
  -- 4 bytes, and then a frame as they state.
  prefix_then : (F f : List ℕ → Frame) (W w : List ℕ → Fault) (D d : List ℕ → ℕ) (n : ℕ)
      → ((bytes : List ℕ) → 4 ≤ length bytes → n ≡ word bytes → (F bytes ≡ f (drop 4 bytes)) × (W bytes ≡ w (drop 4 bytes)) × (D bytes ≡ 4 + d (drop 4 bytes)))
      → (p q m s : List ℕ) (r : Result read.Frame Fault) (a b : S) (e : Stop) (c : S)
      → Gave gives (λ xs. length (p ++ xs) ≤ 4) (λ all rest. GivesWord (p ++ all) (Some n) q rest) a going b
      → Gave gives (λ xs. length (q ++ xs) ≤ d (q ++ xs)) (λ all rest. GivesFrame (f (q ++ all)) (w (q ++ all)) r m s rest) b e c
      → Gave gives (λ xs. length (p ++ xs) ≤ D (p ++ xs)) (λ all rest. GivesFrame (F (p ++ all)) (W (p ++ all)) r m s rest) a e c
  prefix_then F f W w D d n split p q m s r a b e c before behind = gave_then gives law
      (λ xs. length (p ++ xs) ≤ 4) (λ xs. length (q ++ xs) ≤ d (q ++ xs)) (λ xs. length (p ++ xs) ≤ D (p ++ xs))
      (λ all rest. GivesWord (p ++ all) (Some n) q rest) (λ all rest. GivesFrame (f (q ++ all)) (w (q ++ all)) r m s rest)
      (λ all rest. GivesFrame (F (p ++ all)) (W (p ++ all)) r m s rest)
      a b e c
      (λ xs ys v u h.
      let here = h ys in
      let k = split (p ++ (xs ++ ys)) here.0 here.1 in
      let tail : ys ≡ drop 4 (p ++ (xs ++ ys)) = here.3 in
      let bound : length ys ≤ d ys = subst (λ (l : List ℕ). length (l ++ ys) ≤ d (l ++ ys)) here.2 u in
      let there : d (drop 4 (p ++ (xs ++ ys))) ≡ d ys = ap d (sym tail) in
      let sum : length (p ++ (xs ++ ys)) ≡ length (p ++ xs) + length ys = ap length (sym (append_assoc p xs ys)) ∙ length-append (p ++ xs) ys in
      omega (arith, k.2, there, bound, sum, v))
      (λ all mid rest g h.
      let k = split (p ++ all) g.0 g.1 in
      let left : q ++ mid ≡ drop 4 (p ++ all) = ap (λ (l : List ℕ). l ++ mid) g.2 ∙ g.3 in
      let same : f (q ++ mid) ≡ F (p ++ all) = ap f left ∙ sym k.0 in
      let named : w (q ++ mid) ≡ W (p ++ all) = ap w left ∙ sym k.1 in
      subst (λ (x : Frame). GivesFrame x (W (p ++ all)) r m s rest) same (subst (λ (x : Fault). GivesFrame (f (q ++ mid)) x r m s rest) named h))
      before behind

  -- What is read after a prefix, without a partial prefix.
  sized_behind : (n : ℕ) (q m : List ℕ) (r : Result read.Frame Fault) (b : S) (e : Stop) (c : S) → q ≡ []
      → Gave gives (λ xs. length xs ≤ due_sized n) (λ all rest. GivesFrame (sized n all) (sized_fault n) r m [] rest) b e c
      → Gave gives (λ xs. length (q ++ xs) ≤ due_sized n) (λ all rest. GivesFrame (sized n (q ++ all)) (sized_fault n) r m q rest) b e c
  sized_behind n q m r b e c none g =
      subst (λ (l : List ℕ). Gave gives (λ xs. length (l ++ xs) ≤ due_sized n) (λ all rest. GivesFrame (sized n (l ++ all)) (sized_fault n) r m l rest) b e c) (sym none) g

  pub older_then : (n : ℕ) → n ≢ 0xFFFF_FFFF → (p q m : List ℕ) (r : Result read.Frame Fault) (a b c : S)
      → WordGave {E = Error} gives p a (Ok (Some n)) q b → SizedGave gives n b r m c → FrameGave gives p a r m q c
  older_then n other p q m r a b c before behind =
      prefix_then frame (sized n) frame_fault (λ _. sized_fault n) due (λ _. due_sized n) n
      (λ bytes h v. (
        frame_older bytes h (λ x. other (v ∙ x)) ∙ ap (λ k. sized k (drop 4 bytes)) (sym v),
        fault_older bytes (λ x. other (v ∙ x)) ∙ ap sized_fault (sym v),
        due_older bytes h (λ x. other (v ∙ x)) ∙ ap (λ k. 4 + due_sized k) (sym v),
      ))
      p q m q r a b (frame_stop r) c before (sized_behind n q m r b (frame_stop r) c (before.holds [] tt).2 behind)

  marked_then : (n : ℕ) (p q m : List ℕ) (r : Result read.Frame Fault) (a b c : S)
      → WordGave {E = Error} gives p a (Ok (Some n)) q b → SizedGave gives n b r m c → MarkedGave gives p a r m q c
  marked_then n p q m r a b c before behind =
      prefix_then marked (sized n) marked_fault (λ _. sized_fault n) due_marked (λ _. due_sized n) n
      (λ bytes h v. (
        marked_is bytes h ∙ ap (λ k. sized k (drop 4 bytes)) (sym v),
        fault_marked bytes h ∙ ap sized_fault (sym v),
        due_marked_is bytes h ∙ ap (λ k. 4 + due_sized k) (sym v),
      ))
      p q m q r a b (frame_stop r) c before (sized_behind n q m r b (frame_stop r) c (before.holds [] tt).2 behind)

  newer_then : (p q m s : List ℕ) (r : Result read.Frame Fault) (a b c : S)
      → WordGave {E = Error} gives p a (Ok (Some 0xFFFF_FFFF)) q b → MarkedGave gives q b r m s c → FrameGave gives p a r m s c
  newer_then p q m s r a b c before behind =
      prefix_then frame marked frame_fault marked_fault due due_marked 0xFFFF_FFFF
      (λ bytes h v. (frame_newer bytes h (sym v), fault_newer bytes (sym v), due_newer bytes h (sym v)))
      p q m s r a b (frame_stop r) c before behind

  -- The continuation marker, and the length after it.
  pub both_then : (n k : ℕ) → n ≡ 0xFFFF_FFFF → (p q s m : List ℕ) (r : Result read.Frame Fault) (a b c d : S)
      → WordGave {E = Error} gives p a (Ok (Some n)) q b → WordGave {E = Error} gives q b (Ok (Some k)) s c → SizedGave gives k c r m d
      → FrameGave gives p a r m s d
  both_then n k marker p q s m r a b c d first second behind =
      newer_then p q m s r a b d (subst (λ (x : ℕ). WordGave {E = Error} gives p a (Ok (Some x)) q b) marker first) (marked_then k q s m r b c d second behind)

  -- Fewer than 4 bytes after the marker.
  pub marker_alone : (n : ℕ) → n ≡ 0xFFFF_FFFF → (p q s m : List ℕ) (a b c : S)
      → WordGave {E = Error} gives p a (Ok (Some n)) q b → WordGave {E = Error} gives q b (Ok None) s c → FrameGave gives p a (Err Ended) m s c
  marker_alone n marker p q s m a b c first second =
      newer_then p q m s (Err Ended) a b c (subst (λ (x : ℕ). WordGave {E = Error} gives p a (Ok (Some x)) q b) marker first)
      (gave_as gives (λ xs. length (q ++ xs) ≤ 4) (λ xs. length (q ++ xs) ≤ due_marked (q ++ xs))
      (λ all rest. GivesWord (q ++ all) None s rest) (λ all rest. GivesFrame (marked (q ++ all)) (marked_fault (q ++ all)) (Err Ended) m s rest) b ended c
      (λ xs v h. omega (arith, v, four_marked (q ++ xs))) (λ all rest g. (marked_broken (q ++ all) g.0, fault_alone (q ++ all) g.0)) second)

  -- A device that failed after the marker.
  pub marker_failed : (n : ℕ) → n ≡ 0xFFFF_FFFF → (e : Error) (p q s m : List ℕ) (a b c : S)
      → WordGave {E = Error} gives p a (Ok (Some n)) q b → WordGave gives q b (Err e) s c → FrameGave gives p a (Err (Io e)) m s c
  marker_failed n marker e p q s m a b c first second =
      newer_then p q m s (Err (Io e)) a b c (subst (λ (x : ℕ). WordGave {E = Error} gives p a (Ok (Some x)) q b) marker first)
      (gave_as gives (λ xs. length (q ++ xs) ≤ 4) (λ xs. length (q ++ xs) ≤ due_marked (q ++ xs))
      (λ all rest. Unit {0}) (λ all rest. Unit {0}) b failed c
      (λ xs v h. omega (arith, v, four_marked (q ++ xs))) (λ all rest g. tt) second)

  pub word_failed : (e : Error) (p q m : List ℕ) (a b : S) → WordGave gives p a (Err e) q b → FrameGave gives p a (Err (Io e)) m q b
  word_failed e p q m a b first = gave_as gives (λ xs. length (p ++ xs) ≤ 4) (λ xs. length (p ++ xs) ≤ due (p ++ xs))
      (λ all rest. Unit {0}) (λ all rest. Unit {0}) a failed b (λ xs v h. omega (arith, v, four_due (p ++ xs))) (λ all rest g. tt) first

  pub word_waits : (p q m : List ℕ) (a b : S) → WordGave {E = Error} gives p a (Ok None) q b → FrameGave gives p a (Ok frames.Waiting) m q b
  word_waits p q m a b first = gave_as gives (λ xs. length (p ++ xs) ≤ 4) (λ xs. length (p ++ xs) ≤ due (p ++ xs))
      (λ all rest. GivesWord (p ++ all) None q rest) (λ all rest. GivesFrame (frame (p ++ all)) (frame_fault (p ++ all)) (Ok frames.Waiting) m q rest) a ended b
      (λ xs v h. omega (arith, v, four_due (p ++ xs))) (λ all rest g. rw (frame_waiting (p ++ all) g.0) g.1) first
