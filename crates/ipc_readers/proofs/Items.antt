-- What reads of a message give.
use Rattle.std.proofs.Common.{◌≡◌, ℕ, ◌≤◌, List, [], ◌++◌, length, Option, Some, None, Result, Ok, Err, refl, sym, ap, ◌∙◌, subst, inl, inr}
use Rattle.lower_arrays.specs.declared.array.AnyArray.{AnyArray}
use Rattle.ipc_devices.proofs.Claims.{claimed, claims_through}
use Rattle.ipc_devices.specs.declared.fault.Fault.{Fault}
use Rattle.ipc_model.specs.Frame.{Frame, message, mark, waiting, broken, frame}
use Rattle.ipc_model.specs.Streams.{Header, Known, header_of, more, done, faulty}
use Rattle.ipc_read.specs.Chunks.{chunk_seen}
use Rattle.ipc_readers.specs.ChosenStreams.{Request, chosen_body, chosen_frame, chosen_item, chosen_message}
use Rattle.ipc_readers.specs.Messages.{opened}
use Rattle.ipc_readers.specs.Streams.{BlamesBody, BlamesFront, BlamesOpened, GivesBody, FrontHolds, GivesItem, HeaderHolds, BodyGave, ItemGave, ItemStop, IsWithinMessage, ReadsBody, ReadsItem}
use Rattle.ipc_readers.specs.declared.read.stream.reader.Found.{Found}
use Rattle.ipc_readers.specs.declared.read.stream.reader.Found.TheVariants as fronts
use Rattle.ipc_devices.specs.Gives.{Stop, going, ended, stop_of, AnswerStop, FaultStop, Gives, GivesInOrder}
use Rattle.ipc_devices.proofs.Gave.{gave_then, gave_as}
use Rattle.ipc_readers.specs.Frames.{FrameGave, GivesFrame, IsFrame, due, frame_fault}
use Rattle.ipc_readers.specs.declared.read.begun.Frame.TheVariants as frames
use Rattle.ipc_devices.proofs.Stops.{fault_stop}

-- ---- what a frame was

pub is_message : (f : Frame) (m q rest : List ℕ) → IsFrame f frames.Message m q rest → f ≡ message m rest
is_message (message m' behind) m q rest h = cc (h.0, h.2)
is_message (mark behind) m q rest h = absurd h
is_message (waiting bytes) m q rest h = absurd h
is_message broken m q rest h = absurd h

is_mark : (f : Frame) (m q rest : List ℕ) → IsFrame f frames.Mark m q rest → f ≡ mark rest
is_mark (message m' behind) m q rest h = absurd h
is_mark (mark behind) m q rest h = cc (h.1)
is_mark (waiting bytes) m q rest h = absurd h
is_mark broken m q rest h = absurd h

is_waiting : (f : Frame) (m q rest : List ℕ) → IsFrame f frames.Waiting m q rest → f ≡ waiting q
is_waiting (message m' behind) m q rest h = absurd h
is_waiting (mark behind) m q rest h = absurd h
is_waiting (waiting bytes) m q rest h = cc h
is_waiting broken m q rest h = absurd h

-- There is no partial prefix after a message, nor after the mark.
pub none_begun : (f : Frame) (m q rest : List ℕ) → IsFrame f frames.Message m q rest → q ≡ []
none_begun (message m' behind) m q rest h = h.1
none_begun (mark behind) m q rest h = absurd h
none_begun (waiting bytes) m q rest h = absurd h
none_begun broken m q rest h = absurd h

none_marked : (f : Frame) (m q rest : List ℕ) → IsFrame f frames.Mark m q rest → q ≡ []
none_marked (message m' behind) m q rest h = absurd h
none_marked (mark behind) m q rest h = h.0
none_marked (waiting bytes) m q rest h = absurd h
none_marked broken m q rest h = absurd h

behind_none : (q rest : List ℕ) → q ≡ [] → q ++ rest ≡ rest
behind_none q rest e = rw e refl

-- ---- the item of a frame

item_of : (h : Request) (s : Known) (xs : List ℕ) (f : Frame) → frame xs ≡ f → chosen_item h s xs ≡ chosen_frame h s f
unfolding chosen_item
item_of h s xs f e = ap (chosen_frame h s) e

body_of : (h : Request) (s : Known) (xs m rest : List ℕ) (d : Option Header) → frame xs ≡ message m rest → header_of m ≡ d → chosen_item h s xs ≡ chosen_message h s d rest
body_of h s xs m rest d e f = item_of h s xs (message m rest) e ∙ ap (λ o. chosen_message h s o rest) f

-- The result of a body as one of a message.
abbrev pub as_found : Result (Option (List AnyArray)) Fault → Result Found Fault
as_found (Ok (Some chunk)) = Ok (fronts.Chunk chunk)
as_found (Ok None) = Ok fronts.Dictionary
as_found (Err e) = Err e

body_is_front : (h : Request) (s : Known) (xs m rest left : List ℕ) (d : Header) (q : List ℕ) (r : Result (Option (List AnyArray)) Fault) (l : Known) → frame xs ≡ message m rest
    → header_of m ≡ Some d → opened m ≡ Ok d → q ≡ [] → ReadsBody h s d rest r l left → ReadsItem h s xs (as_found r) l q (q ++ left)
body_is_front h s xs m rest left d q (Ok (Some chunk)) l e f opens none g =
    let holds : FrontHolds h (frame xs) chunk =
    subst (λ (y : Frame). FrontHolds h y chunk) (sym e) (subst (λ (o : Option Header). HeaderHolds h o chunk) (sym f) g.3) in
    (g.0, g.1, body_of h s xs m rest (Some d) e f ∙ g.2 ∙ ap (λ ys. more (Some (chunk_seen chunk)) g.0 ys) (sym (behind_none q left none)), holds)
body_is_front h s xs m rest left d q (Ok None) l e f opens none g =
    (g.0, g.1, body_of h s xs m rest (Some d) e f ∙ g.2 ∙ ap (λ ys. more None g.0 ys) (sym (behind_none q left none)))
body_is_front h s xs m rest left d q (Err x) l e f opens none g =
    claims_through x ((chosen_body h s d rest ≡ done faulty) × BlamesBody h s d rest x)
    ((chosen_item h s xs ≡ done faulty) × BlamesFront h s xs (frame xs) x)
    (λ k. (
      body_of h s xs m rest (Some d) e f ∙ k.0,
      subst (λ (y : Frame). BlamesFront h s xs y x) (sym e) (subst (λ (o : Result Header Fault). BlamesOpened h s o rest x) (sym opens) k.1),
    )) g

body_is_item : (h : Request) (k : Known) (xs m rest left : List ℕ) (d : Header) (q : List ℕ) (r : Result (Option (List AnyArray)) Fault) (l : Known) → frame xs ≡ message m rest
    → header_of m ≡ Some d → opened m ≡ Ok d → q ≡ [] → GivesBody h k d rest r l left → GivesItem h k xs (as_found r) l q (q ++ left)
body_is_item h k xs m rest left d q r l e f opens none g = record {
  each = λ s at. body_is_front h s xs m rest left d q r l e f opens none (g.each s at);
}

stop_is_item : (r : Result (Option (List AnyArray)) Fault) (s : Stop) → AnswerStop r s → ItemStop (as_found r) s
stop_is_item (Ok (Some chunk)) s h = h
stop_is_item (Ok None) s h = h
stop_is_item (Err e) s h = h

-- ---- what was given

module _ {S : Type 0} (gives : Gives S) where
  pub item_waits : (h : Request) (k : Known) (p q m : List ℕ) (a b : S) → FrameGave gives p a (Ok frames.Waiting) m q b → ItemGave gives h k p a (Ok fronts.Waiting) k q b
  item_waits h k p q m a b g = record {
    stop = ended;
    stops = refl;
    run = gave_as gives (λ xs. length (p ++ xs) ≤ due (p ++ xs)) (λ xs. IsWithinMessage (p ++ xs))
        (λ all rest. GivesFrame (frame (p ++ all)) (frame_fault (p ++ all)) (Ok frames.Waiting) m q rest) (λ all rest. GivesItem h k (p ++ all) (Ok fronts.Waiting) k q (q ++ rest)) a ended b
        (λ xs v _. record { within = inl v })
        (λ all rest f. record { each = λ s at. (at, item_of h s (p ++ all) (waiting q) (is_waiting (frame (p ++ all)) m q rest f)) }) g;
  }

  pub item_marks : (h : Request) (k : Known) (p q m : List ℕ) (a b : S) → FrameGave gives p a (Ok frames.Mark) m q b → ItemGave gives h k p a (Ok fronts.Mark) k q b
  item_marks h k p q m a b g = record {
    stop = going;
    stops = refl;
    run = gave_as gives (λ xs. length (p ++ xs) ≤ due (p ++ xs)) (λ xs. IsWithinMessage (p ++ xs))
        (λ all rest. GivesFrame (frame (p ++ all)) (frame_fault (p ++ all)) (Ok frames.Mark) m q rest) (λ all rest. GivesItem h k (p ++ all) (Ok fronts.Mark) k q (q ++ rest)) a going b
        (λ xs v _. record { within = inl v })
        (λ all rest f.
        let here = is_mark (frame (p ++ all)) m q rest f in
        record { each = λ s at. (item_of h s (p ++ all) (mark rest) here, here ∙ ap mark (sym (behind_none q rest (none_marked (frame (p ++ all)) m q rest f)))) }) g;
  }

  pub item_breaks : (h : Request) (k l : Known) (p q m : List ℕ) (a b : S) (e : Fault) → FrameGave gives p a (Err e) m q b → ItemGave gives h k p a (Err e) l q b
  item_breaks h k l p q m a b e g = record {
    stop = stop_of e;
    stops = fault_stop e;
    run = gave_as gives (λ xs. length (p ++ xs) ≤ due (p ++ xs)) (λ xs. IsWithinMessage (p ++ xs))
        (λ all rest. GivesFrame (frame (p ++ all)) (frame_fault (p ++ all)) (Err e) m q rest) (λ all rest. GivesItem h k (p ++ all) (Err e) l q (q ++ rest)) a (stop_of e) b
        (λ xs v _. record { within = inl v })
        (λ all rest f. record {
          each = λ s at. claims_through e ((frame (p ++ all) ≡ broken) × (e ≡ frame_fault (p ++ all)))
              ((chosen_item h s (p ++ all) ≡ done faulty) × BlamesFront h s (p ++ all) (frame (p ++ all)) e)
              (λ c. (item_of h s (p ++ all) broken c.0, subst (λ (y : Frame). BlamesFront h s (p ++ all) y e) (sym c.0) c.1)) f;
        }) g;
  }

  -- A message whose metadata have no meaning.
  pub item_unopened : (h : Request) (k l : Known) (p q m : List ℕ) (a b : S) (e : Fault) → FaultStop e going → header_of m ≡ None → opened m ≡ Err e
      → FrameGave gives p a (Ok frames.Message) m q b → ItemGave gives h k p a (Err e) l q b
  item_unopened h k l p q m a b e own none opens g = record {
    stop = going;
    stops = own;
    run = gave_as gives (λ xs. length (p ++ xs) ≤ due (p ++ xs)) (λ xs. IsWithinMessage (p ++ xs))
        (λ all rest. GivesFrame (frame (p ++ all)) (frame_fault (p ++ all)) (Ok frames.Message) m q rest) (λ all rest. GivesItem h k (p ++ all) (Err e) l q (q ++ rest)) a going b
        (λ xs v _. record { within = inl v })
        (λ all rest f.
        let here = is_message (frame (p ++ all)) m q rest f in
        record {
          each = λ s at. claimed e ((chosen_item h s (p ++ all) ≡ done faulty) × BlamesFront h s (p ++ all) (frame (p ++ all)) e) (
            body_of h s (p ++ all) m rest None here none,
            subst (λ (y : Frame). BlamesFront h s (p ++ all) y e) (sym here) (subst (λ (o : Result Header Fault). BlamesOpened h s o rest e) (sym opens) refl),
          );
        }) g;
  }

  pub item_then : GivesInOrder gives → (h : Request) (k l : Known) (p q m : List ℕ) (d : Header) (r : Result (Option (List AnyArray)) Fault) (a b c : S) → header_of m ≡ Some d → opened m ≡ Ok d
      → FrameGave gives p a (Ok frames.Message) m q b → BodyGave gives h k d b r l c → ItemGave gives h k p a (as_found r) l q c
  item_then law h k l p q m d r a b c there opens before behind = record {
    stop = behind.stop;
    stops = stop_is_item r behind.stop behind.stops;
    run = gave_then gives law (λ xs. length (p ++ xs) ≤ due (p ++ xs)) (λ xs. length xs ≤ d.body) (λ xs. IsWithinMessage (p ++ xs))
        (λ all rest. GivesFrame (frame (p ++ all)) (frame_fault (p ++ all)) (Ok frames.Message) m q rest) (λ all rest. GivesBody h k d all r l rest)
        (λ all rest. GivesItem h k (p ++ all) (as_found r) l q (q ++ rest)) a b behind.stop c
        (λ xs ys v w f. record { within = inr (m, ys, d, is_message (frame (p ++ (xs ++ ys))) m q ys (f ys), there, w) })
        (λ all mid rest f g. body_is_item h k (p ++ all) m mid rest d q r l (is_message (frame (p ++ all)) m q mid f) there opens (none_begun (frame (p ++ all)) m q mid f) g)
        before behind.run;
  }
