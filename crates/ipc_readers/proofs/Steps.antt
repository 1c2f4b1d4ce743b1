-- What the messages that were read say of the meaning of a stream.
use Rattle.std.proofs.Common.{◌≡◌, ℕ, zero, suc, List, [], ◌++◌, IsTrue, Option, None, Some, Result, Ok, Err, ◌∙◌}
use Rattle.ipc_devices.proofs.Claims.{claims_through}
use Rattle.ipc_devices.specs.Device.{Device, after}
use Rattle.ipc_devices.specs.Gives.{Gives, GivesAhead}
use Rattle.ipc_devices.specs.declared.fault.Fault.{Fault}
use Rattle.ipc_model.specs.Frame.{frame}
use Rattle.ipc_model.specs.Streams.{Known, done, faulty, marked, waits}
use Rattle.ipc_read.specs.Chunks.{chunk_seen}
use Rattle.ipc_readers.proofs.ChosenStreams.{chosen_done, chosen_more}
use Rattle.ipc_readers.proofs.OfMemory.{item_ahead}
use Rattle.ipc_readers.specs.ChosenStreams.{Request, chosen_item, chosen_meaning}
use Rattle.ipc_readers.specs.Streams.{BlamesFront, GivesNext, ItemsGave, NextGave, ReadsItem, ReadsNext, last_found}
use Rattle.ipc_readers.specs.declared.read.stream.reader.Found.TheVariants as fronts
use Rattle.ipc_readers.specs.declared.read.stream.reader.StreamState.{StreamState}
use Rattle.ipc_readers.specs.declared.read.stream.reader.StreamState.TheVariants as states

-- The first message, and so the next of the stream.
front_next : (h : Request) (s : Known) (xs : List ℕ) (r : Result (Option StreamState) Fault) (l : Known) (begun ys : List ℕ)
    → ReadsItem h s xs (last_found r) l begun ys → ReadsNext h s xs r l begun ys
front_next h s xs (Ok (Some (states.Some chunk))) l begun ys g = (g.0, g.1, chosen_more h s xs (Some (chunk_seen chunk)) g.0 ys g.2)
front_next h s xs (Ok (Some states.Waiting)) l begun ys g = (s, g.0, chosen_done h s xs (waits s begun) g.1)
front_next h s xs (Ok None) l begun ys g = chosen_done h s xs marked g.0
front_next h s xs (Err e) l begun ys g =
    claims_through e ((chosen_item h s xs ≡ done faulty) × BlamesFront h s xs (frame xs) e) (chosen_meaning h s xs ≡ record { chunks = []; end = faulty })
    (λ f. chosen_done h s xs faulty f.0) g

-- A dictionary message that comes first changes nothing of what comes after it.
passed_next : (h : Request) (s t : Known) (xs zs : List ℕ) (r : Result (Option StreamState) Fault) (l : Known) (begun ys : List ℕ)
    → chosen_meaning h s xs ≡ chosen_meaning h t zs → ReadsNext h t zs r l begun ys → ReadsNext h s xs r l begun ys
passed_next h s t xs zs (Ok (Some (states.Some chunk))) l begun ys e g = (g.0, g.1, e ∙ g.2)
passed_next h s t xs zs (Ok (Some states.Waiting)) l begun ys e g = (g.0, g.1, e ∙ g.2)
passed_next h s t xs zs (Ok None) l begun ys e g = e ∙ g
passed_next h s t xs zs (Err x) l begun ys e g =
    claims_through x (chosen_meaning h t zs ≡ record { chunks = []; end = faulty }) (chosen_meaning h s xs ≡ record { chunks = []; end = faulty }) (λ f. e ∙ f) g

module _ {S : Type 0} (gives : Gives S) (d : Device S) (law : GivesAhead d gives) (k : IsTrue d.is_memory) (h : Request) where
  items_ahead : (n : ℕ) (s₀ l : Known) (p q : List ℕ) (r : Result (Option StreamState) Fault) (a b : S) → ItemsGave gives h n s₀ p a r l q b
      → GivesNext h s₀ (p ++ after (d.memory a)) r l q (q ++ after (d.memory b))
  items_ahead zero s₀ l p q r a b g = record {
    each = λ s at. front_next h s (p ++ after (d.memory a)) r l q (q ++ after (d.memory b)) ((item_ahead gives d law k h s₀ l p q (last_found r) a b g.0).each s at);
  }
  items_ahead (suc n) s₀ l p q r a b g = record {
    each = λ s at.
        let u = g.0 in
        let v = g.1 in
        let c = g.2 in
        let first = (item_ahead gives d law k h s₀ u p v (Ok fronts.Dictionary) a c g.3).each s at in
        let rest = (items_ahead n u l v q r c b g.4).each first.0 first.1 in
        passed_next h s first.0 (p ++ after (d.memory a)) (v ++ after (d.memory c)) r l q (q ++ after (d.memory b))
        (chosen_more h s (p ++ after (d.memory a)) None first.0 (v ++ after (d.memory c)) first.2) rest;
  }

  pub next_ahead : (s₀ l : Known) (p q : List ℕ) (r : Result (Option StreamState) Fault) (a b : S) → NextGave gives h s₀ p a r l q b
      → GivesNext h s₀ (p ++ after (d.memory a)) r l q (q ++ after (d.memory b))
  next_ahead s₀ l p q r a b g = items_ahead g.passed s₀ l p q r a b g.items
