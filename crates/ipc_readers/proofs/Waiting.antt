-- A stream that waits, with its partial prefix.
use Rattle.ipc_devices.specs.Device.{Device}
use Rattle.std.proofs.Common.{◌≡◌, ℕ, zero, suc, List, [], ◌++◌, Some, None, Ok, refl, subst, sym, ap, ◌∙◌, append-nil}
use Rattle.ipc_stream_lemmas.specs.Agreement.{AreAt}
use Rattle.ipc_model.specs.Streams.{Known, more}
use Rattle.ipc_readers.proofs.ChosenStreams.{chosen_waits}
use Rattle.ipc_readers.specs.ChosenStreams.{Request, chosen_item}
use Rattle.ipc_readers.specs.Streams.{ItemsGave, request_of, begun_of, device_of, known_of}
use Rattle.ipc_devices.specs.Gives.{Stop, going, ended, Follows, Gives, GivesCounted, GivesInOrder}
use Rattle.ipc_readers.specs.Runs.{Passed, WaitsLaw}
use Rattle.ipc_readers.specs.declared.read.stream.reader.StreamReader.{StreamReader}
use Rattle.ipc_readers.specs.declared.read.stream.reader.StreamState.TheVariants as states

follows_end : (s : Stop) → s ≡ ended → Follows s []
follows_end s e = subst (λ (x : Stop). Follows x []) (sym e) refl

follows_going : (s : Stop) (ys : List ℕ) → s ≡ going → Follows s ys
follows_going s ys e = subst (λ (x : Stop). Follows x ys) (sym e) tt

-- The bytes that were read before the device had no more.
pub record GaveAll {S : Type 0} (gives : Gives S) (h : Request) (k : Known) (p : List ℕ) (a : S) (l : Known) (q : List ℕ) (b : S) : Type 0 where
  pub bytes : List ℕ
  pub gave : gives a bytes ended b
  pub kept : (s : Known) → AreAt s k → Passed h s (p ++ bytes) l q

passed_more : (h : Request) (s t : Known) (xs zs : List ℕ) (l : Known) (q : List ℕ) → chosen_item h s xs ≡ more None t zs → Passed h t zs l q → Passed h s xs l q
passed_more h s t xs zs l q e p = record { count = suc p.count; known = p.known; at = p.at; passes = (t, zs, e, p.passes) }

module _ {S : Type 0} (gives : Gives S) (law : GivesInOrder gives) (h : Request) where
  items_wait : (n : ℕ) (k l : Known) (p q : List ℕ) (a b : S) → ItemsGave gives h n k p a (Ok (Some states.Waiting)) l q b → GaveAll gives h k p a l q b
  items_wait zero k l p q a b g =
      let run = g.0.run in
      let stops = g.0.stops in
      record {
        bytes = run.bytes;
        gave = subst (λ (x : Stop). gives a run.bytes x b) stops run.gave;
        kept = λ s at.
            let read = (run.holds [] (follows_end g.0.stop stops)).each s at in
            let all = chosen_waits h s (p ++ (run.bytes ++ [])) s q read.1 in
            record { count = 0; known = s; at = read.0; passes = (refl, sym (all.0 ∙ ap (λ (l : List ℕ). p ++ l) (append-nil run.bytes))) };
      }
  items_wait (suc n) k l p q a b g =
      let u = g.0 in
      let v = g.1 in
      let c = g.2 in
      let run = g.3.run in
      let rest = items_wait n u l v q c b g.4 in
      record {
        bytes = run.bytes ++ rest.bytes;
        gave = law a run.bytes c rest.bytes ended b (subst (λ (x : Stop). gives a run.bytes x c) g.3.stops run.gave) rest.gave;
        kept = λ s at.
            let read = (run.holds rest.bytes (follows_going g.3.stop rest.bytes g.3.stops)).each s at in
            passed_more h s read.0 (p ++ (run.bytes ++ rest.bytes)) (v ++ rest.bytes) l q read.2 (rest.kept read.0 read.1);
      }

pub waits_with_all : {R : Type 0} (gives : Gives R) (d : Device R) → GivesInOrder gives → GivesCounted gives d.given → (a : StreamReader R)
    → WaitsLaw gives d a
waits_with_all gives d law counts a b going_on step =
    let g = step.gave going_on in
    let all = items_wait gives law (request_of a) g.passed (known_of a) (known_of b) (begun_of a) (begun_of b) (device_of a) (device_of b) g.items in
    record {
      bytes = all.bytes;
      gave = all.gave;
      kept = all.kept;
      counted = counts (device_of a) all.bytes ended (device_of b) all.gave;
    }
