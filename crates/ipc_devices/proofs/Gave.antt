-- Runs of reads, one after another, and of memory.
use Rattle.std.proofs.Common.{ℕ, List, [], ◌++◌, refl, sym, ◌∙◌, subst, IsTrue, append_assoc, append-nil}
use Rattle.ipc_devices.specs.Device.{Device, after}
use Rattle.ipc_devices.specs.Gives.{Stop, going, ended, failed, Gives, GivesInOrder, GivesAhead, GivesNothing, Follows, Gave, GaveTo}

-- One run after another: what is left of the first is ahead of the second.
pub gave_then : {S : Type 0} (gives : Gives S) → GivesInOrder gives → (V W X : List ℕ → Type 0) (P Q T : List ℕ → List ℕ → Type 0) (a b : S) (e : Stop) (c : S)
    → ((xs ys : List ℕ) → V xs → W ys → ((zs : List ℕ) → P (xs ++ zs) zs) → X (xs ++ ys))
    → ((all mid rest : List ℕ) → P all mid → Q mid rest → T all rest)
    → Gave gives V P a going b → Gave gives W Q b e c → Gave gives X T a e c
gave_then gives law V W X P Q T a b e c bound joined p q = record {
  bytes = p.bytes ++ q.bytes;
  gave = law a p.bytes b q.bytes e c p.gave q.gave;
  within = bound p.bytes q.bytes p.within q.within (λ zs. p.holds zs tt);
  holds = λ ys f. subst (λ (l : List ℕ). T l ys) (sym (append_assoc p.bytes q.bytes ys))
      (joined (p.bytes ++ (q.bytes ++ ys)) (q.bytes ++ ys) ys (p.holds (q.bytes ++ ys) tt) (q.holds ys f));
}

-- Of memory: the bytes that were ahead, and those that are left.
pub gave_ahead : {S : Type 0} (gives : Gives S) (d : Device S) → GivesAhead d gives → IsTrue d.is_memory
    → (W : List ℕ → Type 0) (P : List ℕ → List ℕ → Type 0) (a b : S) → Gave gives W P a going b → P (after (d.memory a)) (after (d.memory b))
gave_ahead gives d law k W P a b g =
    subst (λ (l : List ℕ). P l (after (d.memory b))) (sym (law a g.bytes going b k g.gave)) (g.holds (after (d.memory b)) tt)

pub gave_to_end : {S : Type 0} (gives : Gives S) (d : Device S) → GivesAhead d gives → IsTrue d.is_memory
    → (W : List ℕ → Type 0) (P : List ℕ → List ℕ → Type 0) (a b : S) → Gave gives W P a ended b → P (after (d.memory a)) []
gave_to_end gives d law k W P a b g =
    subst (λ (l : List ℕ). P l []) (append-nil g.bytes ∙ sym (law a g.bytes ended b k g.gave)) (g.holds [] refl)

-- The same bytes, for what follows from what is known of them.
pub gave_as : {S : Type 0} (gives : Gives S) (V X : List ℕ → Type 0) (P T : List ℕ → List ℕ → Type 0) (a : S) (e : Stop) (b : S)
    → ((xs : List ℕ) → V xs → ((zs : List ℕ) → Follows e zs → P (xs ++ zs) zs) → X xs)
    → ((all rest : List ℕ) → P all rest → T all rest)
    → Gave gives V P a e b → Gave gives X T a e b
gave_as gives V X P T a e b bound weaker p = record {
  bytes = p.bytes;
  gave = p.gave;
  within = bound p.bytes p.within p.holds;
  holds = λ ys f. weaker (p.bytes ++ ys) ys (p.holds ys f);
}

-- nothing was given
pub gave_nothing : {S : Type 0} (gives : Gives S) → GivesNothing gives → (W : List ℕ → Type 0) (P : List ℕ → List ℕ → Type 0) (a : S)
    → W [] → ((ys : List ℕ) → P ys ys) → Gave gives W P a going a
gave_nothing gives law W P a w p = record { bytes = []; gave = law a; within = w; holds = λ ys _. p ys }

-- Of memory, however the device stopped: nothing is claimed of what is left
-- at an end, or after a failure.
module _ {S : Type 0} (gives : Gives S) (d : Device S) (law : GivesAhead d gives) (k : IsTrue d.is_memory)
    (W : List ℕ → Type 0) (P : List ℕ → List ℕ → Type 0) where
  by_stop : (Q : Stop → Type 0) (a b : S) → ((xs ys : List ℕ) → Q ended → P xs [] → P xs ys) → ((xs ys : List ℕ) → Q failed → P xs ys)
      → (s : Stop) → Q s → Gave gives W P a s b → P (after (d.memory a)) (after (d.memory b))
  by_stop Q a b at_end at_failure going q g = gave_ahead gives d law k W P a b g
  by_stop Q a b at_end at_failure ended q g = at_end (after (d.memory a)) (after (d.memory b)) q (gave_to_end gives d law k W P a b g)
  by_stop Q a b at_end at_failure failed q g = at_failure (after (d.memory a)) (after (d.memory b)) q

  pub to_memory : (Q : Stop → Type 0) (a b : S) → ((xs ys : List ℕ) → Q ended → P xs [] → P xs ys) → ((xs ys : List ℕ) → Q failed → P xs ys)
      → GaveTo gives Q W P a b → P (after (d.memory a)) (after (d.memory b))
  to_memory Q a b at_end at_failure g = by_stop Q a b at_end at_failure g.stop g.stops g.run
