-- The theorems of `Gives`, for memory and for devices of which only the counts are known.
use Rattle.std.proofs.Common.{◌≡◌, ℕ, ◌+◌, List, [], ◌++◌, length, refl, sym, ap, arith, length-append, ◌∙◌, append_assoc, IsTrue, Bool, false}
use Rattle.std.proofs.Math.Seq.{take-append-add}
use Rattle.ipc_devices.specs.Device.{Device, Memory, after, through, behind, memory_device, counted_device}
use Rattle.ipc_devices.specs.Gives.{Stop, going, ended, failed, Fails, Counts, Takes, MemoryGives, CountsGive, Gives, GivesLaws, gives_behind, memory_gives, counts_give}

-- Counts of two runs of reads add up.
pub counts_more : (g n m k h : ℕ) → Counts g n h → Counts h m k → Counts g (n + m) k
counts_more g n m k h p q = omega arith

-- After a run without a failure, the count of failures is that of the next run.
fails_more : (e : Stop) (a b c : ℕ) → b ≡ a → Fails e b c → Fails e a c
fails_more going a b c p q = q ∙ p
fails_more ended a b c p q = q ∙ p
fails_more failed a b c p q = (omega (arith, p, q.0), omega (arith, p, q.1))

-- The bytes that two runs took come one after the other.
pub takes_more : (e : Stop) (xs ys p q r : List ℕ) → p ≡ xs ++ q → Takes e ys q r → Takes e (xs ++ ys) p r
takes_more going xs ys p q r a b = a ∙ ap (λ l. xs ++ l) b ∙ sym (append_assoc xs ys r)
takes_more ended xs ys p q r a b = a ∙ ap (λ l. xs ++ l) b
takes_more failed xs ys p q r a b = rw (a, length-append xs ys, take-append-add xs q (length ys), b) refl

-- Of a device that isn't memory nothing is claimed about memory.
pub never : {P : Type 0} → IsTrue false → P
never k = absurd (cc k)

-- ---- counts

-- No read changes no count.

pub counts_nothing : (f g : ℕ) → CountsGive f g [] going f g
counts_nothing f g = record { counts = omega arith; fails = refl }

-- The counts of two runs of reads add up.
pub counts_in_order : (f g f' g' f'' g'' : ℕ) (xs ys : List ℕ) (e : Stop) → CountsGive f g xs going f' g' → CountsGive f' g' ys e f'' g''
    → CountsGive f g (xs ++ ys) e f'' g''
counts_in_order f g f' g' f'' g'' xs ys e p q = record {
  counts = rw (length-append xs ys) (counts_more g (length xs) (length ys) g'' g' p.counts q.counts);
  fails = fails_more e f f' f'' p.fails q.fails;
}

-- ---- memory

-- No read changes no memory.

pub memory_nothing : (m : Memory) (g : ℕ) → MemoryGives m g [] going m g
memory_nothing m g = record { moves = (refl, omega arith); counts = omega arith; takes = refl; succeeds = refl }

-- Two runs of reads of memory are one run.
pub memory_in_order : (m m' m'' : Memory) (g g' g'' : ℕ) (xs ys : List ℕ) (e : Stop) → MemoryGives m g xs going m' g' → MemoryGives m' g' ys e m'' g''
    → MemoryGives m g (xs ++ ys) e m'' g''
memory_in_order m m' m'' g g' g'' xs ys e p q = record {
  moves = (q.moves.0 ∙ p.moves.0, rw (length-append xs ys) (omega (arith, p.moves.1, q.moves.1)));
  counts = rw (length-append xs ys) (counts_more g (length xs) (length ys) g'' g' p.counts q.counts);
  takes = takes_more e xs ys (after m) (after m') (after m'') p.takes q.takes;
  succeeds = q.succeeds;
}

pub memory_laws : {S : Type 0} (memory : S → Memory) (given room : S → ℕ) → GivesLaws (memory_device memory given room) (memory_gives memory given)
memory_laws memory given room = record {
  nothing = λ a. memory_nothing (memory a) (given a);
  in_order = λ a xs b ys e c. memory_in_order (memory a) (memory b) (memory c) (given a) (given b) (given c) xs ys e;
  counted = λ a xs e b g. g.counts;
  fails = λ a xs e b g. g.succeeds;
  ahead = λ a xs e b k g. g.takes;
  still = λ a xs e b k g. g.moves;
  names = λ a xs e b g. refl;
}

pub counts_laws : {S : Type 0} (failures given : S → ℕ) (is_flushed : S → Bool) → GivesLaws (counted_device failures given is_flushed) (counts_give failures given)
counts_laws failures given is_flushed = record {
  nothing = λ a. counts_nothing (failures a) (given a);
  in_order = λ a xs b ys e c. counts_in_order (failures a) (given a) (failures b) (given b) (failures c) (given c) xs ys e;
  counted = λ a xs e b g. g.counts;
  fails = λ a xs e b g. g.fails;
  ahead = λ a xs e b k. never k;
  still = λ a xs e b k. never k;
  names = λ a xs e b g. refl;
}

-- ---- a device that is a part of another, and one behind a reference

pub laws_through : {S T : Type 0} (f : T → S) (d : Device S) (gives : Gives S) → GivesLaws d gives
    → GivesLaws (through f d) (λ a xs e b. gives (f a) xs e (f b))
laws_through f d gives laws = record {
  nothing = λ a. laws.nothing (f a);
  in_order = λ a xs b ys e c. laws.in_order (f a) xs (f b) ys e (f c);
  counted = λ a xs e b. laws.counted (f a) xs e (f b);
  fails = λ a xs e b. laws.fails (f a) xs e (f b);
  ahead = λ a xs e b. laws.ahead (f a) xs e (f b);
  still = λ a xs e b. laws.still (f a) xs e (f b);
  names = λ a xs e b. laws.names (f a) xs e (f b);
}

pub laws_behind : {S : Type 0} (d : Device S) (gives : Gives S) → GivesLaws d gives → GivesLaws (behind d) (gives_behind gives)
laws_behind d gives laws = record {
  nothing = λ a. (laws.nothing a.now, refl);
  in_order = λ a xs b ys e c p q. (laws.in_order a.now xs b.now ys e c.now p.0 q.0, q.1 ∙ p.1);
  counted = λ a xs e b p. laws.counted a.now xs e b.now p.0;
  fails = λ a xs e b p. laws.fails a.now xs e b.now p.0;
  ahead = λ a xs e b k p. laws.ahead a.now xs e b.now k p.0;
  still = λ a xs e b k p. laws.still a.now xs e b.now k p.0;
  names = λ a xs e b p. rw (p.1, laws.names a.now xs e b.now p.0) refl;
}
