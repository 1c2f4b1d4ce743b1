-- Regions one after the other.
use Rattle.std.proofs.Common.{◌≡◌, ℕ, zero, suc, ◌+◌, ◌%◌, ◌<◌, ◌≤◌, List, [], ◌∷◌, ◌++◌, length, slice_index_or, inl, arith}
use Rattle.std.specs.List.{All, AllPairs}
use Rattle.std.proofs.lemmas.List.Kept.{AllPairs-cons}
use Rattle.ipc_table_bytes.specs.Tree.{Slots}
use Rattle.ipc_table_bytes.specs.Strict.{AreApart, Region, AreLaidOut, Grain, IsLaidOut, message_regions}

pub AreLaidOut-later : (lo lo' hi : ℕ) (rs : List Region) → lo ≤ lo' → AreLaidOut lo' rs hi → AreLaidOut lo rs hi
AreLaidOut-later lo lo' hi [] h l = omega arith
AreLaidOut-later lo lo' hi (r ∷ rs) h l = (omega (arith, l.0), l.1, l.2)

pub AreLaidOut-append : (lo mid hi : ℕ) (rs ss : List Region) → AreLaidOut lo rs mid → AreLaidOut mid ss hi → AreLaidOut lo (rs ++ ss) hi
AreLaidOut-append lo mid hi [] ss l k = AreLaidOut-later lo mid hi ss l k
AreLaidOut-append lo mid hi (r ∷ rs) ss l k = (l.0, l.1, AreLaidOut-append (r.from + r.size) mid hi rs ss l.2 k)

all-cons : {X : Type 0} (P : X → Type 0) (x : X) (xs : List X) → P x → All P xs → All P (x ∷ xs)
all-cons P x xs first rest = λ k d h. elim k as (λ k. k < length (x ∷ xs) → P (slice_index_or (x ∷ xs) k d)) [ zero ↦ (λ h. first) | suc k ↦ (λ h. rest k d (omega arith)) ] h

laid-aligned : (lo hi : ℕ) (rs : List Region) → AreLaidOut lo rs hi → All (λ r. r.from % r.align ≡ 0) rs
laid-aligned lo hi [] l = λ k d h. absurd (omega arith)
laid-aligned lo hi (r ∷ rs) l = all-cons (λ r. r.from % r.align ≡ 0) r rs l.1 (laid-aligned (r.from + r.size) hi rs l.2)

-- a list of regions begins no later than it ends
laid-order : (lo hi : ℕ) (rs : List Region) → AreLaidOut lo rs hi → lo ≤ hi
laid-order lo hi [] l = l
laid-order lo hi (r ∷ rs) l = omega (arith, l.0, laid-order (r.from + r.size) hi rs l.2)

laid-inside : (lo hi : ℕ) (rs : List Region) → AreLaidOut lo rs hi → All (λ r. r.from + r.size ≤ hi) rs
laid-inside lo hi [] l = λ k d h. absurd (omega arith)
laid-inside lo hi (r ∷ rs) l = all-cons (λ r. r.from + r.size ≤ hi) r rs (laid-order (r.from + r.size) hi rs l.2) (laid-inside (r.from + r.size) hi rs l.2)

laid-after : (p lo hi : ℕ) (rs : List Region) → p ≤ lo → AreLaidOut lo rs hi → All (λ r. p ≤ r.from) rs
laid-after p lo hi [] h l = λ k d i. absurd (omega arith)
laid-after p lo hi (r ∷ rs) h l = all-cons (λ r. p ≤ r.from) r rs (omega (arith, l.0)) (laid-after p (r.from + r.size) hi rs (omega (arith, l.0)) l.2)

laid-apart : (lo hi : ℕ) (rs : List Region) → AreLaidOut lo rs hi → AllPairs (λ r s. r.from + r.size ≤ s.from) rs
laid-apart lo hi [] l = λ i j d h k. absurd (omega arith)
laid-apart lo hi (r ∷ rs) l =
    AllPairs-cons (λ r s. r.from + r.size ≤ s.from) r rs (laid-after (r.from + r.size) (r.from + r.size) hi rs (omega arith) l.2) (laid-apart (r.from + r.size) hi rs l.2)

-- in order, so apart
in-order-apart : (rs : List Region) → AllPairs (λ r s. r.from + r.size ≤ s.from) rs → AllPairs AreApart rs
in-order-apart rs l = λ i j d h k. inl (l i j d h k)

-- what is laid out step by step is laid out
pub IsLaidOut-from : (m : List ℕ) (slots : Slots) → ((g : Grain) → AreLaidOut 0 (message_regions g m slots) (length m)) → IsLaidOut m slots
IsLaidOut-from m slots l = record {
  aligned = λ g. laid-aligned 0 (length m) (message_regions g m slots) (l g);
  inside = λ g. laid-inside 0 (length m) (message_regions g m slots) (l g);
  apart = λ g. in-order-apart (message_regions g m slots) (laid-apart 0 (length m) (message_regions g m slots) (l g));
  in_order = λ g. laid-apart 0 (length m) (message_regions g m slots) (l g);
}
