-- What the reads of memory give.
use Rattle.std.proofs.Common.{◌≡◌, ◌⊎◌, ℕ, ◌+◌, ◌<◌, ◌≤◌, List, [], ◌++◌, length, take, drop, min, refl, sym, arith, add-zero, inl, inr, length-take, take-append-drop}
use Rattle.std.proofs.lemmas.List.{nil_from_length, take_at, drop-drop, length-take-le}
use Rattle.std.proofs.lemmas.Bool.{cases_lt}
use Rattle.ipc_devices.specs.Device.{most}
use Rattle.ipc_devices.specs.Gives.{going, ended, MemoryGives}

-- the next n bytes
pub front_given : (bytes : List ℕ) (place g n g' : ℕ) → n ≤ length (drop place bytes) → g' ≡ min (g + n) most
    → MemoryGives (record { whole = bytes; place = place }) g (take n (drop place bytes)) going (record { whole = bytes; place = place + n }) g'
front_given bytes place g n g' h e =
    let size : length (take n (drop place bytes)) ≡ n = length-take-le n (drop place bytes) h in
    record {
      moves = (refl, rw size refl);
      counts = rw size (omega (arith, e));
      takes = rw (← drop-drop n place bytes) (sym (take-append-drop n (drop place bytes)));
      succeeds = refl;
    }

-- all bytes that are left
pub rest_given : (bytes : List ℕ) (place g n g' : ℕ) → n ≡ length (drop place bytes) → g' ≡ min (g + n) most
    → MemoryGives (record { whole = bytes; place = place }) g (drop place bytes) ended (record { whole = bytes; place = place + n }) g'
rest_given bytes place g n g' h e = record {
  moves = (refl, rw h refl);
  counts = rw (← h) (omega (arith, e));
  takes = refl;
  succeeds = refl;
}

-- what a read gave
pub read_given : (bytes buf old : List ℕ) (place g n g' : ℕ) → n ≡ min (length (drop place bytes)) (length old) → buf ≡ take n (drop place bytes) ++ drop n old
    → g' ≡ min (g + n) most
    → MemoryGives (record { whole = bytes; place = place }) g (take n buf) going (record { whole = bytes; place = place + n }) g'
read_given bytes buf old place g n g' count copied e =
    let t : take n buf ≡ take n (drop place bytes) = rw copied (take_at (take n (drop place bytes)) (drop n old) n (length-take-le n (drop place bytes) (omega arith))) in
    rw t (front_given bytes place g n g' (omega arith) e)

pub none_given : (bytes : List ℕ) (place g n g' size : ℕ) → n ≡ min (length (drop place bytes)) size → 0 < size → n ≡ 0
    → g' ≡ min (g + n) most
    → MemoryGives (record { whole = bytes; place = place }) g [] ended (record { whole = bytes; place = place + n }) g'
none_given bytes place g n g' size count some none e =
    let z : drop place bytes ≡ [] = nil_from_length (drop place bytes) (omega arith) in
    record { moves = (refl, rw none refl); counts = omega arith; takes = z; succeeds = refl }

pub idle_given : (bytes : List ℕ) (place g n g' size : ℕ) → n ≡ min (length (drop place bytes)) size → size ≡ 0
    → g' ≡ min (g + n) most
    → MemoryGives (record { whole = bytes; place = place }) g [] going (record { whole = bytes; place = place + n }) g'
idle_given bytes place g n g' size count none e =
    let z : n ≡ 0 = omega arith in
    record { moves = (refl, rw z refl); counts = omega arith; takes = rw (z, add-zero) refl; succeeds = refl }

-- what a skip gave
pub skip_given : (bytes : List ℕ) (place g count n g' : ℕ) → n ≡ min (length (drop place bytes)) count → g' ≡ min (g + n) most
    → (xs : List ℕ) × (((length xs ≡ count) × MemoryGives (record { whole = bytes; place = place }) g xs going (record { whole = bytes; place = place + n }) g')
    ⊎ ((length xs < count) × MemoryGives (record { whole = bytes; place = place }) g xs ended (record { whole = bytes; place = place + n }) g'))
skip_given bytes place g count n g' h e = elim (cases_lt (length (drop place bytes)) count) [
  | inl p ↦ (drop place bytes, inr (p, rest_given bytes place g n g' (omega arith) e))
  | inr p ↦ (take n (drop place bytes), inl (omega (arith, length-take n (drop place bytes)), front_given bytes place g n g' (omega arith) e))
]
