-- What a prefix states, and the metadata after it.
use Rattle.std.proofs.Common.{◌≡◌, ◌≢◌, ℕ, ◌<◌, ◌≤◌, ◌^◌, ◌==◌, nat_lt, true, false, Bool, cond, List, length, take, drop, None, Some, Result, Ok, Err, OnOk, refl, sym, ap, ◌∙◌, arith, inl, inr, eq-eqb}
use Rattle.std.proofs.lemmas.Bool.{cases_lt, eqb-true, ne_eqb, le-ltb, lt-ltb}
use Rattle.ipc_devices.proofs.Claims.{claims_through}
use Rattle.ipc_devices.specs.Device.{Memory, GoesTo, after}
use Rattle.ipc_devices.specs.Faults.{OwnFault, Answers}
use Rattle.ipc_devices.specs.declared.fault.Fault.{Fault}
use Rattle.ipc_model.specs.Frame.{Frame, message, mark, broken, frame, marked, sized, word}
use Rattle.ipc_model.proofs.Frames.{frame_newer, marked_is}
use Rattle.ipc_files.specs.Blocks.{GivesPrefix, prefix_of, stated_metadata}
use Rattle.ipc_files.specs.Footers.{GivesPart}

is-not : (m n : ℕ) → (m ≤ n → ⊥) → n < m
is-not m n h = elim (cases_lt n m) [ inl p ↦ p | inr p ↦ absurd (h p) ]

-- ---- the prefix

pub older-prefix : (xs : List ℕ) (n : ℕ) → 4 ≤ length xs → n ≡ word xs → n ≢ 0xFFFF_FFFF → frame xs ≡ sized n (drop 4 xs)
unfolding frame
older-prefix xs n long is other =
    rw (le-ltb (length xs) 4 long, ne_eqb (word xs) 0xFFFF_FFFF (λ e. other (is ∙ e))) (ap (λ k. sized k (drop 4 xs)) (sym is))

pub newer-prefix : (xs : List ℕ) (n : ℕ) → 4 ≤ length xs → word xs ≡ 0xFFFF_FFFF → 4 ≤ length (drop 4 xs) → n ≡ word (drop 4 xs) → frame xs ≡ sized n (drop 4 (drop 4 xs))
newer-prefix xs n long is far stated =
    frame_newer xs long is ∙ marked_is (drop 4 xs) far ∙ ap (λ k. sized k (drop 4 (drop 4 xs))) (sym stated)

-- there are too few bytes
short-frame : (xs : List ℕ) → length xs < 4 → stated_metadata (frame xs) ≡ None
unfolding frame
short-frame xs short = rw (lt-ltb (length xs) 4 short) refl

short-marked : (xs : List ℕ) → length xs < 4 → stated_metadata (marked xs) ≡ None
unfolding marked
short-marked xs short = rw (lt-ltb (length xs) 4 short) refl

pub refused-prefix : (xs : List ℕ) (e : Fault) → OwnFault e (4 ≤ length xs → ⊥) → OwnFault e (stated_metadata (frame xs) ≡ None)
refused-prefix xs e h = claims_through e _ _ (λ short. short-frame xs (is-not 4 (length xs) short)) h

pub refused-length : (xs ys : List ℕ) (e : Fault) → ys ≡ drop 4 xs → 4 ≤ length xs → word xs ≡ 0xFFFF_FFFF → OwnFault e (4 ≤ length ys → ⊥)
    → OwnFault e (stated_metadata (frame xs) ≡ None)
refused-length xs ys e behind long is h =
    claims_through e _ _ (λ short. ap stated_metadata (frame_newer xs long is) ∙ short-marked (drop 4 xs) (is-not 4 (length (drop 4 xs)) (λ far. short (rw behind far)))) h

pub second-word : (xs ys zs : List ℕ) (r : Result ℕ Fault) → ys ≡ drop 4 xs → 4 ≤ length xs → word xs ≡ 0xFFFF_FFFF
    → Answers r (4 ≤ length ys) (λ n. n ≡ word ys) → OnOk r (zs ≡ drop 4 ys) → GivesPrefix (frame xs) r zs
second-word xs ys zs (Ok n) behind long is read left =
    newer-prefix xs n long is (rw (← behind) read.0) (read.1 ∙ ap word behind) ∙ ap (λ rest. sized n rest) (sym (left ∙ ap (λ rest. drop 4 rest) behind))
second-word xs ys zs (Err e) behind long is read left = refused-length xs ys e behind long is read

-- ---- the number in the prefix

pub older-number : (xs : List ℕ) (n : ℕ) → 4 ≤ length xs → n ≡ word xs → n ≢ 0xFFFF_FFFF → prefix_of xs ≡ Some n
unfolding prefix_of
older-number xs n long is other = rw (le-ltb (length xs) 4 long, ne_eqb (word xs) 0xFFFF_FFFF (λ e. other (is ∙ e))) (ap Some (sym is))

newer-number : (xs : List ℕ) (n : ℕ) → 4 ≤ length xs → word xs ≡ 0xFFFF_FFFF → 4 ≤ length (drop 4 xs) → n ≡ word (drop 4 xs) → prefix_of xs ≡ Some n
unfolding prefix_of
newer-number xs n long is far stated =
    rw (le-ltb (length xs) 4 long, eq-eqb (word xs) 0xFFFF_FFFF is, le-ltb (length (drop 4 xs)) 4 far) (ap Some (sym stated))

no-number : (xs : List ℕ) → length xs < 4 → prefix_of xs ≡ None
unfolding prefix_of
no-number xs short = rw (lt-ltb (length xs) 4 short) refl

no-newer-number : (xs : List ℕ) → 4 ≤ length xs → word xs ≡ 0xFFFF_FFFF → length (drop 4 xs) < 4 → prefix_of xs ≡ None
unfolding prefix_of
no-newer-number xs long is short = rw (le-ltb (length xs) 4 long, eq-eqb (word xs) 0xFFFF_FFFF is, lt-ltb (length (drop 4 xs)) 4 short) refl

pub refused-number : (xs : List ℕ) (e : Fault) → OwnFault e (4 ≤ length xs → ⊥) → OwnFault e (prefix_of xs ≡ None)
refused-number xs e h = claims_through e _ _ (λ short. no-number xs (is-not 4 (length xs) short)) h

pub second-number : (xs ys : List ℕ) (r : Result ℕ Fault) → ys ≡ drop 4 xs → 4 ≤ length xs → word xs ≡ 0xFFFF_FFFF
    → Answers r (4 ≤ length ys) (λ n. n ≡ word ys) → GivesPart (λ (n : ℕ). n) r (prefix_of xs)
second-number xs ys (Ok n) behind long is read = newer-number xs n long is (rw (← behind) read.0) (read.1 ∙ ap word behind)
second-number xs ys (Err e) behind long is read =
    claims_through e _ _ (λ short. no-newer-number xs long is (is-not 4 (length (drop 4 xs)) (λ far. short (rw behind far)))) read

-- The bytes at an offset.
pub gone-to : (m m' : Memory) (n : ℕ) → GoesTo m m' n → after m' ≡ drop n m.whole
gone-to m m' n goes = ap (λ k. drop k m'.whole) goes.place ∙ ap (λ xs. drop n xs) goes.whole

-- ---- the metadata

stated-where : (b : Bool) (n : ℕ) (xs : List ℕ) → n == 0 ≡ b → n ≤ length xs
    → stated_metadata (cond b (mark xs) (cond (nat_lt (length xs) n) broken (message (take n xs) (drop n xs)))) ≡ Some (take n xs)
stated-where true n xs e long = let none : n ≡ 0 = eqb-true n 0 e in rw none refl
stated-where false n xs e long = rw (le-ltb (length xs) n long) refl

pub stated-sized : (n : ℕ) (xs : List ℕ) → n < 2 ^ 31 → n ≤ length xs → stated_metadata (sized n xs) ≡ Some (take n xs)
unfolding sized
stated-sized n xs small long = rw (lt-ltb n (2 ^ 31) small) (stated-where (n == 0) n xs refl long)

short-where : (b : Bool) (n : ℕ) (xs : List ℕ) → n == 0 ≡ b → length xs < n
    → stated_metadata (cond b (mark xs) (cond (nat_lt (length xs) n) broken (message (take n xs) (drop n xs)))) ≡ None
short-where true n xs e short = let none : n ≡ 0 = eqb-true n 0 e in absurd (omega (arith, none, short))
short-where false n xs e short = rw (lt-ltb (length xs) n short) refl

short-sized : (n : ℕ) (xs : List ℕ) → n < 2 ^ 31 → length xs < n → stated_metadata (sized n xs) ≡ None
unfolding sized
short-sized n xs small short = rw (lt-ltb n (2 ^ 31) small) (short-where (n == 0) n xs refl short)

pub refused-sized : (f : Frame) (n : ℕ) (xs : List ℕ) (e : Fault) → f ≡ sized n xs → n < 2 ^ 31 → OwnFault e (n ≤ length xs → ⊥)
    → OwnFault e (stated_metadata f ≡ None)
refused-sized f n xs e is small h = claims_through e _ _ (λ short. ap stated_metadata is ∙ short-sized n xs small (is-not n (length xs) short)) h

pub negative-sized : (f : Frame) (n : ℕ) (xs : List ℕ) → f ≡ sized n xs → 2 ^ 31 ≤ n → stated_metadata f ≡ None
unfolding sized
negative-sized f n xs is large = ap stated_metadata is ∙ rw (le-ltb n (2 ^ 31) large) refl

pub read-sized : (f : Frame) (n : ℕ) (xs metadata : List ℕ) → f ≡ sized n xs → n < 2 ^ 31 → n ≤ length xs → metadata ≡ take n xs → stated_metadata f ≡ Some metadata
read-sized f n xs metadata is small long bytes = ap stated_metadata is ∙ stated-sized n xs small long ∙ ap Some (sym bytes)
