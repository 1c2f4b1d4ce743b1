-- Calls of `next`, one after the other.
use Rattle.std.proofs.Common.{◌≡◌, ◌⊎◌, ℕ, zero, suc, ◌+◌, ◌-◌, ◌≤◌, ◌<◌, nat_le, List, [], ◌∷◌, Bool, true, false, IsTrue, Option, None, Some, Result, Ok, Err, refl, sym, ap, ◌∙◌, subst, arith, inl, inr}
use Rattle.std.specs.Prelude.{vec_len}
use Rattle.std.proofs.lemmas.Bool.{cases_Bool}
use Rattle.lower_arrays.specs.declared.array.AnyArray.{AnyArray}
use Rattle.ipc_devices.proofs.Claims.{claims_through}
use Rattle.ipc_devices.specs.Device.{Device}
use Rattle.ipc_devices.specs.declared.fault.Fault.{Fault}
use Rattle.ipc_model.specs.Entries.{Dictionaries, Limit}
use Rattle.ipc_model.specs.Files.{FileMetadata as Meaning, file_dictionaries}
use Rattle.ipc_stream_lemmas.specs.Agreement.{AreAlike, KnowAlike}
use Rattle.ipc_files.specs.Footers.{file_seen}
use Rattle.ipc_file_readers.specs.Readers.{Answer, AreKnown, NextStep, WasNext, WereRefused, asked_of, block_of, blocks_left, device_of, file_of, is_over, known_of, metadata_of, remaining_of}
use Rattle.ipc_file_readers.specs.Runs.{AreItems, AreNone, Calls, HoldsDictionaries, IsToldOnce, ItemsLaw, OverLaw, ToldOnceLaw}
use Rattle.ipc_file_readers.specs.declared.read.reader.state.FileReader.{FileReader}

rests : (m : Meaning) (ds : Dictionaries) (source : List ℕ) (asked : Option (List ℕ)) (limit : Limit) (i : ℕ) (rs : List Answer) → AreNone rs → AreItems m ds source asked limit i 0 rs
rests m ds source asked limit i [] h = tt
rests m ds source asked limit i (r ∷ rs) h = (h.0, rests m ds source asked limit i rs h.1)

-- The same by the same file, at the same block.
same_items : (m n : Meaning) (ds : Dictionaries) (xs ys : List ℕ) (p q : Option (List ℕ)) (l k : Limit) (i j : ℕ) (c : ℕ) (rs : List Answer) → n ≡ m → ys ≡ xs → q ≡ p → k ≡ l → j ≡ i
    → AreItems n ds ys q k j c rs → AreItems m ds xs p l i c rs
same_items m n ds xs ys p q l k i j c rs e f g h d are =
    subst (λ (x : Meaning). AreItems x ds xs p l i c rs) e
    (subst (λ (x : List ℕ). AreItems n ds x p l i c rs) f
    (subst (λ (x : Option (List ℕ)). AreItems n ds ys x l i c rs) g
    (subst (λ (x : Limit). AreItems n ds ys q x i c rs) h
    (subst (λ (x : ℕ). AreItems n ds ys q k x c rs) d are))))

pub held_before : (known : Bool) (o file : Option Dictionaries) (es d : Dictionaries) → o ≡ Some es → AreKnown known o file d → es ≡ d
held_before known None file es d e h = absurd cc
held_before known (Some x) file es d e h = let same : x ≡ es = cc in sym same ∙ h

pub read_now : (known : Bool) (o file : Option Dictionaries) (ds d : Dictionaries) → IsTrue known → o ≡ None → file ≡ Some ds → AreKnown known o file d → KnowAlike d ds
read_now known None file ds d k e f h =
    let alike : AreAlike (Some ds) (Some d) = subst (λ (x : Option Dictionaries). AreAlike x (Some d)) f (h k) in
    record { each = λ id. sym (alike.each id) }
read_now known (Some x) file ds d k e f h = absurd cc

-- whether blocks are left
none_left : (n i : ℕ) → nat_le n i ≡ true → n - i ≡ 0
none_left n i e = let l : n ≤ i = search arith in omega (arith, l)

some_left : (n i : ℕ) → nat_le n i ≡ false → n - i ≡ suc (n - (i + 1))
some_left n i e = let l : i < n = search arith in omega (arith, l)

is_left : (n i k : ℕ) → n - i ≡ suc k → nat_le n i ≡ false
is_left n i k e = let l : i < n = omega (arith, e) in search arith

isnt_left : (n i : ℕ) → n - i ≡ 0 → nat_le n i ≡ true
isnt_left n i e = let l : n ≤ i = omega (arith, e) in search arith

module _ {R : Type 0} (d : Device R) (stays : IsTrue d.is_memory → IsTrue d.is_read_only) where
  abbrev Step : FileReader R → Answer → FileReader R → Type 0
  Step a r b = NextStep d a r b

  abbrev Run : FileReader R → List Answer → Type 0
  Run a rs = Calls d a rs

  abbrev whole_of : FileReader R → List ℕ
  whole_of a = (d.memory (device_of a)).whole

  abbrev Items : FileReader R → Dictionaries → ℕ → List Answer → Type 0
  Items a ds n rs = AreItems (file_of a) ds (whole_of a) (asked_of a) (remaining_of a) (block_of a) n rs

  ends : (rs : List Answer) (a : FileReader R) → is_over a ≡ true → Run a rs → AreNone rs
  ends [] a e h = tt
  ends (r ∷ rs) a e h =
      let s = h.1.over e in
      (s.0, ends rs h.0 (subst (λ (x : FileReader R). is_over x ≡ true) (sym s.1) e) h.2)

  -- What one call returned, and then the others.
  one_more : (a b : FileReader R) (x : Result (List AnyArray) Fault) (rs : List Answer) (ds : Dictionaries) (n : ℕ) → IsTrue d.is_memory → Step a (Some x) b
      → (w : WasNext d a x b) → KnowAlike w.dictionaries ds → Items b ds n rs → Items a ds (suc n) (Some x ∷ rs)
  one_more a b x rs ds n k step w alike others = (
    w.meaning k ds alike,
    same_items _ _ ds _ _ _ _ _ _ _ _ n rs (ap file_seen step.state.file.described) (step.device.whole (stays k)) step.state.file.asked w.remaining w.block others,
  )

  left_then : (a b : FileReader R) (n : ℕ) → metadata_of b ≡ metadata_of a → block_of b ≡ block_of a + 1 → blocks_left a ≡ suc n → blocks_left b ≡ n
  left_then a b n same next e =
      let long = ap (λ m. vec_len m.blocks) same in
      omega (arith, long, next, e)

  items : (n : ℕ) (rs : List Answer) (a : FileReader R) (es ds : Dictionaries) → IsTrue d.is_memory → known_of a ≡ Some es → KnowAlike es ds → blocks_left a ≡ n → Run a rs → Items a ds n rs
  items n [] a es ds k held alike left h = tt
  items zero (r ∷ rs) a es ds k held alike left h = rests _ ds _ _ _ _ (r ∷ rs) (ends (r ∷ rs) a (isnt_left _ _ left) h)
  items (suc n) (None ∷ rs) a es ds k held alike left h = absurd (h.1.next (is_left _ _ n left))
  items (suc n) (Some (Ok xs) ∷ rs) a es ds k held alike left h =
      let w = h.1.next (is_left _ _ n left) in
      let both = subst (λ (x : Dictionaries). KnowAlike x ds) (held_before d.is_memory (known_of a) _ es w.dictionaries held w.are) alike in
      one_more a h.0 (Ok xs) rs ds n k h.1 w both (items n rs h.0 w.dictionaries ds k w.held both (left_then a h.0 n h.1.state.file.described w.block left) h.2)
  items (suc n) (Some (Err f) ∷ rs) a es ds k held alike left h = elim (h.1.next (is_left _ _ n left)) [
    | inl w ↦ (let no : Some es ≡ None = sym held ∙ w.unread in absurd cc)
    | inr w ↦
        (let both = subst (λ (x : Dictionaries). KnowAlike x ds) (held_before d.is_memory (known_of a) _ es w.dictionaries held w.are) alike in
        one_more a h.0 (Err f) rs ds n k h.1 w both (items n rs h.0 w.dictionaries ds k w.held both (left_then a h.0 n h.1.state.file.described w.block left) h.2))
  ]

  -- ---- the first call

  -- The dictionaries were read in this call.
  after_read : (a b : FileReader R) (x : Result (List AnyArray) Fault) (rs : List Answer) (ds : Dictionaries) → IsTrue d.is_memory → is_over a ≡ false → known_of a ≡ None
      → file_dictionaries (file_of a) (whole_of a) ≡ Some ds → Step a (Some x) b → WasNext d a x b → Run b rs → Items a ds (blocks_left a) (Some x ∷ rs)
  after_read a b x rs ds k more unread file step w others =
      let both = read_now d.is_memory (known_of a) _ ds w.dictionaries k unread file w.are in
      let left = some_left _ _ more in
      subst (λ (n : ℕ). Items a ds n (Some x ∷ rs)) (sym left)
      (one_more a b x rs ds _ k step w both (items _ rs b w.dictionaries ds k w.held both (left_then a b _ step.state.file.described w.block left) others))

  told : (a b : FileReader R) (e : Fault) (rs : List Answer) (P : Type 0) → (file_dictionaries (file_of a) (whole_of a) ≡ None → P) → IsTrue d.is_memory → WereRefused d a e b → Run b rs
      → IsToldOnce P (Some (Err e) ∷ rs)
  told a b e rs P f k w others = (claims_through e _ _ f (w.meaning k), ends rs b w.over others)

  first : (rs : List Answer) (a : FileReader R) (ds : Dictionaries) → IsTrue d.is_memory → is_over a ≡ false → known_of a ≡ None
      → file_dictionaries (file_of a) (whole_of a) ≡ Some ds → Run a rs → Items a ds (blocks_left a) rs ⊎ IsToldOnce ⊥ rs
  first [] a ds k more unread file h = inr tt
  first (None ∷ rs) a ds k more unread file h = absurd (h.1.next more)
  first (Some (Ok xs) ∷ rs) a ds k more unread file h = inl (after_read a h.0 (Ok xs) rs ds k more unread file h.1 (h.1.next more) h.2)
  first (Some (Err e) ∷ rs) a ds k more unread file h = elim (h.1.next more) [
    | inl w ↦ inr (told a h.0 e rs ⊥ (λ none. let no : Some ds ≡ None = sym file ∙ none in absurd cc) k w h.2)
    | inr w ↦ inl (after_read a h.0 (Err e) rs ds k more unread file h.1 w h.2)
  ]

  unread_items : (a : FileReader R) (rs : List Answer) (ds : Dictionaries) → IsTrue d.is_memory → known_of a ≡ None → file_dictionaries (file_of a) (whole_of a) ≡ Some ds → Run a rs
      → Items a ds (blocks_left a) rs ⊎ IsToldOnce ⊥ rs
  unread_items a rs ds k unread file h = elim (cases_Bool (is_over a)) [
    | inl over ↦ inl (subst (λ (n : ℕ). Items a ds n rs) (sym (none_left _ _ over)) (rests _ ds _ _ _ _ rs (ends rs a over h)))
    | inr more ↦ first rs a ds k more unread file h
  ]

  by_known : (a : FileReader R) (rs : List Answer) (ds : Dictionaries) (o : Option Dictionaries) → known_of a ≡ o → IsTrue d.is_memory
      → HoldsDictionaries o (file_dictionaries (file_of a) (whole_of a)) ds → Run a rs → Items a ds (blocks_left a) rs ⊎ IsToldOnce ⊥ rs
  by_known a rs ds None e k holds h = unread_items a rs ds k e holds h
  by_known a rs ds (Some es) e k holds h = inl (items (blocks_left a) rs a es ds k e holds refl h)

  pub items_law : (a : FileReader R) → ItemsLaw d a
  items_law a rs ds k holds h = by_known a rs ds (known_of a) refl k holds h

  pub over_law : (a : FileReader R) → OverLaw d a
  over_law a rs e h = ends rs a e h

  none_known : (o file : Option Dictionaries) (y : Dictionaries) → IsTrue d.is_memory → o ≡ None → file ≡ None → AreKnown d.is_memory o file y → ⊥
  none_known None file y k e f h = subst (λ (x : Option Dictionaries). AreAlike x (Some y)) f (h k)
  none_known (Some x) file y k e f h = absurd cc

  pub told_once_law : (a : FileReader R) → ToldOnceLaw d a
  told_once_law a [] k more unread file h = tt
  told_once_law a (None ∷ rs) k more unread file h = absurd (h.1.next more)
  told_once_law a (Some (Ok xs) ∷ rs) k more unread file h = let w = h.1.next more in absurd (none_known (known_of a) _ w.dictionaries k unread file w.are)
  told_once_law a (Some (Err e) ∷ rs) k more unread file h = elim (h.1.next more) [
    | inl w ↦ told a h.0 e rs (Unit {0}) (λ _. tt) k w h.2
    | inr w ↦ absurd (none_known (known_of a) _ w.dictionaries k unread file w.are)
  ]
