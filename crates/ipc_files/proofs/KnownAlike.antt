-- Dictionaries that agree.
use Rattle.std.proofs.Common.{◌≡◌, ℕ, suc, ◌+◌, ◌<◌, ◌≤◌, List, [], length, drop, get_or, add-one, ◌∷◌, Option, None, Some, IsSome, IfSome, Result, Ok, Err, refl, sym, ap, subst, ◌∙◌, cond, Bool, true, false, nat_eq}
use Rattle.std.proofs.Math.Seq.{drop-cons}
use Rattle.std.proofs.lemmas.List.{drop_all}
use Rattle.ipc_devices.proofs.Claims.{claims_through}
use Rattle.ipc_devices.specs.Faults.{OwnFault, Answers}
use Rattle.ipc_devices.specs.declared.fault.Fault.{Fault}
use Rattle.ipc_table_views.specs.declared.file.Block.{Block}
use Rattle.ipc_stream_lemmas.proofs.Readers.{alike_dictionary_law}
use Rattle.ipc_stream_lemmas.specs.Agreement.{KnowAlike, AreAlike}
use Rattle.ipc_model.specs.Batches.{Body, dictionary_meaning}
use Rattle.ipc_model.specs.Entries.{Dictionaries}
use Rattle.ipc_model.specs.Files.{FileMetadata, BlockHeader, placed, metadata_at, block_header, body_at, dictionaries_at, dictionaries_after, all_of}
use Rattle.ipc_model.specs.Schemas.{given}
use Rattle.ipc_files.specs.Dictionaries.{GivesKnown}

pub alike-self : (o : Option Dictionaries) → AreAlike o o
alike-self None = tt
alike-self (Some ds) = record { each = λ id. refl }

pub alike-back : (o p : Option Dictionaries) → AreAlike o p → AreAlike p o
alike-back None None h = tt
alike-back None (Some ds) h = absurd h
alike-back (Some ds) None h = absurd h
alike-back (Some ds) (Some es) h = record { each = λ id. sym (h.each id) }

pub alike-on : (o p q : Option Dictionaries) → AreAlike o p → AreAlike p q → AreAlike o q
alike-on None None q h k = k
alike-on None (Some ds) q h k = absurd h
alike-on (Some ds) None q h k = absurd h
alike-on (Some ds) (Some es) None h k = absurd k
alike-on (Some ds) (Some es) (Some fs) h k = record { each = λ id. h.each id ∙ k.each id }

pub alike-none : (o p : Option Dictionaries) → AreAlike o p → o ≡ None → p ≡ None
alike-none None None h e = refl
alike-none None (Some ds) h e = absurd h
alike-none (Some ds) p h e = cc

-- ---- results

none-there : {X : Type 0} (o : Option X) → (IsSome o → ⊥) → o ≡ None
none-there None h = refl
none-there (Some x) h = absurd (h refl)

known-there : (o : Option Dictionaries) (after : Dictionaries) → IsSome o → IfSome o (λ ds. KnowAlike ds after) → AreAlike o (Some after)
known-there None after s h = cc
known-there (Some ds) after s h = h

pub gives-known : {X : Type 0} (r : Result X Fault) (o : Option Dictionaries) (after : Dictionaries)
    → Answers r (IsSome o) (λ _. IfSome o (λ ds. KnowAlike ds after)) → GivesKnown (λ (x : X). after) r o
gives-known (Ok x) o after h = known-there o after h.0 h.1
gives-known (Err e) o after h = claims_through e _ _ (none-there o) h

-- ---- blocks

with-alike : (m : FileMetadata) (ds es : Dictionaries) (body : Body) (h : BlockHeader) (b : Bool) → KnowAlike ds es
    → AreAlike (cond b (dictionary_meaning m.schema h.extra ds body h.table) None) (cond b (dictionary_meaning m.schema h.extra es body h.table) None)
with-alike m ds es body h true alike = alike_dictionary_law m.schema h.extra ds es body h.table alike
with-alike m ds es body h false alike = tt

module _ {X : Type 0} where
  given-alike : (o : Option X) (f g : X → Option Dictionaries) → ((x : X) → AreAlike (f x) (g x)) → AreAlike (given o f) (given o g)
  given-alike None f g h = tt
  given-alike (Some x) f g h = h x

pub block-alike : (m : FileMetadata) (ds es : Dictionaries) (source : List ℕ) (b : Block) → KnowAlike ds es → AreAlike (dictionaries_at m ds source b) (dictionaries_at m es source b)
unfolding dictionaries_at
block-alike m ds es source b alike =
    given-alike (placed b) _ _ (λ p. given-alike (metadata_at source p) _ _ (λ metadata. given-alike (block_header metadata) _ _
    (λ h. with-alike m ds es (body_at m source p) h (nat_eq h.tag 2) alike)))

then-alike : (o p : Option Dictionaries) (f : Dictionaries → Option Dictionaries) → ((ds es : Dictionaries) → KnowAlike ds es → AreAlike (f ds) (f es))
    → AreAlike o p → AreAlike (given o f) (given p f)
then-alike None None f h k = tt
then-alike None (Some es) f h k = absurd k
then-alike (Some ds) None f h k = absurd k
then-alike (Some ds) (Some es) f h k = h ds es k

pub after-alike : (m : FileMetadata) (seen : Block → List ℕ) (bs : List Block) (ds es : Dictionaries) → KnowAlike ds es
    → AreAlike (dictionaries_after m seen ds bs) (dictionaries_after m seen es bs)
after-alike m seen [] ds es alike = alike
after-alike m seen (b ∷ bs) ds es alike =
    then-alike (dictionaries_at m ds (seen b) b) (dictionaries_at m es (seen b) b) (λ after. dictionaries_after m seen after bs) (after-alike m seen bs) (block-alike m ds es (seen b) b alike)

-- The blocks from one on, if that was read.
pub block-read : (m : FileMetadata) (seen : Block → List ℕ) (b : Block) (bs : List Block) (ds es : Dictionaries) → AreAlike (dictionaries_at m ds (seen b) b) (Some es)
    → AreAlike (dictionaries_after m seen es bs) (dictionaries_after m seen ds (b ∷ bs))
block-read m seen b bs ds es h =
    alike-back _ _ (then-alike (dictionaries_at m ds (seen b) b) (Some es) (λ after. dictionaries_after m seen after bs) (after-alike m seen bs) h)

-- The blocks from one on, if that was refused.
pub block-refused : (m : FileMetadata) (seen : Block → List ℕ) (b : Block) (bs : List Block) (ds : Dictionaries) → dictionaries_at m ds (seen b) b ≡ None
    → dictionaries_after m seen ds (b ∷ bs) ≡ None
block-refused m seen b bs ds e = ap (λ (o : Option Dictionaries). given o (λ after. dictionaries_after m seen after bs)) e

-- ---- one block after the other

module _ (m : FileMetadata) (source : List ℕ) (bs : List Block) (i : ℕ) (d : Block) (ds : Dictionaries) (all : Option Dictionaries) (within : i < length bs)
    (so-far : AreAlike (dictionaries_after m (all_of source) ds (drop i bs)) all) where
  left-is : dictionaries_after m (all_of source) ds (drop i bs) ≡ dictionaries_after m (all_of source) ds (get_or bs i d ∷ drop (suc i) bs)
  left-is = ap (dictionaries_after m (all_of source) ds) (drop-cons bs i d within)

  pub next-known : (es : Dictionaries) (bytes : List ℕ) → bytes ≡ source → AreAlike (dictionaries_at m ds bytes (get_or bs i d)) (Some es)
      → AreAlike (dictionaries_after m (all_of source) es (drop (i + 1) bs)) all
  next-known es bytes same read =
      let here : AreAlike (dictionaries_at m ds source (get_or bs i d)) (Some es) = subst (λ (xs : List ℕ). AreAlike (dictionaries_at m ds xs (get_or bs i d)) (Some es)) same read in
      let next : AreAlike (dictionaries_after m (all_of source) es (drop (suc i) bs)) all =
      alike-on _ _ _ (block-read m (all_of source) (get_or bs i d) (drop (suc i) bs) ds es here) (subst (λ (o : Option Dictionaries). AreAlike o all) left-is so-far)
      in
      subst (λ (n : ℕ). AreAlike (dictionaries_after m (all_of source) es (drop n bs)) all) (sym (add-one i)) next

  pub next-refused : (e : Fault) (bytes : List ℕ) → bytes ≡ source → OwnFault e (dictionaries_at m ds bytes (get_or bs i d) ≡ None) → OwnFault e (all ≡ None)
  next-refused e bytes same h =
      claims_through e _ _ (λ none. alike-none _ all so-far (left-is ∙ block-refused m (all_of source) (get_or bs i d) (drop (suc i) bs) ds
      (ap (λ (xs : List ℕ). dictionaries_at m ds xs (get_or bs i d)) (sym same) ∙ none))) h

-- After the last block.
pub all-known : (m : FileMetadata) (source : List ℕ) (bs : List Block) (i : ℕ) (ds : Dictionaries) (all : Option Dictionaries) → length bs ≤ i
    → AreAlike (dictionaries_after m (all_of source) ds (drop i bs)) all → AreAlike all (Some ds)
all-known m source bs i ds all past h =
    alike-back _ _ (subst (λ (xs : List Block). AreAlike (dictionaries_after m (all_of source) ds xs) all) (drop_all i bs past) h)
