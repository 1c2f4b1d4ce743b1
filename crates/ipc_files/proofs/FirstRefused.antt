-- The first block of some whose dictionary has no meaning.
use Rattle.std.proofs.Common.{◌≡◌, ℕ, suc, ◌+◌, ◌<◌, List, [], ◌∷◌, length, drop, get_or, add-one, Option, None, Some, refl, sym, subst}
use Rattle.std.proofs.Math.Seq.{drop-cons}
use Rattle.std.specs.Prelude.{MatchOption}
use Rattle.ipc_devices.proofs.Claims.{claims_own, claims_through}
use Rattle.ipc_devices.specs.Faults.{OwnFault}
use Rattle.ipc_devices.specs.declared.fault.Fault.{Fault}
use Rattle.ipc_table_views.specs.declared.file.Block.{Block}
use Rattle.ipc_stream_lemmas.specs.Agreement.{KnowAlike, AreAlike}
use Rattle.ipc_model.specs.Entries.{Dictionaries}
use Rattle.ipc_model.specs.Files.{FileMetadata, dictionaries_at}
use Rattle.ipc_files.specs.Dictionaries.{DictionariesReason, DictionaryReason}
use Rattle.ipc_files.proofs.KnownAlike.{alike-back, block-alike}

match-alike : (o p : Option Dictionaries) (P : Type 0) (F : Dictionaries → Type 0) → AreAlike o p → ((ds es : Dictionaries) → KnowAlike ds es → F ds → F es)
    → MatchOption o P F → MatchOption p P F
match-alike None None P F alike f h = h
match-alike None (Some es) P F alike f h = absurd alike
match-alike (Some ds) None P F alike f h = absurd alike
match-alike (Some ds) (Some es) P F alike f h = f ds es alike h

drop-none : (bs : List Block) → drop 0 bs ≡ bs
drop-none [] = refl
drop-none (b ∷ bs) = refl

module _ (m : FileMetadata) (source : List ℕ) (e : Fault) where
  reason-alike : (bs : List Block) (ds es : Dictionaries) → KnowAlike ds es → DictionariesReason m source ds bs e → DictionariesReason m source es bs e
  reason-alike [] ds es alike h = h
  reason-alike (b ∷ bs) ds es alike h =
      match-alike (dictionaries_at m ds source b) (dictionaries_at m es source b) (DictionaryReason m source b e) (λ (after : Dictionaries). DictionariesReason m source after bs e)
      (block-alike m ds es source b alike) (reason-alike bs) h

  pub from-none : (bs : List Block) (ds : Dictionaries) → ds ≡ [] → DictionariesReason m source ds (drop 0 bs) e → DictionariesReason m source [] bs e
  from-none bs ds none h =
      subst (λ (xs : List Block). DictionariesReason m source [] xs e) (drop-none bs) (subst (λ (ks : Dictionaries). DictionariesReason m source ks (drop 0 bs) e) none h)

  module _ (bs : List Block) (i : ℕ) (d : Block) (ds : Dictionaries) (within : i < length bs) (bytes : List ℕ) (same : bytes ≡ source) where
    -- If the block at i has a meaning, the first faulty block is after it.
    pub behind : (es : Dictionaries) → AreAlike (dictionaries_at m ds bytes (get_or bs i d)) (Some es) → DictionariesReason m source es (drop (i + 1) bs) e
        → DictionariesReason m source ds (drop i bs) e
    behind es read h =
        let here : AreAlike (dictionaries_at m ds source (get_or bs i d)) (Some es) = subst (λ (xs : List ℕ). AreAlike (dictionaries_at m ds xs (get_or bs i d)) (Some es)) same read in
        let next = subst (λ (n : ℕ). DictionariesReason m source es (drop n bs) e) (add-one i) h in
        subst (λ (xs : List Block). DictionariesReason m source ds xs e) (sym (drop-cons bs i d within))
        (match-alike (Some es) (dictionaries_at m ds source (get_or bs i d)) (DictionaryReason m source (get_or bs i d) e) (λ (after : Dictionaries). DictionariesReason m source after (drop (suc i) bs) e)
        (alike-back _ _ here) (reason-alike (drop (suc i) bs)) next)

    first : dictionaries_at m ds bytes (get_or bs i d) ≡ None → DictionaryReason m bytes (get_or bs i d) e → DictionariesReason m source ds (drop i bs) e
    first none why =
        subst (λ (xs : List Block). DictionariesReason m source ds xs e) (sym (drop-cons bs i d within))
        (subst (λ (xs : List ℕ). MatchOption (dictionaries_at m ds xs (get_or bs i d)) (DictionaryReason m xs (get_or bs i d) e) (λ (after : Dictionaries). DictionariesReason m source after (drop (suc i) bs) e)) same
        (subst (λ (o : Option Dictionaries). MatchOption o (DictionaryReason m bytes (get_or bs i d) e) (λ (after : Dictionaries). DictionariesReason m source after (drop (suc i) bs) e)) (sym none) why))

    pub refused-first : {Q : Type 0} → (DictionariesReason m source ds (drop i bs) e → Q) → OwnFault e (dictionaries_at m ds bytes (get_or bs i d) ≡ None)
        → OwnFault e (DictionaryReason m bytes (get_or bs i d) e) → OwnFault e Q
    refused-first {Q} f h why =
        claims_own e (dictionaries_at m ds bytes (get_or bs i d) ≡ None) Q (λ none. claims_through e (DictionaryReason m bytes (get_or bs i d) e) Q (λ is. f (first none is)) why) h
