-- The bytes before the append position.
use Rattle.std.proofs.Common.{◌≡◌, ℕ, ◌≤◌, max, List, [], ◌∷◌, ◌++◌, length, take, drop, map, Option, None, refl, sym, ap, ap₂, ◌∙◌, arith, inl, inr, take-append-drop, append-nil}
use Rattle.std.proofs.lemmas.Bool.{cases_lt}
use Rattle.std.proofs.lemmas.List.{take_all, take-take}
use Rattle.ipc_table_views.specs.declared.file.Block.{Block}
use Rattle.ipc_model.proofs.FileFollowing.{blocks_follow_law}
use Rattle.ipc_model.specs.Batches.{Chunk}
use Rattle.ipc_model.specs.Entries.{Dictionaries}
use Rattle.ipc_model.specs.FileFollowLaws.{BlocksMean, SeesMore}
use Rattle.ipc_model.specs.Files.{FileMetadata, all_of, chunk_at, chunks_at, dictionaries_after, dictionaries_at}
use Rattle.ipc_model.specs.Schemas.{given}
use Rattle.ipc_file_lemmas.proofs.NormalFiles.{blocks_normal, given-same, normal_file}
use Rattle.ipc_file_lemmas.specs.Appending.{GoOnLaw, InsideLaw, StayLaw, end_of, goes_on, greatest_end, inside, normal_chunk}

-- ---- what some blocks see

-- The same bytes are read for each of some blocks.
AllSee : (seen then : Block → List ℕ) → List Block → Type 0
AllSee seen then [] = Unit {0}
AllSee seen then (b ∷ bs) = (then b ≡ seen b) × AllSee seen then bs

see-both : (seen then : Block → List ℕ) (xs ys : List Block) → AllSee seen then (xs ++ ys) → AllSee seen then xs × AllSee seen then ys
unfolding AllSee
see-both seen then [] ys h = (tt, h)
see-both seen then (x ∷ xs) ys h = let rest = see-both seen then xs ys h.1 in ((h.0, rest.0), rest.1)

dictionaries-seen : (m : FileMetadata) (seen then : Block → List ℕ) (known : Dictionaries) (bs : List Block) → AllSee seen then bs → dictionaries_after m then known bs ≡ dictionaries_after m seen known bs
unfolding AllSee
dictionaries-seen m seen then known [] h = refl
dictionaries-seen m seen then known (b ∷ bs) h =
    ap (λ (source : List ℕ). given (dictionaries_at m known source b) (λ after. dictionaries_after m then after bs)) h.0
    ∙ given-same (dictionaries_at m known (seen b) b) _ _ (λ after. dictionaries-seen m seen then after bs h.1)

chunks-seen : (m : FileMetadata) (seen then : Block → List ℕ) (known : Dictionaries) (bs : List Block) → AllSee seen then bs → chunks_at m known then None None bs ≡ chunks_at m known seen None None bs
unfolding AllSee
chunks-seen m seen then known [] h = refl
chunks-seen m seen then known (b ∷ bs) h =
    ap₂ (λ (o : Option Chunk) (os : List (Option Chunk)). o ∷ os) (ap (λ (source : List ℕ). chunk_at m known source b None None) h.0) (chunks-seen m seen then known bs h.1)

blocks-seen : (m : FileMetadata) (seen then : Block → List ℕ) (known : Dictionaries) (cs : List Chunk) → AllSee seen then (m.dictionaries ++ m.blocks) → BlocksMean m seen known cs → BlocksMean m then known cs
blocks-seen m seen then known cs h means =
    let both = see-both seen then m.dictionaries m.blocks h in
    record { dictionaries = dictionaries-seen m seen then [] m.dictionaries both.0 ∙ means.dictionaries; chunks = chunks-seen m seen then known m.blocks both.1 ∙ means.chunks }

-- ---- the append position

-- The bytes up to the ends of blocks, of the first p bytes alone.
abbrev before_place : ℕ → List ℕ → Block → List ℕ
before_place p bytes b = take (end_of b) (take p bytes)

all-before : (p : ℕ) (bytes : List ℕ) (bs : List Block) → greatest_end bs ≤ p → AllSee (inside bytes) (before_place p bytes) bs
unfolding AllSee
all-before p bytes [] h = tt
all-before p bytes (b ∷ bs) h = (take-take (end_of b) p bytes (omega (arith, h)), all-before p bytes bs (omega (arith, h)))

all-there : (p : ℕ) (bytes : List ℕ) (bs : List Block) → length bytes ≤ p → AllSee (inside bytes) (before_place p bytes) bs
unfolding AllSee
all-there p bytes [] h = tt
all-there p bytes (b ∷ bs) h = (ap (λ (xs : List ℕ). take (end_of b) xs) (take_all p bytes h), all-there p bytes bs h)

pub inside_law : InsideLaw
inside_law m bytes known cs long means =
    let p = goes_on m in
    let g = greatest_end (m.dictionaries ++ m.blocks) in
    let all : AllSee (inside bytes) (before_place p bytes) (m.dictionaries ++ m.blocks) =
    elim (cases_lt m.size g) [
      | inl h ↦ all-there p bytes (m.dictionaries ++ m.blocks) (omega (arith, h, long))
      | inr h ↦ all-before p bytes (m.dictionaries ++ m.blocks) (omega (arith, h))
    ] in
    let sees : SeesMore (before_place p bytes) (all_of (take p bytes)) =
    record { added = λ b. drop (end_of b) (take p bytes); behind = λ b. sym (take-append-drop (end_of b) (take p bytes)) } in
    blocks_follow_law m m.size (before_place p bytes) (all_of (take p bytes)) known cs sees (omega arith) (blocks-seen m (inside bytes) (before_place p bytes) known cs all means)

pub stay_law : StayLaw
stay_law m bytes then known cs same means =
    let p = goes_on m in
    let sees : SeesMore (all_of (take p bytes)) (all_of then) =
    record { added = λ b. drop p then; behind = λ b. sym (take-append-drop p then) ∙ ap (λ (xs : List ℕ). xs ++ drop p then) same } in
    blocks_follow_law m m.size (all_of (take p bytes)) (all_of then) known cs sees (omega arith) means

pub go_on_law : GoOnLaw
go_on_law m bytes known r cs agrees means = record {
  chunks = λ pairs.
      let before = take (goes_on m) bytes in
      let sees : SeesMore (all_of before) (all_of before) = record { added = λ b. []; behind = λ b. sym (append-nil before) } in
      record {
        known = known;
        agrees = agrees;
        blocks =
            blocks_follow_law (normal_file m pairs) (max m.size (length before)) (all_of before) (all_of before) known (map normal_chunk cs) sees (omega arith) (blocks_normal m pairs (all_of before) known cs means);
      };
}
