-- The blocks of files that have bytes after them.
use Rattle.std.proofs.Common.{◌≡◌, ℕ, zero, suc, ◌≤◌, nat_eq, Bool, true, false, cond, List, [], ◌∷◌, ◌++◌, map, drop, slice_get, Option, None, Some, refl, ap, ◌∙◌}
use Rattle.std.specs.Option.{option_and_then}
use Rattle.ipc_table_views.specs.declared.file.Block.{Block}
use Rattle.ipc_model.proofs.Followed.{record_follow_law, dictionary_follow_law}
use Rattle.ipc_model.proofs.Given.{given-some, then-some}
use Rattle.ipc_model.proofs.Frames.{frame_append}
use Rattle.ipc_model.specs.AddressLaws.{Followed}
use Rattle.ipc_model.specs.Batches.{Chunk}
use Rattle.ipc_model.specs.Entries.{Dictionaries, Limit}
use Rattle.ipc_model.specs.FileFollowLaws.{resized, SeesMore, BlocksFollowLaw, FileFollowLaw}
use Rattle.ipc_model.specs.Files.{FileMetadata, front_metadata, Placed, placed, metadata_at, BlockHeader, block_header, body_at, record_with, chunk_at, dictionaries_with, dictionaries_at, dictionaries_after, all_of, chunks_at}
use Rattle.ipc_model.specs.Frame.{Frame, message, mark, waiting, broken, frame}
use Rattle.ipc_model.specs.Schemas.{given}

-- ---- optional values

given_is : {A B : Type 0} (o : Option A) (f : A → Option B) (x : A) (c : B) → o ≡ Some x → f x ≡ Some c → given o f ≡ Some c
given_is o f x c e h = ap (λ p. given p f) e ∙ h

-- A test that passes for something passes for what follows from it.
where_true : {X : Type 0} (b : Bool) (x y : Option X) (c : X) → (x ≡ Some c → y ≡ Some c) → cond b x None ≡ Some c → cond b y None ≡ Some c
where_true true x y c f e = f e
where_true false x y c f e = absurd cc

-- ---- messages

front_some : (f : Frame) (metadata : List ℕ) → front_metadata f ≡ Some metadata → (rest : List ℕ) × (f ≡ message metadata rest)
front_some (message m rest) metadata e = let same : m ≡ metadata = cc in (rest, ap (λ x. message x rest) same)
front_some (mark rest) metadata e = absurd cc
front_some (waiting begun) metadata e = absurd cc
front_some broken metadata e = absurd cc

nothing_waits : (metadata rest : List ℕ) → frame [] ≡ message metadata rest → ⊥
unfolding frame
nothing_waits metadata rest e = cc

frame_then : (n : ℕ) (xs ys metadata rest : List ℕ) → frame (drop n xs) ≡ message metadata rest → frame (drop n (xs ++ ys)) ≡ message metadata (rest ++ ys)
frame_then zero xs ys metadata rest e = frame_append xs metadata rest ys e
frame_then (suc n) [] ys metadata rest e = absurd (nothing_waits metadata rest e)
frame_then (suc n) (x ∷ xs) ys metadata rest e = frame_then n xs ys metadata rest e

metadata_then : (xs ys : List ℕ) (p : Placed) (metadata : List ℕ) → metadata_at xs p ≡ Some metadata → metadata_at (xs ++ ys) p ≡ Some metadata
metadata_then xs ys p metadata e =
    let found = front_some (frame (drop p.message xs)) metadata e in
    ap front_metadata (frame_then p.message xs ys metadata found.0 found.1)

-- ---- blocks

body_then : (m : FileMetadata) (size : ℕ) (p : Placed) (xs ys : List ℕ) → m.size ≤ size → Followed (body_at m xs p) (body_at (resized m size) (xs ++ ys) p)
body_then m size p xs ys h = record { added = ys; source_then = refl; base_same = refl; size_grows = h }

record_then : (m : FileMetadata) (size : ℕ) (known : Dictionaries) (p : Placed) (projection : Option (List ℕ)) (limit : Limit) (h : BlockHeader) (c : Chunk) (xs ys : List ℕ) → m.size ≤ size
    → record_with m known (body_at m xs p) projection limit h ≡ Some c
    → record_with (resized m size) known (body_at (resized m size) (xs ++ ys) p) projection limit h ≡ Some c
record_then m size known p projection limit h c xs ys le e =
    where_true (nat_eq h.tag 3) _ _ c
    (record_follow_law m.schema h.extra known (body_at m xs p) (body_at (resized m size) (xs ++ ys) p) h.table projection limit c (body_then m size p xs ys le)) e

values_then : (m : FileMetadata) (size : ℕ) (known after : Dictionaries) (p : Placed) (h : BlockHeader) (xs ys : List ℕ) → m.size ≤ size
    → dictionaries_with m known (body_at m xs p) h ≡ Some after
    → dictionaries_with (resized m size) known (body_at (resized m size) (xs ++ ys) p) h ≡ Some after
values_then m size known after p h xs ys le e =
    where_true (nat_eq h.tag 2) _ _ after
    (dictionary_follow_law m.schema h.extra known after (body_at m xs p) (body_at (resized m size) (xs ++ ys) p) h.table (body_then m size p xs ys le)) e

chunk_then : (m : FileMetadata) (size : ℕ) (known : Dictionaries) (b : Block) (projection : Option (List ℕ)) (limit : Limit) (c : Chunk) (xs ys : List ℕ) → m.size ≤ size
    → chunk_at m known xs b projection limit ≡ Some c → chunk_at (resized m size) known (xs ++ ys) b projection limit ≡ Some c
unfolding chunk_at
chunk_then m size known b projection limit c xs ys le e =
    let p = given-some (placed b) _ c e in
    let t = given-some (metadata_at xs p.0) _ c p.2 in
    let h = given-some (block_header t.0) _ c t.2 in
    given_is (placed b) _ p.0 c p.1
    (given_is (metadata_at (xs ++ ys) p.0) _ t.0 c (metadata_then xs ys p.0 t.0 t.1)
    (given_is (block_header t.0) _ h.0 c h.1 (record_then m size known p.0 projection limit h.0 c xs ys le h.2)))

dictionary_then : (m : FileMetadata) (size : ℕ) (known after : Dictionaries) (b : Block) (xs ys : List ℕ) → m.size ≤ size
    → dictionaries_at m known xs b ≡ Some after → dictionaries_at (resized m size) known (xs ++ ys) b ≡ Some after
unfolding dictionaries_at
dictionary_then m size known after b xs ys le e =
    let p = given-some (placed b) _ after e in
    let t = given-some (metadata_at xs p.0) _ after p.2 in
    let h = given-some (block_header t.0) _ after t.2 in
    given_is (placed b) _ p.0 after p.1
    (given_is (metadata_at (xs ++ ys) p.0) _ t.0 after (metadata_then xs ys p.0 t.0 t.1)
    (given_is (block_header t.0) _ h.0 after h.1 (values_then m size known after p.0 h.0 xs ys le h.2)))

-- ---- all blocks

dictionaries_then : (m : FileMetadata) (size : ℕ) (seen then : Block → List ℕ) (known after : Dictionaries) (bs : List Block) → SeesMore seen then → m.size ≤ size
    → dictionaries_after m seen known bs ≡ Some after → dictionaries_after (resized m size) then known bs ≡ Some after
dictionaries_then m size seen then known after [] f le e = e
dictionaries_then m size seen then known after (b ∷ bs) f le e =
    let d = given-some (dictionaries_at m known (seen b) b) _ after e in
    given_is (dictionaries_at (resized m size) known (then b) b) _ d.0 after
    (ap (λ source. dictionaries_at (resized m size) known source b) (f.behind b)
    ∙ dictionary_then m size known d.0 b (seen b) (f.added b) le d.1)
    (dictionaries_then m size seen then d.0 after bs f le d.2)

first_is : {X : Type 0} (x y : X) (xs ys : List X) → x ∷ xs ≡ y ∷ ys → (x ≡ y) × (xs ≡ ys)
first_is x y xs ys e = (cc, cc)

cons_is : {X : Type 0} (x y : X) (xs ys : List X) → x ≡ y → xs ≡ ys → x ∷ xs ≡ y ∷ ys
cons_is x y xs ys e f = cc

chunks_then : (m : FileMetadata) (size : ℕ) (seen then : Block → List ℕ) (known : Dictionaries) (cs : List Chunk) (bs : List Block) → SeesMore seen then → m.size ≤ size
    → chunks_at m known seen None None bs ≡ map Some cs → chunks_at (resized m size) known then None None bs ≡ map Some cs
chunks_then m size seen then known [] [] f le e = refl
chunks_then m size seen then known (c ∷ cs) [] f le e = absurd cc
chunks_then m size seen then known [] (b ∷ bs) f le e = absurd cc
chunks_then m size seen then known (c ∷ cs) (b ∷ bs) f le e =
    let parts = first_is (chunk_at m known (seen b) b None None) (Some c) (chunks_at m known seen None None bs) (map Some cs) e in
    cons_is _ _ _ _
    (ap (λ source. chunk_at (resized m size) known source b None None) (f.behind b)
    ∙ chunk_then m size known b None None c (seen b) (f.added b) le parts.0)
    (chunks_then m size seen then known cs bs f le parts.1)

pub blocks_follow_law : BlocksFollowLaw
blocks_follow_law m size seen then known cs f le v = record {
  dictionaries = dictionaries_then m size seen then [] known m.dictionaries f le v.dictionaries;
  chunks = chunks_then m size seen then known cs m.blocks f le v.chunks;
}

-- ---- a file

all_more : (bytes added : List ℕ) → SeesMore (all_of bytes) (all_of (bytes ++ added))
all_more bytes added = record { added = λ b. added; behind = λ b. refl }

pub file_follow_law : FileFollowLaw
file_follow_law m size bytes added le = record {
  dictionaries = λ known e.
      dictionaries_then m size (all_of bytes) (all_of (bytes ++ added)) [] known m.dictionaries (all_more bytes added) le e;
  chunk = λ known projection limit i c e.
      let found = then-some _ (slice_get m.blocks i) c e in
      ap (option_and_then (λ b. chunk_at (resized m size) known (bytes ++ added) b projection limit)) found.1
      ∙ chunk_then m size known found.0 projection limit c bytes added le found.2;
}
