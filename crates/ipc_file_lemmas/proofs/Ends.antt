-- Where the blocks of a file end.
use Rattle.std.proofs.Common.{◌≡◌, ℕ, ◌+◌, ◌≤◌, max, List, [], ◌∷◌, ◌++◌, length, arith, length-append, inl, inr}
use Rattle.ipc_table_views.specs.declared.file.Block.{Block}
use Rattle.ipc_file_lemmas.specs.Appending.{HasNegative, HaveNegative, end_of, greatest_end}
use Rattle.ipc_file_lemmas.specs.FileBytes.{Sent, all_bytes, block_at, blocks_at, chunk_bytes, sent_bytes}

pub ends-both : (xs ys : List Block) → greatest_end (xs ++ ys) ≡ max (greatest_end xs) (greatest_end ys)
ends-both [] ys = omega arith
ends-both (x ∷ xs) ys = let rest = ends-both xs ys in omega (arith, rest)

pub no_ends : (ds bs : List Block) (place : ℕ) → ds ≡ [] → bs ≡ [] → greatest_end (ds ++ bs) ≤ place
no_ends ds bs place e f = rw (e, f) (omega arith)

length-sent : (w : Sent) → length (sent_bytes w) ≡ 8 + length w.metadata + length w.body
length-sent w = omega (arith, length-append w.metadata w.body)

-- a message that is sent ends where its block says
end-of-sent : (place : ℕ) (w : Sent) → end_of (block_at place w) ≡ place + length (sent_bytes w)
end-of-sent place w = omega (arith, length-sent w)

ends-of-sent : (place : ℕ) (ws : List Sent) → greatest_end (blocks_at place ws) ≤ place + length (all_bytes ws)
ends-of-sent place [] = omega arith
ends-of-sent place (w ∷ ws) =
    let rest = ends-of-sent (place + length (sent_bytes w)) ws in
    let own = end-of-sent place w in
    omega (arith, rest, own, length-append (sent_bytes w) (all_bytes ws))

-- the blocks of a chunk end where its bytes end
pub chunk_ends : (ds bs : List Block) (place : ℕ) (ws : List Sent) (own : Sent) → greatest_end (ds ++ bs) ≤ place
    → greatest_end ((ds ++ blocks_at place ws) ++ (bs ++ block_at (place + length (all_bytes ws)) own ∷ [])) ≤ place + length (chunk_bytes ws own)
chunk_ends ds bs place ws own h =
    let at = place + length (all_bytes ws) in
    let last = block_at at own in
    let ends = ends-of-sent place ws in
    let own_end = end-of-sent at own in
    omega (arith, h, ends, own_end, ends-both ds bs, ends-both (ds ++ blocks_at place ws) (bs ++ last ∷ []), ends-both ds (blocks_at place ws), ends-both bs (last ∷ []), length-append (all_bytes ws) (sent_bytes own))

-- The blocks of a chunk reach as far as its bytes.
pub chunk_reaches : (ds bs : List Block) (place : ℕ) (ws : List Sent) (own : Sent)
    → place + length (chunk_bytes ws own) ≤ greatest_end ((ds ++ blocks_at place ws) ++ (bs ++ block_at (place + length (all_bytes ws)) own ∷ []))
chunk_reaches ds bs place ws own =
    let at = place + length (all_bytes ws) in
    let last = block_at at own in
    let own_end = end-of-sent at own in
    omega (arith, own_end, ends-both (ds ++ blocks_at place ws) (bs ++ last ∷ []), ends-both bs (last ∷ []), length-append (all_bytes ws) (sent_bytes own))

-- ---- numbers below 0

pub front-has : (xs ys : List Block) → HaveNegative xs → HaveNegative (xs ++ ys)
front-has [] ys h = absurd h
front-has (x ∷ xs) ys (inl h) = inl h
front-has (x ∷ xs) ys (inr h) = inr (front-has xs ys h)

pub back-has : (xs ys : List Block) → HaveNegative ys → HaveNegative (xs ++ ys)
back-has [] ys h = h
back-has (x ∷ xs) ys h = inr (back-has xs ys h)

pub none_has : (xs ys : List Block) → (HaveNegative xs → ⊥) → (HaveNegative ys → ⊥) → HaveNegative (xs ++ ys) → ⊥
none_has [] ys f g h = g h
none_has (x ∷ xs) ys f g (inl h) = f (inl h)
none_has (x ∷ xs) ys f g (inr h) = none_has xs ys (λ k. f (inr k)) g h

pub none_at_all : (ds bs : List Block) → ds ≡ [] → bs ≡ [] → HaveNegative (ds ++ bs) → ⊥
none_at_all ds bs e f h = rw (e, f) at h

block-natural : (place : ℕ) (w : Sent) → HasNegative (block_at place w) → ⊥
block-natural place w (inl h) = h
block-natural place w (inr (inl h)) = h
block-natural place w (inr (inr h)) = h

blocks-natural : (place : ℕ) (ws : List Sent) → HaveNegative (blocks_at place ws) → ⊥
blocks-natural place [] h = h
blocks-natural place (w ∷ ws) (inl h) = block-natural place w h
blocks-natural place (w ∷ ws) (inr h) = blocks-natural (place + length (sent_bytes w)) ws h

last-natural : (place : ℕ) (w : Sent) → HaveNegative (block_at place w ∷ []) → ⊥
last-natural place w (inl h) = block-natural place w h
last-natural place w (inr h) = h

-- The blocks of a chunk have no negative number.
pub chunk_natural : (ds bs : List Block) (place : ℕ) (ws : List Sent) (own : Sent) → (HaveNegative (ds ++ bs) → ⊥)
    → HaveNegative ((ds ++ blocks_at place ws) ++ (bs ++ block_at (place + length (all_bytes ws)) own ∷ [])) → ⊥
chunk_natural ds bs place ws own none =
    let last = block_at (place + length (all_bytes ws)) own ∷ [] in
    none_has (ds ++ blocks_at place ws) (bs ++ last) (none_has ds (blocks_at place ws) (λ h. none (front-has ds bs h)) (blocks-natural place ws))
    (none_has bs last (λ h. none (back-has ds bs h)) (last-natural (place + length (all_bytes ws)) own))
