-- The blocks of messages, one after another.
use Rattle.std.proofs.Common.{◌≡◌, ℕ, ◌+◌, ◌^◌, ◌<◌, List, [], ◌∷◌, ◌++◌, suc, inl, inr, length, map, take, drop, get_or, refl, sym, ap, subst, ◌∙◌, arith, length-append}
use Rattle.std.proofs.lemmas.List.{take_more}
use Rattle.std.proofs.Math.Seq.{split_at}
use Rattle.ipc_devices.specs.declared.fault.Fault.{Fault}
use Rattle.ipc_devices.specs.declared.fault.Fault.TheVariants.{Memory}
use Rattle.ipc_encode.specs.declared.batches.Encoded.{Encoded}
use Rattle.ipc_file_write.specs.Blocks.{HasBlocksFrom, RefusesPlace, RefusesBlockRoom, sent_seen}
use Rattle.ipc_file_write.specs.declared.blocks.Placed.{Placed}
use Rattle.ipc_table_views.specs.declared.file.Block.{Block}
use Rattle.ipc_file_lemmas.specs.FileBytes.{Sent, all_bytes, block_at, blocks_at, sent_bytes}

pub blocks_more : (place : ℕ) (ws : List Sent) (w : Sent) → blocks_at place (ws ++ w ∷ []) ≡ blocks_at place ws ++ block_at (place + length (all_bytes ws)) w ∷ []
blocks_more place [] w = ap (λ (k : ℕ). block_at k w ∷ []) (omega arith)
blocks_more place (v ∷ ws) w =
    let rest = blocks_more (place + length (sent_bytes v)) ws w in
    let on : (place + length (sent_bytes v)) + length (all_bytes ws) ≡ place + length (sent_bytes v ++ all_bytes ws) = omega (arith, length-append (sent_bytes v) (all_bytes ws)) in
    ap (λ (xs : List Block). block_at place v ∷ xs) (rest ∙ ap (λ (k : ℕ). blocks_at (place + length (sent_bytes v)) ws ++ block_at k w ∷ []) on)

pub bytes_more : (ws : List Sent) (w : Sent) → length (all_bytes (ws ++ w ∷ [])) ≡ length (all_bytes ws) + length (sent_bytes w)
bytes_more [] w = omega (arith, length-append (sent_bytes w) [])
bytes_more (v ∷ ws) w =
    omega (arith, length-append (sent_bytes v) (all_bytes (ws ++ w ∷ [])), length-append (sent_bytes v) (all_bytes ws), bytes_more ws w)

pub length-sent : (w : Sent) → length (sent_bytes w) ≡ 8 + length w.metadata + length w.body
length-sent w = omega (arith, length-append w.metadata w.body)

pub ruleset placed = (length-sent)

-- A message that has no block.
pub refused-front : (place : ℕ) (ws vs : List Sent) (e : Fault) → RefusesBlockRoom place ws e → RefusesBlockRoom place (ws ++ vs) e
refused-front place ws vs Memory h = tt
refused-front place [] vs e h = absurd h
refused-front place (w ∷ ws) vs e (inl h) = inl h
refused-front place (w ∷ ws) vs e (inr h) = inr (refused-front (place + length (sent_bytes w)) ws vs e h)

pub in-front : (place : ℕ) (ws : List Sent) (w : Sent) (rest : List Sent) (e : Fault) → RefusesPlace (place + length (all_bytes ws)) w e → RefusesBlockRoom place (ws ++ w ∷ rest) e
in-front place [] w rest Memory h = tt
in-front place [] w rest e h =
    let same : place + length (all_bytes []) ≡ place = omega arith in
    inl (subst (λ (k : ℕ). RefusesPlace k w e) same h)
in-front place (v ∷ ws) w rest Memory h = tt
in-front place (v ∷ ws) w rest e h =
    let same : place + length (all_bytes (v ∷ ws)) ≡ (place + length (sent_bytes v)) + length (all_bytes ws) = omega (arith, length-append (sent_bytes v) (all_bytes ws)) in
    inr (in-front (place + length (sent_bytes v)) ws w rest e (subst (λ (k : ℕ). RefusesPlace k w e) same h))

-- ---- a chunk

pub placed-front : (place behind : ℕ) (ws : List Sent) (own : Sent) (e : Fault) → behind ≡ place + length (all_bytes ws) → RefusesPlace behind own e → RefusesBlockRoom place (ws ++ own ∷ []) e
placed-front place behind ws own e at h = in-front place ws own [] e (subst (λ (k : ℕ). RefusesPlace k own e) at h)

pub chunk-placed : (place behind end : ℕ) (ws : List Sent) (own : Sent) (bs : List Block) (b : Block) (p : Placed) → bs ≡ blocks_at place ws → behind ≡ place + length (all_bytes ws) → b ≡ block_at behind own
    → end ≡ behind + length (sent_bytes own) → end < 2 ^ 63 → p.dictionaries.items ≡ bs → p.record_batch ≡ b → p.end ≡ end → HasBlocksFrom place ws own p
chunk-placed place behind end ws own bs b p blocks at block on short f g h = record {
  dictionaries_are = f ∙ blocks;
  record_is = g ∙ block ∙ ap (λ (k : ℕ). block_at k own) at;
  end_is = let both = length-append (all_bytes ws) (sent_bytes own) in omega (arith, h, on, at, both);
  short = omega (arith, h, short);
}

-- ---- one message more

seen-both : (xs ys : List Encoded) → map sent_seen (xs ++ ys) ≡ map sent_seen xs ++ map sent_seen ys
seen-both [] ys = refl
seen-both (x ∷ xs) ys = ap (λ (ws : List Sent). sent_seen x ∷ ws) (seen-both xs ys)

next-seen : (es : List Encoded) (i : ℕ) (e : Encoded) → i < length es → e ≡ get_or es i e → map sent_seen (take (i + 1) es) ≡ map sent_seen (take i es) ++ sent_seen e ∷ []
next-seen es i e inside is =
    ap (map sent_seen) (take_more es i e inside) ∙ seen-both (take i es) (get_or es i e ∷ []) ∙ ap (λ (x : Encoded). map sent_seen (take i es) ++ sent_seen x ∷ []) (sym is)

pub next-blocks : (place end : ℕ) (es : List Encoded) (i : ℕ) (e : Encoded) (bs cs : List Block) (b : Block) → i < length es → e ≡ get_or es i e → end ≡ place + length (all_bytes (map sent_seen (take i es)))
    → bs ≡ blocks_at place (map sent_seen (take i es)) → b ≡ block_at end (sent_seen e) → cs ≡ bs ++ b ∷ [] → cs ≡ blocks_at place (map sent_seen (take (i + 1) es))
next-blocks place end es i e bs cs b inside is at so_far here more =
    let ws = map sent_seen (take i es) in
    more ∙ ap (λ (xs : List Block). xs ++ b ∷ []) so_far ∙ ap (λ (x : Block). blocks_at place ws ++ x ∷ []) (here ∙ ap (λ (k : ℕ). block_at k (sent_seen e)) at)
    ∙ sym (blocks_more place ws (sent_seen e)) ∙ ap (blocks_at place) (sym (next-seen es i e inside is))

pub next-end : (place end behind : ℕ) (es : List Encoded) (i : ℕ) (e : Encoded) → i < length es → e ≡ get_or es i e → end ≡ place + length (all_bytes (map sent_seen (take i es)))
    → behind ≡ end + length (sent_bytes (sent_seen e)) → behind ≡ place + length (all_bytes (map sent_seen (take (i + 1) es)))
next-end place end behind es i e inside is at on =
    let ws = map sent_seen (take i es) in
    let more = bytes_more ws (sent_seen e) in
    let whole : length (all_bytes (map sent_seen (take (i + 1) es))) ≡ length (all_bytes (ws ++ sent_seen e ∷ [])) = ap (λ (xs : List Sent). length (all_bytes xs)) (next-seen es i e inside is) in
    omega (arith, at, on, more, whole)

pub refused_at : (place : ℕ) (es : List Encoded) (i : ℕ) (e : Encoded) (f : Fault) (end : ℕ) → i < length es → e ≡ get_or es i e → end ≡ place + length (all_bytes (map sent_seen (take i es)))
    → RefusesPlace end (sent_seen e) f → RefusesBlockRoom place (map sent_seen es) f
refused_at place es i e f end inside is at h =
    let ws = map sent_seen (take i es) in
    let rest = map sent_seen (drop (suc i) es) in
    let here = subst (λ (k : ℕ). RefusesPlace k (sent_seen e) f) at h in
    let parts : map sent_seen es ≡ ws ++ sent_seen e ∷ rest =
    ap (map sent_seen) (split_at es i e inside) ∙ seen-both (take i es) (get_or es i e ∷ drop (suc i) es) ∙ ap (λ (x : Encoded). ws ++ sent_seen x ∷ rest) (sym is) in
    subst (λ (xs : List Sent). RefusesBlockRoom place xs f) (sym parts) (in-front place ws (sent_seen e) rest f here)
