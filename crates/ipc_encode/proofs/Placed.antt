-- Nodes and buffers among others in the lists of a batch.
use Rattle.std.proofs.Common.{arith, ◌≡◌, ℕ, pos, ◌+◌, ◌-◌, List, [], ◌∷◌, ◌++◌, map, length, take, drop, replicate, get_or, refl, sym, ap, ◌∙◌, subst, length-append, append_assoc, rules}
use Rattle.std.specs.Int.{next_multiple_of}
use Rattle.std.proofs.lemmas.List.{take_at, drop_at, length-replicate}
use Rattle.ipc_table_views.specs.declared.message.FieldNode.{FieldNode}
use Rattle.ipc_model.specs.Entries.{Entries, Part, part_at, buffer}
use Rattle.ipc_model.specs.WrittenBatches.{padded, entry}
use Rattle.ipc_plan.specs.Meaning.{IsBufferOf, NodesStand, PartsStand}
use Rattle.ipc_plan.specs.Plans.{body, end_from, entries_from}

-- ---- lists

at_front : {A : Type 0} → (front : List A) (x : A) (xs : List A) (d : A) → get_or (front ++ x ∷ xs) (length front) d ≡ x
at_front [] x xs d = refl
at_front (y ∷ front) x xs d = at_front front x xs d

one_more : {A : Type 0} → (front : List A) (x : A) (xs : List A) → front ++ x ∷ xs ≡ (front ++ x ∷ []) ++ xs
one_more front x xs = sym (append_assoc front (x ∷ []) xs)

-- ---- nodes

pub nodes_placed : (s : Entries) (front ns behind : List FieldNode) → s.nodes ≡ front ++ (ns ++ behind) → NodesStand s (length front) ns
nodes_placed s front [] behind e = tt
nodes_placed s front (n ∷ ns) behind e =
    let long : length (front ++ n ∷ []) ≡ length front + 1 = length-append front (n ∷ []) in (
      ap (λ (xs : List FieldNode). get_or xs (length front) (record { length = pos 0; null_count = pos 0 })) e ∙ at_front front n (ns ++ behind) _,
      subst (λ (k : ℕ). NodesStand s k ns) long (nodes_placed s (front ++ n ∷ []) ns behind (e ∙ one_more front n (ns ++ behind))),
    )

-- ---- buffers

pub length_padded : (xs : List ℕ) → length (padded xs) ≡ next_multiple_of (length xs) 64
length_padded xs =
    let zero_byte : ℕ = 0 in
    let n = next_multiple_of (length xs) 64 - length xs in
    omega (arith, length-append xs (replicate n zero_byte), length-replicate n zero_byte)

-- The buffer at offset o of a body, whose bytes are after `front` in the source.
part_placed : (source front : List ℕ) (base o : ℕ) (x rest : List ℕ) → source ≡ front ++ (padded x ++ rest) → length front ≡ base + o → IsBufferOf (part_at source base (entry (pos o) (length x))) x
part_placed source front base o x rest e h = record {
  offset_is = search rules;
  listed_is = refl;
  bytes_are =
      ap (λ (ys : List ℕ). take (length x) (drop (base + o) ys)) e
      ∙ ap (take (length x)) (drop_at front (padded x ++ rest) (base + o) h ∙ append_assoc x _ rest)
      ∙ take_at x _ (length x) refl;
}

-- Buffers one after the other, whose padded bytes are so in the source.
pub parts_placed : (s : Entries) (source done : List ℕ) (base o : ℕ) (front behind : List Part) (bs : List (List ℕ)) (rest : List ℕ) → s.parts ≡ front ++ (map (part_at source base) (entries_from o bs) ++ behind)
    → source ≡ done ++ (body bs ++ rest) → length done ≡ base + o → PartsStand s (length front) bs
parts_placed s source done base o front behind [] rest e f h = tt
parts_placed s source done base o front behind (x ∷ bs) rest e f h =
    let p = part_at source base (entry (pos o) (length x)) in
    let n = next_multiple_of (length x) 64 in
    let here : source ≡ done ++ (padded x ++ (body bs ++ rest)) = f ∙ ap (λ (ys : List ℕ). done ++ ys) (append_assoc (padded x) (body bs) rest) in
    let then : source ≡ (done ++ padded x) ++ (body bs ++ rest) = here ∙ sym (append_assoc done (padded x) (body bs ++ rest)) in
    let far : length (done ++ padded x) ≡ base + (o + n) = omega (arith, length-append done (padded x), length_padded x, h) in
    let long : length (front ++ p ∷ []) ≡ length front + 1 = length-append front (p ∷ []) in
    let is : buffer s (length front) ≡ p = ap (λ (ps : List Part). get_or ps (length front) (record { offset = pos 0; length = pos 0; bytes = [] })) e ∙ at_front front p _ _ in (
      subst (λ (q : Part). IsBufferOf q x) (sym is) (part_placed source done base o x (body bs ++ rest) here h),
      subst (λ (k : ℕ). PartsStand s k bs) long (parts_placed s source (done ++ padded x) base (o + n) (front ++ p ∷ []) behind bs rest (e ∙ one_more front p _) then far),
    )

-- buffers end where their padded bytes do
pub end_long : (o : ℕ) (bs : List (List ℕ)) → end_from o bs ≡ o + length (body bs)
end_long o [] = omega arith
end_long o (x ∷ bs) =
    let rest = end_long (o + next_multiple_of (length x) 64) bs in
    omega (arith, rest, length-append (padded x) (body bs), length_padded x)
