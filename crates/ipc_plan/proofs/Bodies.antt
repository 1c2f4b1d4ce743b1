-- Buffers of a body in a source, with any bytes before and after it.
use Rattle.std.proofs.Common.{arith, ◌≡◌, ℕ, suc, pos, ◌+◌, ◌-◌, List, [], ◌∷◌, ◌++◌, map, length, take, drop, replicate, get_or, refl, sym, ap, ◌∙◌, subst, length-append, append_assoc, rules}
use Rattle.std.specs.Int.{next_multiple_of}
use Rattle.std.specs.List.{flat_map}
use Rattle.std.proofs.lemmas.List.{take_at, drop_at, length-replicate, length-map}
use Rattle.lower_types.specs.declared.Endianness.{Endianness}
use Rattle.lower_arrays.specs.Layouts.{Layout, type_of, len_of, layouts}
use Rattle.lower_arrays.specs.Slots.{AreArrays}
use Rattle.ipc_base.specs.IdTrees.{IdTrees}
use Rattle.ipc_table_views.specs.declared.message.FieldNode.{FieldNode}
use Rattle.ipc_table_views.specs.declared.schema.Buffer.{Buffer}
use Rattle.ipc_model.specs.Entries.{Entries, Part, part_at, buffer}
use Rattle.ipc_model.specs.Kinds.{nodes, buffers}
use Rattle.ipc_model.specs.Offers.{own_id, inner_ids, whole_levels, body_lengths}
use Rattle.ipc_model.specs.TypeKinds.{first_ids, other_ids, kind_of}
use Rattle.ipc_model.specs.WrittenBatches.{padded, entry}
use Rattle.ipc_plan.specs.Bodies.{entries_of_plan, AllMean, PlansColumns}
use Rattle.ipc_plan.specs.Levels.{node_of, HaveBuffers, joined_buffers}
use Rattle.ipc_plan.specs.Meaning.{IsBufferOf, NodesStand, PartsStand, StandsAmong}
use Rattle.ipc_plan.specs.Pieces.{pieces_bytes}
use Rattle.ipc_plan.specs.Plans.{entries_from, end_from, body, Adds}
use Rattle.ipc_plan.specs.declared.plan.Plan.{Plan}
use Rattle.ipc_plan.proofs.Arrays.{array_law}
use Rattle.ipc_plan.proofs.Standing.{stands_both, stands_at, joined_count}
use Rattle.ipc_plan.proofs.Structs.{counted}

-- ---- lists

at_front : {A : Type 0} → (front : List A) (x : A) (xs : List A) (d : A) → get_or (front ++ x ∷ xs) (length front) d ≡ x
at_front [] x xs d = refl
at_front (y ∷ front) x xs d = at_front front x xs d

one_more : {A : Type 0} → (front : List A) (x : A) (xs : List A) → front ++ x ∷ xs ≡ (front ++ x ∷ []) ++ xs
one_more front x xs = sym (append_assoc front (x ∷ []) xs)

-- The nodes of a list are in the batch.
nodes_listed : (s : Entries) (front ns : List FieldNode) → s.nodes ≡ front ++ ns → NodesStand s (length front) ns
nodes_listed s front [] e = tt
nodes_listed s front (n ∷ ns) e =
    let long : length (front ++ n ∷ []) ≡ length front + 1 = length-append front (n ∷ []) in (
      ap (λ (xs : List FieldNode). get_or xs (length front) (record { length = pos 0; null_count = pos 0 })) e ∙ at_front front n ns _,
      subst (λ (k : ℕ). NodesStand s k ns) long (nodes_listed s (front ++ n ∷ []) ns (e ∙ one_more front n ns)),
    )

-- ---- buffers of a body

length_padded : (xs : List ℕ) → length (padded xs) ≡ next_multiple_of (length xs) 64
length_padded xs =
    let zero_byte : ℕ = 0 in
    let n = next_multiple_of (length xs) 64 - length xs in
    omega (arith, length-append xs (replicate n zero_byte), length-replicate n zero_byte)

-- The buffer at offset o of a body, whose bytes are after `front` in the source.
part_stands : (source front : List ℕ) (base o : ℕ) (x rest : List ℕ) → source ≡ front ++ (padded x ++ rest) → length front ≡ base + o → IsBufferOf (part_at source base (entry (pos o) (length x))) x
part_stands source front base o x rest e h = record {
  offset_is = search rules;
  listed_is = refl;
  bytes_are =
      ap (λ (ys : List ℕ). take (length x) (drop (base + o) ys)) e
      ∙ ap (take (length x)) (drop_at front (padded x ++ rest) (base + o) h ∙ append_assoc x _ rest)
      ∙ take_at x _ (length x) refl;
}

-- Buffers one after the other, whose padded bytes are so in the source.
parts_listed : (s : Entries) (source done : List ℕ) (base o : ℕ) (front : List Part) (bs : List (List ℕ)) (rest : List ℕ) → s.parts ≡ front ++ map (part_at source base) (entries_from o bs)
    → source ≡ done ++ (body bs ++ rest) → length done ≡ base + o → PartsStand s (length front) bs
parts_listed s source done base o front [] rest e f h = tt
parts_listed s source done base o front (x ∷ bs) rest e f h =
    let p = part_at source base (entry (pos o) (length x)) in
    let n = next_multiple_of (length x) 64 in
    let here : source ≡ done ++ (padded x ++ (body bs ++ rest)) = f ∙ ap (λ (ys : List ℕ). done ++ ys) (append_assoc (padded x) (body bs) rest) in
    let then : source ≡ (done ++ padded x) ++ (body bs ++ rest) = here ∙ sym (append_assoc done (padded x) (body bs ++ rest)) in
    let far : length (done ++ padded x) ≡ base + (o + n) = omega (arith, length-append done (padded x), length_padded x, h) in
    let long : length (front ++ p ∷ []) ≡ length front + 1 = length-append front (p ∷ []) in
    let is : buffer s (length front) ≡ p = ap (λ (ps : List Part). get_or ps (length front) (record { offset = pos 0; length = pos 0; bytes = [] })) e ∙ at_front front p _ _ in (
      subst (λ (q : Part). IsBufferOf q x) (sym is) (part_stands source done base o x (body bs ++ rest) here h),
      subst (λ (k : ℕ). PartsStand s k bs) long (parts_listed s source (done ++ padded x) base (o + n) (front ++ p ∷ []) bs rest (e ∙ one_more front p _) then far),
    )

-- ---- columns

columns_mean : (s : Entries) (ls : List Layout) (is : IdTrees) (a b : ℕ) → s.extra ≡ 0 → AreArrays (layouts ls) → StandsAmong s a b (flat_map whole_levels ls) → AllMean s ls is a b
columns_mean s [] is a b extra arrays st = tt
columns_mean s (l ∷ ls) is a b extra arrays st =
    let id = own_id (first_ids is) in
    let inner = inner_ids (first_ids is) in
    let t = kind_of (type_of l) id inner in
    let both = stands_both s a b (whole_levels l) (flat_map whole_levels ls) st in
    let count = counted s l id inner 0 (len_of l) arrays.0 extra in
    let bs : length (body_lengths (whole_levels l)) ≡ buffers 0 t = count.buffer_count ∙ ap (λ k. buffers k t) extra in (
      λ known. array_law s l a b id inner arrays.0 extra both.here known,
      columns_mean s ls (other_ids is) (a + nodes t) (b + buffers 0 t) extra arrays.1
          (stands_at s _ _ (a + nodes t) (b + buffers 0 t) (flat_map whole_levels ls) (ap (λ k. a + k) count.node_count) (ap (λ k. b + k) bs) both.behind),
    )

entries_count : (o : ℕ) (bs : List (List ℕ)) → length (entries_from o bs) ≡ length bs
entries_count o [] = refl
entries_count o (x ∷ bs) = ap (λ n. suc n) (entries_count (o + next_multiple_of (length x) 64) bs)

-- buffers end where their padded bytes do
end_long : (o : ℕ) (bs : List (List ℕ)) → end_from o bs ≡ o + length (body bs)
end_long o [] = omega arith
end_long o (x ∷ bs) =
    let rest = end_long (o + next_multiple_of (length x) 64) bs in
    omega (arith, rest, length-append (padded x) (body bs), length_padded x)

-- what was added to an empty plan
pub plans_columns : (p q : Plan) (ls : List Layout) → p.nodes.items ≡ [] → p.buffers.items ≡ [] → p.pieces.items ≡ [] → p.end ≡ 0 → AreArrays (layouts ls) → Adds p q (flat_map whole_levels ls) → PlansColumns p.order ls q
plans_columns p q ls no_nodes no_buffers no_pieces begins arrays a =
    let g = a.grows in
    let hs = flat_map whole_levels ls in
    let ns : q.nodes.items ≡ map node_of hs = g.nodes_are ∙ ap (λ (xs : List FieldNode). xs ++ map node_of hs) no_nodes in
    let es : q.buffers.items ≡ entries_from 0 (joined_buffers a.buffers) = g.entries_are ∙ ap (λ (xs : List Buffer). xs ++ entries_from p.end (joined_buffers a.buffers)) no_buffers ∙ ap (λ o. entries_from o (joined_buffers a.buffers)) begins in
    let bytes : pieces_bytes q.order q.pieces.items ≡ body (joined_buffers a.buffers) =
    ap (λ (o : Endianness). pieces_bytes o q.pieces.items) g.order_same ∙ g.body_is ∙ ap (λ ps. pieces_bytes p.order ps ++ body (joined_buffers a.buffers)) no_pieces in
    let count : length q.buffers.items ≡ length (joined_buffers a.buffers) = ap (λ (xs : List Buffer). length xs) es ∙ entries_count 0 (joined_buffers a.buffers) in
    let long : 0 + length (body (joined_buffers a.buffers)) ≡ length (body (joined_buffers a.buffers)) = omega arith in
    let none : length p.pieces.items ≡ 0 = ap (λ ps. length ps) no_pieces in
    record {
      order_is = g.order_same;
      buffers = a.buffers;
      have = a.have;
      nodes_are = ns;
      entries_are = es;
      end_is = g.end_is ∙ ap (λ o. end_from o (joined_buffers a.buffers)) begins ∙ end_long 0 (joined_buffers a.buffers) ∙ long;
      body_is = g.body_is ∙ ap (λ ps. pieces_bytes p.order ps ++ body (joined_buffers a.buffers)) no_pieces;
      node_count = ap (λ (xs : List FieldNode). length xs) ns ∙ length-map hs node_of;
      buffer_count = count ∙ joined_count p.order hs a.buffers a.have;
      piece_count = omega (arith, g.few, count, none);
      means = λ known before rest is.
          let s = entries_of_plan q known before rest in
          let source = before ++ (pieces_bytes q.order q.pieces.items ++ rest) in
          columns_mean s ls is 0 0 refl arrays (record {
            buffers = a.buffers;
            have = subst (λ (o : Endianness). HaveBuffers o hs a.buffers) (sym g.order_same) a.have;
            nodes_stand = nodes_listed s [] (map node_of hs) ns;
            parts_stand = parts_listed s source before (length before) 0 [] (joined_buffers a.buffers) rest (ap (λ (bs : List Buffer). map (part_at source (length before)) bs) es)
                (ap (λ (xs : List ℕ). before ++ (xs ++ rest)) bytes) (omega arith);
          });
    }
