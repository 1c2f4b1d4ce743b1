-- Plans that grow.
use Rattle.std.proofs.Common.{arith, ◌≡◌, ℕ, zero, suc, take, get_or, pos, ◌+◌, ◌-◌, ◌*◌, ◌^◌, ◌<◌, ℤ, None, Some, Option, Bool, List, [], ◌∷◌, ◌++◌, length, map, replicate, refl, sym, ap, ◌∙◌, subst, append_assoc, append-nil, length-append, Result, Ok, Err}
use Rattle.std.specs.Prelude.{OnOk}
use Rattle.std.specs.Int.{next_multiple_of}
use Rattle.std.specs.List.{flat_map}
use Rattle.std.proofs.lemmas.List.{map-append, nil_from_length}
use Rattle.std.proofs.Math.Nat.{add-mul}
use Rattle.std.proofs.lemmas.Grind.{flat_map-append}
use Rattle.lower_types.specs.declared.Endianness.{Endianness}
use Rattle.lower_arrays.specs.Layouts.{Validity, nothing, truths, numbers, fixed_bytes, bytes, texts, lists, fixed_lists, maps, records, choices, keys, Level, layouts}
use Rattle.lower_arrays.specs.AnyLayouts.{layout_of}
use Rattle.lower_arrays.specs.declared.array.AnyArray.{AnyArray}
use Rattle.lower.specs.TypeTrees.{TypeTree}
use Rattle.ipc_model.specs.Offers.{whole_levels, written_levels, levels_below}
use Rattle.ipc_table_views.specs.declared.message.FieldNode.{FieldNode}
use Rattle.ipc_model.specs.WrittenBatches.{padded, entry}
use Rattle.ipc_plan.specs.Levels.{node_of, number_form, cut_out, AreNumberBytes, AreOffsetBytes, HaveBuffers, joined_buffers}
use Rattle.ipc_model.specs.Kinds.{number_kind}
use Rattle.lower_flat_arrays.specs.Validities.{null_count_of}
use Rattle.lower_types.specs.NumberTypes.{Number, whole}
use Rattle.lower_types.specs.declared.PrimitiveType.TheVariants.{Int8 as Int8Form, Int32 as Int32Form}
use Rattle.lower.specs.declared.datatypes.IntegerType.{IntegerType}
use Rattle.ipc_model.specs.TypeKinds.{key_form}
use Rattle.lower_types.specs.declared.PrimitiveType.{PrimitiveType}
use Rattle.ipc_plan.specs.declared.pieces.NumberSlice.{NumberSlice}
use Rattle.ipc_plan.specs.declared.pieces.NumberSlice.TheVariants.{Int8, Int16, Int32, Int64, Int128, Int256, UInt8, UInt16, UInt32, UInt64, DaysMs, MonthDayNano}
use Rattle.ipc_plan.specs.Pieces.{padded_bytes, piece_bytes, pieces_bytes, slice_type}
use Rattle.ipc_plan.specs.Plans.{entries_from, end_from, body, Grows, AddsValidity, AddsBits, AddsNumbers, AddsOffsets, AddsHead, AddsSpans, AddsStart, AddsLevel, Adds}
use Rattle.ipc_plan.specs.declared.pieces.Piece.{Piece}
use Rattle.ipc_plan.specs.declared.pieces.Padded.{Padded}
use Rattle.ipc_plan.specs.declared.plan.Plan.{Plan}
use Rattle.ipc_plan.proofs.Standing.{joined-append}

-- ---- buffers, and buffers after them

end-append : (o : ℕ) (xs ys : List (List ℕ)) → end_from o (xs ++ ys) ≡ end_from (end_from o xs) ys
end-append o [] ys = refl
end-append o (x ∷ xs) ys = end-append (o + next_multiple_of (length x) 64) xs ys

entries-append : (o : ℕ) (xs ys : List (List ℕ)) → entries_from o (xs ++ ys) ≡ entries_from o xs ++ entries_from (end_from o xs) ys
entries-append o [] ys = refl
entries-append o (x ∷ xs) ys = ap (λ es. entry (pos o) (length x) ∷ es) (entries-append (o + next_multiple_of (length x) 64) xs ys)

-- what is added to a list twice
twice : {A : Type 0} → (a b c xs ys : List A) → b ≡ a ++ xs → c ≡ b ++ ys → c ≡ a ++ (xs ++ ys)
twice a b c xs ys e f = f ∙ ap (λ zs. zs ++ ys) e ∙ append_assoc a xs ys

pub grows_then : (p q r : Plan) (ns ms : List FieldNode) (bs cs : List (List ℕ)) → Grows p q ns bs → Grows q r ms cs → Grows p r (ns ++ ms) (bs ++ cs)
grows_then p q r ns ms bs cs f g = record {
  order_same = g.order_same ∙ f.order_same;
  nodes_are = twice p.nodes.items q.nodes.items r.nodes.items ns ms f.nodes_are g.nodes_are;
  entries_are =
      twice p.buffers.items q.buffers.items r.buffers.items (entries_from p.end bs) (entries_from (end_from p.end bs) cs) f.entries_are
      (g.entries_are ∙ ap (λ o. q.buffers.items ++ entries_from o cs) f.end_is)
      ∙ ap (λ es. p.buffers.items ++ es) (sym (entries-append p.end bs cs));
  end_is = g.end_is ∙ ap (λ o. end_from o cs) f.end_is ∙ sym (end-append p.end bs cs);
  body_is =
      twice (pieces_bytes p.order p.pieces.items) (pieces_bytes p.order q.pieces.items) (pieces_bytes p.order r.pieces.items) (body bs) (body cs) f.body_is
      (subst (λ (o : Endianness). pieces_bytes o r.pieces.items ≡ pieces_bytes o q.pieces.items ++ body cs) f.order_same g.body_is)
      ∙ ap (λ xs. pieces_bytes p.order p.pieces.items ++ xs) (sym (flat_map-append padded bs cs));
  few = omega (arith, f.few, g.few, length-append bs cs);
  small = g.small;
}

-- One more buffer: its piece, and zeros.
pub one_piece : (order : Endianness) (ps qs : List Padded) (x : Piece) (n k : ℕ) → n ≡ length (piece_bytes order x) → k ≡ next_multiple_of n 64 - n → qs ≡ ps ++ record { piece = x; zeros = k } ∷ []
    → pieces_bytes order qs ≡ pieces_bytes order ps ++ body (piece_bytes order x ∷ [])
one_piece order ps qs x n k len count e =
    let zero_byte : ℕ = 0 in
    let zeros : k ≡ next_multiple_of (length (piece_bytes order x)) 64 - length (piece_bytes order x) = count ∙ ap (λ j. next_multiple_of j 64 - j) len in
    ap (pieces_bytes order) e
    ∙ flat_map-append (padded_bytes order) ps (record { piece = x; zeros = k } ∷ [])
    ∙ ap (λ j. pieces_bytes order ps ++ ((piece_bytes order x ++ replicate j zero_byte) ++ [])) zeros

-- No piece for a buffer that has no byte.
pub no_piece : (order : Endianness) (ps : List Padded) (x : Piece) → length (piece_bytes order x) ≡ 0 → pieces_bytes order ps ≡ pieces_bytes order ps ++ body (piece_bytes order x ∷ [])
no_piece order ps x e = sym (ap (λ xs. pieces_bytes order ps ++ body (xs ∷ [])) (nil_from_length _ e) ∙ append-nil (pieces_bytes order ps))

-- ---- levels

have_both : (order : Endianness) (hs ks : List Level) (xs ys : List (List (List ℕ))) → HaveBuffers order hs xs → HaveBuffers order ks ys → HaveBuffers order (hs ++ ks) (xs ++ ys)
have_both order [] ks [] ys h k = k
have_both order [] ks (x ∷ xs) ys h k = absurd h
have_both order (h ∷ hs) ks [] ys e k = absurd e
have_both order (h ∷ hs) ks (x ∷ xs) ys e k = (e.0, have_both order hs ks xs ys e.1 k)

pub adds_then : (p q r : Plan) (hs ks : List Level) → Adds p q hs → Adds q r ks → Adds p r (hs ++ ks)
adds_then p q r hs ks f g =
    let all = grows_then p q r (map node_of hs) (map node_of ks) (joined_buffers f.buffers) (joined_buffers g.buffers) f.grows g.grows in
    record {
      buffers = f.buffers ++ g.buffers;
      have = have_both p.order hs ks f.buffers g.buffers f.have (subst (λ (o : Endianness). HaveBuffers o ks g.buffers) f.grows.order_same g.have);
      grows = subst (λ (ns : List FieldNode). Grows p r ns (joined_buffers (f.buffers ++ g.buffers))) (sym (map-append node_of hs ks))
          (subst (λ (bs : List (List ℕ)). Grows p r (map node_of hs ++ map node_of ks) bs) (sym (joined-append f.buffers g.buffers)) all);
    }

-- one level is a level
pub adds_one : (p q : Plan) (h : Level) → AddsLevel p q h.len h.parts h.validity → Adds p q (h ∷ [])
adds_one p q h a = record {
  buffers = a.own ∷ [];
  have = (a.are, tt);
  grows = subst (λ (bs : List (List ℕ)). Grows p q (node_of h ∷ []) bs) (sym (append-nil a.own)) a.grows;
}

-- What follows if a call is Ok.
pub on_ok : {X E P Q : Type 0} → (r : Result X E) → (P → Q) → OnOk r P → OnOk r Q
on_ok (Ok x) f p = f p
on_ok (Err e) f p = tt

-- Offsets after a node and a validity.
pub head_level : (p q r : Plan) (n : ℕ) (t : PrimitiveType) (os : List ℕ) (v : Validity) → AddsStart p q n v → AddsOffsets q r t os → AddsHead p r n t os v
head_level p q r n t os v a x = record {
  validity_bytes = a.validity_bytes;
  offset_bytes = x.bytes;
  validity = a.validity;
  offsets = subst (λ (o : Endianness). AreOffsetBytes o t os x.bytes) a.grows.order_same x.are;
  grows = grows_then p q r _ _ _ _ a.grows x.grows;
}

-- and bytes
pub spans_level : (p q r : Plan) (n : ℕ) (t : PrimitiveType) (os xs ys : List ℕ) (v : Validity) → AddsHead p q n t os v → Grows q r [] (ys ∷ []) → ys ≡ cut_out os xs → AddsSpans p r n t os xs v
spans_level p q r n t os xs ys v h g e = record {
  validity_bytes = h.validity_bytes;
  offset_bytes = h.offset_bytes;
  validity = h.validity;
  offsets = h.offsets;
  grows = grows_then p q r _ _ _ _ h.grows (subst (λ (zs : List ℕ). Grows q r [] (zs ∷ [])) e g);
}

pub slice_form : (x : NumberSlice) → number_form (slice_type x) ≡ number_kind (slice_type x)
slice_form (Int8 xs) = refl
slice_form (Int16 xs) = refl
slice_form (Int32 xs) = refl
slice_form (Int64 xs) = refl
slice_form (Int128 xs) = refl
slice_form (Int256 xs) = refl
slice_form (UInt8 xs) = refl
slice_form (UInt16 xs) = refl
slice_form (UInt32 xs) = refl
slice_form (UInt64 xs) = refl
slice_form (DaysMs xs) = refl
slice_form (MonthDayNano xs) = refl

-- ---- levels of one kind

pub texts_adds : (p q : Plan) (n : ℕ) (u : TypeTree) (t : PrimitiveType) (os xs : List ℕ) (v : Validity) → AddsSpans p q n t os xs v → Adds p q (record { type = u; len = n; validity = v; parts = texts t os xs } ∷ [])
texts_adds p q n u t os xs v a = adds_one p q (record { type = u; len = n; validity = v; parts = texts t os xs })
    (record { own = a.validity_bytes ∷ a.offset_bytes ∷ cut_out os xs ∷ []; are = (a.validity, a.offsets, refl); grows = a.grows })

pub bytes_adds : (p q : Plan) (n : ℕ) (u : TypeTree) (t : PrimitiveType) (os xs : List ℕ) (v : Validity) → AddsSpans p q n t os xs v → Adds p q (record { type = u; len = n; validity = v; parts = bytes t os xs } ∷ [])
bytes_adds p q n u t os xs v a = adds_one p q (record { type = u; len = n; validity = v; parts = bytes t os xs })
    (record { own = a.validity_bytes ∷ a.offset_bytes ∷ cut_out os xs ∷ []; are = (a.validity, a.offsets, refl); grows = a.grows })

pub lists_adds : (p q : Plan) (n : ℕ) (u : TypeTree) (named t : PrimitiveType) (os : List ℕ) (v : Validity) → AddsHead p q n t os v → Adds p q (record { type = u; len = n; validity = v; parts = lists named t os } ∷ [])
lists_adds p q n u named t os v a = adds_one p q (record { type = u; len = n; validity = v; parts = lists named t os })
    (record { own = a.validity_bytes ∷ a.offset_bytes ∷ []; are = (a.validity, a.offsets); grows = a.grows })

pub records_adds : (p q : Plan) (n : ℕ) (u : TypeTree) (v : Validity) → AddsStart p q n v → Adds p q (record { type = u; len = n; validity = v; parts = records } ∷ [])
records_adds p q n u v a = adds_one p q (record { type = u; len = n; validity = v; parts = records })
    (record { own = a.validity_bytes ∷ []; are = a.validity; grows = a.grows })

pub numbers_adds : (p q r : Plan) (n : ℕ) (u : TypeTree) (t : PrimitiveType) (ns : List Number) (v : Validity) → number_form t ≡ number_kind t → AddsStart p q n v → AddsNumbers q r t ns
    → Adds p r (record { type = u; len = n; validity = v; parts = numbers t ns } ∷ [])
numbers_adds p q r n u t ns v form a x = adds_one p r (record { type = u; len = n; validity = v; parts = numbers t ns })
    (record {
      own = a.validity_bytes ∷ x.bytes ∷ [];
      are = (a.validity, subst (λ (o : Endianness). AreNumberBytes o t ns x.bytes) a.grows.order_same x.are, form);
      grows = grows_then p q r _ _ _ _ a.grows x.grows;
    })

-- A list, and its child after it.
pub child_then : (p q r : Plan) (h : Level) (hs : List Level) → Adds p q (h ∷ []) → Adds q r hs → Adds p r (h ∷ (hs ++ []))
child_then p q r h hs f g = subst (λ (ks : List Level). Adds p r (h ∷ ks)) (sym (append-nil hs)) (adds_then p q r (h ∷ []) hs f g)

-- children one by one
pub levels_more : (xs : List AnyArray) (o n i : ℕ) (y : AnyArray) → i < length xs → y ≡ get_or xs i y
    → levels_below (layouts (map layout_of (take (i + 1) xs))) records o n ≡ levels_below (layouts (map layout_of (take i xs))) records o n ++ written_levels (layout_of y) o n
levels_more [] o n i y h e = absurd (omega (arith, h))
levels_more (x ∷ xs) o n zero y h e = append-nil (written_levels (layout_of x) o n) ∙ ap (λ a. written_levels (layout_of a) o n) (sym e)
levels_more (x ∷ xs) o n (suc i) y h e =
    (let k : suc i + 1 ≡ suc (i + 1) = omega arith in ap (λ j. levels_below (layouts (map layout_of (take j (x ∷ xs)))) records o n) k)
    ∙ ap (λ ks. written_levels (layout_of x) o n ++ ks) (levels_more xs o n i y (omega (arith, h)) e)
    ∙ sym (append_assoc (written_levels (layout_of x) o n) (levels_below (layouts (map layout_of (take i xs))) records o n) (written_levels (layout_of y) o n))

-- columns one by one
pub columns_more : (xs : List AnyArray) (i : ℕ) (y : AnyArray) → i < length xs → y ≡ get_or xs i y
    → flat_map whole_levels (map layout_of (take (i + 1) xs)) ≡ flat_map whole_levels (map layout_of (take i xs)) ++ whole_levels (layout_of y)
columns_more [] i y h e = absurd (omega (arith, h))
columns_more (x ∷ xs) zero y h e = append-nil (whole_levels (layout_of x)) ∙ ap (λ a. whole_levels (layout_of a)) (sym e)
columns_more (x ∷ xs) (suc i) y h e =
    (let k : suc i + 1 ≡ suc (i + 1) = omega arith in ap (λ j. flat_map whole_levels (map layout_of (take j (x ∷ xs)))) k)
    ∙ ap (λ ks. whole_levels (layout_of x) ++ ks) (columns_more xs i y (omega (arith, h)) e)
    ∙ sym (append_assoc (whole_levels (layout_of x)) (flat_map whole_levels (map layout_of (take i xs))) (whole_levels (layout_of y)))

pub nulls_adds : (p q : Plan) (n : ℕ) (u : TypeTree) → Grows p q (record { length = pos n; null_count = pos n } ∷ []) [] → Adds p q (record { type = u; len = n; validity = None; parts = nothing } ∷ [])
nulls_adds p q n u g = adds_one p q (record { type = u; len = n; validity = None; parts = nothing }) (record { own = []; are = tt; grows = g })

pub truths_adds : (p q r : Plan) (n : ℕ) (u : TypeTree) (ts : List Bool) (v : Validity) → AddsStart p q n v → AddsBits q r ts → Adds p r (record { type = u; len = n; validity = v; parts = truths ts } ∷ [])
truths_adds p q r n u ts v a b = adds_one p r (record { type = u; len = n; validity = v; parts = truths ts })
    (record { own = a.validity_bytes ∷ b.bytes ∷ []; are = (a.validity, b.are); grows = grows_then p q r _ _ _ _ a.grows b.grows })

pub fixed_adds : (p q r : Plan) (n z : ℕ) (u : TypeTree) (xs : List ℕ) (v : Validity) → AddsStart p q n v → Grows q r [] (xs ∷ []) → Adds p r (record { type = u; len = n; validity = v; parts = fixed_bytes z xs } ∷ [])
fixed_adds p q r n z u xs v a g = adds_one p r (record { type = u; len = n; validity = v; parts = fixed_bytes z xs })
    (record { own = a.validity_bytes ∷ xs ∷ []; are = (a.validity, refl); grows = grows_then p q r _ _ _ _ a.grows g })

pub maps_adds : (p q : Plan) (n : ℕ) (u : TypeTree) (os : List ℕ) (v : Validity) → AddsHead p q n Int32Form os v → Adds p q (record { type = u; len = n; validity = v; parts = maps os } ∷ [])
maps_adds p q n u os v a = adds_one p q (record { type = u; len = n; validity = v; parts = maps os })
    (record { own = a.validity_bytes ∷ a.offset_bytes ∷ []; are = (a.validity, a.offsets); grows = a.grows })

pub keys_adds : (p q r : Plan) (n : ℕ) (u : TypeTree) (k : IntegerType) (ks : List ℤ) (v : Validity) → AddsStart p q n v → AddsNumbers q r (key_form k) (map (λ z. whole z) ks)
    → Adds p r (record { type = u; len = n; validity = v; parts = keys k ks } ∷ [])
keys_adds p q r n u k ks v a x = adds_one p r (record { type = u; len = n; validity = v; parts = keys k ks })
    (record {
      own = a.validity_bytes ∷ x.bytes ∷ [];
      are = (a.validity, subst (λ (o : Endianness). AreNumberBytes o (key_form k) (map (λ z. whole z) ks) x.bytes) a.grows.order_same x.are);
      grows = grows_then p q r _ _ _ _ a.grows x.grows;
    })

pub start_level : (p q r : Plan) (n k : ℕ) (v : Validity) → k ≡ null_count_of v → Grows p q (record { length = pos n; null_count = pos k } ∷ []) [] → AddsValidity q r v → AddsStart p r n v
start_level p q r n k v e g m = record {
  validity_bytes = m.bytes;
  validity = m.validity;
  grows = grows_then p q r _ _ _ _ (subst (λ (j : ℕ). Grows p q (record { length = pos n; null_count = pos j } ∷ []) []) e g) m.grows;
}

pub scaled_wide : (o n z : ℕ) → (o + n) * z - o * z ≡ n * z
scaled_wide o n z = let e = add-mul o n z in omega (arith, e)

pub fixed_lists_adds : (p q : Plan) (n z : ℕ) (u : TypeTree) (v : Validity) → AddsStart p q n v → Adds p q (record { type = u; len = n; validity = v; parts = fixed_lists z } ∷ [])
fixed_lists_adds p q n z u v a = adds_one p q (record { type = u; len = n; validity = v; parts = fixed_lists z })
    (record { own = a.validity_bytes ∷ []; are = a.validity; grows = a.grows })

-- nothing was added
pub adds_none : (p : Plan) → p.end < 2 ^ 63 → Adds p p []
adds_none p small = record {
  buffers = [];
  have = tt;
  grows = record {
    order_same = refl;
    nodes_are = sym (append-nil p.nodes.items);
    entries_are = sym (append-nil p.buffers.items);
    end_is = refl;
    body_is = sym (append-nil (pieces_bytes p.order p.pieces.items));
    few = omega arith;
    small = small;
  };
}

-- A union's node and type ids.
pub types_adds : (p q r : Plan) (n : ℕ) (u : TypeTree) (ids : Option (List ℤ)) (zs : List ℤ) → Grows p q (record { length = pos n; null_count = pos 0 } ∷ []) [] → AddsNumbers q r Int8Form (map (λ z. whole z) zs)
    → Adds p r (record { type = u; len = n; validity = None; parts = choices ids zs None } ∷ [])
types_adds p q r n u ids zs g x = adds_one p r (record { type = u; len = n; validity = None; parts = choices ids zs None })
    (record {
      own = x.bytes ∷ [];
      are = subst (λ (o : Endianness). AreNumberBytes o Int8Form (map (λ z. whole z) zs) x.bytes) g.order_same x.are;
      grows = grows_then p q r _ _ _ _ g x.grows;
    })

-- And its offsets.
pub places_adds : (p q r s : Plan) (n : ℕ) (u : TypeTree) (ids : Option (List ℤ)) (zs os : List ℤ) → Grows p q (record { length = pos n; null_count = pos 0 } ∷ []) [] → AddsNumbers q r Int8Form (map (λ z. whole z) zs)
    → AddsNumbers r s Int32Form (map (λ z. whole z) os) → Adds p s (record { type = u; len = n; validity = None; parts = choices ids zs (Some os) } ∷ [])
places_adds p q r s n u ids zs os g x y = adds_one p s (record { type = u; len = n; validity = None; parts = choices ids zs (Some os) })
    (record {
      own = x.bytes ∷ y.bytes ∷ [];
      are = (
        subst (λ (o : Endianness). AreNumberBytes o Int8Form (map (λ z. whole z) zs) x.bytes) g.order_same x.are,
        subst (λ (o : Endianness). AreNumberBytes o Int32Form (map (λ z. whole z) os) y.bytes) (x.grows.order_same ∙ g.order_same) y.are,
      );
      grows = grows_then p q s _ _ _ _ g (grows_then q r s _ _ _ _ x.grows y.grows);
    })
