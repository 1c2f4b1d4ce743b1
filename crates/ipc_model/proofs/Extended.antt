-- Columns whose entries are at another position, or have more bytes after them.
use Rattle.std.proofs.Common.{◌≡◌, ℕ, zero, suc, ℤ, pos, negsuc, ◌+◌, ◌-◌, ◌*◌, ◌<◌, ◌≤◌, ◌==◌, ◌&&◌, cond, Bool, true, List, ◌∷◌, map, length, drop, Option, Some, None, refl, ap, sym, ◌∙◌, subst, arith, inl, inr, length-append}
use Rattle.std.specs.Prelude.{IsUtf8, slice_range}
use Rattle.std.specs.List.{range_with_len}
use Rattle.std.proofs.lemmas.Bool.{cases_lt, cases_Bool, eq-eqb}
use Rattle.lower.specs.declared.datatypes.UnionMode.TheVariants.{Sparse, Dense}
use Rattle.lower.specs.TypeTrees.{TypeTree}
use Rattle.lower_types.specs.NumberTypes.{width_of, number_in}
use Rattle.lower_types.specs.declared.PrimitiveType.{PrimitiveType}
use Rattle.lower_types.specs.declared.PrimitiveType.TheVariants.{Int8, Int32}
use Rattle.lower_arrays.specs.Slots.{Slot, null_slot, list_slot, slots_of}
use Rattle.ipc_table_views.specs.declared.message.FieldNode.{FieldNode}
use Rattle.lower_types.specs.Numbers.{unsigned_in}
use Rattle.ipc_model.proofs.Prefixes.{unsigned_at-append, number_at-append, bit-append, slice-append}
use Rattle.ipc_model.proofs.Limits.{kept_high, last_kept, stored_kept, offset_up}
use Rattle.ipc_model.specs.Numbers.{integer_of}
use Rattle.ipc_model.specs.Kinds.{offsets_32, offset_width, Kind, null_kind, boolean_kind, number_kind, float_kind, fixed_binary_kind, binary_kind, utf8_kind, list_kind, map_kind, fixed_list_kind, struct_kind, union_kind, dictionary_kind, extension_kind, Kinds, no_kinds, more_kinds, count, nodes, all_nodes, buffers, all_buffers}
use Rattle.ipc_model.specs.Entries.{Entries, Part, IsSize, size, IsIndex, node, buffer, bytes, Need, Limit, limited, rows, times, bytes_for, bit, value_bytes, offset}
use Rattle.ipc_model.specs.Columns.{Begins, is_valid, masked, is_omitted, last_offset, Offsets, bytes_at, HasBytes, AreTexts, child_rows, IsUnionKind, IsSome, child_named, type_at, child_at, HasTypes, place_at, Reaches, values_slots, HasValues, WithRows, IsList, IsWell, AllHaveRows, AllWell, slots_between, list_at}
use Rattle.ipc_model.specs.Extending.{Longer, changed, Extends}
use Rattle.ipc_model.proofs.Needs.{node_law}

-- ---- positions

-- a window within a window
pub shift : (s : Entries) (ns : List FieldNode) (ps : List Part) (a c b d n m x y n' m' : ℕ) → Extends s ns ps a c b d n m → x + n' ≤ n → y + m' ≤ m
    → Extends s ns ps (a + x) (c + x) (b + y) (d + y) n' m'
shift s ns ps a c b d n m x y n' m' e h k = record {
  nodes_same = λ i l.
      let far : c + (x + i) ≡ (c + x) + i = omega arith in
      let near : a + (x + i) ≡ (a + x) + i = omega arith in
      subst (λ (j : ℕ). node (changed s ns ps) j ≡ node s ((a + x) + i)) far (subst (λ (j : ℕ). node (changed s ns ps) (c + (x + i)) ≡ node s j) near (e.nodes_same (x + i) (omega arith)));
  parts_longer = λ i l.
      let far : d + (y + i) ≡ (d + y) + i = omega arith in
      let near : b + (y + i) ≡ (b + y) + i = omega arith in
      subst (λ (j : ℕ). Longer (buffer s ((b + y) + i)) (buffer (changed s ns ps) j)) far (subst (λ (j : ℕ). Longer (buffer s j) (buffer (changed s ns ps) (d + (y + i)))) near (e.parts_longer (y + i) (omega arith)));
}

-- the same from its beginning
pub narrow : (s : Entries) (ns : List FieldNode) (ps : List Part) (a c b d n m n' m' : ℕ) → Extends s ns ps a c b d n m → n' ≤ n → m' ≤ m → Extends s ns ps a c b d n' m'
narrow s ns ps a c b d n m n' m' e h k = record { nodes_same = λ i l. e.nodes_same i (omega arith); parts_longer = λ i l. e.parts_longer i (omega arith) }

pub node_here : (s : Entries) (ns : List FieldNode) (ps : List Part) (a c b d n m : ℕ) → Extends s ns ps a c b d n m → 0 < n → node (changed s ns ps) c ≡ node s a
node_here s ns ps a c b d n m e h =
    let far : c + 0 ≡ c = omega arith in
    let near : a + 0 ≡ a = omega arith in
    subst (λ (j : ℕ). node (changed s ns ps) j ≡ node s a) far (subst (λ (j : ℕ). node (changed s ns ps) (c + 0) ≡ node s j) near (e.nodes_same 0 h))

pub part_here : (s : Entries) (ns : List FieldNode) (ps : List Part) (a c b d n m : ℕ) → Extends s ns ps a c b d n m → 0 < m → Longer (buffer s b) (buffer (changed s ns ps) d)
part_here s ns ps a c b d n m e h =
    let far : d + 0 ≡ d = omega arith in
    let near : b + 0 ≡ b = omega arith in
    subst (λ (j : ℕ). Longer (buffer s b) (buffer (changed s ns ps) j)) far (subst (λ (j : ℕ). Longer (buffer s j) (buffer (changed s ns ps) (d + 0))) near (e.parts_longer 0 h))

-- The part two further on, as one after the next.
pub next_part : (s : Entries) (ns : List FieldNode) (ps : List Part) (a c b d n m : ℕ) → Extends s ns ps a c b d n m → 2 < m → Longer (buffer s (b + 1 + 1)) (buffer (changed s ns ps) (d + 1 + 1))
next_part s ns ps a c b d n m e h =
    let far : d + 2 ≡ d + 1 + 1 = omega arith in
    let near : b + 2 ≡ b + 1 + 1 = omega arith in
    subst (λ (j : ℕ). Longer (buffer s (b + 1 + 1)) (buffer (changed s ns ps) j)) far (subst (λ (j : ℕ). Longer (buffer s j) (buffer (changed s ns ps) (d + 2))) near (e.parts_longer 2 h))

-- The part after part x.
pub further_part : (s : Entries) (ns : List FieldNode) (ps : List Part) (a c b d n m x : ℕ) → Extends s ns ps a c b d n m → x + 1 < m → Longer (buffer s (b + x + 1)) (buffer (changed s ns ps) (d + x + 1))
further_part s ns ps a c b d n m x e h =
    let far : d + (x + 1) ≡ d + x + 1 = omega arith in
    let near : b + (x + 1) ≡ b + x + 1 = omega arith in
    subst (λ (j : ℕ). Longer (buffer s (b + x + 1)) (buffer (changed s ns ps) j)) far (subst (λ (j : ℕ). Longer (buffer s j) (buffer (changed s ns ps) (d + (x + 1)))) near (e.parts_longer (x + 1) h))

-- Positions added up in another order.
pub further : (s : Entries) (ns : List FieldNode) (ps : List Part) (a c b d x y n m : ℕ) → Extends s ns ps a c (b + (x + y)) (d + (x + y)) n m → Extends s ns ps a c (b + x + y) (d + x + y) n m
further s ns ps a c b d x y n m e =
    let far : d + (x + y) ≡ d + x + y = omega arith in
    let near : b + (x + y) ≡ b + x + y = omega arith in
    subst (λ (j : ℕ). Extends s ns ps a c (b + x + y) j n m) far (subst (λ (j : ℕ). Extends s ns ps a c j (d + (x + y)) n m) near e)

-- ---- one part

pub rows_same : (s : Entries) (ns : List FieldNode) (ps : List Part) (a c : ℕ) (limit : Limit) → node (changed s ns ps) c ≡ node s a → rows (changed s ns ps) c limit ≡ rows s a limit
rows_same s ns ps a c limit e = ap (λ (n : FieldNode). limited limit (size n.length)) e

need_longer : (s : Entries) (ns : List FieldNode) (ps : List Part) (b d k : ℕ) → Longer (buffer s b) (buffer (changed s ns ps) d) → Need s b k → Need (changed s ns ps) d k
need_longer s ns ps b d k l v = (
  subst IsSize (sym l.offset_same) v.0,
  omega (arith, v.1, ap size l.length_same),
  omega (arith, v.2, ap length l.bytes_then, length-append (bytes s b) l.added),
)

pub bit_longer : (s : Entries) (ns : List FieldNode) (ps : List Part) (b d k i : ℕ) → Longer (buffer s b) (buffer (changed s ns ps) d) → Need s b (bytes_for k) → i < k
    → bit (bytes (changed s ns ps) d) i ≡ bit (bytes s b) i
bit_longer s ns ps b d k i l v h = ap (λ (xs : List ℕ). bit xs i) l.bytes_then ∙ bit-append k i (bytes s b) l.added h v.2

pub number_longer : (s : Entries) (ns : List FieldNode) (ps : List Part) (p : PrimitiveType) (b d k i : ℕ) → Longer (buffer s b) (buffer (changed s ns ps) d) → width_of p * k ≤ length (bytes s b) → i < k
    → number_in p s.order (value_bytes (changed s ns ps) d (width_of p) i) ≡ number_in p s.order (value_bytes s b (width_of p) i)
number_longer s ns ps p b d k i l v h = ap (λ (xs : List ℕ). number_in p s.order (drop (width_of p * i) xs)) l.bytes_then ∙ number_at-append p s.order k i (bytes s b) l.added h v

offset_longer : (s : Entries) (ns : List FieldNode) (ps : List Part) (w b d k i : ℕ) → Longer (buffer s b) (buffer (changed s ns ps) d) → w * k ≤ length (bytes s b) → i < k
    → offset (changed s ns ps) d w i ≡ offset s b w i
offset_longer s ns ps w b d k i l v h = ap (λ (xs : List ℕ). unsigned_in w s.order (drop (w * i) xs)) l.bytes_then ∙ unsigned_at-append w s.order k i (bytes s b) l.added h v

pub slice_longer : (s : Entries) (ns : List FieldNode) (ps : List Part) (b d x y : ℕ) → Longer (buffer s b) (buffer (changed s ns ps) d) → x ≤ y → y ≤ length (bytes s b)
    → slice_range (bytes (changed s ns ps) d) x y ≡ slice_range (bytes s b) x y
slice_longer s ns ps b d x y l h room = ap (λ (xs : List ℕ). slice_range xs x y) l.bytes_then ∙ slice-append (bytes s b) l.added x y h room

-- ---- validity

begins_longer : (s : Entries) (ns : List FieldNode) (ps : List Part) (a c b d k : ℕ) → node (changed s ns ps) c ≡ node s a → Longer (buffer s b) (buffer (changed s ns ps) d)
    → Begins s a b k → Begins (changed s ns ps) c d k
begins_longer s ns ps a c b d k e l v = record {
  length_is = subst (λ (n : FieldNode). IsSize n.length) (sym e) v.length_is;
  validity = λ some. need_longer s ns ps b d (bytes_for k) l (v.validity (subst (λ (n : FieldNode). 0 < size n.null_count) e some));
}

pub valid_same : (s : Entries) (ns : List FieldNode) (ps : List Part) (a c b d k i : ℕ) → node (changed s ns ps) c ≡ node s a → Longer (buffer s b) (buffer (changed s ns ps) d)
    → Begins s a b k → i < k → is_valid (changed s ns ps) c d i ≡ is_valid s a b i
valid_same s ns ps a c b d k i e l v h =
    ap (λ (n : FieldNode). cond (size n.null_count == 0) true (bit (bytes (changed s ns ps) d) i)) e
    ∙ elim (cases_lt 0 (size (node s a).null_count)) [
      | inl some ↦ ap (λ t. cond (size (node s a).null_count == 0) true t) (bit_longer s ns ps b d k i l (v.validity some) h)
      | inr none ↦ (let zero_nulls : size (node s a).null_count ≡ 0 = omega arith in let test = eq-eqb (size (node s a).null_count) 0 zero_nulls in rw test refl)
    ]

pub masked_same : (s : Entries) (ns : List FieldNode) (ps : List Part) (a c b d i : ℕ) (x y : Slot) → is_valid (changed s ns ps) c d i ≡ is_valid s a b i → x ≡ y
    → masked (changed s ns ps) c d i x ≡ masked s a b i y
masked_same s ns ps a c b d i x y e f = ap (λ t. cond t x null_slot) e ∙ ap (λ z. cond (is_valid s a b i) z null_slot) f

-- ---- offsets

omitted_same : (s : Entries) (ns : List FieldNode) (ps : List Part) (b d k : ℕ) → Longer (buffer s b) (buffer (changed s ns ps) d) → is_omitted (changed s ns ps) d k ≡ is_omitted s b k
omitted_same s ns ps b d k l = ap (λ z. (k == 0) && (size z == 0)) l.length_same

stored_room : (s : Entries) (b w k : ℕ) → 0 < k → Offsets s b w k → w * (k + 1) ≤ length (bytes s b)
stored_room s b w k some o = (stored_kept s b w k (kept_high s b k some) o).2

-- offset i of some, the last one too
each_offset : (s : Entries) (ns : List FieldNode) (ps : List Part) (w b d k i : ℕ) → Longer (buffer s b) (buffer (changed s ns ps) d) → Offsets s b w k → 0 < k → i ≤ k
    → offset (changed s ns ps) d w i ≡ offset s b w i
each_offset s ns ps w b d k i l o some h = offset_longer s ns ps w b d (k + 1) i l (stored_room s b w k some o) (omega arith)

last_same : (s : Entries) (ns : List FieldNode) (ps : List Part) (w b d k : ℕ) → Longer (buffer s b) (buffer (changed s ns ps) d) → Offsets s b w k
    → last_offset (changed s ns ps) d w k ≡ last_offset s b w k
last_same s ns ps w b d k l o =
    ap (λ t. cond t 0 (offset (changed s ns ps) d w k)) (omitted_same s ns ps b d k l)
    ∙ elim (cases_Bool (is_omitted s b k)) [
      | inl e ↦ rw e refl
      | inr e ↦ ap (λ n. cond (is_omitted s b k) 0 n) (offset_longer s ns ps w b d (k + 1) k l (stored_kept s b w k e o).2 (omega arith))
    ]

offsets_longer : (s : Entries) (ns : List FieldNode) (ps : List Part) (w b d k : ℕ) → Longer (buffer s b) (buffer (changed s ns ps) d) → Offsets s b w k → Offsets (changed s ns ps) d w k
offsets_longer s ns ps w b d k l o = record {
  stored = subst (λ (t : Bool). Need (changed s ns ps) d (cond t 0 (w * (k + 1)))) (sym (omitted_same s ns ps b d k l)) (need_longer s ns ps b d (cond (is_omitted s b k) 0 (w * (k + 1))) l o.stored);
  rising = λ i h. omega (arith, o.rising i h, each_offset s ns ps w b d k i l o (omega arith) (omega arith), each_offset s ns ps w b d k (i + 1) l o (omega arith) (omega arith));
  small = omega (arith, o.small, last_same s ns ps w b d k l o);
}

-- an offset is at most the last one
pub offset_below : (s : Entries) (b w k i : ℕ) → Offsets s b w k → 0 < k → i ≤ k → offset s b w i ≤ last_offset s b w k
offset_below s b w k i o some h =
    let e : i + (k - i) ≡ k = omega arith in
    let up : offset s b w i ≤ offset s b w k = subst (λ (j : ℕ). offset s b w i ≤ offset s b w j) e (offset_up s b w k (k - i) i o (omega arith)) in
    omega (arith, up, last_kept s b w k (kept_high s b k some))

-- ---- bytes and texts

pub bytes_same : (s : Entries) (ns : List FieldNode) (ps : List Part) (w b d k i : ℕ) → Longer (buffer s b) (buffer (changed s ns ps) d) → Longer (buffer s (b + 1)) (buffer (changed s ns ps) (d + 1))
    → HasBytes s b w k → i < k → bytes_at (changed s ns ps) d w i ≡ bytes_at s b w i
bytes_same s ns ps w b d k i l q v h =
    let some : 0 < k = omega arith in
    let from = each_offset s ns ps w b d k i l v.offsets some (omega arith) in
    let to = each_offset s ns ps w b d k (i + 1) l v.offsets some (omega arith) in
    let far : offset s b w (i + 1) ≤ length (bytes s (b + 1)) = omega (arith, offset_below s b w k (i + 1) v.offsets some (omega arith), v.values.2) in
    ap (λ x. slice_range (bytes (changed s ns ps) (d + 1)) x (offset (changed s ns ps) d w (i + 1))) from
    ∙ ap (λ y. slice_range (bytes (changed s ns ps) (d + 1)) (offset s b w i) y) to
    ∙ slice_longer s ns ps (b + 1) (d + 1) (offset s b w i) (offset s b w (i + 1)) q (v.offsets.rising i h) far

has_bytes_longer : (s : Entries) (ns : List FieldNode) (ps : List Part) (w b d k : ℕ) → Longer (buffer s b) (buffer (changed s ns ps) d) → Longer (buffer s (b + 1)) (buffer (changed s ns ps) (d + 1))
    → HasBytes s b w k → HasBytes (changed s ns ps) d w k
has_bytes_longer s ns ps w b d k l q v = record {
  offsets = offsets_longer s ns ps w b d k l v.offsets;
  values = subst (λ (n : ℕ). Need (changed s ns ps) (d + 1) n) (sym (last_same s ns ps w b d k l v.offsets)) (need_longer s ns ps (b + 1) (d + 1) (last_offset s b w k) q v.values);
}

texts_longer : (s : Entries) (ns : List FieldNode) (ps : List Part) (w b d k : ℕ) → Longer (buffer s b) (buffer (changed s ns ps) d) → Longer (buffer s (b + 1)) (buffer (changed s ns ps) (d + 1))
    → HasBytes s b w k → AreTexts s b w k → AreTexts (changed s ns ps) d w k
texts_longer s ns ps w b d k l q v t = record { each = λ i h. subst IsUtf8 (sym (bytes_same s ns ps w b d k i l q v h)) (t.each i h) }

-- ---- lists

list_longer : (s : Entries) (ns : List FieldNode) (ps : List Part) (w a c b d k : ℕ) (Child Child' : Limit → Type 0) → node (changed s ns ps) c ≡ node s a
    → Longer (buffer s b) (buffer (changed s ns ps) d) → Longer (buffer s (b + 1)) (buffer (changed s ns ps) (d + 1)) → node (changed s ns ps) (c + 1) ≡ node s (a + 1)
    → ((l : Limit) → Child l → Child' l) → IsList s w a b k Child → IsList (changed s ns ps) w c d k Child'
list_longer s ns ps w a c b d k Child Child' e l q f on v =
    let last = last_offset s (b + 1) w k in (
      begins_longer s ns ps a c b d k e l v.0,
      offsets_longer s ns ps w (b + 1) (d + 1) k q v.1,
      subst (λ (n : ℕ). WithRows (Child' (Some n)) (rows (changed s ns ps) (c + 1) (Some n)) n) (sym (last_same s ns ps w (b + 1) (d + 1) k q v.1))
          (on (Some last) v.2.0, rows_same s ns ps (a + 1) (c + 1) (Some last) f ∙ v.2.1),
    )

pub range_same : {X : Type 0} (f g : ℕ → X) (a n : ℕ) → ((j : ℕ) → a ≤ j → j < a + n → f j ≡ g j) → map f (range_with_len a n) ≡ map g (range_with_len a n)
range_same f g a zero h = refl
range_same f g a (suc n) h =
    ap (λ x. x ∷ map f (range_with_len (a + 1) n)) (h a (omega arith) (omega arith))
    ∙ ap (λ xs. g a ∷ xs) (range_same f g (a + 1) n (λ j k l. h j (omega arith) (omega arith)))

pub between_same : (f g : ℕ → Slot) (from to : ℕ) → ((j : ℕ) → j < to → f j ≡ g j) → slots_between f from to ≡ slots_between g from to
between_same f g from to h = ap slots_of (range_same f g from (to - from) (λ j k l. h j (omega arith)))

pub list_same : (s : Entries) (ns : List FieldNode) (ps : List Part) (w b d k i : ℕ) (f g : ℕ → Slot) → Longer (buffer s b) (buffer (changed s ns ps) d) → Offsets s b w k → i < k
    → ((j : ℕ) → j < last_offset s b w k → f j ≡ g j) → list_at (changed s ns ps) w d i f ≡ list_at s w b i g
list_same s ns ps w b d k i f g l o h each =
    let some : 0 < k = omega arith in
    let from = each_offset s ns ps w b d k i l o some (omega arith) in
    let to = each_offset s ns ps w b d k (i + 1) l o some (omega arith) in
    let far = offset_below s b w k (i + 1) o some (omega arith) in
    ap (λ x. list_slot (slots_between f x (offset (changed s ns ps) d w (i + 1)))) from
    ∙ ap (λ y. list_slot (slots_between f (offset s b w i) y)) to
    ∙ ap list_slot (between_same f g (offset s b w i) (offset s b w (i + 1)) (λ j r. each j (omega (arith, far, r))))

-- ---- unions and dictionaries

pub type_same : (s : Entries) (ns : List FieldNode) (ps : List Part) (u v k i : ℕ) → Longer (buffer s u) (buffer (changed s ns ps) v) → Need s u k → i < k → type_at (changed s ns ps) v i ≡ type_at s u i
type_same s ns ps u v k i l need h = ap integer_of (number_longer s ns ps Int8 u v k i l (omega (arith, need.2)) h)

pub child_same : (s : Entries) (ns : List FieldNode) (ps : List Part) (ids : Option (List ℤ)) (n u v k i : ℕ) → Longer (buffer s u) (buffer (changed s ns ps) v) → Need s u k → i < k
    → child_at (changed s ns ps) ids n v i ≡ child_at s ids n u i
child_same s ns ps ids n u v k i l need h = ap (child_named ids n) (type_same s ns ps u v k i l need h)

types_longer : (s : Entries) (ns : List FieldNode) (ps : List Part) (ids : Option (List ℤ)) (n u v k : ℕ) → Longer (buffer s u) (buffer (changed s ns ps) v)
    → HasTypes s ids n u k → HasTypes (changed s ns ps) ids n v k
types_longer s ns ps ids n u v k l t = record {
  types = need_longer s ns ps u v k l t.types;
  named = λ i h. subst (λ (m : ℕ). m < n) (sym (child_same s ns ps ids n u v k i l t.types h)) (t.named i h);
}

child_rows_same : (s : Entries) (ns : List FieldNode) (ps : List Part) (ts : Kinds) (a c b d n m : ℕ) → Extends s ns ps a c b d (all_nodes ts) m
    → child_rows (changed s ns ps) ts c n ≡ child_rows s ts a n
child_rows_same s ns ps no_kinds a c b d n m e = refl
child_rows_same s ns ps (more_kinds t ts) a c b d zero m e = rows_same s ns ps a c None (node_here s ns ps a c b d (all_nodes (more_kinds t ts)) m e (omega (arith, node_law t)))
child_rows_same s ns ps (more_kinds t ts) a c b d (suc n) m e =
    child_rows_same s ns ps ts (a + nodes t) (c + nodes t) (b + 0) (d + 0) n 0
    (shift s ns ps a c b d (all_nodes (more_kinds t ts)) m (nodes t) 0 (all_nodes ts) 0 e (omega arith) (omega arith))

pub place_same : (s : Entries) (ns : List FieldNode) (ps : List Part) (u v k i : ℕ) → Longer (buffer s u) (buffer (changed s ns ps) v) → Need s u (4 * k) → i < k → place_at (changed s ns ps) v i ≡ place_at s u i
place_same s ns ps u v k i l need h = ap integer_of (number_longer s ns ps Int32 u v k i l need.2 h)

reaches_longer : (s : Entries) (ns : List FieldNode) (ps : List Part) (ids : Option (List ℤ)) (ts : Kinds) (a c u v b d k m : ℕ) → Longer (buffer s u) (buffer (changed s ns ps) v)
    → Longer (buffer s (u + 1)) (buffer (changed s ns ps) (v + 1)) → Extends s ns ps a c b d (all_nodes ts) m → Need s u k → Reaches s ids ts a u k → Reaches (changed s ns ps) ids ts c v k
reaches_longer s ns ps ids ts a c u v b d k m l q e types r = record {
  offsets = need_longer s ns ps (u + 1) (v + 1) (4 * k) q r.offsets;
  inside = λ i h.
      let place = place_same s ns ps (u + 1) (v + 1) k i q r.offsets h in
      let child = child_same s ns ps ids (count ts) u v k i l types h in
      let far = child_rows_same s ns ps ts a c b d (child_at s ids (count ts) u i) m e in
      subst (λ (z : ℤ). IsIndex z (child_rows (changed s ns ps) ts c (child_at (changed s ns ps) ids (count ts) v i))) (sym place)
      (subst (λ (n : ℕ). IsIndex (place_at s (u + 1) i) (child_rows (changed s ns ps) ts c n)) (sym child)
      (subst (λ (n : ℕ). IsIndex (place_at s (u + 1) i) n) (sym far) (r.inside i h)));
}

values_longer : (s : Entries) (ns : List FieldNode) (ps : List Part) (f : PrimitiveType) (id : Option ℤ) (t : TypeTree) (a c b d k : ℕ) → node (changed s ns ps) c ≡ node s a
    → Longer (buffer s b) (buffer (changed s ns ps) d) → Longer (buffer s (b + 1)) (buffer (changed s ns ps) (d + 1)) → Begins s a b k → Need s (b + 1) (width_of f * k)
    → HasValues s f id t a b k → HasValues (changed s ns ps) f id t c d k
values_longer s ns ps f id t a c b d k e l q begins keys v = record {
  known = v.known;
  inside = λ i h valid.
      let key = ap integer_of (number_longer s ns ps f (b + 1) (d + 1) k i q keys.2 h) in
      subst (λ (z : ℤ). IsIndex z (length (values_slots s id))) (sym key)
      (v.inside i h (sym (valid_same s ns ps a c b d k i e l begins h) ∙ valid));
}

pub index_size : (z : ℤ) (n : ℕ) → IsIndex z n → size z < n
index_size (pos m) n h = h
index_size (negsuc m) n h = absurd h

-- ---- columns

mutual
  pub well_longer : (s : Entries) (ns : List FieldNode) (ps : List Part) (t : Kind) (a c b d : ℕ) (limit : Limit) → Extends s ns ps a c b d (nodes t) (buffers s.extra t)
      → IsWell s t a b limit → IsWell (changed s ns ps) t c d limit
  well_longer s ns ps null_kind a c b d limit e v =
      let here = node_here s ns ps a c b d 1 0 e (omega arith) in subst (λ (n : FieldNode). IsSize n.length) (sym here) v
  well_longer s ns ps boolean_kind a c b d limit e v =
      let here = node_here s ns ps a c b d 1 2 e (omega arith) in
      let first = part_here s ns ps a c b d 1 2 e (omega arith) in
      let second = e.parts_longer 1 (omega arith) in
      subst (λ (k : ℕ). Begins (changed s ns ps) c d k × Need (changed s ns ps) (d + 1) (bytes_for k)) (sym (rows_same s ns ps a c limit here))
      (begins_longer s ns ps a c b d (rows s a limit) here first v.0, need_longer s ns ps (b + 1) (d + 1) (bytes_for (rows s a limit)) second v.1)
  well_longer s ns ps (number_kind f) a c b d limit e v =
      let here = node_here s ns ps a c b d 1 2 e (omega arith) in
      let first = part_here s ns ps a c b d 1 2 e (omega arith) in
      let second = e.parts_longer 1 (omega arith) in
      subst (λ (k : ℕ). Begins (changed s ns ps) c d k × Need (changed s ns ps) (d + 1) (width_of f * k)) (sym (rows_same s ns ps a c limit here))
      (begins_longer s ns ps a c b d (rows s a limit) here first v.0, need_longer s ns ps (b + 1) (d + 1) (width_of f * rows s a limit) second v.1)
  well_longer s ns ps float_kind a c b d limit e v = v
  well_longer s ns ps (fixed_binary_kind n) a c b d limit e v =
      let here = node_here s ns ps a c b d 1 2 e (omega arith) in
      let first = part_here s ns ps a c b d 1 2 e (omega arith) in
      let second = e.parts_longer 1 (omega arith) in
      subst (λ (k : ℕ). (0 < n) × Begins (changed s ns ps) c d k × Need (changed s ns ps) (d + 1) (n * k)) (sym (rows_same s ns ps a c limit here))
      (v.0, begins_longer s ns ps a c b d (rows s a limit) here first v.1, need_longer s ns ps (b + 1) (d + 1) (n * rows s a limit) second v.2)
  well_longer s ns ps (binary_kind w) a c b d limit e v =
      let here = node_here s ns ps a c b d 1 3 e (omega arith) in
      let first = part_here s ns ps a c b d 1 3 e (omega arith) in
      let second = e.parts_longer 1 (omega arith) in
      let third = next_part s ns ps a c b d 1 3 e (omega arith) in
      subst (λ (k : ℕ). Begins (changed s ns ps) c d k × HasBytes (changed s ns ps) (d + 1) (offset_width w) k) (sym (rows_same s ns ps a c limit here))
      (begins_longer s ns ps a c b d (rows s a limit) here first v.0, has_bytes_longer s ns ps (offset_width w) (b + 1) (d + 1) (rows s a limit) second third v.1)
  well_longer s ns ps (utf8_kind w) a c b d limit e v =
      let here = node_here s ns ps a c b d 1 3 e (omega arith) in
      let first = part_here s ns ps a c b d 1 3 e (omega arith) in
      let second = e.parts_longer 1 (omega arith) in
      let third = next_part s ns ps a c b d 1 3 e (omega arith) in
      subst (λ (k : ℕ). Begins (changed s ns ps) c d k × HasBytes (changed s ns ps) (d + 1) (offset_width w) k × AreTexts (changed s ns ps) (d + 1) (offset_width w) k) (sym (rows_same s ns ps a c limit here)) (
        begins_longer s ns ps a c b d (rows s a limit) here first v.0,
        has_bytes_longer s ns ps (offset_width w) (b + 1) (d + 1) (rows s a limit) second third v.1,
        texts_longer s ns ps (offset_width w) (b + 1) (d + 1) (rows s a limit) second third v.1 v.2,
      )
  well_longer s ns ps (list_kind w t) a c b d limit e v =
      let here = node_here s ns ps a c b d (1 + nodes t) (2 + buffers s.extra t) e (omega arith) in
      let first = part_here s ns ps a c b d (1 + nodes t) (2 + buffers s.extra t) e (omega arith) in
      let second = e.parts_longer 1 (omega arith) in
      let child = e.nodes_same 1 (omega (arith, node_law t)) in
      subst (λ (k : ℕ). IsList (changed s ns ps) (offset_width w) c d k (λ l. IsWell (changed s ns ps) t (c + 1) (d + 2) l)) (sym (rows_same s ns ps a c limit here))
      (list_longer s ns ps (offset_width w) a c b d (rows s a limit) (λ l. IsWell s t (a + 1) (b + 2) l) (λ l. IsWell (changed s ns ps) t (c + 1) (d + 2) l) here first second child
      (λ l x. well_longer s ns ps t (a + 1) (c + 1) (b + 2) (d + 2) l (shift s ns ps a c b d (1 + nodes t) (2 + buffers s.extra t) 1 2 (nodes t) (buffers s.extra t) e (omega arith) (omega arith)) x) v)
  well_longer s ns ps (map_kind t) a c b d limit e v =
      let here = node_here s ns ps a c b d (1 + nodes t) (2 + buffers s.extra t) e (omega arith) in
      let first = part_here s ns ps a c b d (1 + nodes t) (2 + buffers s.extra t) e (omega arith) in
      let second = e.parts_longer 1 (omega arith) in
      let child = e.nodes_same 1 (omega (arith, node_law t)) in (
        v.0,
        subst (λ (k : ℕ). IsList (changed s ns ps) (offset_width offsets_32) c d k (λ l. IsWell (changed s ns ps) t (c + 1) (d + 2) l)) (sym (rows_same s ns ps a c limit here))
            (list_longer s ns ps (offset_width offsets_32) a c b d (rows s a limit) (λ l. IsWell s t (a + 1) (b + 2) l) (λ l. IsWell (changed s ns ps) t (c + 1) (d + 2) l) here first second child
            (λ l x. well_longer s ns ps t (a + 1) (c + 1) (b + 2) (d + 2) l (shift s ns ps a c b d (1 + nodes t) (2 + buffers s.extra t) 1 2 (nodes t) (buffers s.extra t) e (omega arith) (omega arith)) x) v.1),
      )
  well_longer s ns ps (fixed_list_kind n t) a c b d limit e v =
      let here = node_here s ns ps a c b d (1 + nodes t) (1 + buffers s.extra t) e (omega arith) in
      let first = part_here s ns ps a c b d (1 + nodes t) (1 + buffers s.extra t) e (omega arith) in
      let child = e.nodes_same 1 (omega (arith, node_law t)) in
      subst (λ (k : ℕ). (0 < n) × Begins (changed s ns ps) c d k × WithRows (IsWell (changed s ns ps) t (c + 1) (d + 1) (times limit n)) (rows (changed s ns ps) (c + 1) (times limit n)) (k * n))
      (sym (rows_same s ns ps a c limit here)) (
        v.0,
        begins_longer s ns ps a c b d (rows s a limit) here first v.1,
        (
          well_longer s ns ps t (a + 1) (c + 1) (b + 1) (d + 1) (times limit n) (shift s ns ps a c b d (1 + nodes t) (1 + buffers s.extra t) 1 1 (nodes t) (buffers s.extra t) e (omega arith) (omega arith)) v.2.0,
          rows_same s ns ps (a + 1) (c + 1) (times limit n) child ∙ v.2.1,
        ),
      )
  well_longer s ns ps (struct_kind ts) a c b d limit e v =
      let here = node_here s ns ps a c b d (1 + all_nodes ts) (1 + all_buffers s.extra ts) e (omega arith) in
      let first = part_here s ns ps a c b d (1 + all_nodes ts) (1 + all_buffers s.extra ts) e (omega arith) in
      subst (λ (k : ℕ). IsSome ts × Begins (changed s ns ps) c d k × AllHaveRows (changed s ns ps) ts (c + 1) (d + 1) limit k) (sym (rows_same s ns ps a c limit here)) (
        v.0,
        begins_longer s ns ps a c b d (rows s a limit) here first v.1,
        all_longer s ns ps ts (a + 1) (c + 1) (b + 1) (d + 1) limit (rows s a limit)
            (shift s ns ps a c b d (1 + all_nodes ts) (1 + all_buffers s.extra ts) 1 1 (all_nodes ts) (all_buffers s.extra ts) e (omega arith) (omega arith)) v.2,
      )
  well_longer s ns ps (union_kind Sparse ids ts) a c b d limit e v =
      let here = node_here s ns ps a c b d (1 + all_nodes ts) ((1 + s.extra) + all_buffers s.extra ts) e (omega arith) in
      let types = e.parts_longer s.extra (omega arith) in
      let children = shift s ns ps a c b d (1 + all_nodes ts) ((1 + s.extra) + all_buffers s.extra ts) 1 (s.extra + 1) (all_nodes ts) (all_buffers s.extra ts) e (omega arith) (omega arith) in
      subst (λ (k : ℕ). IsSize (node (changed s ns ps) c).length × IsUnionKind ids (count ts) × HasTypes (changed s ns ps) ids (count ts) (d + s.extra) k
      × AllHaveRows (changed s ns ps) ts (c + 1) (d + s.extra + 1) limit k) (sym (rows_same s ns ps a c limit here)) (
        subst (λ (n : FieldNode). IsSize n.length) (sym here) v.0,
        v.1,
        types_longer s ns ps ids (count ts) (b + s.extra) (d + s.extra) (rows s a limit) types v.2,
        all_longer s ns ps ts (a + 1) (c + 1) (b + s.extra + 1) (d + s.extra + 1) limit (rows s a limit) (further s ns ps (a + 1) (c + 1) b d s.extra 1 (all_nodes ts) (all_buffers s.extra ts) children) v.3,
      )
  well_longer s ns ps (union_kind Dense ids ts) a c b d limit e v =
      let here = node_here s ns ps a c b d (1 + all_nodes ts) ((2 + s.extra) + all_buffers s.extra ts) e (omega arith) in
      let types = e.parts_longer s.extra (omega arith) in
      let places = further_part s ns ps a c b d (1 + all_nodes ts) ((2 + s.extra) + all_buffers s.extra ts) s.extra e (omega arith) in
      let children = shift s ns ps a c b d (1 + all_nodes ts) ((2 + s.extra) + all_buffers s.extra ts) 1 (s.extra + 2) (all_nodes ts) (all_buffers s.extra ts) e (omega arith) (omega arith) in
      let moved = further s ns ps (a + 1) (c + 1) b d s.extra 2 (all_nodes ts) (all_buffers s.extra ts) children in
      subst (λ (k : ℕ). IsSize (node (changed s ns ps) c).length × IsUnionKind ids (count ts) × HasTypes (changed s ns ps) ids (count ts) (d + s.extra) k
      × Reaches (changed s ns ps) ids ts (c + 1) (d + s.extra) k × AllWell (changed s ns ps) ts (c + 1) (d + s.extra + 2)) (sym (rows_same s ns ps a c limit here)) (
        subst (λ (n : FieldNode). IsSize n.length) (sym here) v.0,
        v.1,
        types_longer s ns ps ids (count ts) (b + s.extra) (d + s.extra) (rows s a limit) types v.2,
        reaches_longer s ns ps ids ts (a + 1) (c + 1) (b + s.extra) (d + s.extra) (b + s.extra + 2) (d + s.extra + 2) (rows s a limit) (all_buffers s.extra ts) types places moved v.2.types v.3,
        each_longer s ns ps ts (a + 1) (c + 1) (b + s.extra + 2) (d + s.extra + 2) moved v.4,
      )
  well_longer s ns ps (dictionary_kind f id t) a c b d limit e v =
      let here = node_here s ns ps a c b d 1 2 e (omega arith) in
      let first = part_here s ns ps a c b d 1 2 e (omega arith) in
      let second = e.parts_longer 1 (omega arith) in
      subst (λ (k : ℕ). Begins (changed s ns ps) c d k × Need (changed s ns ps) (d + 1) (width_of f * k) × HasValues (changed s ns ps) f id t c d k) (sym (rows_same s ns ps a c limit here)) (
        begins_longer s ns ps a c b d (rows s a limit) here first v.0,
        need_longer s ns ps (b + 1) (d + 1) (width_of f * rows s a limit) second v.1,
        values_longer s ns ps f id t a c b d (rows s a limit) here first second v.0 v.1 v.2,
      )
  well_longer s ns ps (extension_kind t) a c b d limit e v = well_longer s ns ps t a c b d limit e v

  all_longer : (s : Entries) (ns : List FieldNode) (ps : List Part) (ts : Kinds) (a c b d : ℕ) (limit : Limit) (k : ℕ) → Extends s ns ps a c b d (all_nodes ts) (all_buffers s.extra ts)
      → AllHaveRows s ts a b limit k → AllHaveRows (changed s ns ps) ts c d limit k
  all_longer s ns ps no_kinds a c b d limit k e v = tt
  all_longer s ns ps (more_kinds t ts) a c b d limit k e v = (
    (
      well_longer s ns ps t a c b d limit (narrow s ns ps a c b d (all_nodes (more_kinds t ts)) (all_buffers s.extra (more_kinds t ts)) (nodes t) (buffers s.extra t) e (omega arith) (omega arith)) v.0.0,
      rows_same s ns ps a c limit (node_here s ns ps a c b d (all_nodes (more_kinds t ts)) (all_buffers s.extra (more_kinds t ts)) e (omega (arith, node_law t))) ∙ v.0.1,
    ),
    all_longer s ns ps ts (a + nodes t) (c + nodes t) (b + buffers s.extra t) (d + buffers s.extra t) limit k
        (shift s ns ps a c b d (all_nodes (more_kinds t ts)) (all_buffers s.extra (more_kinds t ts)) (nodes t) (buffers s.extra t) (all_nodes ts) (all_buffers s.extra ts) e (omega arith) (omega arith)) v.1,
  )

  each_longer : (s : Entries) (ns : List FieldNode) (ps : List Part) (ts : Kinds) (a c b d : ℕ) → Extends s ns ps a c b d (all_nodes ts) (all_buffers s.extra ts)
      → AllWell s ts a b → AllWell (changed s ns ps) ts c d
  each_longer s ns ps no_kinds a c b d e v = tt
  each_longer s ns ps (more_kinds t ts) a c b d e v = (
    well_longer s ns ps t a c b d None (narrow s ns ps a c b d (all_nodes (more_kinds t ts)) (all_buffers s.extra (more_kinds t ts)) (nodes t) (buffers s.extra t) e (omega arith) (omega arith)) v.0,
    each_longer s ns ps ts (a + nodes t) (c + nodes t) (b + buffers s.extra t) (d + buffers s.extra t)
        (shift s ns ps a c b d (all_nodes (more_kinds t ts)) (all_buffers s.extra (more_kinds t ts)) (nodes t) (buffers s.extra t) (all_nodes ts) (all_buffers s.extra ts) e (omega arith) (omega arith)) v.1,
  )
