-- The slots of columns whose entries are at another position, or have more bytes after them.
use Rattle.std.proofs.Common.{◌≡◌, ℕ, zero, suc, ◌+◌, ◌*◌, ◌<◌, ◌≤◌, List, map, length, slice_index_or, Some, None, refl, ap, ◌∙◌, arith}
use Rattle.std.specs.List.{range_with_len}
use Rattle.std.proofs.Math.Nat.{mul-le-mul_left}
use Rattle.lower.specs.declared.datatypes.UnionMode.TheVariants.{Sparse, Dense}
use Rattle.lower_arrays.specs.Slots.{null_slot, truth_slot, number_slot, bytes_slot, text_slot, list_slot, record_slot, variant_slot, more_slots}
use Rattle.ipc_table_views.specs.declared.message.FieldNode.{FieldNode}
use Rattle.ipc_model.proofs.Extended.{shift, narrow, node_here, part_here, next_part, further_part, further, rows_same, bit_longer, number_longer, slice_longer, valid_same, masked_same, bytes_same, list_same, range_same, between_same, type_same, child_same, place_same, index_size, well_longer}
use Rattle.ipc_model.proofs.Needs.{node_law}
use Rattle.ipc_model.specs.Numbers.{integer_of}
use Rattle.ipc_model.specs.Kinds.{offsets_32, offset_width, Kind, null_kind, boolean_kind, number_kind, float_kind, fixed_binary_kind, binary_kind, utf8_kind, list_kind, map_kind, fixed_list_kind, struct_kind, union_kind, dictionary_kind, extension_kind, Kinds, no_kinds, more_kinds, count, nodes, all_nodes, buffers, all_buffers}
use Rattle.ipc_model.specs.Entries.{Entries, Part, size, node, bytes, Limit, rows, times}
use Rattle.ipc_model.specs.Columns.{last_offset, child_rows, type_at, child_at, place_at, values_slots, IsWell, AllHaveRows, AllWell, slot_at, slots_at, child_slot}
use Rattle.ipc_model.specs.Extending.{changed, Extends, ExtendLaw}

-- Slots of a fixed number, one after another.
pub fixed_room : (n i k : ℕ) → i < k → n * (i + 1) ≤ k * n
fixed_room n i k h = let next : i + 1 ≤ k = omega arith in omega (arith, mul-le-mul_left n next)

mutual
  pub slot_same : (s : Entries) (ns : List FieldNode) (ps : List Part) (t : Kind) (a c b d : ℕ) (limit : Limit) → Extends s ns ps a c b d (nodes t) (buffers s.extra t)
      → IsWell s t a b limit → (i : ℕ) → i < rows s a limit → slot_at (changed s ns ps) t c d i ≡ slot_at s t a b i
  slot_same s ns ps null_kind a c b d limit e v i h = refl
  slot_same s ns ps boolean_kind a c b d limit e v i h =
      let here = node_here s ns ps a c b d 1 2 e (omega arith) in
      let first = part_here s ns ps a c b d 1 2 e (omega arith) in
      let second = e.parts_longer 1 (omega arith) in
      masked_same s ns ps a c b d i _ _ (valid_same s ns ps a c b d (rows s a limit) i here first v.0 h)
      (ap truth_slot (bit_longer s ns ps (b + 1) (d + 1) (rows s a limit) i second v.1 h))
  slot_same s ns ps (number_kind f) a c b d limit e v i h =
      let here = node_here s ns ps a c b d 1 2 e (omega arith) in
      let first = part_here s ns ps a c b d 1 2 e (omega arith) in
      let second = e.parts_longer 1 (omega arith) in
      masked_same s ns ps a c b d i _ _ (valid_same s ns ps a c b d (rows s a limit) i here first v.0 h)
      (ap number_slot (number_longer s ns ps f (b + 1) (d + 1) (rows s a limit) i second v.1.2 h))
  slot_same s ns ps float_kind a c b d limit e v i h = refl
  slot_same s ns ps (fixed_binary_kind n) a c b d limit e v i h =
      let here = node_here s ns ps a c b d 1 2 e (omega arith) in
      let first = part_here s ns ps a c b d 1 2 e (omega arith) in
      let second = e.parts_longer 1 (omega arith) in
      let up : n * i ≤ n * (i + 1) = let le : i ≤ i + 1 = omega arith in mul-le-mul_left n le in
      let room : n * (i + 1) ≤ length (bytes s (b + 1)) = omega (arith, fixed_room n i (rows s a limit) h, v.2.2) in
      masked_same s ns ps a c b d i _ _ (valid_same s ns ps a c b d (rows s a limit) i here first v.1 h)
      (ap bytes_slot (slice_longer s ns ps (b + 1) (d + 1) (n * i) (n * (i + 1)) second up room))
  slot_same s ns ps (binary_kind w) a c b d limit e v i h =
      let here = node_here s ns ps a c b d 1 3 e (omega arith) in
      let first = part_here s ns ps a c b d 1 3 e (omega arith) in
      let second = e.parts_longer 1 (omega arith) in
      let third = next_part s ns ps a c b d 1 3 e (omega arith) in
      masked_same s ns ps a c b d i _ _ (valid_same s ns ps a c b d (rows s a limit) i here first v.0 h)
      (ap bytes_slot (bytes_same s ns ps (offset_width w) (b + 1) (d + 1) (rows s a limit) i second third v.1 h))
  slot_same s ns ps (utf8_kind w) a c b d limit e v i h =
      let here = node_here s ns ps a c b d 1 3 e (omega arith) in
      let first = part_here s ns ps a c b d 1 3 e (omega arith) in
      let second = e.parts_longer 1 (omega arith) in
      let third = next_part s ns ps a c b d 1 3 e (omega arith) in
      masked_same s ns ps a c b d i _ _ (valid_same s ns ps a c b d (rows s a limit) i here first v.0 h)
      (ap text_slot (bytes_same s ns ps (offset_width w) (b + 1) (d + 1) (rows s a limit) i second third v.1 h))
  slot_same s ns ps (list_kind w t) a c b d limit e v i h =
      let here = node_here s ns ps a c b d (1 + nodes t) (2 + buffers s.extra t) e (omega arith) in
      let first = part_here s ns ps a c b d (1 + nodes t) (2 + buffers s.extra t) e (omega arith) in
      let second = e.parts_longer 1 (omega arith) in
      let k = rows s a limit in
      let last = last_offset s (b + 1) (offset_width w) k in
      let inner = shift s ns ps a c b d (1 + nodes t) (2 + buffers s.extra t) 1 2 (nodes t) (buffers s.extra t) e (omega arith) (omega arith) in
      masked_same s ns ps a c b d i _ _ (valid_same s ns ps a c b d k i here first v.0 h)
      (list_same s ns ps (offset_width w) (b + 1) (d + 1) k i (λ j. slot_at (changed s ns ps) t (c + 1) (d + 2) j) (λ j. slot_at s t (a + 1) (b + 2) j) second v.1 h
      (λ j l. slot_same s ns ps t (a + 1) (c + 1) (b + 2) (d + 2) (Some last) inner v.2.0 j (omega (arith, l, v.2.1))))
  slot_same s ns ps (map_kind t) a c b d limit e v i h =
      let here = node_here s ns ps a c b d (1 + nodes t) (2 + buffers s.extra t) e (omega arith) in
      let first = part_here s ns ps a c b d (1 + nodes t) (2 + buffers s.extra t) e (omega arith) in
      let second = e.parts_longer 1 (omega arith) in
      let k = rows s a limit in
      let last = last_offset s (b + 1) (offset_width offsets_32) k in
      let inner = shift s ns ps a c b d (1 + nodes t) (2 + buffers s.extra t) 1 2 (nodes t) (buffers s.extra t) e (omega arith) (omega arith) in
      masked_same s ns ps a c b d i _ _ (valid_same s ns ps a c b d k i here first v.1.0 h)
      (list_same s ns ps (offset_width offsets_32) (b + 1) (d + 1) k i (λ j. slot_at (changed s ns ps) t (c + 1) (d + 2) j) (λ j. slot_at s t (a + 1) (b + 2) j) second v.1.1 h
      (λ j l. slot_same s ns ps t (a + 1) (c + 1) (b + 2) (d + 2) (Some last) inner v.1.2.0 j (omega (arith, l, v.1.2.1))))
  slot_same s ns ps (fixed_list_kind n t) a c b d limit e v i h =
      let here = node_here s ns ps a c b d (1 + nodes t) (1 + buffers s.extra t) e (omega arith) in
      let first = part_here s ns ps a c b d (1 + nodes t) (1 + buffers s.extra t) e (omega arith) in
      let k = rows s a limit in
      let inner = shift s ns ps a c b d (1 + nodes t) (1 + buffers s.extra t) 1 1 (nodes t) (buffers s.extra t) e (omega arith) (omega arith) in
      masked_same s ns ps a c b d i _ _ (valid_same s ns ps a c b d k i here first v.1 h)
      (ap list_slot (between_same (λ j. slot_at (changed s ns ps) t (c + 1) (d + 1) j) (λ j. slot_at s t (a + 1) (b + 1) j) (n * i) (n * (i + 1))
      (λ j l. slot_same s ns ps t (a + 1) (c + 1) (b + 1) (d + 1) (times limit n) inner v.2.0 j (omega (arith, l, v.2.1, fixed_room n i k h)))))
  slot_same s ns ps (struct_kind ts) a c b d limit e v i h =
      let here = node_here s ns ps a c b d (1 + all_nodes ts) (1 + all_buffers s.extra ts) e (omega arith) in
      let first = part_here s ns ps a c b d (1 + all_nodes ts) (1 + all_buffers s.extra ts) e (omega arith) in
      let inner = shift s ns ps a c b d (1 + all_nodes ts) (1 + all_buffers s.extra ts) 1 1 (all_nodes ts) (all_buffers s.extra ts) e (omega arith) (omega arith) in
      masked_same s ns ps a c b d i _ _ (valid_same s ns ps a c b d (rows s a limit) i here first v.1 h)
      (ap record_slot (slots_same s ns ps ts (a + 1) (c + 1) (b + 1) (d + 1) limit (rows s a limit) inner v.2 i h))
  slot_same s ns ps (union_kind Sparse ids ts) a c b d limit e v i h =
      let types = e.parts_longer s.extra (omega arith) in
      let children = shift s ns ps a c b d (1 + all_nodes ts) ((1 + s.extra) + all_buffers s.extra ts) 1 (s.extra + 1) (all_nodes ts) (all_buffers s.extra ts) e (omega arith) (omega arith) in
      let moved = further s ns ps (a + 1) (c + 1) b d s.extra 1 (all_nodes ts) (all_buffers s.extra ts) children in
      let k = rows s a limit in
      let child = child_at s ids (count ts) (b + s.extra) i in
      ap (λ z. variant_slot z (child_slot (changed s ns ps) ts (c + 1) (d + s.extra + 1) (child_at (changed s ns ps) ids (count ts) (d + s.extra) i) i))
      (type_same s ns ps (b + s.extra) (d + s.extra) k i types v.2.types h)
      ∙ ap (λ n. variant_slot (type_at s (b + s.extra) i) (child_slot (changed s ns ps) ts (c + 1) (d + s.extra + 1) n i))
      (child_same s ns ps ids (count ts) (b + s.extra) (d + s.extra) k i types v.2.types h)
      ∙ ap (λ x. variant_slot (type_at s (b + s.extra) i) x)
      (sparse_same s ns ps ts (a + 1) (c + 1) (b + s.extra + 1) (d + s.extra + 1) limit k moved v.3 child i h)
  slot_same s ns ps (union_kind Dense ids ts) a c b d limit e v i h =
      let types = e.parts_longer s.extra (omega arith) in
      let places = further_part s ns ps a c b d (1 + all_nodes ts) ((2 + s.extra) + all_buffers s.extra ts) s.extra e (omega arith) in
      let children = shift s ns ps a c b d (1 + all_nodes ts) ((2 + s.extra) + all_buffers s.extra ts) 1 (s.extra + 2) (all_nodes ts) (all_buffers s.extra ts) e (omega arith) (omega arith) in
      let moved = further s ns ps (a + 1) (c + 1) b d s.extra 2 (all_nodes ts) (all_buffers s.extra ts) children in
      let k = rows s a limit in
      let child = child_at s ids (count ts) (b + s.extra) i in
      let place = place_at s (b + s.extra + 1) i in
      ap (λ z. variant_slot z (child_slot (changed s ns ps) ts (c + 1) (d + s.extra + 2) (child_at (changed s ns ps) ids (count ts) (d + s.extra) i) (size (place_at (changed s ns ps) (d + s.extra + 1) i))))
      (type_same s ns ps (b + s.extra) (d + s.extra) k i types v.2.types h)
      ∙ ap (λ n. variant_slot (type_at s (b + s.extra) i) (child_slot (changed s ns ps) ts (c + 1) (d + s.extra + 2) n (size (place_at (changed s ns ps) (d + s.extra + 1) i))))
      (child_same s ns ps ids (count ts) (b + s.extra) (d + s.extra) k i types v.2.types h)
      ∙ ap (λ z. variant_slot (type_at s (b + s.extra) i) (child_slot (changed s ns ps) ts (c + 1) (d + s.extra + 2) child (size z)))
      (place_same s ns ps (b + s.extra + 1) (d + s.extra + 1) k i places v.3.offsets h)
      ∙ ap (λ x. variant_slot (type_at s (b + s.extra) i) x)
      (dense_same s ns ps ts (a + 1) (c + 1) (b + s.extra + 2) (d + s.extra + 2) moved v.4 child (size place) (index_size place (child_rows s ts (a + 1) child) (v.3.inside i h)))
  slot_same s ns ps (dictionary_kind f id t) a c b d limit e v i h =
      let here = node_here s ns ps a c b d 1 2 e (omega arith) in
      let first = part_here s ns ps a c b d 1 2 e (omega arith) in
      let second = e.parts_longer 1 (omega arith) in
      masked_same s ns ps a c b d i _ _ (valid_same s ns ps a c b d (rows s a limit) i here first v.0 h)
      (ap (λ z. slice_index_or (values_slots s id) (size (integer_of z)) null_slot) (number_longer s ns ps f (b + 1) (d + 1) (rows s a limit) i second v.1.2 h))
  slot_same s ns ps (extension_kind t) a c b d limit e v i h = slot_same s ns ps t a c b d limit e v i h

  slots_same : (s : Entries) (ns : List FieldNode) (ps : List Part) (ts : Kinds) (a c b d : ℕ) (limit : Limit) (k : ℕ) → Extends s ns ps a c b d (all_nodes ts) (all_buffers s.extra ts)
      → AllHaveRows s ts a b limit k → (i : ℕ) → i < k → slots_at (changed s ns ps) ts c d i ≡ slots_at s ts a b i
  slots_same s ns ps no_kinds a c b d limit k e v i h = refl
  slots_same s ns ps (more_kinds t ts) a c b d limit k e v i h =
      let one = narrow s ns ps a c b d (all_nodes (more_kinds t ts)) (all_buffers s.extra (more_kinds t ts)) (nodes t) (buffers s.extra t) e (omega arith) (omega arith) in
      let rest = shift s ns ps a c b d (all_nodes (more_kinds t ts)) (all_buffers s.extra (more_kinds t ts)) (nodes t) (buffers s.extra t) (all_nodes ts) (all_buffers s.extra ts) e (omega arith) (omega arith) in
      ap (λ x. more_slots x (slots_at (changed s ns ps) ts (c + nodes t) (d + buffers s.extra t) i)) (slot_same s ns ps t a c b d limit one v.0.0 i (omega (arith, h, v.0.1)))
      ∙ ap (λ xs. more_slots (slot_at s t a b i) xs) (slots_same s ns ps ts (a + nodes t) (c + nodes t) (b + buffers s.extra t) (d + buffers s.extra t) limit k rest v.1 i h)

  sparse_same : (s : Entries) (ns : List FieldNode) (ps : List Part) (ts : Kinds) (a c b d : ℕ) (limit : Limit) (k : ℕ) → Extends s ns ps a c b d (all_nodes ts) (all_buffers s.extra ts)
      → AllHaveRows s ts a b limit k → (n i : ℕ) → i < k → child_slot (changed s ns ps) ts c d n i ≡ child_slot s ts a b n i
  sparse_same s ns ps no_kinds a c b d limit k e v n i h = refl
  sparse_same s ns ps (more_kinds t ts) a c b d limit k e v zero i h =
      let one = narrow s ns ps a c b d (all_nodes (more_kinds t ts)) (all_buffers s.extra (more_kinds t ts)) (nodes t) (buffers s.extra t) e (omega arith) (omega arith) in
      slot_same s ns ps t a c b d limit one v.0.0 i (omega (arith, h, v.0.1))
  sparse_same s ns ps (more_kinds t ts) a c b d limit k e v (suc n) i h =
      let rest = shift s ns ps a c b d (all_nodes (more_kinds t ts)) (all_buffers s.extra (more_kinds t ts)) (nodes t) (buffers s.extra t) (all_nodes ts) (all_buffers s.extra ts) e (omega arith) (omega arith) in
      sparse_same s ns ps ts (a + nodes t) (c + nodes t) (b + buffers s.extra t) (d + buffers s.extra t) limit k rest v.1 n i h

  dense_same : (s : Entries) (ns : List FieldNode) (ps : List Part) (ts : Kinds) (a c b d : ℕ) → Extends s ns ps a c b d (all_nodes ts) (all_buffers s.extra ts)
      → AllWell s ts a b → (n i : ℕ) → i < child_rows s ts a n → child_slot (changed s ns ps) ts c d n i ≡ child_slot s ts a b n i
  dense_same s ns ps no_kinds a c b d e v n i h = refl
  dense_same s ns ps (more_kinds t ts) a c b d e v zero i h =
      let one = narrow s ns ps a c b d (all_nodes (more_kinds t ts)) (all_buffers s.extra (more_kinds t ts)) (nodes t) (buffers s.extra t) e (omega arith) (omega arith) in
      slot_same s ns ps t a c b d None one v.0 i h
  dense_same s ns ps (more_kinds t ts) a c b d e v (suc n) i h =
      let rest = shift s ns ps a c b d (all_nodes (more_kinds t ts)) (all_buffers s.extra (more_kinds t ts)) (nodes t) (buffers s.extra t) (all_nodes ts) (all_buffers s.extra ts) e (omega arith) (omega arith) in
      dense_same s ns ps ts (a + nodes t) (c + nodes t) (b + buffers s.extra t) (d + buffers s.extra t) rest v.1 n i h

-- the node of a column, which each has
column_node : (s : Entries) (ns : List FieldNode) (ps : List Part) (t : Kind) (a c b d m : ℕ) → Extends s ns ps a c b d (nodes t) m → node (changed s ns ps) c ≡ node s a
column_node s ns ps t a c b d m e = node_here s ns ps a c b d (nodes t) m e (omega (arith, node_law t))

pub extend_law : ExtendLaw
extend_law s ns ps t a c b d limit e v = (
  well_longer s ns ps t a c b d limit e v,
  ap (λ k. map (λ i. slot_at (changed s ns ps) t c d i) (range_with_len 0 k)) (rows_same s ns ps a c limit (column_node s ns ps t a c b d (buffers s.extra t) e))
      ∙ range_same (λ i. slot_at (changed s ns ps) t c d i) (λ i. slot_at s t a b i) 0 (rows s a limit) (λ j l r. slot_same s ns ps t a c b d limit e v j (omega arith)),
)
