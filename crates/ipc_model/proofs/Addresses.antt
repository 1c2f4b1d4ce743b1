-- Where columns are in a batch.
use Rattle.std.proofs.Common.{◌≡◌, ℕ, zero, suc, ◌+◌, ◌<◌, List, [], take, drop, slice_index_or, sym, ap, ◌∙◌, arith, append-nil}
use Rattle.std.proofs.lemmas.List.{get_or-take, get_or-drop}
use Rattle.ipc_model.proofs.ExtendedSlots.{extend_law}
use Rattle.ipc_model.specs.AddressLaws.{OrderLaw, AddressLaw}
use Rattle.ipc_model.specs.Batches.{kind_at, nodes_before, buffers_before, own}
use Rattle.ipc_model.specs.Entries.{Entries, Part, node, buffer}
use Rattle.ipc_model.specs.Extending.{Longer, Extends}
use Rattle.ipc_model.specs.Kinds.{Kinds, no_kinds, more_kinds, nodes, buffers}

pub order_law : OrderLaw
order_law extra no_kinds i j h k = absurd (omega (arith, k))
order_law extra (more_kinds t ts) i zero h k = absurd (omega (arith, h))
order_law extra (more_kinds t ts) zero (suc j) h k = record { node = omega arith; buffer = omega arith }
order_law extra (more_kinds t ts) (suc i) (suc j) h k =
    let rest = order_law extra ts i j (omega (arith, h)) (omega (arith, k)) in
    record { node = omega (arith, rest.node); buffer = omega (arith, rest.buffer) }

-- element i of a slice is element m + i
sliced_at : {X : Type 0} (n m i : ℕ) (xs : List X) (d : X) → i < n → slice_index_or (take n (drop m xs)) i d ≡ slice_index_or xs (m + i) d
sliced_at n m i xs d h = get_or-take n (drop m xs) i d h ∙ get_or-drop m xs i d

same_part : (p q : Part) → q ≡ p → Longer p q
same_part p q e = record { offset_same = ap (λ (x : Part). x.offset) e; length_same = ap (λ (x : Part). x.length) e; added = []; bytes_then = ap (λ (x : Part). x.bytes) e ∙ sym (append-nil p.bytes) }

zero_first : (n : ℕ) → 0 + n ≡ n
zero_first n = omega arith

pub own_node : (s : Entries) (ts : Kinds) (j i : ℕ) → i < nodes (kind_at ts j) → node (own s ts j) (0 + i) ≡ node s (nodes_before ts j + i)
own_node s ts j i h = ap (node (own s ts j)) (zero_first i) ∙ sliced_at (nodes (kind_at ts j)) (nodes_before ts j) i s.nodes _ h

own_part : (s : Entries) (ts : Kinds) (j i : ℕ) → i < buffers s.extra (kind_at ts j) → buffer (own s ts j) (0 + i) ≡ buffer s (buffers_before s.extra ts j + i)
own_part s ts j i h = ap (buffer (own s ts j)) (zero_first i) ∙ sliced_at (buffers s.extra (kind_at ts j)) (buffers_before s.extra ts j) i s.parts _ h

to_own : (s : Entries) (ts : Kinds) (j : ℕ)
    → Extends s (own s ts j).nodes (own s ts j).parts (nodes_before ts j) 0 (buffers_before s.extra ts j) 0 (nodes (kind_at ts j)) (buffers s.extra (kind_at ts j))
to_own s ts j = record {
  nodes_same = λ i h. own_node s ts j i h;
  parts_longer = λ i h. same_part (buffer s (buffers_before s.extra ts j + i)) (buffer (own s ts j) (0 + i)) (own_part s ts j i h);
}

from_own : (s : Entries) (ts : Kinds) (j : ℕ)
    → Extends (own s ts j) s.nodes s.parts 0 (nodes_before ts j) 0 (buffers_before s.extra ts j) (nodes (kind_at ts j)) (buffers s.extra (kind_at ts j))
from_own s ts j = record {
  nodes_same = λ i h. sym (own_node s ts j i h);
  parts_longer = λ i h. same_part (buffer (own s ts j) (0 + i)) (buffer s (buffers_before s.extra ts j + i)) (sym (own_part s ts j i h));
}

pub address_law : AddressLaw
address_law s ts limit j = record {
  from_whole = λ v. (extend_law s (own s ts j).nodes (own s ts j).parts (kind_at ts j) (nodes_before ts j) 0 (buffers_before s.extra ts j) 0 limit (to_own s ts j) v).0;
  to_whole = λ v. (extend_law (own s ts j) s.nodes s.parts (kind_at ts j) 0 (nodes_before ts j) 0 (buffers_before s.extra ts j) limit (from_own s ts j) v).0;
  slots = λ v. sym (extend_law (own s ts j) s.nodes s.parts (kind_at ts j) 0 (nodes_before ts j) 0 (buffers_before s.extra ts j) limit (from_own s ts j) v).1;
}
