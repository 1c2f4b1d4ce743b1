-- The lengths of nodes fit in signed 64-bit integers.
use Rattle.std.proofs.Common.{arith, ◌≡◌, refl, ℕ, zero, suc, ℤ, pos, negsuc, ◌+◌, ◌^◌, ◌<◌, false, List, Option, None, Some, Result, Ok, Err, sym, ap, subst, ◌∙◌, inl, inr}
use Rattle.std.proofs.lemmas.Bool.{cases_lt}
use Rattle.std.proofs.lemmas.Bool.Decides.{nat_tests}
use Rattle.std.proofs.lemmas.Int.{to_z_pos}
use Rattle.std.specs.Int.{w64, cast_signed}
use Rattle.std.specs.Prelude.{slice_index_or, nat_lt}
use Rattle.ipc_devices.specs.declared.fault.TableFault.{TableFault}
use Rattle.ipc_table_views.specs.Spot.{Spot, Vector}
use Rattle.ipc_table_views.specs.MessageSlots.{record_batch_nodes}
use Rattle.ipc_table_views.specs.Structs.{structs_from, structs_at, signed64, node_of}
use Rattle.ipc_table_views.specs.Tables.{and_then, map_ok, of_slot, slot_at, target_at, vector_at}
use Rattle.ipc_table_views.specs.declared.message.FieldNode.{FieldNode}
use Rattle.ipc_model.specs.Entries.{size}
use Rattle.ipc_read_flat.specs.Limits.{AreSmall}

-- A signed 64-bit integer, as a size.
signed_size : (n : ℕ) (z : ℤ) → z ≡ cast_signed w64 n → size z < 2 ^ 63
signed_size n (negsuc m) e = omega arith
signed_size n (pos m) e =
    elim (cases_lt n (2 ^ 63)) [
      | inl low ↦ let same : m ≡ n = (let told = e ∙ to_z_pos w64 n low in cc) in omega (arith, low, same)
      | inr high ↦ let told : nat_lt n (2 ^ 63) ≡ false = grind (arith, nat_tests) in absurd (grind (arith, nat_tests))
    ]

node_size : (m : List ℕ) (p : ℕ) → size (node_of m p).length < 2 ^ 63
unfolding signed64
node_size m p = signed_size _ (signed64 m p) refl

nodes_size : (m : List ℕ) (n p a : ℕ) → size (slice_index_or (structs_from (node_of m) 16 n p) a (record { length = pos 0; null_count = pos 0 })).length < 2 ^ 63
nodes_size m zero p a = omega arith
nodes_size m (suc n) p zero = node_size m p
nodes_size m (suc n) p (suc a) = nodes_size m n (p + 16) a

vector_small : (m : List ℕ) (v : Result Vector TableFault) (ns : List FieldNode) → map_ok (λ v. structs_from (node_of m) 16 v.count v.place) v ≡ Ok ns → AreSmall ns
vector_small m (Ok v) ns e =
    let same : structs_from (node_of m) 16 v.count v.place ≡ ns = cc in
    subst AreSmall same (record { each = nodes_size m v.count v.place })
vector_small m (Err f) ns e = absurd cc

structs_small : (m : List ℕ) (t : ℕ) (ns : List FieldNode) → structs_at node_of 16 m t ≡ Ok ns → AreSmall ns
unfolding structs_at
structs_small m t ns e = vector_small m (vector_at 16 m t) ns e

found_small : (m : List ℕ) (t : ℕ) (r : Result (List FieldNode) TableFault) (ns : List FieldNode) → r ≡ structs_at node_of 16 m t → map_ok Some r ≡ Ok (Some ns) → AreSmall ns
found_small m t (Err f) ns h e = absurd cc
found_small m t (Ok xs) ns h e =
    let same : xs ≡ ns = cc in
    structs_small m t ns (sym h ∙ ap (λ ys. Ok ys) same)

placed_small : (m : List ℕ) (r : Result ℕ TableFault) (ns : List FieldNode) → map_ok Some (and_then r (structs_at node_of 16 m)) ≡ Ok (Some ns) → AreSmall ns
placed_small m (Err f) ns e = absurd cc
placed_small m (Ok t) ns e = found_small m t (structs_at node_of 16 m t) ns refl e

slot_small : (m : List ℕ) (r : Result (Option ℕ) TableFault) (ns : List FieldNode)
    → of_slot r (λ q. and_then (target_at m q) (structs_at node_of 16 m)) ≡ Ok (Some ns) → AreSmall ns
slot_small m (Ok None) ns e = absurd cc
slot_small m (Ok (Some q)) ns e = placed_small m (target_at m q) ns e
slot_small m (Err f) ns e = absurd cc

-- The nodes of a record batch.
pub nodes_small : (t : Spot) (ns : List FieldNode) → record_batch_nodes t ≡ Ok (Some ns) → AreSmall ns
nodes_small t ns e = slot_small t.message (slot_at t.message t.place 1) ns e

pub ruleset node_lengths = (nodes_small)
