-- The first part of a column: its length and its validity.
use Rattle.ipc_devices.specs.Device.{Device}
use Rattle.std.proofs.Common.{arith, ◌≡◌, refl, ℕ, pos, ◌<◌, ◌≤◌, ◌==◌, List, map, length, take, drop, Bool, true, false, None, Some, sym, ap, ◌∙◌}
use Rattle.std.proofs.lemmas.List.{take-append-drop, length-take-le}
use Rattle.std.proofs.lemmas.List.FromFn.{length-map-range_with_len}
use Rattle.std.proofs.lemmas.Option.{get_or_from_slice_get}
use Rattle.std.proofs.lemmas.Bool.Decides.{nat_tests}
use Rattle.std.specs.List.{range_with_len}
use Rattle.std.specs.Prelude.{slice_get}
use Rattle.lower.specs.Bits.{has_bit}
use Rattle.ipc_table_views.specs.declared.message.FieldNode.{FieldNode}
use Rattle.ipc_model.proofs.Extended.{range_same}
use Rattle.ipc_model.proofs.Prefixes.{bit-append}
use Rattle.ipc_model.specs.Entries.{Entries, IsSize, size, node, bytes_for, bit, Need}
use Rattle.ipc_model.specs.Columns.{Begins}
use Rattle.ipc_model.specs.ReadArrays.{bits_of, validity_of}
use Rattle.ipc_read_flat.specs.Bodies.{entries}
use Rattle.ipc_read_flat.specs.declared.read.body.Body.{Body}

pub node_is :
    {R : Type 0} (d : Device R) (b : Body R) (a : ℕ) (x : FieldNode) → slice_get b.nodes a ≡ Some x
    → node (entries d b) a ≡ x
unfolding entries
node_is d b a x e = get_or_from_slice_get b.nodes a x (record { length = pos 0; null_count = pos 0 }) e

pub ruleset nodes = (node_is)

pub bits_are : (k : ℕ) (xs : List ℕ) → bytes_for k ≤ length xs
    → map (has_bit (take (bytes_for k) xs)) (range_with_len 0 k) ≡ map (λ i. bit xs i) (range_with_len 0 k)
bits_are k xs room =
    range_same (has_bit (take (bytes_for k) xs)) (λ i. bit xs i) 0 k
    (λ j low high. let long = length-take-le (bytes_for k) xs room in
    sym (bit-append k j (take (bytes_for k) xs) (drop (bytes_for k) xs) (omega arith) (omega (arith, long)))
    ∙ ap (λ ys. bit ys j) (take-append-drop (bytes_for k) xs))

pub bit_count : (f : ℕ → Bool) (k : ℕ) → length (map f (range_with_len 0 k)) ≡ k
bit_count f k = length-map-range_with_len f 0 k

pub ruleset bit_lists = (bits_are, bit_count)

pub all_valid : (s : Entries) (a b k : ℕ) → size (node s a).null_count ≡ 0 → validity_of s a b k ≡ None
all_valid s a b k none =
    let told : (size (node s a).null_count == 0) ≡ true = grind (arith, nat_tests) in
    rw told refl

pub some_valid : (s : Entries) (a b k : ℕ) → 0 < size (node s a).null_count → validity_of s a b k ≡ Some (bits_of s b k)
some_valid s a b k some =
    let told : (size (node s a).null_count == 0) ≡ false = grind (arith, nat_tests) in
    rw told refl

pub begins_whole : (s : Entries) (a b k : ℕ) → IsSize (node s a).length → size (node s a).null_count ≡ 0 → Begins s a b k
begins_whole s a b k long none = record { length_is = long; validity = λ h. let no : ⊥ = omega arith in absurd no }

pub begins_masked : (s : Entries) (a b k : ℕ) → IsSize (node s a).length → Need s b (bytes_for k) → Begins s a b k
begins_masked s a b k long need = record { length_is = long; validity = λ h. need }

pub begins_length : (s : Entries) (a b k : ℕ) → Begins s a b k → IsSize (node s a).length
begins_length s a b k h = h.length_is

pub begins_need : (s : Entries) (a b k : ℕ) → Begins s a b k → 0 < size (node s a).null_count → Need s b (bytes_for k)
begins_need s a b k h some = h.validity some

pub ruleset heads = (all_valid, some_valid, begins_whole, begins_masked, begins_length, begins_need)
