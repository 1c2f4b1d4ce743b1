-- How long the parts of a table are, and what has been written when a loop ends.
use Rattle.std.proofs.Common.{◌≡◌, ℕ, ◌+◌, ◌*◌, ◌%◌, ◌≤◌, List, [], ◌∷◌, ◌++◌, length, drop, refl, sym, ap, ◌∙◌, arith, length-append, append_assoc}
use Rattle.std.proofs.lemmas.List.{length-replicate, drop_all}
use Rattle.ipc_table_bytes.specs.declared.build.Slot.{Slot}
use Rattle.ipc_table_bytes.specs.declared.build.Slot.TheVariants.{Absent, Number, Offset}
use Rattle.ipc_table_bytes.specs.Pads.{le, missing, zeros}
use Rattle.ipc_table_bytes.specs.Parts.{vtable_size, vtable_bytes, entry_of, entries, tail_of, tails, number_in, numbers, table_bytes}
use Rattle.ipc_table_bytes.proofs.Lengths.{length-le}

length-entries : (i : ℕ) (slots : List Slot) → length (entries i slots) ≡ 2 * length slots
length-entries i [] = refl
length-entries i (x ∷ rest) = omega (arith, length-append (le 2 (entry_of i x)) (entries (i + 1) rest), length-le 2 (entry_of i x), length-entries (i + 1) rest)

pub length-vtable : (slots : List Slot) → length (vtable_bytes slots) ≡ vtable_size (length slots)
length-vtable slots =
    let n = length slots in
    omega (
      arith,
      length-append (le 2 (4 + 2 * n) ++ (le 2 (8 + 8 * n) ++ entries 0 slots)) (zeros (missing (4 + 2 * n))),
      length-append (le 2 (4 + 2 * n)) (le 2 (8 + 8 * n) ++ entries 0 slots),
      length-append (le 2 (8 + 8 * n)) (entries 0 slots),
      length-le 2 (4 + 2 * n),
      length-le 2 (8 + 8 * n),
      length-entries 0 slots,
      length-replicate {A = ℕ} (missing (4 + 2 * n)) 0,
    )

pub length-numbers : (t : ℕ) (slots : List Slot) → length (numbers t slots) ≡ 8 * length slots
length-numbers t [] = refl
length-numbers t (x ∷ rest) =
    let w = 8 * (length rest + 1) + t in
    omega (arith, length-append (le 8 (number_in w x)) (numbers (t + length (tail_of x)) rest), length-le 8 (number_in w x), length-numbers (t + length (tail_of x)) rest)

pub length-table : (slots : List Slot) → length (table_bytes slots) ≡ vtable_size (length slots) + (8 + (8 * length slots + length (tails slots)))
unfolding table_bytes
length-table slots =
    let n = length slots in
    let v = vtable_size n in
    omega (
      arith,
      length-append (vtable_bytes slots) (le 8 v ++ (numbers 0 slots ++ tails slots)),
      length-vtable slots,
      length-append (le 8 v) (numbers 0 slots ++ tails slots),
      length-le 8 v,
      length-append (numbers 0 slots) (tails slots),
      length-numbers 0 slots,
    )

pub append-nil : (xs : List ℕ) → xs ++ [] ≡ xs
append-nil [] = refl
append-nil (x ∷ xs) = ap (λ (r : List ℕ). x ∷ r) (append-nil xs)

abbrev pub unpadded : List Slot → List ℕ
unpadded slots = le 2 (4 + 2 * length slots) ++ (le 2 (8 + 8 * length slots) ++ entries 0 slots)

pub entries-done : (bytes goal : List ℕ) (slots : List Slot) (i : ℕ) → length slots ≤ i → bytes ++ entries i (drop i slots) ≡ goal → bytes ≡ goal
entries-done bytes goal slots i h e =
    sym (append-nil bytes) ∙ ap (λ (r : List Slot). bytes ++ entries i r) (sym (drop_all i slots h)) ∙ e

pub length-unpadded : (slots : List Slot) → length (unpadded slots) ≡ 4 + 2 * length slots
length-unpadded slots =
    let n = length slots in
    omega (
      arith,
      length-append (le 2 (4 + 2 * n)) (le 2 (8 + 8 * n) ++ entries 0 slots),
      length-append (le 2 (8 + 8 * n)) (entries 0 slots),
      length-le 2 (4 + 2 * n),
      length-le 2 (8 + 8 * n),
      length-entries 0 slots,
    )

pub vtable-padded : (bytes out : List ℕ) (slots : List Slot) → bytes ≡ unpadded slots → out ≡ bytes ++ zeros (missing (length bytes)) → out ≡ vtable_bytes slots
vtable-padded bytes out slots e f =
    f ∙ ap (λ (r : List ℕ). r ++ zeros (missing (length r))) e ∙ ap (λ (n : ℕ). unpadded slots ++ zeros (missing n)) (length-unpadded slots)

tail-whole : (x : Slot) → length (tail_of x) % 8 ≡ 0
tail-whole Absent = refl
tail-whole (Number x) = refl
tail-whole (Offset x) = x.whole

pub tails-whole : (slots : List Slot) → length (tails slots) % 8 ≡ 0
tails-whole [] = refl
tails-whole (x ∷ rest) =
    let first = tail-whole x in let later = tails-whole rest in
    omega (arith, length-append (tail_of x) (tails rest))

pub table-whole : (slots : List Slot) → length (table_bytes slots) % 8 ≡ 0
table-whole slots = omega (arith, length-table slots, tails-whole slots)

-- a table's bytes, one run after the other
pub table-done : (head placed numbered out : List ℕ) (slots : List Slot) (entry : ℕ) → head ≡ vtable_bytes slots → entry ≡ vtable_size (length slots)
    → placed ≡ head ++ le 8 entry → numbered ≡ placed ++ numbers 0 slots → out ≡ numbered ++ tails slots → out ≡ table_bytes slots
unfolding table_bytes
table-done head placed numbered out slots entry first at second third last =
    let v = vtable_size (length slots) in
    let begun : placed ≡ vtable_bytes slots ++ le 8 v = second ∙ ap (λ (r : List ℕ). r ++ le 8 entry) first ∙ ap (λ (n : ℕ). vtable_bytes slots ++ le 8 n) at in
    last ∙ ap (λ (r : List ℕ). r ++ tails slots) third ∙ ap (λ (r : List ℕ). (r ++ numbers 0 slots) ++ tails slots) begun
    ∙ append_assoc (vtable_bytes slots ++ le 8 v) (numbers 0 slots) (tails slots)
    ∙ append_assoc (vtable_bytes slots) (le 8 v) (numbers 0 slots ++ tails slots)
