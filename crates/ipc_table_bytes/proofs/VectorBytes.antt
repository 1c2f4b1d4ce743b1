-- The bytes of a vector of parts: how many they are, and the runs that they are written in.
use Rattle.std.proofs.Common.{◌≡◌, ℕ, ◌%◌, List, [], ◌∷◌, ◌++◌, length, refl, ap, ◌∙◌, arith, length-append, append_assoc}
use Rattle.std.proofs.lemmas.List.{length-replicate}
use Rattle.ipc_table_bytes.specs.declared.build.Built.{Built}
use Rattle.ipc_table_bytes.specs.Pads.{le, short, zeros}
use Rattle.ipc_table_bytes.specs.Parts.{gap_after, joined_parts, offsets, vector_bytes}
use Rattle.ipc_table_bytes.proofs.Lengths.{length-le}
use Rattle.ipc_table_bytes.proofs.VectorLengths.{length-offsets}

joined-whole : (parts : List Built) → length (joined_parts parts) % 8 ≡ 0
joined-whole [] = refl
joined-whole (x ∷ rest) =
    let first : length x.bytes.items % 8 ≡ 0 = x.whole in let later = joined-whole rest in
    omega (arith, length-append x.bytes.items (joined_parts rest))

pub vector-whole : (parts : List Built) → length (vector_bytes parts) % 8 ≡ 0
unfolding vector_bytes
vector-whole parts =
    let gap = gap_after parts in
    let n = length parts in
    omega (
      arith,
      length-append (le 4 (short n) ++ offsets gap 0 parts) (zeros gap ++ joined_parts parts),
      length-append (le 4 (short n)) (offsets gap 0 parts),
      length-append (zeros gap) (joined_parts parts),
      length-le 4 (short n),
      length-offsets gap 0 parts,
      length-replicate {A = ℕ} gap 0,
      joined-whole parts,
    )

-- a vector's bytes, one run after the other
pub vector-done : (fresh counted offered filled out : List ℕ) (parts : List Built) (count gap : ℕ) → fresh ≡ [] → count ≡ short (length parts) → gap ≡ gap_after parts
    → counted ≡ fresh ++ le 4 count → offered ≡ counted ++ offsets gap 0 parts → filled ≡ offered ++ zeros gap → out ≡ filled ++ joined_parts parts → out ≡ vector_bytes parts
unfolding vector_bytes
vector-done fresh counted offered filled out parts count gap none few at first second third last =
    let n = gap_after parts in
    let head = le 4 (short (length parts)) ++ offsets n 0 parts in
    let begun : counted ≡ le 4 (short (length parts)) = first ∙ ap (λ (r : List ℕ). r ++ le 4 count) none ∙ ap (λ (k : ℕ). le 4 k) few in
    let led : offered ≡ head = second ∙ ap (λ (r : List ℕ). r ++ offsets gap 0 parts) begun ∙ ap (λ (k : ℕ). le 4 (short (length parts)) ++ offsets k 0 parts) at in
    last ∙ ap (λ (r : List ℕ). r ++ joined_parts parts) third ∙ ap (λ (r : List ℕ). (r ++ zeros gap) ++ joined_parts parts) led ∙ ap (λ (k : ℕ). (head ++ zeros k) ++ joined_parts parts) at
    ∙ append_assoc head (zeros n) (joined_parts parts)
