-- How long the bytes of texts and vectors are.
use Rattle.std.proofs.Common.{◌≡◌, ℕ, ◌+◌, ◌*◌, List, [], ◌∷◌, ◌++◌, length, refl, ap, ◌∙◌, arith, length-append}
use Rattle.std.proofs.lemmas.List.{length-replicate}
use Rattle.ipc_table_bytes.specs.declared.build.Built.{Built}
use Rattle.ipc_table_bytes.specs.Pads.{le, missing, padded, short, zeros}
use Rattle.ipc_table_bytes.specs.Parts.{elements_bytes, elements_header, gap_after, joined_parts, offsets, text_bytes, vector_bytes}
use Rattle.ipc_table_bytes.specs.Sizes.{whole}
use Rattle.ipc_table_bytes.proofs.Lengths.{length-le}

pub length-offsets : (gap t : ℕ) (parts : List Built) → length (offsets gap t parts) ≡ 4 * length parts
length-offsets gap t [] = refl
length-offsets gap t (x ∷ rest) =
    let o = short (4 * (length rest + 1) + (gap + t) + x.entry) in
    omega (arith, length-append (le 4 o) (offsets gap (t + length x.bytes.items) rest), length-le 4 o, length-offsets gap (t + length x.bytes.items) rest)

pub length-vector : (parts : List Built) → length (vector_bytes parts) ≡ whole (4 + 4 * length parts) + length (joined_parts parts)
unfolding vector_bytes
length-vector parts =
    let n = length parts in
    let gap = gap_after parts in
    omega (
      arith,
      length-append (le 4 (short n) ++ offsets gap 0 parts) (zeros gap ++ joined_parts parts),
      length-append (le 4 (short n)) (offsets gap 0 parts),
      length-append (zeros gap) (joined_parts parts),
      length-le 4 (short n),
      length-offsets gap 0 parts,
      length-replicate {A = ℕ} gap 0,
    )

pub length-text : (s : List ℕ) → length (text_bytes s) ≡ whole (4 + length s + 1)
unfolding text_bytes
length-text s =
    let raw = (le 4 (short (length s)) ++ s) ++ 0 ∷ [] in
    let long : length raw ≡ 4 + length s + 1 =
    omega (arith, length-append (le 4 (short (length s)) ++ s) (0 ∷ []), length-append (le 4 (short (length s))) s, length-le 4 (short (length s))) in
    omega (arith, length-append raw (zeros (missing (length raw))), length-replicate {A = ℕ} (missing (length raw)) 0)

pub length-elements : (count : ℕ) (raw : List ℕ) → length (elements_bytes count raw) ≡ whole (8 + length raw)
unfolding elements_bytes
length-elements count raw =
    let all = (le 4 0 ++ le 4 (short count)) ++ raw in
    let long : length all ≡ 8 + length raw =
    omega (arith, length-append (le 4 0 ++ le 4 (short count)) raw, length-append (le 4 0) (le 4 (short count)), length-le 4 0, length-le 4 (short count)) in
    omega (arith, length-append all (zeros (missing (length all))), length-replicate {A = ℕ} (missing (length all)) 0)

-- a vector of elements, once its header and its elements are padded
pub elements-done : (bytes out : List ℕ) (count : ℕ) (raw : List ℕ) → out ≡ padded bytes → bytes ≡ elements_header count ++ raw → out ≡ elements_bytes count raw
unfolding elements_bytes
elements-done bytes out count raw done is = done ∙ ap (λ (r : List ℕ). padded r) is
