-- Parts that are written one after another.
use Rattle.std.proofs.Common.{arith, ◌≡◌, ℕ, ◌+◌, ◌-◌, ◌≤◌, List, [], ◌++◌, length, take, drop, sym, ap, ap₂, ◌∙◌, length-append}
use Rattle.std.proofs.lemmas.List.{append-nil, append_assoc, take_at, drop_at, drop_all, take_all, drop-drop, length-drop}
use borrow.Rule.Slice.PartMut.{put_mid}

-- The part after `a` bytes, in what the first part left.
pub second_write : (a n : ℕ) (to first second buf ys : List ℕ) → a + n ≤ length to → length first ≡ a → buf ≡ first ++ drop a to
    → ys ≡ second ++ drop n (take (length buf - a) (drop a buf))
    → put_mid a (length buf - a) buf ys ≡ (first ++ second) ++ drop (a + n) to
second_write a n to first second buf ys room len is written =
    let left : length (drop a to) ≡ length to - a = length-drop a to in
    let size : length buf ≡ a + length (drop a to) = ap length is ∙ length-append first (drop a to) ∙ ap (λ m. m + length (drop a to)) len in
    let front : take a buf ≡ first = ap (take a) is ∙ take_at first (drop a to) a len in
    let back : drop a buf ≡ drop a to = ap (drop a) is ∙ drop_at first (drop a to) a len in
    let some : length (drop a to) ≤ length buf - a = omega (arith, size) in
    let whole : take (length buf - a) (drop a buf) ≡ drop a to = ap (take (length buf - a)) back ∙ take_all (length buf - a) (drop a to) some in
    let rest : drop n (take (length buf - a) (drop a buf)) ≡ drop (a + n) to = ap (drop n) whole ∙ drop-drop n a to in
    let none : drop (length buf - a) (drop a buf) ≡ [] = ap (drop (length buf - a)) back ∙ drop_all (length buf - a) (drop a to) some in
    ap₂ (λ xs zs. xs ++ (ys ++ zs)) front none
    ∙ ap (λ zs. first ++ zs) (append-nil ys ∙ written ∙ ap (λ zs. second ++ zs) rest)
    ∙ sym (append_assoc first second (drop (a + n) to))
