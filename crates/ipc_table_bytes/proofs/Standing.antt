-- What is read at the offset of some bytes.
use Rattle.std.proofs.Common.{◌≡◌, ℕ, zero, suc, ◌+◌, ◌-◌, ◌^◌, ◌<◌, ◌≤◌, List, ◌∷◌, ◌++◌, length, take, drop, Ok, sym, ap, subst, ◌∙◌, arith, append_assoc, length-append}
use Rattle.std.proofs.lemmas.List.{drop_at, take-append-le}
use Rattle.std.proofs.Math.Seq.{take-length}
use Rattle.std.proofs.lemmas.Bool.Decides.{nat_tests}
use Rattle.std.specs.Int.{byte_at, bytes_low_first}
use Rattle.byteorder.specs.Endian.{little_from, little_number}
use Rattle.byteorder.specs.Numbers.{little_from-take, little_number-reads_back}
use Rattle.ipc_table_bytes.specs.Parts.{Stands}
use Rattle.ipc_table_bytes.specs.Pads.{le}
use Rattle.ipc_table_bytes.proofs.Lengths.{length-le}
use Rattle.ipc_table_views.specs.Tables.{bytes_at, number_at, map_ok}

pub stands-first : (m : List ℕ) (p : ℕ) (xs ys : List ℕ) → Stands m p (xs ++ ys) → Stands m p xs
stands-first m p xs ys s = record {
  front = s.front;
  back = ys ++ s.back;
  here = s.here;
  parts = s.parts ∙ ap (λ (r : List ℕ). s.front ++ r) (append_assoc xs ys s.back);
}

pub stands-second : (m : List ℕ) (p : ℕ) (xs ys : List ℕ) → Stands m p (xs ++ ys) → Stands m (p + length xs) ys
stands-second m p xs ys s = record {
  front = s.front ++ xs;
  back = s.back;
  parts = s.parts ∙ ap (λ (r : List ℕ). s.front ++ r) (append_assoc xs ys s.back) ∙ sym (append_assoc s.front xs (ys ++ s.back));
  here = length-append s.front xs ∙ ap (λ (n : ℕ). n + length xs) s.here;
}

-- The bytes after the first k, at an offset given otherwise.
pub stands-then : (m : List ℕ) (p q : ℕ) (xs ys : List ℕ) → p + length xs ≡ q → Stands m p (xs ++ ys) → Stands m q ys
stands-then m p q xs ys e s = subst (λ (r : ℕ). Stands m r ys) e (stands-second m p xs ys s)

pub stands-at : (m : List ℕ) (p q : ℕ) (xs : List ℕ) → p ≡ q → Stands m p xs → Stands m q xs
stands-at m p q xs e s = subst (λ (r : ℕ). Stands m r xs) e s

pub stands-inside : (m : List ℕ) (p : ℕ) (xs : List ℕ) → Stands m p xs → p + length xs ≤ length m
stands-inside m p xs s =
    omega (arith, ap length s.parts, length-append s.front (xs ++ s.back), length-append xs s.back, s.here)

drop-stands : (m : List ℕ) (p : ℕ) (xs : List ℕ) (s : Stands m p xs) → drop p m ≡ xs ++ s.back
drop-stands m p xs s = ap (λ (r : List ℕ). drop p r) s.parts ∙ drop_at s.front (xs ++ s.back) p s.here

pub take-stands : (m : List ℕ) (p n : ℕ) (xs : List ℕ) → n ≤ length xs → Stands m p xs → take n (drop p m) ≡ take n xs
take-stands m p n xs h s = ap (λ (r : List ℕ). take n r) (drop-stands m p xs s) ∙ take-append-le n xs s.back h

bytes_at-is : (n p : ℕ) (m ys : List ℕ) → p + n ≤ length m → take n (drop p m) ≡ ys → bytes_at n m p ≡ Ok ys
bytes_at-is n p m ys h e = grind (arith, nat_tests)

pub bytes_at-stands : (m : List ℕ) (p : ℕ) (xs : List ℕ) → Stands m p xs → bytes_at (length xs) m p ≡ Ok xs
bytes_at-stands m p xs s =
    bytes_at-is _ p m xs (stands-inside m p xs s) (take-stands m p (length xs) xs (omega arith) s ∙ take-length xs)

bytes_low_first-split : (i a b x : ℕ) → bytes_low_first i (a + b) x ≡ bytes_low_first i a x ++ bytes_low_first (i + a) b x
bytes_low_first-split i zero b x =
    let e : 0 + b ≡ b = omega arith in
    let f : i ≡ i + 0 = omega arith in
    ap (λ (n : ℕ). bytes_low_first i n x) e ∙ ap (λ (n : ℕ). bytes_low_first n b x) f
bytes_low_first-split i (suc a) b x =
    let e : suc a + b ≡ suc (a + b) = omega arith in
    let f : suc i + a ≡ i + suc a = omega arith in
    ap (λ (n : ℕ). bytes_low_first i n x) e
    ∙ ap (λ (r : List ℕ). byte_at i x ∷ r) (bytes_low_first-split (suc i) a b x ∙ ap (λ (n : ℕ). bytes_low_first (suc i) a x ++ bytes_low_first n b x) f)

pub le-number : (w k x : ℕ) → w ≤ k → x < 256 ^ w → little_number w (take w (le k x)) ≡ x
unfolding le
le-number w k x h small =
    let e : k ≡ w + (k - w) = omega arith in
    little_from-take 0 w w (bytes_low_first 0 k x) (omega arith)
    ∙ ap (λ (n : ℕ). little_from 0 w (bytes_low_first 0 n x)) e
    ∙ ap (λ (r : List ℕ). little_from 0 w r) (bytes_low_first-split 0 w (k - w) x)
    ∙ little_number-reads_back w x (bytes_low_first (0 + w) (k - w) x) small

pub number_at-stands : (m : List ℕ) (p w k x : ℕ) → w ≤ k → x < 256 ^ w → Stands m p (le k x) → number_at w m p ≡ Ok x
unfolding number_at
number_at-stands m p w k x h small s =
    ap (map_ok (little_number w)) (bytes_at-is w p m (take w (le k x)) (let i = stands-inside m p (le k x) s in omega (arith, length-le k x)) (take-stands m p w (le k x) (omega (arith, length-le k x)) s))
    ∙ ap (λ (n : ℕ). Ok n) (le-number w k x h small)
