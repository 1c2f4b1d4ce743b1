-- The bytes before and after an offset, after reads and writes.
use Rattle.std.proofs.Common.{◌≡◌, ℕ, ◌+◌, ◌-◌, ◌≤◌, List, [], ◌∷◌, ◌++◌, length, take, drop, min, replicate, zero, suc, refl, sym, ap, append-nil, length-drop, length-take, length-append, take-append-drop, arith}
use Rattle.std.proofs.lemmas.List.{nil_from_length, drop_all, take_at, drop-drop, length-take-le, length-replicate, take_all, take-replicate, drop-replicate}
use Rattle.ipc_devices.specs.Device.{before, ReadsFront}

-- What a read took from a memory.
taken_is : (bytes buf old : List ℕ) (place n : ℕ) → n ≡ min (length (drop place bytes)) (length old) → buf ≡ take n (drop place bytes) ++ drop n old → take n buf ≡ take n (drop place bytes)
taken_is bytes buf old place n count copied = rw copied (take_at (take n (drop place bytes)) (drop n old) n (length-take-le n (drop place bytes) (omega arith)))

pub reads_front : (bytes buf old : List ℕ) (place n : ℕ) → n ≡ min (length (drop place bytes)) (length old) → length buf ≡ length old → buf ≡ take n (drop place bytes) ++ drop n old
    → ReadsFront (record { whole = bytes; place = place }) (record { whole = bytes; place = place + n }) n buf
reads_front bytes buf old place n count len copied =
    let t = taken_is bytes buf old place n count copied in
    record {
      taken = λ h. rw (t, ← drop-drop n place bytes) (sym (take-append-drop n (drop place bytes)));
      whole = λ h. refl;
      place = λ h. refl;
      none = λ z h. nil_from_length (drop place bytes) (omega arith);
    }

take_append : (n : ℕ) (xs ys : List ℕ) → take n (xs ++ ys) ≡ take n xs ++ take (n - length xs) ys
take_append zero [] ys = refl
take_append zero (x ∷ xs) ys = let e : 0 - length (x ∷ xs) ≡ 0 = omega arith in rw e refl
take_append (suc n) [] ys = let e : suc n - length {A = ℕ} [] ≡ suc n = omega arith in rw e refl
take_append (suc n) (x ∷ xs) ys = let e : suc n - length (x ∷ xs) ≡ n - length xs = omega arith in rw e (ap (λ l. x ∷ l) (take_append n xs ys))

drop_append : (n : ℕ) (xs ys : List ℕ) → drop n (xs ++ ys) ≡ drop n xs ++ drop (n - length xs) ys
drop_append zero [] ys = refl
drop_append zero (x ∷ xs) ys = let e : 0 - length (x ∷ xs) ≡ 0 = omega arith in rw e refl
drop_append (suc n) [] ys = let e : suc n - length {A = ℕ} [] ≡ suc n = omega arith in rw e refl
drop_append (suc n) (x ∷ xs) ys = let e : suc n - length (x ∷ xs) ≡ n - length xs = omega arith in rw e (drop_append n xs ys)

-- what `put` leaves, seen through the slice that it wrote
pub put_is : (old filled new buf : List ℕ) (len place : ℕ) → filled ≡ old ++ replicate (place + length buf - length old) 0 → len ≡ length filled
    → new ≡ take place filled ++ buf ++ drop (place + length buf) filled
    → take len (new ++ drop (length new) filled) ≡ before (record { whole = old; place = place }) ++ buf ++ drop (place + length buf) old
put_is old filled new buf len place fill size over =
    let fits : place + length buf ≤ length filled = rw fill (simp (length-append, length-replicate) (omega arith)) in
    let wrote : length new ≡ length filled = rw over (simp (length-append, length-take, length-drop) (omega arith)) in
    let front : take place filled ≡ before (record { whole = old; place = place }) =
    rw (fill, take_append) (ap (λ l. take place old ++ l) (take-replicate (place - length old) (place + length buf - length old) 0 (omega arith))) in
    let back : drop (place + length buf) filled ≡ drop (place + length buf) old =
    rw (fill, drop_append, drop-replicate) (let z : place + length buf - length old - (place + length buf - length old) ≡ 0 = omega arith in rw z (append-nil _)) in
    rw (wrote, drop_all (length filled) filled (omega arith), append-nil, take_all len new (omega arith), over, front, back) refl
