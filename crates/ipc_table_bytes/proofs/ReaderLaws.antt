-- From the parts of a message to what its readers give.
use Rattle.std.proofs.Common.{◌≡◌, ℕ, zero, suc, ◌+◌, ◌*◌, ◌<◌, ◌≤◌, List, [], ◌∷◌, ◌++◌, length, map, take, drop, Option, None, Some, Result, Ok, refl, sym, ap, subst, ◌∙◌, arith}
use Rattle.std.specs.Prelude.{slice_get}
use Rattle.std.specs.List.{flat_map}
use Rattle.std.proofs.lemmas.Bool.Decides.{nat_tests}
use Rattle.std.proofs.lemmas.List.{take-append-drop, length-take}
use Rattle.ipc_devices.specs.declared.fault.TableFault.{TableFault}
use Rattle.ipc_table_views.specs.Spot.{Spot, Vector}
use Rattle.ipc_table_views.specs.Structs.{structs_at, structs_from, structs_slot}
use Rattle.ipc_table_views.specs.Tables.{and_then, bytes_at, map_ok, number_at, number_slot, of_slot, or_default, slot_at, spot_at, table_in, table_slot, target_at, text_at, text_slot, union_slot, vector_at, vector_slot}
use Rattle.ipc_table_bytes.specs.Holds.{HoldsPart, HoldsParts, HoldsSlots, count_parts, spot, vector}
use Rattle.ipc_table_bytes.specs.Parts.{Stands}
use Rattle.ipc_table_bytes.specs.Readers.{HoldsOptional, HoldsTables, optional, parts_of}
use Rattle.ipc_table_bytes.specs.Tree.{Part, Slots, elements, table, tables, text}
use Rattle.ipc_table_bytes.proofs.Standing.{stands-first, stands-then}

-- The number in a field.
pub number-read : (w d : ℕ) (m : List ℕ) (p i q x : ℕ) → slot_at m p i ≡ Ok (Some q) → number_at w m q ≡ Ok x → number_slot w d m p i ≡ Ok x
number-read w d m p i q x e f = ap (λ s. or_default d (of_slot s (number_at w m))) e ∙ ap (λ r. or_default d (map_ok Some r)) f

-- What a field leads to, for any reader of it.
pub offset-read : {T : Type 0} (m : List ℕ) (p i q t : ℕ) (read : ℕ → Result T TableFault) (x : T) → slot_at m p i ≡ Ok (Some q) → target_at m q ≡ Ok t → read t ≡ Ok x
    → of_slot (slot_at m p i) (λ k. and_then (target_at m k) read) ≡ Ok (Some x)
offset-read m p i q t read x e f g =
    ap (λ s. of_slot s (λ k. and_then (target_at m k) read)) e ∙ ap (λ r. map_ok Some (and_then r read)) f ∙ ap (map_ok Some) g

pub absent-read : {T : Type 0} (m : List ℕ) (p i : ℕ) (read : ℕ → Result T TableFault) → slot_at m p i ≡ Ok None → of_slot (slot_at m p i) read ≡ Ok None
absent-read m p i read e = ap (λ s. of_slot s read) e

-- a table opens
pub spot-read : (m : List ℕ) (t : ℕ) (slots : Slots) → HoldsPart m t (table slots) → spot_at m t ≡ Ok (spot m t)
unfolding spot_at
spot-read m t slots (v, size, e, f, h) = ap (map_ok (λ _. spot m t)) e

-- A table that a field leads to.
pub table-read : (m : List ℕ) (p i q t : ℕ) (slots : Slots) → slot_at m p i ≡ Ok (Some q) → target_at m q ≡ Ok t → HoldsPart m t (table slots) → table_slot m p i ≡ Ok (Some (spot m t))
table-read m p i q t slots e f h = offset-read m p i q t (spot_at m) (spot m t) e f (spot-read m t slots h)

-- A text that a field leads to.
pub text-read : (m : List ℕ) (p i q t : ℕ) (bytes : List ℕ) → slot_at m p i ≡ Ok (Some q) → target_at m q ≡ Ok t → HoldsPart m t (text bytes) → text_slot m p i ≡ Ok (Some bytes)
text-read m p i q t bytes e f h = offset-read m p i q t (text_at m) bytes e f h.0

-- a union, by its tag and its table
pub union-read : (last : ℕ) (m : List ℕ) (p i tag : ℕ) (t : Spot) → number_slot 1 0 m p i ≡ Ok tag → 0 < tag → tag ≤ last → table_slot m p (i + 1) ≡ Ok (Some t) → union_slot last m p i ≡ Ok (Some (tag, t))
union-read last m p i tag t e h k f = grind (arith, nat_tests)

-- A field that may be absent, and those after it.
pub optional-read : (m : List ℕ) (p size i : ℕ) (x : Option Part) (rest : Slots) → HoldsSlots m p size i (optional x rest) → HoldsOptional m p i x × HoldsSlots m p size (i + 1) rest
optional-read m p size i None rest (e, h) = (e, h)
optional-read m p size i (Some x) rest ((q, t, e, f, g, k), h) = ((q, t, e, f, k), h)

pub count-map : {V : Type 0} (f : V → Part) (vs : List V) → count_parts (parts_of (map f vs)) ≡ length vs
count-map f [] = refl
count-map f (v ∷ vs) = omega (arith, count-map f vs)

-- the part that the offset at an index leads to
part-in : {V : Type 0} (f : V → Part) (m : List ℕ) (q : ℕ) (vs : List V) → HoldsParts m q (parts_of (map f vs)) → (k : ℕ) (x : V) → slice_get vs k ≡ Some x
    → (t : ℕ) × (target_at m (q + 4 * k) ≡ Ok t) × HoldsPart m t (f x)
part-in f m q [] h k x e = absurd (cc)
part-in f m q (v ∷ vs) h zero x e =
    let same : v ≡ x = cc in
    let here : q ≡ q + 4 * 0 = omega arith in
    (h.0.0, subst (λ (n : ℕ). target_at m n ≡ Ok h.0.0) here h.0.1, subst (λ y. HoldsPart m h.0.0 (f y)) same h.0.2)
part-in f m q (v ∷ vs) h (suc k) x e =
    let r = part-in f m (q + 4) vs h.1 k x e in
    let here : q + 4 + 4 * k ≡ q + 4 * suc k = omega arith in
    (r.0, subst (λ (n : ℕ). target_at m n ≡ Ok r.0) here r.1, r.2)

table-in : (m : List ℕ) (p count k t : ℕ) → target_at m (p + 4 * k) ≡ Ok t → spot_at m t ≡ Ok (spot m t) → table_in (vector m p count) k ≡ Ok (spot m t)
unfolding table_in
table-in m p count k t e f = ap (λ r. and_then r (spot_at m)) e ∙ f

-- A vector of tables that a field leads to.
pub tables-read : {V : Type 0} (f : V → Part) (is_table : (v : V) → (slots : Slots) × (f v ≡ table slots)) (m : List ℕ) (p i q t : ℕ) (vs : List V)
    → slot_at m p i ≡ Ok (Some q) → target_at m q ≡ Ok t → HoldsPart m t (tables (parts_of (map f vs)))
    → (v : Vector) × (vector_slot 4 m p i ≡ Ok (Some v)) × (v.message ≡ m) × HoldsTables v f vs
tables-read f is_table m p i q t vs e g h = (
  vector m (t + 4) (count_parts (parts_of (map f vs))),
  offset-read m p i q t (vector_at 4 m) _ e g h.0,
  refl,
  record {
    count = count-map f vs;
    each = λ k x here.
        let r = part-in f m (t + 4) vs h.1 k x here in
        let one = is_table x in
        (r.0, table-in m (t + 4) _ k r.0 r.1 (spot-read m r.0 one.0 (subst (HoldsPart m r.0) one.1 r.2)), r.2);
  },
)

-- Bytes that are read are there.
inside : (n p : ℕ) (m xs : List ℕ) → bytes_at n m p ≡ Ok xs → p + n ≤ length m
inside n p m xs e = grind (arith, nat_tests)

taken : (n p : ℕ) (m xs : List ℕ) → bytes_at n m p ≡ Ok xs → take n (drop p m) ≡ xs
taken n p m xs e = grind (arith, nat_tests)

pub stands-read : (n p : ℕ) (m xs : List ℕ) → bytes_at n m p ≡ Ok xs → Stands m p xs
stands-read n p m xs e = record {
  front = take p m;
  back = drop n (drop p m);
  here = let i = inside n p m xs e in omega (arith, length-take p m);
  parts = sym (take-append-drop p m) ∙ ap (λ (r : List ℕ). take p m ++ r) (sym (take-append-drop n (drop p m)) ∙ ap (λ (r : List ℕ). r ++ drop n (drop p m)) (taken n p m xs e));
}

-- The bytes of structs are read as the numbers that they encode.
structs-back : {S : Type 0} (read : List ℕ → ℕ → S) (size : ℕ) (bytes_of : S → List ℕ) (kept : S → S) → ((s : S) → length (bytes_of s) ≡ size)
    → ((m : List ℕ) (p : ℕ) (s : S) → Stands m p (bytes_of s) → read m p ≡ kept s)
    → (m : List ℕ) (p : ℕ) (ss : List S) → Stands m p (flat_map bytes_of ss) → structs_from (read m) size (length ss) p ≡ map kept ss
structs-back read size bytes_of kept long one m p [] st = refl
structs-back read size bytes_of kept long one m p (s ∷ ss) st =
    let first = one m p s (stands-first m p (bytes_of s) (flat_map bytes_of ss) st) in
    let rest = structs-back read size bytes_of kept long one m (p + size) ss (stands-then m p (p + size) (bytes_of s) (flat_map bytes_of ss) (ap (λ (n : ℕ). p + n) (long s)) st) in
    ap (λ y. y ∷ structs_from (read m) size (length ss) (p + size)) first ∙ ap (λ r. kept s ∷ r) rest

structs-is : {S : Type 0} (read : List ℕ → ℕ → S) (size : ℕ) (m : List ℕ) (t count : ℕ) (ss : List S) → vector_at size m t ≡ Ok (vector m (t + 4) count) → structs_from (read m) size count (t + 4) ≡ ss
    → structs_at read size m t ≡ Ok ss
unfolding structs_at
structs-is read size m t count ss e f = ap (map_ok (λ v. structs_from (read m) size v.count v.place)) e ∙ ap (λ r. Ok r) f

-- A vector of structs that a field leads to.
pub structs-read : {S : Type 0} (read : List ℕ → ℕ → S) (align size : ℕ) (bytes_of : S → List ℕ) (kept : S → S) → ((s : S) → length (bytes_of s) ≡ size)
    → ((m : List ℕ) (p : ℕ) (s : S) → Stands m p (bytes_of s) → read m p ≡ kept s)
    → (m : List ℕ) (p i q t : ℕ) (ss : List S) → slot_at m p i ≡ Ok (Some q) → target_at m q ≡ Ok t → HoldsPart m t (elements align size (length ss) (flat_map bytes_of ss))
    → structs_slot read size m p i ≡ Ok (Some (map kept ss))
structs-read read align size bytes_of kept long one m p i q t ss e f h =
    offset-read m p i q t (structs_at read size m) (map kept ss) e f
    (structs-is read size m t (length ss) (map kept ss) h.0 (structs-back read size bytes_of kept long one m (t + 4) ss (stands-read _ (t + 4) m _ h.1)))
