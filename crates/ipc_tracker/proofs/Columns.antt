-- Columns and their ids, from an index on.
use Rattle.std.proofs.Common.{◌≡◌, ℕ, zero, suc, ℤ, Bool, ◌+◌, ◌<◌, ◌≤◌, List, [], ◌∷◌, ◌++◌, length, get_or, drop, map, Option, refl, sym, ap, ap₂, ◌∙◌, subst, arith, Result, Ok, Err, OnOk, IfErr}
use Rattle.lower_arrays.specs.AnyLayouts.{layout_of}
use Rattle.lower_arrays.specs.Layouts.{layouts}
use Rattle.lower_arrays.specs.declared.array.AnyArray.{AnyArray}
use Rattle.ipc_base.specs.IdTrees.{IdTrees, all_ids_view}
use Rattle.ipc_base.specs.declared.ipc.IpcField.{IpcField}
use Rattle.ipc_devices.specs.declared.fault.Fault.{Fault}
use Rattle.ipc_model.specs.Offers.{own_id, inner_ids}
use Rattle.ipc_model.specs.TypeKinds.{first_ids, other_ids}
use Rattle.ipc_tracker.specs.Listings.{Seen, Listed, Refuses}
use Rattle.ipc_tracker.specs.Places.{HaveNoKeys, Keyed, own_keyed, keyed_below, keyed_of}
use Rattle.ipc_tracker.specs.Trackers.{Remembered}
use Rattle.ipc_tracker.proofs.KeyedLists.{listed_none, listed_then, refuses_front, refuses_behind}

drop_more : {A : Type 0} (xs : List A) (i : ℕ) (y : A) → i < length xs → y ≡ get_or xs i y → drop i xs ≡ y ∷ drop (suc i) xs
drop_more [] i y h e = absurd (omega (arith, h))
drop_more (x ∷ xs) zero y h e = ap (λ z. z ∷ xs) (sym e)
drop_more (x ∷ xs) (suc i) y h e = drop_more xs i y (omega (arith, h)) e

drop_none : {A : Type 0} (xs : List A) (i : ℕ) → length xs ≤ i → drop i xs ≡ []
drop_none [] zero h = refl
drop_none [] (suc i) h = refl
drop_none (x ∷ xs) zero h = absurd (omega (arith, h))
drop_none (x ∷ xs) (suc i) h = drop_none xs i (omega (arith, h))

others_are : (fs : List IpcField) (i : ℕ) → other_ids (all_ids_view (drop i fs)) ≡ all_ids_view (drop (suc i) fs)
others_are [] zero = refl
others_are [] (suc i) = refl
others_are (f ∷ fs) zero = refl
others_are (f ∷ fs) (suc i) = others_are fs i

-- The dictionaries in the columns from an index on, and in one column.
abbrev pub keyed_from : List AnyArray → List IpcField → ℕ → List Keyed
keyed_from xs fs i = keyed_of (layouts (map layout_of (drop i xs))) (all_ids_view (drop i fs))

abbrev pub keyed_in : AnyArray → Option ℤ → IdTrees → List Keyed
keyed_in y id is = keyed_below (layout_of y) is ++ own_keyed (layout_of y) id

-- The column at an index, and those after it.
pub record IsColumn (xs : List AnyArray) (fs : List IpcField) (i : ℕ) (y : AnyArray) (id : Option ℤ) (is : IdTrees) : Type 0 where
  pub within : i < length xs
  pub array : y ≡ get_or xs i y
  pub own : id ≡ own_id (first_ids (all_ids_view (drop i fs)))
  pub inner : is ≡ inner_ids (first_ids (all_ids_view (drop i fs)))

keyed_are : (xs : List AnyArray) (fs : List IpcField) (i : ℕ) (y : AnyArray) (id : Option ℤ) (is : IdTrees) → IsColumn xs fs i y id is → keyed_in y id is ++ keyed_from xs fs (i + 1) ≡ keyed_from xs fs i
keyed_are xs fs i y id is c =
    let next : i + 1 ≡ suc i = omega arith in
    let js = all_ids_view (drop i fs) in
    ap (λ n. keyed_in y id is ++ keyed_from xs fs n) next
    ∙ ap (λ ks. keyed_in y id is ++ keyed_of (layouts (map layout_of (drop (suc i) xs))) ks) (sym (others_are fs i))
    ∙ ap₂ (λ (k : Option ℤ) (ks : IdTrees). keyed_in y k ks ++ keyed_of (layouts (map layout_of (drop (suc i) xs))) (other_ids js)) c.own c.inner
    ∙ ap (λ (ys : List AnyArray). keyed_of (layouts (map layout_of ys)) js) (sym (drop_more xs i y c.within c.array))

pub all_more : (m : Remembered) (fixed : Bool) (a b z : Seen) (xs : List AnyArray) (fs : List IpcField) (i : ℕ) (y : AnyArray) (id : Option ℤ) (is : IdTrees) → IsColumn xs fs i y id is
    → Listed m fixed a b (keyed_in y id is) → Listed m fixed b z (keyed_from xs fs (i + 1)) → Listed m fixed a z (keyed_from xs fs i)
all_more m fixed a b z xs fs i y id is c here rest =
    subst (λ (ks : List Keyed). Listed m fixed a z ks) (keyed_are xs fs i y id is c) (listed_then m fixed a b z (keyed_in y id is) (keyed_from xs fs (i + 1)) here rest)

-- After the last column.
pub all_done : (m : Remembered) (fixed : Bool) (a : Seen) (xs : List AnyArray) (fs : List IpcField) (i : ℕ) → length xs ≤ i → Listed m fixed a a (keyed_from xs fs i)
all_done m fixed a xs fs i h =
    subst (λ (ys : List AnyArray). Listed m fixed a a (keyed_of (layouts (map layout_of ys)) (all_ids_view (drop i fs)))) (sym (drop_none xs i h)) (listed_none m fixed a)

pub refuses_here : (m : Remembered) (fixed : Bool) (a : Seen) (xs : List AnyArray) (fs : List IpcField) (i : ℕ) (y : AnyArray) (id : Option ℤ) (is : IdTrees) (e : Fault) → IsColumn xs fs i y id is
    → Refuses m fixed a (keyed_in y id is) e → Refuses m fixed a (keyed_from xs fs i) e
refuses_here m fixed a xs fs i y id is e c r =
    subst (λ (ks : List Keyed). Refuses m fixed a ks e) (keyed_are xs fs i y id is c) (refuses_front m fixed a (keyed_in y id is) (keyed_from xs fs (i + 1)) e r)

pub refuses_later : (m : Remembered) (fixed : Bool) (a b : Seen) (xs : List AnyArray) (fs : List IpcField) (i : ℕ) (y : AnyArray) (id : Option ℤ) (is : IdTrees) (e : Fault) → IsColumn xs fs i y id is
    → Listed m fixed a b (keyed_in y id is) → Refuses m fixed b (keyed_from xs fs (i + 1)) e → Refuses m fixed a (keyed_from xs fs i) e
refuses_later m fixed a b xs fs i y id is e c here r =
    subst (λ (ks : List Keyed). Refuses m fixed a ks e) (keyed_are xs fs i y id is c) (refuses_behind m fixed a b (keyed_in y id is) (keyed_from xs fs (i + 1)) e here r)

-- ---- one column: what is below it, and then the column itself

on_ok : {A E P Q : Type 0} (r : Result A E) → (P → Q) → OnOk r P → OnOk r Q
on_ok (Ok x) f p = f p
on_ok (Err e) f p = tt

if_err : {A E : Type 0} {P Q : E → Type 0} (r : Result A E) → ((e : E) → P e → Q e) → IfErr r P → IfErr r Q
if_err (Ok x) f p = tt
if_err (Err e) f p = f e p

pub field_listed : {A : Type 0} (m : Remembered) (fixed : Bool) (a b z : Seen) (ks js ls : List Keyed) (r : Result A Fault) → ks ≡ js → Listed m fixed a b ks → OnOk r (Listed m fixed b z ls) → OnOk r (Listed m fixed a z (js ++ ls))
field_listed m fixed a b z ks js ls r e x y = on_ok r (λ h. listed_then m fixed a b z js ls (subst (λ (is : List Keyed). Listed m fixed a b is) e x) h) y

pub below_refused : (m : Remembered) (fixed : Bool) (a : Seen) (ks js ls : List Keyed) (e : Fault) → ks ≡ js → Refuses m fixed a ks e → Refuses m fixed a (js ++ ls) e
below_refused m fixed a ks js ls e same h = refuses_front m fixed a js ls e (subst (λ (is : List Keyed). Refuses m fixed a is e) same h)

pub field_refused : {A : Type 0} (m : Remembered) (fixed : Bool) (a b : Seen) (ks js ls : List Keyed) (r : Result A Fault) → ks ≡ js → Listed m fixed a b ks → IfErr r (Refuses m fixed b ls) → IfErr r (Refuses m fixed a (js ++ ls))
field_refused m fixed a b ks js ls r e x y = if_err r (λ f h. refuses_behind m fixed a b js ls f (subst (λ (is : List Keyed). Listed m fixed a b is) e x) h) y

-- ---- columns without keys

pub no_keys_more : (xs : List AnyArray) (i : ℕ) (y : AnyArray) → i < length xs → y ≡ get_or xs i y → ((is : IdTrees) → keyed_below (layout_of y) is ≡ []) → ((id : Option ℤ) → own_keyed (layout_of y) id ≡ [])
    → HaveNoKeys (drop (i + 1) xs) → HaveNoKeys (drop i xs)
no_keys_more xs i y h e below own rest = λ is.
    let next : i + 1 ≡ suc i = omega arith in
    let js = other_ids is in
    let behind : keyed_of (layouts (map layout_of (drop (suc i) xs))) js ≡ [] = subst (λ (n : ℕ). keyed_of (layouts (map layout_of (drop n xs))) js ≡ []) next (rest js) in
    ap (λ (ys : List AnyArray). keyed_of (layouts (map layout_of ys)) is) (drop_more xs i y h e)
    ∙ ap₂ (λ (p q : List Keyed). p ++ q) (ap₂ (λ (p q : List Keyed). p ++ q) (below (inner_ids (first_ids is))) (own (own_id (first_ids is)))) behind

pub no_keys_done : (xs : List AnyArray) (i : ℕ) → length xs ≤ i → HaveNoKeys (drop i xs)
no_keys_done xs i h = λ is. ap (λ (ys : List AnyArray). keyed_of (layouts (map layout_of ys)) is) (drop_none xs i h)

pub no_keys_listed : (m : Remembered) (fixed : Bool) (a : Seen) (xs : List AnyArray) (is : IdTrees) → HaveNoKeys xs → Listed m fixed a a (keyed_of (layouts (map layout_of xs)) is)
no_keys_listed m fixed a xs is none = subst (λ (ks : List Keyed). Listed m fixed a a ks) (sym (none is)) (listed_none m fixed a)
