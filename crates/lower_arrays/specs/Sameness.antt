-- Which slots of arrays, and which values, are equal.
use Rattle.std.specs.Prelude.{◌≡◌, ℕ, ◌+◌, ◌<◌, ◌≤◌, ◌&&◌, Bool, true, List, [], ◌∷◌, map, length, nat_le, nat_lt}
use Rattle.std.proofs.Common.{rules, IsTrue, ◌↔◌, refl, sym, ◌∙◌}
use Rattle.std.proofs.lemmas.Bool.{and_parts}
use Rattle.std.specs.Bool.{Decides, one_answer}
use Rattle.std.specs.Cmp.{IsPartialEquivalence}
use Rattle.lower_flat_arrays.specs.Columns.{same_slot}
use Rattle.lower_flat_arrays.specs.ColumnLaws.{slot_decides}
use Rattle.lower_arrays.specs.Layouts.{Layout, len_of, layouts}
use Rattle.lower_arrays.specs.Children.{AllReach}
use Rattle.lower_arrays.specs.Slots.{slot_at}
use Rattle.lower_arrays.specs.AnyLayouts.{layout_of}
use Rattle.lower_arrays.specs.Values.{span, NestedFits, value_slot, ValueFits}
use Rattle.lower_arrays.specs.declared.array.AnyArray.{AnyArray}
use Rattle.lower_arrays.specs.declared.value.Nesting.{Nesting}
use Rattle.lower_arrays.specs.declared.value.Nesting.TheVariants.{List as ListOf, Record, Variant}
use Rattle.lower_arrays.specs.declared.value.Value.{Value}
use Rattle.lower_arrays.specs.declared.value.Value.TheVariants.{Null, Truth, Number as NumberOf, Bytes, Text, Nested}

-- n slots of a from index i on are those of b from index j on.
abbrev pub SameRange : Layout → ℕ → Layout → ℕ → ℕ → Type 0
SameRange a i b j n = (k : ℕ) → k < n → slot_at a (i + k) ≡ slot_at b (j + k)

-- Two values are within their arrays, and are the same slot.
abbrev pub IsSameValue : Value → Value → Type 0
IsSameValue v w = ValueFits v × (ValueFits w × (value_slot v ≡ value_slot w))

-- ---- the same, as a test

-- Each child has at least n slots.
abbrev pub all_reach : ℕ → List AnyArray → Bool
all_reach n [] = true
all_reach n (c ∷ cs) = nat_le n (len_of (layout_of c)) && all_reach n cs

-- `NestedFits` as a test.
abbrev pub nested_fits : Nesting → List AnyArray → ℕ → Bool
nested_fits Record cs i = all_reach (i + 1) cs
nested_fits k cs i = nat_lt 0 (length cs) && all_reach (i + span k) cs

-- `ValueFits` as a test.
abbrev pub value_fits : Value → Bool
value_fits (Nested k cs i) = nested_fits k cs.now i
value_fits _ = true

-- `IsSameValue` as a test.
abbrev pub same_value : Value → Value → Bool
same_value v w = value_fits v && (value_fits w && same_slot (value_slot v) (value_slot w))

le-decides : (m n : ℕ) → Decides (nat_le m n) (m ≤ n)
le-decides m n = (λ h. search (rules, h), λ h. search (rules, h))

lt-decides : (m n : ℕ) → Decides (nat_lt m n) (m < n)
lt-decides m n = (λ h. search (rules, h), λ h. search (rules, h))

and-decides : {P Q : Type 0} (a b : Bool) → Decides a P → Decides b Q → Decides (a && b) (P × Q)
and-decides a b p q = (
  λ h. let (x, y) = and_parts a b h in (p.0 x, q.0 y),
  λ h. rw (p.1 h.0, q.1 h.1),
)

reach-decides : (n : ℕ) (cs : List AnyArray) → Decides (all_reach n cs) (AllReach n (layouts (map layout_of cs)))
reach-decides n [] = (λ h. tt, λ h. refl)
reach-decides n (c ∷ cs) =
    and-decides (nat_le n (len_of (layout_of c))) (all_reach n cs) (le-decides n (len_of (layout_of c))) (reach-decides n cs)

nested-decides : (k : Nesting) (cs : List AnyArray) (i : ℕ) → Decides (nested_fits k cs i) (NestedFits k cs i)
nested-decides Record cs i = reach-decides (i + 1) cs
nested-decides (ListOf n) cs i =
    and-decides (nat_lt 0 (length cs)) (all_reach (i + n) cs) (lt-decides 0 (length cs)) (reach-decides (i + n) cs)
nested-decides (Variant id) cs i =
    and-decides (nat_lt 0 (length cs)) (all_reach (i + 1) cs) (lt-decides 0 (length cs)) (reach-decides (i + 1) cs)

pub fits-decides : (v : Value) → Decides (value_fits v) (ValueFits v)
fits-decides Null = (λ h. tt, λ h. refl)
fits-decides (Truth b) = (λ h. tt, λ h. refl)
fits-decides (NumberOf n) = (λ h. tt, λ h. refl)
fits-decides (Bytes xs) = (λ h. tt, λ h. refl)
fits-decides (Text xs) = (λ h. tt, λ h. refl)
fits-decides (Nested k cs i) = nested-decides k cs.now i

-- The test says exactly whether two values are the same.
pub value_decides : (v w : Value) → Decides (same_value v w) (IsSameValue v w)
value_decides v w =
    and-decides (value_fits v) (value_fits w && same_slot (value_slot v) (value_slot w)) (fits-decides v)
    (and-decides (value_fits w) (same_slot (value_slot v) (value_slot w)) (fits-decides w) (slot_decides (value_slot v) (value_slot w)))

-- A result that is true exactly for the same values is the test's.
pub value_answer : (r : Bool) (v w : Value) → IsTrue r ↔ IsSameValue v w → r ≡ same_value v w
value_answer r v w h = one_answer r (same_value v w) (h.0, h.1) (value_decides v w)

pub values_per : IsPartialEquivalence same_value
values_per = record {
  symm = λ v w. one_answer (same_value v w) (same_value w v) (value_decides v w)
      ((λ h. let s = (value_decides w v).0 h in (s.1.0, (s.0, sym s.1.1))), λ s. (value_decides w v).1 (s.1.0, (s.0, sym s.1.1)));
  trans = λ u v w p q.
      let s = (value_decides u v).0 p in
      let t = (value_decides v w).0 q in
      (value_decides u w).1 (s.0, (t.1.0, s.1.1 ∙ t.1.1));
}
