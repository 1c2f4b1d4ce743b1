-- The first of the values of slots, by an order.
use Rattle.std.specs.Prelude.{◌≡◌, ℕ, ◌<◌, List, false, Option, Some, None, get_or, length, if◌then◌else◌}
use Rattle.std.specs.declared.cmp.Ordering.{Ordering}
use Rattle.std.specs.Ordering.{is_lt}

-- An order, turned round.
abbrev pub turned : {A : Type 0} → (A → A → Ordering) → A → A → Ordering
turned cmp x y = cmp y x

-- No slot has a value.
abbrev pub AreAllNull : {A : Type 0} → List (Option A) → Type 0
AreAllNull slots = (i : ℕ) → i < length slots → get_or slots i None ≡ None

-- x is the value of a slot, and no slot has a value before it.
pub record IsFirst {A : Type 0} (cmp : A → A → Ordering) (slots : List (Option A)) (x : A) : Type 0 where
  pub index : ℕ
  pub inside : index < length slots
  pub there : get_or slots index None ≡ Some x
  pub first : (i : ℕ) (y : A) → i < length slots → get_or slots i None ≡ Some y → is_lt (cmp y x) ≡ false

-- The first of two values that may be absent.
abbrev pub first_of : {A : Type 0} → (A → A → Ordering) → Option A → Option A → Option A
first_of cmp best None = best
first_of cmp None (Some x) = Some x
first_of cmp (Some b) (Some x) = if is_lt (cmp x b) then Some x else Some b
