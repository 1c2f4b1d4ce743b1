-- Texts by a form that gives what a type gives, and children by their places.
use Rattle.std.proofs.Common.{arith, ◌≡◌, refl, sym, ap, ℕ, zero, suc, ◌<◌, ◌≤◌, ℤ, true, List, [], ◌∷◌, length, get_or, Some}
use Rattle.lower_types.specs.NumberTypes.{Number, whole, wide, day_time, month_day_nano}
use Rattle.lower.specs.TypeTrees.{TypeTree}
use Rattle.lower.specs.TypeViews.{field_view, fields_view}
use Rattle.lower.specs.declared.datatypes.Field.{Field}
use Rattle.lower_validation.specs.Fields.{field_type}
use Rattle.lower_arrays.specs.Slots.{Slot}
use Rattle.lower_arrays.specs.Values.{ValueFits}
use Rattle.lower_arrays.specs.Sameness.{value_fits, fits-decides}
use Rattle.lower_arrays.specs.declared.value.Value.{Value}
use Rattle.lower_display.specs.Numbers.{number_text}
use Rattle.lower_display.specs.Texts.{slot_text, field_type_at}

pub number_same : (f g : ℤ → List ℕ) (m n : ℕ) (x : Number) → ((z : ℤ) → f z ≡ g z) → m ≡ n → number_text f m x ≡ number_text g n x
number_same f g m n (whole z) same scale = same z
number_same f g m n (wide high low) same scale = ap (λ (k : ℕ). number_text g k (wide high low)) scale
number_same f g m n (day_time d t) same scale = refl
number_same f g m n (month_day_nano x d t) same scale = refl

-- what a value of a column displays
pub shown_is : (t : TypeTree) (null : List ℕ) (r s : Slot) → r ≡ s → Some (slot_text t null r) ≡ Some (slot_text t null s)
shown_is t null r s slot = ap (λ (x : Slot). Some (slot_text t null x)) slot

pub fits_true : (v : Value) → ValueFits v → value_fits v ≡ true
fits_true v h = (fits-decides v).1 h

pub true_fits : (v : Value) → value_fits v ≡ true → ValueFits v
true_fits v h = (fits-decides v).0 h

pub ruleset shown = (shown_is, fits_true, true_fits)

-- ---- fields by their places
pub field_at : (fs : List Field) (i : ℕ) (f : Field) (t : TypeTree) → i < length fs → f ≡ get_or fs i f → field_type_at (fields_view fs) i t ≡ field_type (field_view f)
field_at [] i f t below e = absurd (omega (arith, below))
field_at (x ∷ fs) zero f t below e = ap (λ (g : Field). field_type (field_view g)) (sym e)
field_at (x ∷ fs) (suc i) f t below e = field_at fs i f t (omega (arith, below)) e

pub field_past : (fs : List Field) (i : ℕ) (t : TypeTree) → length fs ≤ i → field_type_at (fields_view fs) i t ≡ t
field_past [] i t past = refl
field_past (x ∷ fs) zero t past = absurd (omega (arith, past))
field_past (x ∷ fs) (suc i) t past = field_past fs i t (omega (arith, past))
