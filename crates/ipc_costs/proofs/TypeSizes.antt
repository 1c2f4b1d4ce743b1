-- A type without children has no more text than its table costs.
use Rattle.std.proofs.Common.{◌≡◌, ℕ, ◌≤◌, Bool, true, false, cond, nat_eq, Option, Some, None, refl, ap, sym, ◌∙◌, subst, arith}
use Rattle.std.proofs.lemmas.Bool.{eqb-true}
use Rattle.std.specs.Option.{option_map}
use Rattle.std.specs.Ordering.{int_eq}
use Rattle.std.specs.Prelude.{ℤ, pos}
use Rattle.lower.specs.TypeTrees.{Plain, null, boolean, binary, utf8, large_binary, large_utf8, fixed_binary, interval, duration, timestamp, decimal, decimal256, time32, time64, Group, structure, choice}
use Rattle.lower.specs.declared.datatypes.IntegerType.{IntegerType}
use Rattle.lower.specs.declared.datatypes.IntegerType.TheVariants.{Int8, Int16, Int32, Int64, UInt8, UInt16, UInt32, UInt64}
use Rattle.lower.specs.declared.datatypes.TimeUnit.TheVariants as units
use Rattle.ipc_table_views.specs.Spot.{Spot}
use Rattle.ipc_table_views.specs.TypeSlots.{date_unit, decimal_bit_width, decimal_precision, decimal_scale, duration_unit, fixed_size_binary_byte_width, floating_point_precision, interval_unit, time_bit_width, time_unit, timestamp_timezone, timestamp_unit, union_mode, union_type_ids}
use Rattle.ipc_table_views.specs.declared.types.DateUnit.{DateUnit}
use Rattle.ipc_table_views.specs.declared.types.DateUnit.TheVariants as dates
use Rattle.ipc_table_views.specs.declared.types.Precision.{Precision}
use Rattle.ipc_table_views.specs.declared.types.Precision.TheVariants as precisions
use Rattle.ipc_table_views.specs.declared.types.TimeUnit.{TimeUnit}
use Rattle.ipc_table_views.specs.declared.types.TimeUnit.TheVariants as times
use Rattle.ipc_model.proofs.Given.{given-some, map-some, some-same}
use Rattle.ipc_model.specs.Schemas.{date_of, decimal_at, float_of, given, group_at, integer_at, integers, interval_of, made, mode_of, plain_at, present, size_of, time_of, unit_of}
use Rattle.ipc_costs.specs.Costs.{type_cost}
use Rattle.ipc_costs.specs.Sizes.{group_size, ids_size, plain_size, text_size}
use Rattle.ipc_costs.proofs.PairWeights.{present-made}

-- ---- types with no text

textless : (x p : Plain) → plain_size x ≡ 0 → Some x ≡ Some p → plain_size p ≡ 0
textless x p none e = ap plain_size (sym (some-same x p e)) ∙ none

mapped : {A : Type 0} (f : A → Plain) (o : Option A) (p : Plain) → ((a : A) → plain_size (f a) ≡ 0) → option_map f o ≡ Some p → plain_size p ≡ 0
mapped f o p none e = let (a, a_is, p_is) = map-some f o p e in ap plain_size p_is ∙ none a

no-integer : (i : IntegerType) → plain_size (integers i) ≡ 0
no-integer Int8 = refl
no-integer Int16 = refl
no-integer Int32 = refl
no-integer Int64 = refl
no-integer UInt8 = refl
no-integer UInt16 = refl
no-integer UInt32 = refl
no-integer UInt64 = refl

no-float : (x : Precision) → plain_size (float_of x) ≡ 0
no-float precisions.Half = refl
no-float precisions.Single = refl
no-float precisions.Double = refl

no-date : (x : DateUnit) → plain_size (date_of x) ≡ 0
no-date dates.Day = refl
no-date dates.Millisecond = refl

no-decimal : (t : Spot) (p : Plain) → decimal_at t ≡ Some p → plain_size p ≡ 0
unfolding decimal_at
no-decimal t p e =
    let (a, a_is, e1) = given-some (made (decimal_precision t)) _ p e in
    let (precision, precision_is, e2) = given-some (size_of a) _ p e1 in
    let (b, b_is, e3) = given-some (made (decimal_scale t)) _ p e2 in
    let (scale, scale_is, e4) = given-some (size_of b) _ p e3 in
    let (width, width_is, e5) = given-some (made (decimal_bit_width t)) _ p e4 in
    at precision scale (int_eq width (pos 128)) (int_eq width (pos 256)) e5
  where
    at : (precision scale : ℕ) (short long : Bool) → cond short (Some (decimal precision scale)) (cond long (Some (decimal256 precision scale)) None) ≡ Some p → plain_size p ≡ 0
    at precision scale true long e = textless _ p refl e
    at precision scale false true e = textless _ p refl e
    at precision scale false false e = cc

timed : (b : Bool) (x p : Plain) → plain_size x ≡ 0 → cond b (Some x) None ≡ Some p → plain_size p ≡ 0
timed true x p none e = textless x p none e
timed false x p none e = cc

no-time : (unit : TimeUnit) (width : ℤ) (p : Plain) → time_of unit width ≡ Some p → plain_size p ≡ 0
no-time times.Second width p e = timed (int_eq width (pos 32)) (time32 units.Second) p refl e
no-time times.Millisecond width p e = timed (int_eq width (pos 32)) (time32 units.Millisecond) p refl e
no-time times.Microsecond width p e = timed (int_eq width (pos 64)) (time64 units.Microsecond) p refl e
no-time times.Nanosecond width p e = timed (int_eq width (pos 64)) (time64 units.Nanosecond) p refl e

time-textless : (t : Spot) (p : Plain) → given (made (time_unit t)) (λ unit. given (made (time_bit_width t)) (λ width. time_of unit width)) ≡ Some p → plain_size p ≡ 0
time-textless t p e =
    let (unit, unit_is, e1) = given-some (made (time_unit t)) _ p e in
    let (width, width_is, e2) = given-some (made (time_bit_width t)) _ p e1 in
    no-time unit width p e2

fixed-textless : (t : Spot) (p : Plain) → given (made (fixed_size_binary_byte_width t)) (λ n. option_map fixed_binary (size_of n)) ≡ Some p → plain_size p ≡ 0
fixed-textless t p e =
    let (n, n_is, e1) = given-some (made (fixed_size_binary_byte_width t)) _ p e in
    mapped fixed_binary (size_of n) p (λ n. refl) e1

-- ---- a timestamp

stamp-text : (t : Spot) (p : Plain)
    → given (made (timestamp_unit t)) (λ unit. option_map (λ zone. timestamp (unit_of unit) zone) (made (timestamp_timezone t))) ≡ Some p
    → plain_size p ≡ text_size (present (timestamp_timezone t))
stamp-text t p e =
    let (unit, unit_is, e1) = given-some (made (timestamp_unit t)) _ p e in
    let (zone, zone_is, p_is) = map-some _ (made (timestamp_timezone t)) p e1 in
    ap plain_size p_is ∙ ap text_size (sym (present-made (timestamp_timezone t) zone zone_is))

stamp-cost : (tag : ℕ) (t : Spot) (p : Plain) → nat_eq tag 10 ≡ true → plain_size p ≡ text_size (present (timestamp_timezone t)) → plain_size p ≤ type_cost (tag, t)
stamp-cost tag t p is e =
    let same : tag ≡ 10 = eqb-true tag 10 is in
    subst (λ (n : ℕ). plain_size p ≤ type_cost (n, t)) (sym same) (omega (arith, e))

-- ---- any of them

module _ (tag : ℕ) (t : Spot) (p : Plain) where
  -- one test of the chain: its type has no text
  next : (b : Bool) (x y : Option Plain) → cond b x y ≡ Some p → (x ≡ Some p → plain_size p ≡ 0) → (y ≡ Some p → plain_size p ≤ type_cost (tag, t)) → plain_size p ≤ type_cost (tag, t)
  next true x y e f g = let none = f e in omega (arith, none)
  next false x y e f g = g e

  stamp : (b : Bool) (x y : Option Plain) → nat_eq tag 10 ≡ b → cond b x y ≡ Some p → (x ≡ Some p → plain_size p ≡ text_size (present (timestamp_timezone t)))
      → (y ≡ Some p → plain_size p ≤ type_cost (tag, t)) → plain_size p ≤ type_cost (tag, t)
  stamp true x y is e f g = stamp-cost tag t p is (f e)
  stamp false x y is e f g = g e

  pub plain-cost : plain_at tag t ≡ Some p → plain_size p ≤ type_cost (tag, t)
  unfolding plain_at
  plain-cost e =
      next (nat_eq tag 1) _ _ e (λ x. textless null p refl x) (λ e.
      next (nat_eq tag 2) _ _ e (λ x. mapped integers (integer_at t) p no-integer x) (λ e.
      next (nat_eq tag 3) _ _ e (λ x. mapped float_of (made (floating_point_precision t)) p no-float x) (λ e.
      next (nat_eq tag 4) _ _ e (λ x. textless binary p refl x) (λ e.
      next (nat_eq tag 5) _ _ e (λ x. textless utf8 p refl x) (λ e.
      next (nat_eq tag 6) _ _ e (λ x. textless boolean p refl x) (λ e.
      next (nat_eq tag 7) _ _ e (λ x. no-decimal t p x) (λ e.
      next (nat_eq tag 8) _ _ e (λ x. mapped date_of (made (date_unit t)) p no-date x) (λ e.
      next (nat_eq tag 9) _ _ e (λ x. time-textless t p x) (λ e.
      stamp (nat_eq tag 10) _ _ refl e (λ x. stamp-text t p x) (λ e.
      next (nat_eq tag 11) _ _ e (λ x. mapped (λ unit. interval (interval_of unit)) (made (interval_unit t)) p (λ unit. refl) x) (λ e.
      next (nat_eq tag 15) _ _ e (λ x. fixed-textless t p x) (λ e.
      next (nat_eq tag 18) _ _ e (λ x. mapped (λ unit. duration (unit_of unit)) (made (duration_unit t)) p (λ unit. refl) x) (λ e.
      next (nat_eq tag 19) _ _ e (λ x. textless large_binary p refl x) (λ e.
      next (nat_eq tag 20) _ _ e (λ x. textless large_utf8 p refl x) (λ e. cc)))))))))))))))

-- ---- the ids of a union

module _ (tag : ℕ) (t : Spot) (g : Group) where
  union-cost : nat_eq tag 14 ≡ true → given (made (union_mode t)) (λ mode. option_map (λ type_ids. choice type_ids (mode_of mode)) (made (union_type_ids t))) ≡ Some g
      → group_size g ≤ type_cost (tag, t)
  union-cost is e =
      let (mode, mode_is, e1) = given-some (made (union_mode t)) _ g e in
      let (ids, ids_is, g_is) = map-some _ (made (union_type_ids t)) g e1 in
      let size : group_size g ≡ ids_size (present (union_type_ids t)) = ap group_size g_is ∙ ap ids_size (sym (present-made (union_type_ids t) ids ids_is)) in
      let same : tag ≡ 14 = eqb-true tag 14 is in
      subst (λ (n : ℕ). group_size g ≤ type_cost (n, t)) (sym same) (omega (arith, size))

  group-of : (a b : Bool) → nat_eq tag 14 ≡ b
      → cond a (Some structure) (cond b (given (made (union_mode t)) (λ mode. option_map (λ type_ids. choice type_ids (mode_of mode)) (made (union_type_ids t)))) None) ≡ Some g
      → group_size g ≤ type_cost (tag, t)
  group-of true b is e =
      let none : group_size g ≡ 0 = ap group_size (sym (some-same structure g e)) in
      omega (arith, none)
  group-of false true is e = union-cost is e
  group-of false false is e = cc

  pub group-cost : group_at tag t ≡ Some g → group_size g ≤ type_cost (tag, t)
  unfolding group_at
  group-cost e = group-of (nat_eq tag 13) (nat_eq tag 14) refl e
