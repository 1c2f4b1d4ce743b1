-- Whether a column is well formed can be computed.
use Rattle.std.proofs.Common.{◌≡◌, ℕ, ℤ, pos, negsuc, ◌+◌, ◌-◌, ◌*◌, ◌^◌, ◌<◌, ◌≤◌, ◌==◌, ◌&&◌, not, nat_lt, nat_le, Bool, true, false, List, [], ◌∷◌, length, Option, Some, None, IsTrue, cond, refl, ap, subst, arith, rules, inl, inr, ◌⊎◌, Decides}
use Rattle.std.proofs.lemmas.Bool.{cases_lt, leb-true, le-leb, false≢true, true≢false}
use Rattle.std.proofs.lemmas.Bool.Decides.{Decides-eqb, Decides-ltb, Decides-and, Decides-or, Decides-like, Decides-below_and, Decides-by_and}
use Rattle.std.proofs.lemmas.Str.{IsUtf8-from_is_utf8, is_utf8-from_IsUtf8}
use Rattle.std.specs.Prelude.{IsUtf8}
use Rattle.std.specs.List.{list_all, IsDistinct, AllByRecursion}
use Rattle.std.specs.Str.{is_utf8}
use Rattle.std.specs.Ordering.{int_eq}
use Rattle.lower.specs.declared.datatypes.UnionMode.TheVariants.{Sparse, Dense}
use Rattle.lower.specs.Same.{same_type}
use Rattle.lower.specs.TypeTrees.{TypeTree}
use Rattle.lower.proofs.Same.{type-sound, type-refl}
use Rattle.lower_types.specs.NumberTypes.{width_of}
use Rattle.lower_types.specs.declared.PrimitiveType.{PrimitiveType}
use Rattle.ipc_model.specs.Kinds.{offsets_32, offset_width, Kind, null_kind, boolean_kind, number_kind, float_kind, fixed_binary_kind, binary_kind, utf8_kind, list_kind, map_kind, fixed_list_kind, struct_kind, union_kind, dictionary_kind, extension_kind, Kinds, no_kinds, more_kinds, count, nodes, buffers}
use Rattle.ipc_model.specs.Entries.{Entries, IsSize, size, IsIndex, node, buffer, bytes, listed, Need, Limit, rows, times, bytes_for, integer, offset}
use Rattle.ipc_model.specs.Columns.{Begins, is_valid, is_omitted, last_offset, Offsets, bytes_at, HasBytes, AreTexts, child_rows, AreUnionIds, IsUnionKind, child_at, HasTypes, place_at, Reaches, values_type, values_slots, HasValues, IsPairKind, IsSome, WithRows, IsList, IsWell, AllHaveRows, AllWell}
use Rattle.ipc_model.specs.TestLaws.{WellTestLaw}
use Rattle.ipc_model.specs.Tests.{all_below, is_size, is_index, has_bytes, begins, has_offsets, has_values, are_texts, are_distinct, are_ids, is_union, has_types, reaches, is_type, has_dictionary, is_pair, is_some, with_rows, is_list, is_well, all_have_rows, all_well}

-- ---- tests of parts

pub and3 : {P Q R : Type 0} (x y z : Bool) → Decides x P → Decides y Q → Decides z R → Decides (x && (y && z)) (P × Q × R)
and3 x y z p q r = Decides-like (x && (y && z)) (λ v. (v.0, v.1.0, v.1.1)) (λ v. (v.0, (v.1, v.2))) (Decides-and x (y && z) p (Decides-and y z q r))

pub and4 : {P Q R S : Type 0} (x y z w : Bool) → Decides x P → Decides y Q → Decides z R → Decides w S → Decides (x && (y && (z && w))) (P × Q × R × S)
and4 x y z w p q r t =
    Decides-like (x && (y && (z && w))) (λ v. (v.0, v.1.0, v.1.1, v.1.2)) (λ v. (v.0, (v.1, v.2, v.3)))
    (Decides-and x (y && (z && w)) p (and3 y z w q r t))

and5 : {P Q R S T : Type 0} (x y z w u : Bool) → Decides x P → Decides y Q → Decides z R → Decides w S → Decides u T
    → Decides (x && (y && (z && (w && u)))) (P × Q × R × S × T)
and5 x y z w u p q r t v =
    Decides-like (x && (y && (z && (w && u)))) (λ e. (e.0, e.1.0, e.1.1, e.1.2, e.1.3)) (λ e. (e.0, (e.1, e.2, e.3, e.4)))
    (Decides-and x (y && (z && (w && u))) p (and4 y z w u q r t v))

pub always : Decides true (Unit {0})
always = (λ _. tt, λ _. refl)

never : Decides false ⊥
never = (λ e. absurd (false≢true e), λ h. absurd h)

pub le_decides : (m n : ℕ) → Decides (nat_le m n) (m ≤ n)
le_decides m n = (leb-true m n, le-leb m n)

below_decides : (n : ℕ) (test : ℕ → Bool) (P : ℕ → Type 0) → ((i : ℕ) → Decides (test i) (P i)) → Decides (all_below n test) ((i : ℕ) → i < n → P i)
below_decides n test P each = Decides-below_and test P (λ m. all_below m test) each refl (λ _. refl) n

-- A fact that is required only if a test passes.
when_decides : {P : Type 0} (v x : Bool) → Decides x P → Decides (cond v x true) (IsTrue v → P)
when_decides true x d = (λ e _. d.0 e, λ f. d.1 (f refl))
when_decides false x d = (λ _ e. absurd (false≢true e), λ _. refl)

pub size_decides : (z : ℤ) → Decides (is_size z) (IsSize z)
size_decides (pos n) = (λ _. search rules, λ _. refl)
size_decides (negsuc n) = (λ e. absurd (false≢true e), λ h. absurd h.le)

index_decides : (z : ℤ) (n : ℕ) → Decides (is_index z n) (IsIndex z n)
index_decides (pos m) n = Decides-ltb m n
index_decides (negsuc m) n = never

need_decides : (s : Entries) (b d : ℕ) → Decides (has_bytes s b d) (Need s b d)
need_decides s b d = and3 _ _ _ (size_decides (buffer s b).offset) (le_decides d (listed s b)) (le_decides d (length (bytes s b)))

zero_or : {P : Type 0} (n : ℕ) → (n ≡ 0) ⊎ P → 0 < n → P
zero_or n (inl e) h = absurd (omega (arith, e, h))
zero_or n (inr p) h = p

or_zero : {P : Type 0} (n : ℕ) → (0 < n → P) → (n ≡ 0) ⊎ P
or_zero n f = elim (cases_lt 0 n) [ inl h ↦ inr (f h) | inr h ↦ inl (omega arith) ]

begins_decides : (s : Entries) (a b k : ℕ) → Decides (begins s a b k) (Begins s a b k)
begins_decides s a b k =
    let nulls = size (node s a).null_count in
    Decides-like (begins s a b k) (λ v. record { length_is = v.0; validity = zero_or nulls v.1 }) (λ v. (v.length_is, or_zero nulls v.validity))
    (Decides-and _ _ (size_decides (node s a).length) (Decides-or (nulls == 0) (has_bytes s b (bytes_for k)) (Decides-eqb nulls 0) (need_decides s b (bytes_for k))))

offsets_decides : (s : Entries) (b w k : ℕ) → Decides (has_offsets s b w k) (Offsets s b w k)
offsets_decides s b w k =
    Decides-like (has_offsets s b w k) (λ v. record { stored = v.0; rising = v.1; small = v.2 }) (λ v. (v.stored, v.rising, v.small))
    (and3 _ _ _ (need_decides s b (cond (is_omitted s b k) 0 (w * (k + 1))))
    (below_decides k (λ i. nat_le (offset s b w i) (offset s b w (i + 1))) (λ i. offset s b w i ≤ offset s b w (i + 1)) (λ i. le_decides (offset s b w i) (offset s b w (i + 1))))
    (Decides-ltb (last_offset s b w k) (2 ^ (8 * w - 1))))

values_decides : (s : Entries) (b w k : ℕ) → Decides (has_values s b w k) (HasBytes s b w k)
values_decides s b w k =
    Decides-like (has_values s b w k) (λ v. record { offsets = v.0; values = v.1 }) (λ v. (v.offsets, v.values))
    (Decides-and _ _ (offsets_decides s b w k) (need_decides s (b + 1) (last_offset s b w k)))

utf8_decides : (xs : List ℕ) → Decides (is_utf8 xs) (IsUtf8 xs)
utf8_decides xs = (IsUtf8-from_is_utf8 xs, is_utf8-from_IsUtf8 xs)

texts_decides : (s : Entries) (b w k : ℕ) → Decides (are_texts s b w k) (AreTexts s b w k)
texts_decides s b w k =
    Decides-like (are_texts s b w k) (λ v. record { each = v }) (λ v. v.each)
    (below_decides k (λ i. is_utf8 (bytes_at s b w i)) (λ i. IsUtf8 (bytes_at s b w i)) (λ i. utf8_decides (bytes_at s b w i)))

-- ---- unions

not_decides : (b : Bool) → Decides (not b) (b ≡ false)
not_decides true = (λ e. absurd (false≢true e), λ e. absurd (true≢false e))
not_decides false = (λ _. refl, λ _. refl)

others_decide : (x : ℤ) (xs : List ℤ) → Decides (list_all (λ y. not (int_eq x y)) xs) (AllByRecursion (λ y. int_eq x y ≡ false) xs)
others_decide x [] = (λ _. search rules, λ _. refl)
others_decide x (y ∷ ys) = Decides-and _ _ (not_decides (int_eq x y)) (others_decide x ys)

distinct_decides : (xs : List ℤ) → Decides (are_distinct xs) (IsDistinct int_eq xs)
unfolding IsDistinct
distinct_decides [] = (λ _. search rules, λ _. refl)
distinct_decides (x ∷ xs) = Decides-and _ _ (others_decide x xs) (distinct_decides xs)

ids_decides : (ids : Option (List ℤ)) (n : ℕ) → Decides (are_ids ids n) (AreUnionIds ids n)
ids_decides None n = always
ids_decides (Some ids) n =
    and3 _ _ _ (Decides-eqb (length ids) n) (distinct_decides ids)
    (Decides-by_and (λ x. is_index x 127) (λ x. IsIndex x 127) (list_all (λ x. is_index x 127)) (λ x. index_decides x 127) refl (λ _ _. refl) ids)

pub union_decides : (ids : Option (List ℤ)) (n : ℕ) → Decides (is_union ids n) (IsUnionKind ids n)
union_decides ids n =
    Decides-like (is_union ids n) (λ v. record { some = v.0; few = v.1; distinct = v.2 }) (λ v. (v.some, v.few, v.distinct))
    (and3 _ _ _ (le_decides 1 n) (le_decides n 127) (ids_decides ids n))

types_decides : (s : Entries) (ids : Option (List ℤ)) (n u k : ℕ) → Decides (has_types s ids n u k) (HasTypes s ids n u k)
types_decides s ids n u k =
    Decides-like (has_types s ids n u k) (λ v. record { types = v.0; named = v.1 }) (λ v. (v.types, v.named))
    (Decides-and _ _ (need_decides s u k)
    (below_decides k (λ i. nat_lt (child_at s ids n u i) n) (λ i. child_at s ids n u i < n) (λ i. Decides-ltb (child_at s ids n u i) n)))

reaches_decides : (s : Entries) (ids : Option (List ℤ)) (ts : Kinds) (a u k : ℕ) → Decides (reaches s ids ts a u k) (Reaches s ids ts a u k)
reaches_decides s ids ts a u k =
    let far : ℕ → ℕ = λ i. child_rows s ts a (child_at s ids (count ts) u i) in
    Decides-like (reaches s ids ts a u k) (λ v. record { offsets = v.0; inside = v.1 }) (λ v. (v.offsets, v.inside))
    (Decides-and _ _ (need_decides s (u + 1) (4 * k))
    (below_decides k (λ i. is_index (place_at s (u + 1) i) (far i)) (λ i. IsIndex (place_at s (u + 1) i) (far i)) (λ i. index_decides (place_at s (u + 1) i) (far i))))

-- ---- dictionaries

some_is : {X : Type 0} (x y : X) → Some x ≡ Some y → x ≡ y
some_is x y e = cc

type_decides : (o : Option TypeTree) (t : TypeTree) → Decides (is_type o t) (o ≡ Some t)
type_decides None t = (λ e. absurd (false≢true e), λ e. absurd cc)
type_decides (Some u) t = (
  λ e. ap Some (type-sound u t e),
  λ e. subst (λ (v : TypeTree). same_type u v ≡ true) (some_is u t e) (type-refl u),
)

dictionary_decides : (s : Entries) (f : PrimitiveType) (id : Option ℤ) (t : TypeTree) (a b k : ℕ) → Decides (has_dictionary s f id t a b k) (HasValues s f id t a b k)
dictionary_decides s f id t a b k =
    let n = length (values_slots s id) in
    Decides-like (has_dictionary s f id t a b k) (λ v. record { known = v.0; inside = v.1 }) (λ v. (v.known, v.inside))
    (Decides-and _ _ (type_decides (values_type s id) t)
    (below_decides k (λ i. cond (is_valid s a b i) (is_index (integer s (b + 1) f i) n) true) (λ i. IsTrue (is_valid s a b i) → IsIndex (integer s (b + 1) f i) n)
    (λ i. when_decides (is_valid s a b i) (is_index (integer s (b + 1) f i) n) (index_decides (integer s (b + 1) f i) n))))

-- ---- columns

kinds_pair : (t : Kinds) → Decides (is_pair (struct_kind t)) (IsPairKind (struct_kind t))
kinds_pair no_kinds = never
kinds_pair (more_kinds t no_kinds) = never
kinds_pair (more_kinds t (more_kinds u no_kinds)) = always
kinds_pair (more_kinds t (more_kinds u (more_kinds v vs))) = never

pair_decides : (t : Kind) → Decides (is_pair t) (IsPairKind t)
pair_decides (struct_kind ts) = kinds_pair ts
pair_decides _ = never

some_decides : (ts : Kinds) → Decides (is_some ts) (IsSome ts)
some_decides no_kinds = never
some_decides (more_kinds t ts) = always

pub rows_decide : {P : Type 0} (test : Bool) (n k : ℕ) → Decides test P → Decides (with_rows test n k) (WithRows P n k)
rows_decide test n k d = Decides-and test (n == k) d (Decides-eqb n k)

list_decides : (s : Entries) (w a b k : ℕ) (child : Limit → Bool) (Child : Limit → Type 0) → ((l : Limit) → Decides (child l) (Child l))
    → Decides (is_list s w a b k child) (IsList s w a b k Child)
list_decides s w a b k child Child each =
    let last = last_offset s (b + 1) w k in
    and3 _ _ _ (begins_decides s a b k) (offsets_decides s (b + 1) w k)
    (rows_decide (child (Some last)) (rows s (a + 1) (Some last)) last (each (Some last)))

mutual
  pub well_decides : (s : Entries) (t : Kind) (a b : ℕ) (limit : Limit) → Decides (is_well s t a b limit) (IsWell s t a b limit)
  well_decides s null_kind a b limit = size_decides (node s a).length
  well_decides s boolean_kind a b limit =
      Decides-and _ _ (begins_decides s a b (rows s a limit)) (need_decides s (b + 1) (bytes_for (rows s a limit)))
  well_decides s (number_kind f) a b limit =
      Decides-and _ _ (begins_decides s a b (rows s a limit)) (need_decides s (b + 1) (width_of f * rows s a limit))
  well_decides s float_kind a b limit = never
  well_decides s (fixed_binary_kind n) a b limit =
      and3 _ _ _ (Decides-ltb 0 n) (begins_decides s a b (rows s a limit)) (need_decides s (b + 1) (n * rows s a limit))
  well_decides s (binary_kind w) a b limit =
      Decides-and _ _ (begins_decides s a b (rows s a limit)) (values_decides s (b + 1) (offset_width w) (rows s a limit))
  well_decides s (utf8_kind w) a b limit =
      and3 _ _ _ (begins_decides s a b (rows s a limit)) (values_decides s (b + 1) (offset_width w) (rows s a limit))
      (texts_decides s (b + 1) (offset_width w) (rows s a limit))
  well_decides s (list_kind w t) a b limit =
      list_decides s (offset_width w) a b (rows s a limit) (λ l. is_well s t (a + 1) (b + 2) l) (λ l. IsWell s t (a + 1) (b + 2) l)
      (λ l. well_decides s t (a + 1) (b + 2) l)
  well_decides s (map_kind t) a b limit =
      Decides-and _ _ (pair_decides t)
      (list_decides s (offset_width offsets_32) a b (rows s a limit) (λ l. is_well s t (a + 1) (b + 2) l) (λ l. IsWell s t (a + 1) (b + 2) l)
      (λ l. well_decides s t (a + 1) (b + 2) l))
  well_decides s (fixed_list_kind n t) a b limit =
      and3 _ _ _ (Decides-ltb 0 n) (begins_decides s a b (rows s a limit))
      (rows_decide (is_well s t (a + 1) (b + 1) (times limit n)) (rows s (a + 1) (times limit n)) (rows s a limit * n) (well_decides s t (a + 1) (b + 1) (times limit n)))
  well_decides s (struct_kind ts) a b limit =
      and3 _ _ _ (some_decides ts) (begins_decides s a b (rows s a limit)) (all_decide s ts (a + 1) (b + 1) limit (rows s a limit))
  well_decides s (union_kind Sparse ids ts) a b limit =
      and4 _ _ _ _ (size_decides (node s a).length) (union_decides ids (count ts)) (types_decides s ids (count ts) (b + s.extra) (rows s a limit))
      (all_decide s ts (a + 1) (b + s.extra + 1) limit (rows s a limit))
  well_decides s (union_kind Dense ids ts) a b limit =
      and5 _ _ _ _ _ (size_decides (node s a).length) (union_decides ids (count ts)) (types_decides s ids (count ts) (b + s.extra) (rows s a limit))
      (reaches_decides s ids ts (a + 1) (b + s.extra) (rows s a limit)) (each_decides s ts (a + 1) (b + s.extra + 2))
  well_decides s (dictionary_kind f id t) a b limit =
      and3 _ _ _ (begins_decides s a b (rows s a limit)) (need_decides s (b + 1) (width_of f * rows s a limit)) (dictionary_decides s f id t a b (rows s a limit))
  well_decides s (extension_kind t) a b limit = well_decides s t a b limit

  all_decide : (s : Entries) (ts : Kinds) (a b : ℕ) (limit : Limit) (k : ℕ) → Decides (all_have_rows s ts a b limit k) (AllHaveRows s ts a b limit k)
  all_decide s no_kinds a b limit k = always
  all_decide s (more_kinds t ts) a b limit k =
      Decides-and _ _ (rows_decide (is_well s t a b limit) (rows s a limit) k (well_decides s t a b limit))
      (all_decide s ts (a + nodes t) (b + buffers s.extra t) limit k)

  each_decides : (s : Entries) (ts : Kinds) (a b : ℕ) → Decides (all_well s ts a b) (AllWell s ts a b)
  each_decides s no_kinds a b = always
  each_decides s (more_kinds t ts) a b =
      Decides-and _ _ (well_decides s t a b None) (each_decides s ts (a + nodes t) (b + buffers s.extra t))

pub well_test_law : WellTestLaw
well_test_law s t a b limit = well_decides s t a b limit
