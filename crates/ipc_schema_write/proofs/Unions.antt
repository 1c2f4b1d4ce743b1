-- Tests of ids, and of how many fields there are.
use Rattle.std.proofs.Common.{◌≡◌, ◌≤◌, ℕ, ℤ, pos, negsuc, List, [], ◌∷◌, length, Bool, true, false, not, nat_eq, Vec, Global, ap, sym, ◌∙◌, Option, Some, None, IsTrue, refl, true≢false, arith, Decides, rules}
use Rattle.std.proofs.lemmas.Bool.{and_parts, false≢true}
use Rattle.std.proofs.lemmas.Bool.Decides.{nat_tests, Decides-and, Decides-by_and, Decides-eqb, Decides-ltb}
use Rattle.std.specs.List.{list_all, AllByRecursion, IsDistinct}
use Rattle.std.specs.Ordering.{int_eq}
use Rattle.lower.specs.TypeTrees.{TypeTree, FieldTree, group, structure, choice}
use Rattle.lower.specs.TypeViews.{type_step, field_step, type_view, fields_view, ids_of}
use Rattle.lower.specs.declared.datatypes.DataType.{Struct, Union, fold-roll-DataType}
use Rattle.lower.specs.declared.datatypes.DataType.TheVariants.{rolls-Struct, rolls-Union}
use Rattle.lower.specs.declared.datatypes.DataType.TheOpen.{DataType-F}
use Rattle.lower.specs.declared.datatypes.UnionMode.{UnionMode}
use Rattle.lower.specs.declared.datatypes.Field.{Field}
use Rattle.ipc_model.specs.Columns.{AreUnionIds, IsUnionKind}
use Rattle.ipc_model.specs.Entries.{IsIndex}
use Rattle.ipc_model.specs.Tests.{are_distinct, are_ids, is_index}
use Rattle.ipc_model.specs.Writable.{IsPairType, field_number}

pub number_view : (fs : List Field) → field_number (fields_view fs) ≡ length fs
number_view [] = refl
number_view (f ∷ fs) = omega (arith, number_view fs)

pub view-Struct : (fields : Vec Field Global) → type_view (Struct fields) ≡ group structure (fields_view fields.items)
view-Struct fields = ap type_view (sym (rolls-Struct fields)) ∙ fold-roll-DataType TypeTree FieldTree type_step field_step (DataType-F.Struct fields)

pub view-Union : (fields : Vec Field Global) (ids : Option (Vec ℤ Global)) (mode : UnionMode) → type_view (Union fields ids mode) ≡ group (choice (ids_of ids) mode) (fields_view fields.items)
view-Union fields ids mode = ap type_view (sym (rolls-Union fields ids mode)) ∙ fold-roll-DataType TypeTree FieldTree type_step field_step (DataType-F.Union fields ids mode)

-- a struct of two fields
pub pair_view : (fs : List Field) → (IsTrue (nat_eq (length fs) 2) → IsPairType (group structure (fields_view fs))) × (IsPairType (group structure (fields_view fs)) → IsTrue (nat_eq (length fs) 2))
pair_view [] = (λ h. absurd (false≢true h), λ h. absurd h)
pair_view (f ∷ []) = (λ h. absurd (false≢true h), λ h. absurd h)
pair_view (f ∷ g ∷ []) = (λ h. tt, λ h. refl)
pair_view (f ∷ g ∷ x ∷ fs) = (λ h. absurd (grind (arith, nat_tests)), λ h. absurd h)

not_decides : (b : Bool) → Decides (not b) (b ≡ false)
not_decides true = (λ e. absurd (false≢true e), λ e. absurd (true≢false e))
not_decides false = (λ _. refl, λ _. refl)

others_decide : (x : ℤ) (xs : List ℤ) → Decides (list_all (λ y. not (int_eq x y)) xs) (AllByRecursion (λ y. int_eq x y ≡ false) xs)
others_decide x [] = (λ _. search rules, λ _. refl)
others_decide x (y ∷ ys) = Decides-and _ _ (not_decides (int_eq x y)) (others_decide x ys)

distinct_decides : (xs : List ℤ) → Decides (are_distinct xs) (IsDistinct int_eq xs)
unfolding IsDistinct
distinct_decides [] = (λ _. search rules, λ _. refl)
distinct_decides (x ∷ xs) = Decides-and _ _ (others_decide x xs) (distinct_decides xs)

index_decides : (z : ℤ) (n : ℕ) → Decides (is_index z n) (IsIndex z n)
index_decides (pos m) n = Decides-ltb m n
index_decides (negsuc m) n = (λ h. absurd (false≢true h), λ h. absurd h)

-- whether ids belong to n children can be computed
ids_decide : (ids : Option (List ℤ)) (n : ℕ) → Decides (are_ids ids n) (AreUnionIds ids n)
ids_decide None n = (λ _. tt, λ _. refl)
ids_decide (Some ids) n =
    let counted = Decides-eqb (length ids) n in
    let apart = distinct_decides ids in
    let inside = Decides-by_and (λ x. is_index x 127) (λ x. IsIndex x 127) (list_all (λ x. is_index x 127)) (λ x. index_decides x 127) refl (λ _ _. refl) ids in (
      λ h. let (a, b) = and_parts _ _ h in let (x, y) = and_parts _ _ b in (counted.0 a, apart.0 x, inside.0 y),
      λ h. let a = counted.1 h.0 in let x = apart.1 h.1 in let y = inside.1 h.2 in rw (a, x, y) refl,
    )

pub union_from : (ids : Option (List ℤ)) (n : ℕ) → 1 ≤ n → n ≤ 127 → IsTrue (are_ids ids n) → IsUnionKind ids n
union_from ids n some few h = record { some = some; few = few; distinct = (ids_decide ids n).0 h }

pub union_ids : (ids : Option (List ℤ)) (n : ℕ) → IsUnionKind ids n → IsTrue (are_ids ids n)
union_ids ids n h = (ids_decide ids n).1 h.distinct
