-- The tests say when ids belong to fields.
use Rattle.std.proofs.Common.{◌≡◌, ◌↔◌, Bool, true, false, ◌&&◌, refl, true≢false}
use Rattle.std.proofs.lemmas.Bool.{and_parts, false≢true}
use Rattle.std.specs.Prelude.{is_some}
use mathlib.Core.Bool.{beq}
use Rattle.lower.specs.TypeTrees.{TypeTree, plain, single, group, dictionary, extension, FieldTree, field, FieldTrees, no_fields, more_fields}
use Rattle.ipc_base.specs.IdTrees.{IdTree, ids, IdTrees, no_ids, more_ids}
use Rattle.ipc_base.specs.Fitting.{Fits, ChildrenFit, AllFit, IsNone, IsOne, field_fits, children_fit, all_fit, only_one, is_none}
use Rattle.lower.specs.Counts.{is_dictionary}

beq_same : (a b : Bool) → (beq a b ≡ true) ↔ (a ≡ b)
beq_same true true = (λ _. refl, λ _. refl)
beq_same true false = (λ h. absurd (false≢true h), λ h. absurd (true≢false h))
beq_same false true = (λ h. absurd (false≢true h), λ h. absurd (false≢true h))
beq_same false false = (λ _. refl, λ _. refl)

both : (a b : Bool) (P Q : Type 0) → (a ≡ true) ↔ P → (b ≡ true) ↔ Q → ((a && b) ≡ true) ↔ (P × Q)
both a b P Q p q = (
  λ h. let (x, y) = and_parts a b h in (p.0 x, q.0 y),
  λ h. let x = p.1 h.0 in let y = q.1 h.1 in rw (x, y),
)

none_test : (is : IdTrees) → (is_none is ≡ true) ↔ IsNone is
none_test no_ids = (λ _. tt, λ _. refl)
none_test (more_ids i is) = (λ h. absurd (false≢true h), λ h. absurd h)

one_test : (test : IdTree → Bool) (P : IdTree → Type 0) → ((i : IdTree) → (test i ≡ true) ↔ P i) → (is : IdTrees) → (only_one test is ≡ true) ↔ IsOne P is
one_test test P same no_ids = (λ h. absurd (false≢true h), λ h. absurd h)
one_test test P same (more_ids i is) = both (test i) (is_none is) (P i) (IsNone is) (same i) (none_test is)

mutual
  pub fits_test : (f : FieldTree) (i : IdTree) → (field_fits f i ≡ true) ↔ Fits f i
  fits_test (field name t nullable metadata) (ids id children) =
      both (beq (is_some id) (is_dictionary t)) (children_fit t children) (is_some id ≡ is_dictionary t) (ChildrenFit t children)
      (beq_same (is_some id) (is_dictionary t)) (children_test t children)

  pub children_test : (t : TypeTree) (is : IdTrees) → (children_fit t is ≡ true) ↔ ChildrenFit t is
  children_test (plain p) is = none_test is
  children_test (single s f) is = one_test (field_fits f) (Fits f) (fits_test f) is
  children_test (group g fs) is = all_test fs is
  children_test (dictionary keys t ordered) is = children_test t is
  children_test (extension name t text) is = children_test t is

  pub all_test : (fs : FieldTrees) (is : IdTrees) → (all_fit fs is ≡ true) ↔ AllFit fs is
  all_test no_fields is = none_test is
  all_test (more_fields f fs) no_ids = (λ h. absurd (false≢true h), λ h. absurd h)
  all_test (more_fields f fs) (more_ids i is) = both (field_fits f i) (all_fit fs is) (Fits f i) (AllFit fs is) (fits_test f i) (all_test fs is)
