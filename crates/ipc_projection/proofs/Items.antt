-- One call of an iterator that marks its items.
use Rattle.std.proofs.Common.{◌≡◌, ℕ, suc, ◌<◌, ◌==◌, ◌+◌, Bool, false, List, ◌∷◌, Option, Some, None, arith, sym, ap, subst, MatchOption}
use Rattle.std.specs.List.{list_any}
use Rattle.ipc_projection.specs.declared.read.projection.ProjectionResult.TheVariants.{NotSelected}
use Rattle.ipc_projection.specs.Projections.{IsIncreasingFrom}
use Rattle.ipc_projection.specs.Projected.{Projected, is_chosen}
use Rattle.ipc_projection.specs.Marks.{Marks, marked}
use Rattle.ipc_projection.proofs.Steps.{passed}

is_some_none : {X : Type 0} {x : X} → Some x ≡ None → ⊥
is_some_none {X} {x} e = subst (λ (o : Option X). MatchOption o ⊥ (λ _. Unit {0})) e tt

module _ {I T : Type 0} (gives : I → Option T → I → Type 0) where
  shifted : (count i : ℕ) (xs : List ℕ) → list_any (λ j. count + 1 + i == j) xs ≡ list_any (λ j. count + suc i == j) xs
  shifted count i xs = let e : count + 1 + i ≡ count + suc i = omega arith in ap (λ (n : ℕ). list_any (λ j. n == j) xs) e

  -- the item comes before the first number
  pub step_past : (s : Projected I) (source behind : I) (count column : ℕ) (xs others : List ℕ) (x : T)
      → s ≡ record { source = source; next = count; columns = xs } → xs ≡ column ∷ others → IsIncreasingFrom count xs → count < column
      → gives source (Some x) behind
      → Marks gives s (Some (NotSelected x)) (record { source = behind; next = count + 1; columns = xs })
  step_past s source behind count column xs others x is first rising below given =
      let begun : Projected I = record { source = source; next = count; columns = xs } in
      let ended : Projected I = record { source = behind; next = count + 1; columns = xs } in
      let none : is_chosen begun 0 ≡ false = passed count column xs others first rising below in
      subst (λ (a : Projected I). Marks gives a (Some (NotSelected x)) ended) (sym is)
      (record {
        item = (Some x, given, ap (λ (b : Bool). marked b (Some x)) (sym none));
        onward = λ _ i. shifted count i xs;
        still = λ e. absurd (is_some_none e);
      })
