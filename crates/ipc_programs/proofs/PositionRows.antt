-- Each case is that of the list that a vector has, or is computed.
use Rattle.std.proofs.Common.{rules, arith, ◌≡◌, ◌<◌, ℕ, List, [], ◌∷◌, Some, refl, sym, ap, ◌∙◌}
use Rattle.std.specs.List.{IsDistinct}
use Rattle.ipc_model.specs.Batches.{IsProjection}
use Rattle.ipc_programs.specs.PositionRows.{PositionRows, ReadRows, Taken}

taken : (n : ℕ) (items : List ℕ) → IsProjection (Some items) n → Taken n items
taken n items holds positions e = (ap Some e, holds)

pub position_rows : PositionRows
unfolding IsDistinct
position_rows = record {
  all_columns = (refl, tt);
  not_others = λ h. h tt;
  no_column = taken 0 [] (tt, tt);
  last_column = taken 2 (1 ∷ []) (search rules);
  other_order = taken 2 (1 ∷ 0 ∷ []) (search rules);
  not_sorted = λ positions e h. let other : Some (0 ∷ 1 ∷ []) ≡ Some (1 ∷ 0 ∷ []) = sym (ap Some e) ∙ h.0 in absurd cc;
  not_all = λ h. let none = h.0 in absurd cc;
  too_great = λ h. let low : 1 < 1 = h.0.0 in absurd (omega (arith, low));
  too_great_behind = λ h. let low : 2 < 2 = h.0.1.0 in absurd (omega (arith, low));
  repeated = λ h. search (rules, h.1.0.0);
  repeated_apart = λ h. search (rules, h.1.0.1.0);
  not_refused = λ h. h (search rules);
}

pub read_rows : ReadRows
read_rows = record {
  two = λ positions e. e;
  leading_zeros = λ positions e. e;
  greatest = λ h. h (omega arith, tt);
  one_more = λ h. let low = h.1.0 in absurd (omega (arith, low));
}
