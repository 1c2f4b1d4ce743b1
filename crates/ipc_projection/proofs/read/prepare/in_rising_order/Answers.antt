use Rattle.std.proofs.Common.{rules, ℕ}
use Rattle.std.proofs.lemmas.List.Sorted.{IsNonDecreasingBy-from_sort_by_key}
use Rattle.ipc_projection.proofs.read.prepare.in_rising_order.Goals as goal

pub returns-clause-rising : goal.returns-clause-rising
returns-clause-rising c = IsNonDecreasingBy-from_sort_by_key (λ (p : ℕ × ℕ). p.1) _ c.sort_unstable_by_key.ensures.sorted (λ a r q k. search rules)
