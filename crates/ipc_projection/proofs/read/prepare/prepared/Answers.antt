use Rattle.std.proofs.Common.{rules, ◌≡◌, ℕ, nat_eq, slice_get, option_map, List, subst}
use Rattle.std.specs.HashMap.{get}
use Rattle.ipc_projection.proofs.Preparing.{prepares}
use Rattle.ipc_projection.proofs.read.prepare.prepared.Goals as goal

pub returns-clause-order : goal.returns-clause-order
returns-clause-order c =
    prepares c.args.projection.now _ c.in_ok-pairs.pairs.items c.in_ok-columns.columns.items c.in_ok-places.places c.requires
    (search rules) (search rules) (search rules)
    (subst (λ (ps : List (ℕ × ℕ)). (i : ℕ) → get nat_eq c.in_ok-places.places i ≡ option_map (λ (p : ℕ × ℕ). p.0) (slice_get ps i)) c.deref-2.ensures.value
    c.in_ok-places.ensures)
