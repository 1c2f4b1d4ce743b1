use Rattle.std.proofs.Common.{refl, sym, ◌∙◌}
use Rattle.std.proofs.lemmas.Bool.{false≢true}
use Rattle.ipc_projection.proofs.Reorderings.{reordering_of, keys_of_reordering, places_of_reordering}
use Rattle.ipc_projection.proofs.read.projection.is_reordering.Goals as goal

pub returns-then-has_keys : goal.returns-then-has_keys
returns-then-has_keys c = (λ e. reordering_of _ _ (c.if-has_keys.ensures.0 refl) (c.has_places.ensures.0 e), λ h. c.has_places.ensures.1 (places_of_reordering _ _ h))

pub returns-else-has_keys : goal.returns-else-has_keys
returns-else-has_keys c = (λ e. absurd (false≢true (sym c.if-has_keys.false ∙ e)), λ h. c.has_keys.ensures.1 (keys_of_reordering _ _ h))
