use Rattle.std.proofs.Common.{refl, sym, ◌∙◌}
use Rattle.std.proofs.lemmas.Bool.{false≢true}
use Rattle.ipc_projection.proofs.read.projection.has_places.Goals as goal

pub returns-then-has_places_apart : goal.returns-then-has_places_apart
returns-then-has_places_apart c = (λ e. record { apart = c.if-has_places_apart.ensures.0 refl; all = c.has_each_place.ensures.0 e }, λ h. c.has_each_place.ensures.1 (h.all))

pub returns-else-has_places_apart : goal.returns-else-has_places_apart
returns-else-has_places_apart c = (λ e. absurd (false≢true (sym c.if-has_places_apart.false ∙ e)), λ h. c.has_places_apart.ensures.1 (h.apart))
