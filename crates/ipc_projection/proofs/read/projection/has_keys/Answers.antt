use Rattle.std.proofs.Common.{refl, sym, ◌∙◌}
use Rattle.std.proofs.lemmas.Bool.{false≢true}
use Rattle.ipc_projection.proofs.Reorderings.{has_keys, keys_under}
use Rattle.ipc_projection.proofs.read.projection.has_keys.Goals as goal

pub returns-then-has_keys_below : goal.returns-then-has_keys_below
returns-then-has_keys_below c = (λ e. has_keys _ _ (c.if-has_keys_below.ensures.0 refl) (c.has_each_key.ensures.0 e), λ h. c.has_each_key.ensures.1 (λ i l. (h.keys i).1 l))

pub returns-else-has_keys_below : goal.returns-else-has_keys_below
returns-else-has_keys_below c = (λ e. absurd (false≢true (sym c.if-has_keys_below.false ∙ e)), λ h. c.has_keys_below.ensures.1 (keys_under _ _ h))
