use Rattle.std.proofs.Common.{sym, ◌∙◌}
use Rattle.lower.proofs.Decided.{schema_eq_decides}
use Rattle.lower.proofs.datatypes.equal.is_same_schema.Goals as goal

pub returns : goal.returns
returns c =
    let d = schema_eq_decides c.args.schema.now c.args.other.now in (λ t. d.0 (sym c.eq.ensures ∙ t), λ e. c.eq.ensures ∙ d.1 e)
