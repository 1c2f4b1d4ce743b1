use Rattle.std.proofs.Common.{rules, arith, ◌∙◌}
use Rattle.lower_validation.proofs.ChildSteps.{len_at}
use Rattle.lower_validation.proofs.children.have_len.Goals as goal

pub returns-then-len : goal.returns-then-len
returns-then-len g c = (
  λ h. search rules,
  λ h. absurd (c.if-len.true (c.len.ensures.len ∙ len_at g.C.Child.child_len c.args.children.now c.args.len c.loop-child.child-index c.child-item.result (omega arith) c.child-item.is h)),
)
