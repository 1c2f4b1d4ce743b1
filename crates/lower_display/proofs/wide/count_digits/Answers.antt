use Rattle.std.proofs.Common.{arith, ◌∙◌, sym, ◌/◌, ◌^◌}
use Rattle.lower_display.specs.Wide.{groups_value}
use Rattle.lower_display.proofs.WideDigits.{count_more, count_found, count_end}
use Rattle.lower_display.proofs.wide.count_digits.Goals as goal

pub returns-then-digit_at-ne0-clause-value : goal.returns-then-digit_at-ne0-clause-value
returns-then-digit_at-ne0-clause-value c =
    count_found (groups_value c.args.groups.now / 10 ^ c.args.scale) c.loop-index.index _ (omega arith)
    (λ e. c.if-digit_at-ne0.true (c.digit_at.ensures ∙ e)) c.loop-index.invariant

pub loop-index-preserved : goal.loop-index-preserved
loop-index-preserved c =
    count_more (groups_value c.args.groups.now / 10 ^ c.args.scale) c.loop-index.index _ (omega arith)
    (sym c.digit_at.ensures ∙ c.if-digit_at-ne0.false) c.loop-index.invariant

pub returns-clause-value : goal.returns-clause-value
returns-clause-value c =
    count_end (groups_value c.args.groups.now / 10 ^ c.args.scale) c.loop-index.index _ (omega arith) c.loop-index.invariant
