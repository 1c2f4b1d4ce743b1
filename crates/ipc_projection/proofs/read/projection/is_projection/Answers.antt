use Rattle.std.proofs.Common.{refl, sym, ◌∙◌, arith}
use Rattle.std.proofs.lemmas.Bool.{true≢false, false≢true}
use Rattle.ipc_projection.proofs.Steps.{one_more_of, none_of}
use Rattle.ipc_projection.proofs.read.projection.is_projection.Goals as goal
use Rattle.ipc_projection.proofs.read.projection.is_projection.Goals.{then-column-columns-via-then-column-columns, then-column-columns-via-else-column-columns+then-contains}

pub returns-then-column-columns : goal.returns-then-column-columns
returns-then-column-columns c = (
  λ e. absurd (false≢true e),
  λ all.
      let others = (one_more_of _ _ _ c.args.columns c.in-Some.ensures.cases.0).0 (c.loop-column.invariant.1 all) in
      elim c.then-column-columns.branch [
        | then-column-columns-via-then-column-columns w ↦ absurd (omega (arith, w.if-column-columns.true, others.0))
        | then-column-columns-via-else-column-columns+then-contains w ↦ absurd (true≢false (sym w.if-contains.true ∙ w.contains.ensures.value ∙ others.1))
      ],
)

pub loop-column-preserved : goal.loop-column-preserved
loop-column-preserved c =
    let more = one_more_of _ _ _ c.args.columns c.in-Some.ensures.cases.0 in
    let absent = sym c.if-contains.ensures.value in (
      λ h. c.loop-column.invariant.0 (more.1 (omega (arith, c.if-column-columns.false), absent, h)),
      λ h. (more.0 (c.loop-column.invariant.1 h)).2,
    )

pub returns : goal.returns
returns c = (
  λ _. c.loop-column.invariant.0 (none_of _ c.args.columns c.in_default.ensures.cases),
  λ _. refl,
)
