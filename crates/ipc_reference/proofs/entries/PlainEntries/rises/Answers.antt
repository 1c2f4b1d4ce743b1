use Rattle.std.proofs.Common.{ℕ, ◌+◌, ◌<◌, ◌≤◌, nat_le, sym, arith}
use Rattle.ipc_model.specs.Entries.{offset}
use Rattle.ipc_reference.specs.PlainEntries.{entries_view}
use Rattle.ipc_reference.proofs.PartLists.{all_more, all_fails, not_le, is_le}
use Rattle.ipc_reference.proofs.entries.PlainEntries.rises.Goals as goal

pub returns-then-offset : goal.returns-then-offset
returns-then-offset c =
    let at : ℕ → ℕ = λ i. offset (entries_view c.args.self.now) c.args.b 4 i in
    let falls : at (c.loop-i.i + 1) < at c.loop-i.i = omega (arith, c.if-offset.true, c.offset.ensures.offset, c.offset-in-loop-i.ensures.offset) in
    sym (all_fails c.args.rows c.loop-i.i (λ i. nat_le (at i) (at (i + 1))) c.loop-i-test.true (not_le _ _ falls))

pub loop-i-preserved : goal.loop-i-preserved
loop-i-preserved c =
    let at : ℕ → ℕ = λ i. offset (entries_view c.args.self.now) c.args.b 4 i in
    let rises : at c.loop-i.i ≤ at (c.loop-i.i + 1) = omega (arith, c.if-offset.false, c.offset.ensures.offset, c.offset-in-loop-i.ensures.offset) in
    all_more c.loop-i.i (λ i. nat_le (at i) (at (i + 1))) c.loop-i.invariant (is_le _ _ rises)
