use Rattle.std.proofs.Common.{ap, sym, ◌∙◌}
use Rattle.std.specs.Str.{is_utf8}
use Rattle.ipc_model.specs.Columns.{bytes_at}
use Rattle.ipc_reference.specs.PlainEntries.{entries_view}
use Rattle.ipc_reference.proofs.PartLists.{all_more, all_fails}
use Rattle.ipc_reference.proofs.entries.PlainEntries.are_texts.Goals as goal

pub returns-then-not-is_text : goal.returns-then-not-is_text
returns-then-not-is_text c =
    sym (all_fails c.args.rows c.loop-i.i (λ i. is_utf8 (bytes_at (entries_view c.args.self.now) c.args.b 4 i)) c.loop-i-test.true
    (ap is_utf8 (sym c.bytes.ensures) ∙ sym c.is_text.ensures ∙ c.if-not-is_text.true))

pub loop-i-preserved : goal.loop-i-preserved
loop-i-preserved c =
    all_more c.loop-i.i (λ i. is_utf8 (bytes_at (entries_view c.args.self.now) c.args.b 4 i)) c.loop-i.invariant
    (ap is_utf8 (sym c.bytes.ensures) ∙ sym c.is_text.ensures ∙ c.if-not-is_text.false)
