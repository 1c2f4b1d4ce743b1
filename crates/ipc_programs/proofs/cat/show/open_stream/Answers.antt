use Rattle.std.proofs.Common.{rules, ◌≡◌, ℕ, length, subst, ◌∙◌}
use Rattle.std.proofs.lemmas.Result.{err_from_is_err_and}
use Rattle.ipc_model.specs.Batches.{IsProjection}
use Rattle.ipc_programs.specs.CatWords.{columns_by}
use Rattle.ipc_programs.specs.Positions.{IsChoice}
use Rattle.ipc_programs.specs.declared.cat.chosen.Chosen.{Chosen}
use Rattle.ipc_programs.proofs.Shown.{front_not_shown, stream_has_others}
use Rattle.ipc_programs.proofs.cat.show.open_stream.Goals as goal

pub returns-in_err-metadata-clause-refused : goal.returns-in_err-metadata-clause-refused
returns-in_err-metadata-clause-refused g c =
    let p = err_from_is_err_and c.from_residual.result c.from_residual.ensures.1 in
    rw (p.1, p.2) (front_not_shown g.R.Reads.gives g.R.Failures.device g.met.R.Reads.laws.ahead c.args.input (columns_by c.args.columns)
    c.in_err-metadata.field-0.0 c.read_stream_metadata.new.reader c.in_err-metadata.ensures.gives)

pub returns-in_default-clause-wrong : goal.returns-in_default-clause-wrong
returns-in_default-clause-wrong g c = λ none.
    let m = c.in_ok-metadata.metadata in
    let asked = columns_by c.args.columns in
    let many : c.len-count.result ≡ length m.schema.fields.items = search rules in
    let others = subst (λ (x : Chosen). IsChoice asked c.len-count.result x) c.in_default.is c.in_ok-projection.ensures in
    stream_has_others g.R.Reads.gives g.R.Failures.device g.met.R.Reads.laws.ahead c.args.input c.read_stream_metadata.new.reader m c.in_ok-metadata.ensures.gives
    asked (subst (λ (n : ℕ). ¬ IsProjection asked n) many others)

pub returns-clause-opens : goal.returns-clause-opens
returns-clause-opens g c =
    let chosen = subst (λ (x : Chosen). IsChoice (columns_by c.args.columns) c.len-count.result x) c.in-Columns.is c.in_ok-projection.ensures in
    record {
      metadata = c.in_ok-metadata.metadata;
      device = c.read_stream_metadata.new.reader;
      front = c.in_ok-metadata.ensures.gives;
      unread = c.in_ok-reader.ensures.made.unread;
      columns = c.in_ok-reader.ensures.made.asked ∙ chosen.0;
    }
