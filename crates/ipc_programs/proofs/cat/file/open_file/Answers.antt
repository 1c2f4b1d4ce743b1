use Rattle.std.proofs.Common.{rules, ◌≡◌, ℕ, List, length, Option, subst}
use Rattle.std.proofs.lemmas.Result.{err_from_is_err_and}
use Rattle.ipc_model.specs.Batches.{IsProjection}
use Rattle.ipc_file_readers.specs.Readers.{IsUnread}
use Rattle.ipc_programs.specs.CatWords.{columns_by}
use Rattle.ipc_programs.specs.Positions.{IsChoice}
use Rattle.ipc_programs.specs.declared.cat.chosen.Chosen.{Chosen}
use Rattle.ipc_programs.proofs.Shown.{file_has_others, footer_not_shown}
use Rattle.ipc_programs.proofs.cat.file.open_file.Goals as goal

pub returns-in_err-metadata-clause-refused : goal.returns-in_err-metadata-clause-refused
returns-in_err-metadata-clause-refused g c =
    let p = err_from_is_err_and c.from_residual.result c.from_residual.ensures.1 in
    rw (p.1, p.2) (footer_not_shown g.F.Failures.device c.args.file (columns_by c.args.words.columns) c.args.words.limit c.in_err-metadata.field-0.0
    c.in_err-metadata.ensures.from_start c.in_err-metadata.ensures.causes.reason)

pub returns-in_default-clause-wrong : goal.returns-in_default-clause-wrong
returns-in_default-clause-wrong g c = λ none.
    let m = c.in_ok-metadata.metadata in
    let asked = columns_by c.args.words.columns in
    let many : c.len-count.result ≡ length m.schema.fields.items = search rules in
    let others = subst (λ (x : Chosen). IsChoice asked c.len-count.result x) c.in_default.is c.in_ok-projection.ensures in
    file_has_others g.F.Failures.device c.args.file asked m c.in_ok-metadata.ensures.from_start (subst (λ (n : ℕ). ¬ IsProjection asked n) many others)

pub returns-clause-opens : goal.returns-clause-opens
returns-clause-opens g c =
    let m = c.in_ok-metadata.metadata in
    let asked = columns_by c.args.words.columns in
    let many : c.len-count.result ≡ length m.schema.fields.items = search rules in
    let chosen = subst (λ (x : Chosen). IsChoice asked c.len-count.result x) c.in-Columns.is c.in_ok-projection.ensures in
    record {
      metadata = m;
      device = c.read_file_metadata.new.reader;
      unread = subst (λ (p : Option (List ℕ)). IsUnread c.read_file_metadata.new.reader m p c.args.words.limit c.in_ok-reader.reader) chosen.0 c.in_ok-reader.ensures.ok;
      columns = subst (λ (n : ℕ). IsProjection asked n) many chosen.1;
      footer = c.in_ok-metadata.ensures.from_start;
      same = λ there. c.in_ok-metadata.ensures.device.whole (g.met.F.Seeks.known_still there);
    }
