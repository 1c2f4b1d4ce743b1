use Rattle.std.proofs.Common.{rules, ◌≡◌, ◌∙◌, ◌≤◌, ℕ, List, Some, Err, ap, sym, subst}
use Rattle.ipc_costs.specs.Costs.{footer_cost}
use Rattle.ipc_limits.proofs.FileMetadataRuns.{within_ends, within_read}
use Rattle.ipc_limits.proofs.file.read_file_metadata_within.Goals as goal

pub returns-in_err-footer-clause-memory : goal.returns-in_err-footer-clause-memory
returns-in_err-footer-clause-memory g c = λ k.
    let m = g.R.Failures.device.memory c.args.reader.now in
    let e = c.in_err-footer.field-0.0 in
    let is : c.from_residual.result ≡ Err e = search rules in
    rw is (within_ends c.args.limit m.place m.whole e c.in_err-footer.ensures.only (c.in_err-footer.ensures.memory k))

pub returns-clause-memory : goal.returns-clause-memory
returns-clause-memory g c = λ k.
    let m = g.R.Failures.device.memory c.args.reader.now in
    let x = c.in_ok-footer.ensures.memory k in
    let footer = c.deref-2.result.now in
    let cheap : footer_cost c.deref.result.now ≤ c.args.limit = search rules in
    let small = subst (λ (xs : List ℕ). footer_cost xs ≤ c.args.limit) (c.deref.ensures.value ∙ sym c.deref-2.ensures.value) cheap in
    within_read c.args.limit m.place m.whole footer (x.0 ∙ ap Some (sym c.deref-2.ensures.value)) c.deserialize_footer.result c.in_ok-footer.footer.size x.1 small
    c.deserialize_footer.ensures.meaning c.deserialize_footer.ensures.only
