use Rattle.std.proofs.Common.{sym, ◌∙◌}
use Rattle.lower.specs.TypeViews.{fields_view}
use Rattle.ipc_base.specs.IdTrees.{all_ids_view}
use Rattle.ipc_base.proofs.FitTests.{all_test}
use Rattle.ipc_base.proofs.ipc.fits.Goals as goal

pub returns : goal.returns
returns c =
    let same = all_test (fields_view c.args.fields.now) (all_ids_view c.args.ipc_fields.now) in
    (λ h. same.0 (sym c.fits_all.ensures ∙ h), λ h. c.fits_all.ensures ∙ same.1 h)
