use Rattle.std.proofs.Common.{rules, ap, ◌∙◌, zero-add}
use Rattle.lower.specs.TypeViews.{fields_view}
use Rattle.ipc_base.specs.Fitting.{all_fit}
use Rattle.ipc_base.specs.IdTrees.{all_ids_view}
use Rattle.ipc_base.proofs.FitTests.{all_test}
use Rattle.ipc_schema_write.proofs.DefaultsFit.{all_fit-default, count-fields}
use Rattle.ipc_schema_write.proofs.defaults.default_ipc_fields.Goals as goal

pub returns-in_err-ids-clause-only : goal.returns-in_err-ids-clause-only
returns-in_err-ids-clause-only c =
    let only = rw zero-add at c.in_err-ids.ensures.only in
    rw (count-fields (fields_view c.args.fields.now)) (search rules)

pub returns-clause-fit : goal.returns-clause-fit
returns-clause-fit c =
    let fields = fields_view c.args.fields.now in
    (all_test fields (all_ids_view c.in_ok-ids.ids.items)).0 (ap (all_fit fields) c.in_ok-ids.ensures.ids ∙ all_fit-default 0 fields)
