use Rattle.std.proofs.Common.{true≢false, sym, ◌∙◌}
use Rattle.lower.specs.TypeViews.{fields_view}
use Rattle.ipc_schema_write.specs.DefaultIds.{default_all}
use Rattle.ipc_schema_write.proofs.PlaceCounts.{few-many, few-refuses, many-more, many-refuse}
use Rattle.ipc_schema_write.proofs.defaults.writable_ipc_fields.Goals as goal

pub returns-then-not-has_few_places-clause-only : goal.returns-then-not-has_few_places-clause-only
returns-then-not-has_few_places-clause-only c =
    let fs = fields_view c.args.fields.now in
    λ es. many-refuse fs es (λ few. true≢false (sym (c.has_few_places.ensures.1 few) ∙ c.if-not-has_few_places.true))

pub returns-then-not-has_few_places-clause-many : goal.returns-then-not-has_few_places-clause-many
returns-then-not-has_few_places-clause-many c =
    many-more _ _ (λ few. true≢false (sym (c.has_few_places.ensures.1 few) ∙ c.if-not-has_few_places.true))

pub returns-clause-only : goal.returns-clause-only
returns-clause-only c =
    let fs = fields_view c.args.fields.now in
    few-refuses _ c.default_ipc_fields.result fs (default_all 0 fs) (c.has_few_places.ensures.0 c.if-not-has_few_places.false) c.default_ipc_fields.ensures.only

pub returns-clause-many : goal.returns-clause-many
returns-clause-many c =
    few-many _ c.default_ipc_fields.result (fields_view c.args.fields.now) (c.has_few_places.ensures.0 c.if-not-has_few_places.false) c.default_ipc_fields.ensures.only
