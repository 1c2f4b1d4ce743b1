use Rattle.std.proofs.Common.{◌≡◌, ◌∙◌, ap, sym}
use Rattle.lower.specs.TypeViews.{fields_view, pairs_of}
use Rattle.lower.specs.Normal.{norm_fields}
use Rattle.lower.proofs.Laws.{norm_fields-norm_fields}
use Rattle.lower.proofs.datatypes.schema.Schema.normal.Goals as goal

pub returns-clause-stable : goal.returns-clause-stable
returns-clause-stable c =
    let fields = fields_view c.in_ok-fields.fields.items in
    let source = fields_view c.args.self.now.fields.items in
    let is : fields ≡ norm_fields source = c.in_ok-fields.ensures in
    let same : norm_fields fields ≡ fields = ap norm_fields is ∙ norm_fields-norm_fields source ∙ sym is in
    λ i. (same i, pairs_of c.in_ok-metadata.metadata.entries)
