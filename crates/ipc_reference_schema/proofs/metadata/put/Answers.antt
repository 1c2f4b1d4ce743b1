use Rattle.std.proofs.Common.{◌∙◌, ap}
use Rattle.std.specs.Prelude.{string_bytes}
use Rattle.lower.specs.Normal.{with_pair}
use Rattle.lower.specs.TypeViews.{pairs_of}
use Rattle.lower.proofs.Maps.{inserted}
use Rattle.ipc_reference_schema.proofs.metadata.put.Goals as goal

pub returns : goal.returns
returns c =
    let es = c.args.pairs.now.entries in
    ap pairs_of c.in_ok-insert.ensures.entries
    ∙ inserted es c.in_ok-key.key c.in_ok-value.value
    ∙ ap (λ k. with_pair k (string_bytes c.in_ok-value.value) (pairs_of es)) c.in_ok-key.ensures.ok
    ∙ ap (λ v. with_pair c.args.key.now v (pairs_of es)) c.in_ok-value.ensures.ok
