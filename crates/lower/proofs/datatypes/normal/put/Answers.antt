use Rattle.std.proofs.Common.{◌∙◌, ap}
use Rattle.lower.specs.TypeViews.{pairs_of}
use Rattle.std.specs.Prelude.{string_bytes}
use Rattle.lower.specs.Normal.{with_pair}
use Rattle.lower.proofs.Maps.{inserted}
use Rattle.lower.proofs.datatypes.normal.put.Goals as goal

pub returns : goal.returns
returns c = ap pairs_of c.in_ok-insert.ensures.entries ∙ inserted c.args.pairs.now.entries c.in_ok-key.key c.args.value ∙ ap (λ k. with_pair k (string_bytes c.args.value) (pairs_of c.args.pairs.now.entries)) c.in_ok-key.ensures.ok
