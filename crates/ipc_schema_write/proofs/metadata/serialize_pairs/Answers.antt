use Rattle.std.proofs.Common.{rules, ◌≡◌}
use Rattle.lower.specs.TypeViews.{pairs_of}
use Rattle.ipc_schema_write.specs.Meanings.{pairs_in}
use Rattle.ipc_schema_write.proofs.Pairs.{are_pairs, ascend_from}
use Rattle.ipc_schema_write.proofs.metadata.serialize_pairs.Goals as goal

pub returns-clause-ordered : goal.returns-clause-ordered
returns-clause-ordered c = ascend_from c.args.metadata.now.entries c.into_iter-key-iterator.ensures.into_iter_gives.5

pub returns-clause-means : goal.returns-clause-means
returns-clause-means c =
    let es = c.args.metadata.now.entries in
    let all : pairs_in c.loop-key.pairs.items ≡ pairs_of es = search rules in
    are_pairs c.loop-key.pairs.items (pairs_of es) (ascend_from es c.into_iter-key-iterator.ensures.into_iter_gives.5) all
