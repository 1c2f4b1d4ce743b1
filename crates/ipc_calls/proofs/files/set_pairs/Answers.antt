use Rattle.std.proofs.Common.{subst}
use Rattle.lower.specs.TypeTrees.{Pairs}
use Rattle.ipc_file_write.specs.FileWriters.{seen}
use Rattle.ipc_file_write.specs.Api.{SetsPairs}
use Rattle.ipc_calls.proofs.files.set_pairs.Goals as goal

pub returns-clause-made : goal.returns-clause-made
returns-clause-made g c =
    subst (λ (ps : Pairs). SetsPairs g.W.Failures.device (seen c.args.writer.now) ps c.set_custom_metadata.result (seen c.set_custom_metadata.new.self)) c.in_ok-copy.ensures
    c.set_custom_metadata.ensures.sets
