use Rattle.std.proofs.Common.{rules}
use Rattle.ipc_readers.specs.Metadata.{version_at}
use Rattle.ipc_readers.proofs.read.stream.metadata.version_of.Goals as goal

pub returns-in-Ok-version-clause-version : goal.returns-in-Ok-version-clause-version
unfolding version_at
returns-in-Ok-version-clause-version c = search rules
