use Rattle.ipc_encode.proofs.ShortMetadata.{short_metadata_law}
use Rattle.ipc_encode.proofs.laws.metadata_of_batches_are_short.Goals as goal

pub returns : goal.returns
returns c = short_metadata_law
