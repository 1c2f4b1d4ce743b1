use Rattle.std.proofs.Common.{refl}
use Rattle.ipc_write.proofs.Agreements.{fresh}
use Rattle.ipc_write.proofs.stream.writer.StreamWriter.new.Goals as goal

pub returns-clause-means : goal.returns-clause-means
returns-clause-means g c = fresh _ _ refl c.new-3.ensures.empty
