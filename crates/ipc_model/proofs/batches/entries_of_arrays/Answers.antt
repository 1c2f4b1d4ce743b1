use Rattle.ipc_model.proofs.OfferCounts.{entry_count_law}
use Rattle.ipc_model.proofs.batches.entries_of_arrays.Goals as goal

pub returns : goal.returns
returns c = entry_count_law
