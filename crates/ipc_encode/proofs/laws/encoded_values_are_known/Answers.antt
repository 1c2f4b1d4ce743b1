use Rattle.ipc_encode.proofs.EncodedMeanings.{encoded_values_law}
use Rattle.ipc_encode.proofs.laws.encoded_values_are_known.Goals as goal

pub returns : goal.returns
returns c = encoded_values_law
