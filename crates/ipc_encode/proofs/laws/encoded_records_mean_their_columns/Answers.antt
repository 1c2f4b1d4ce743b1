use Rattle.ipc_encode.proofs.EncodedMeanings.{encoded_record_law}
use Rattle.ipc_encode.proofs.laws.encoded_records_mean_their_columns.Goals as goal

pub returns : goal.returns
returns c = encoded_record_law
