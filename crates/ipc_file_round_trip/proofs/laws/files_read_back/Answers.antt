use Rattle.ipc_file_round_trip.proofs.ReadBack.{batches_law, chosen_law, readable_stream_law, stream_law, whole_law, written_law}
use Rattle.ipc_file_round_trip.proofs.laws.files_read_back.Goals as goal

pub returns-clause-whole : goal.returns-clause-whole
returns-clause-whole c = whole_law

pub returns-clause-chosen : goal.returns-clause-chosen
returns-clause-chosen c = chosen_law

pub returns-clause-written : goal.returns-clause-written
returns-clause-written c = written_law

pub returns-clause-batches : goal.returns-clause-batches
returns-clause-batches c = batches_law

pub returns-clause-stream : goal.returns-clause-stream
returns-clause-stream c = record { means = stream_law; readable = readable_stream_law }
