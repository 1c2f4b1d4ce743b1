use Rattle.ipc_stream_lemmas.proofs.Kept.{kept_record_law, kept_chunk_law}
use Rattle.ipc_stream_lemmas.proofs.laws.kept_records.Goals as goal

pub returns-clause-records : goal.returns-clause-records
returns-clause-records c = kept_record_law

pub returns-clause-chunks : goal.returns-clause-chunks
returns-clause-chunks c = kept_chunk_law
