use Rattle.ipc_stream_lemmas.proofs.Blocks.{placed_record_law, placed_dictionary_law}
use Rattle.ipc_stream_lemmas.proofs.laws.placed_bodies.Goals as goal

pub returns-clause-records : goal.returns-clause-records
returns-clause-records c = placed_record_law

pub returns-clause-dictionaries : goal.returns-clause-dictionaries
returns-clause-dictionaries c = placed_dictionary_law
