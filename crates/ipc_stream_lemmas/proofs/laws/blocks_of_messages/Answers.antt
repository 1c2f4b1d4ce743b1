use Rattle.ipc_stream_lemmas.proofs.Blocks.{block_record_law, block_dictionary_law}
use Rattle.ipc_stream_lemmas.proofs.laws.blocks_of_messages.Goals as goal

pub returns-clause-records : goal.returns-clause-records
returns-clause-records c = block_record_law

pub returns-clause-dictionaries : goal.returns-clause-dictionaries
returns-clause-dictionaries c = block_dictionary_law
