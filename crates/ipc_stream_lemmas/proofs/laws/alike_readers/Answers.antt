use Rattle.ipc_stream_lemmas.proofs.Agreeing.{alike_record_law}
use Rattle.ipc_stream_lemmas.proofs.Readers.{alike_dictionary_law, alike_stream_law}
use Rattle.ipc_stream_lemmas.proofs.laws.alike_readers.Goals as goal

pub returns-clause-records : goal.returns-clause-records
returns-clause-records c = alike_record_law

pub returns-clause-dictionaries : goal.returns-clause-dictionaries
returns-clause-dictionaries c = alike_dictionary_law

pub returns-clause-streams : goal.returns-clause-streams
returns-clause-streams c = alike_stream_law
