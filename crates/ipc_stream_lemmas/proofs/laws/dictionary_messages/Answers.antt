use Rattle.ipc_stream_lemmas.proofs.Messages.{written_dictionary}
use Rattle.ipc_stream_lemmas.proofs.laws.dictionary_messages.Goals as goal

pub returns : goal.returns
returns c = written_dictionary
