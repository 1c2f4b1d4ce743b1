use Rattle.ipc_reference.proofs.PartLists.{utf8_test}
use Rattle.ipc_reference.proofs.entries.is_text.Goals as goal

pub returns : goal.returns
returns c = utf8_test c.is_utf8.result c.args.bytes.now c.is_utf8.ensures
