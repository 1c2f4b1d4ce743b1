use Rattle.ipc_model.proofs.Frames.{frame_append}
use Rattle.ipc_model.proofs.frame.keeps_message.Goals as goal

pub returns : goal.returns
returns c = λ metadata rest h. frame_append c.args.bytes.now metadata rest c.args.added.now h
