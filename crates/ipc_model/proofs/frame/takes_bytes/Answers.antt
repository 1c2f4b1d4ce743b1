use Rattle.ipc_model.proofs.Frames.{frame_shorter}
use Rattle.ipc_model.proofs.frame.takes_bytes.Goals as goal

pub returns : goal.returns
returns c = λ metadata rest h. frame_shorter c.args.bytes.now metadata rest h
