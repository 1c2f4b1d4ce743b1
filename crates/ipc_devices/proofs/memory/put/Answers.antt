use Rattle.ipc_devices.proofs.Places.{put_is}
use Rattle.ipc_devices.proofs.memory.put.Goals as goal
use Rattle.std.proofs.Common.{rules}

pub returns-clause-ok : goal.returns-clause-ok
returns-clause-ok c = put_is c.args.bytes.now.items c.fill_to.new.bytes.items c.overwrite.new.bytes c.args.buf.now c.fill_to.new.bytes.len c.args.place (search rules) (search rules) (search rules)
