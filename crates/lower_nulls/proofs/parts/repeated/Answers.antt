use Rattle.std.proofs.Common.{vec_len}
use Rattle.lower_nulls.proofs.Replicas.{fills}
use Rattle.lower_nulls.proofs.parts.repeated.Goals as goal

pub returns : goal.returns
returns g c =
    fills c.in_ok-all.all.items c.resize.new.self.items c.args.len (vec_len c.in_ok-all.all) c.args.item c.in_ok-resize.ensures.items c.in_ok-all.ensures.items c.in_ok-all.ensures.len
