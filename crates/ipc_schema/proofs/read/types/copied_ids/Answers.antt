use Rattle.std.proofs.Common.{pos, arith}
use Rattle.std.proofs.lemmas.Grind.{common_steps}
use Rattle.std.proofs.lemmas.List.{take_more}
use Rattle.std.proofs.lemmas.Option.{slice_get_within, get_or_from_slice_get}
use Rattle.ipc_schema.proofs.read.types.copied_ids.Goals as goal

pub loop-i-preserved : goal.loop-i-preserved
loop-i-preserved c =
    let ids = c.args.ids.now in
    let i = c.loop-i.i in
    let here = get_or_from_slice_get ids i c.get.result (pos 0) c.get.ensures in
    let more = take_more ids i (pos 0) (slice_get_within ids i c.get.result c.get.ensures) in
    grind (arith, common_steps)
