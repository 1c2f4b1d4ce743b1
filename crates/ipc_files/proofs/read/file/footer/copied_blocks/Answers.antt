use Rattle.std.proofs.Common.{arith}
use Rattle.std.proofs.lemmas.Grind.{common_steps}
use Rattle.std.proofs.lemmas.List.{take_more}
use Rattle.std.proofs.lemmas.Option.{slice_get_within, get_or_from_slice_get}
use Rattle.ipc_files.proofs.read.file.footer.copied_blocks.Goals as goal

pub loop-i-preserved : goal.loop-i-preserved
loop-i-preserved c =
    let blocks = c.args.blocks.now in
    let i = c.loop-i.i in
    let here = get_or_from_slice_get blocks i c.get.result c.get.result c.get.ensures in
    let more = take_more blocks i c.get.result (slice_get_within blocks i c.get.result c.get.ensures) in
    grind (arith, common_steps)
