use Rattle.std.proofs.Common.{◌≡◌, All, take}
use Rattle.ipc_tables.proofs.Kept.{BlockFits}
use Rattle.ipc_footer_write.proofs.footer.copied_blocks.Given as goal

abbrev pub invariant-loop-block : goal.invariant-loop-block
invariant-loop-block l = record { same : l.copy.items ≡ take l.block-index l.blocks; fit : All BlockFits l.copy.items }
