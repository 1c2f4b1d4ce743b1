use Rattle.std.proofs.Common.{◌≡◌, take}
use Rattle.ipc_files.proofs.read.file.footer.copied_blocks.Given as goal

abbrev pub invariant-loop-i : goal.invariant-loop-i
invariant-loop-i l = l.copy.items ≡ take l.i l.blocks
