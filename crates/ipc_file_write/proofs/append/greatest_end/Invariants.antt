use Rattle.std.proofs.Common.{◌≡◌, ◌-◌, ◌^◌, min, max, drop}
use Rattle.ipc_file_lemmas.specs.Appending.{HaveNegative, greatest_end}
use Rattle.ipc_file_write.proofs.append.greatest_end.Given as goal

-- The blocks that are left decide the rest: the greatest end, and whether a number is negative.
abbrev pub invariant-loop-block : goal.invariant-loop-block
invariant-loop-block l = record {
  ends : max l.end (min (2 ^ 64 - 1) (greatest_end (drop l.block-index l.blocks))) ≡ max l.from (min (2 ^ 64 - 1) (greatest_end l.blocks));
  left : HaveNegative l.blocks → HaveNegative (drop l.block-index l.blocks);
  all : HaveNegative (drop l.block-index l.blocks) → HaveNegative l.blocks;
}
