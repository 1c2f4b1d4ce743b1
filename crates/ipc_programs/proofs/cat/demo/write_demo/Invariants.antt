use Rattle.ipc_write.specs.Writers.{seen}
use Rattle.ipc_programs.proofs.Demos.{IsDemoWriter}
use Rattle.ipc_programs.proofs.cat.demo.write_demo.Given as goal

-- The writer was started, and accepts the chunk.
abbrev pub invariant-loop : goal.invariant-loop
invariant-loop g l = IsDemoWriter (seen l.writer)
