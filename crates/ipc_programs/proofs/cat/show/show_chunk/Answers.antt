use Rattle.ipc_programs.proofs.PrintSteps.{all_prints, nothing_printed}
use Rattle.ipc_programs.proofs.cat.show.show_chunk.Goals as goal

pub returns-in_ok-send_chunk-in-Chunk-clause-prints : goal.returns-in_ok-send_chunk-in-Chunk-clause-prints
returns-in_ok-send_chunk-in-Chunk-clause-prints g c = all_prints c.in_ok-send_chunk-in-Chunk.ensures.all

pub returns-in-End-clause-prints : goal.returns-in-End-clause-prints
returns-in-End-clause-prints g c = nothing_printed _
