-- The lemmas on arrays, readers and writers prove what `search` alone does not reach.
use Rattle.arrow2_ipc.proofs.Threads.{crosses}
use Rattle.ipc_bench.proofs.threads.writers_cross_threads.Goals as goal

pub crosses-requires-send-T : goal.crosses-requires-send-T
crosses-requires-send-T c κs = search crosses depth 60 fits 20000

pub crosses-requires-sync-T : goal.crosses-requires-sync-T
crosses-requires-sync-T c κs = search crosses depth 60 fits 20000

pub crosses-requires-2-send-T : goal.crosses-requires-2-send-T
crosses-requires-2-send-T c κs = search crosses depth 60 fits 20000

pub crosses-requires-2-sync-T : goal.crosses-requires-2-sync-T
crosses-requires-2-sync-T c κs = search crosses depth 60 fits 20000

pub crosses-requires-3-send-T : goal.crosses-requires-3-send-T
crosses-requires-3-send-T c κs = search crosses depth 60 fits 20000

pub crosses-requires-3-sync-T : goal.crosses-requires-3-sync-T
crosses-requires-3-sync-T c κs = search crosses depth 60 fits 20000
