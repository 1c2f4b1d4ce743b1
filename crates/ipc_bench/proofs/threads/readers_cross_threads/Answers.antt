-- The lemmas on arrays, readers and writers prove what `search` alone does not reach.
use Rattle.arrow2_ipc.proofs.Threads.{crosses}
use Rattle.ipc_bench.proofs.threads.readers_cross_threads.Goals as goal

pub crosses-requires-2-send-T : goal.crosses-requires-2-send-T
crosses-requires-2-send-T c κs = search crosses depth 60 fits 20000

pub crosses-requires-2-sync-T : goal.crosses-requires-2-sync-T
crosses-requires-2-sync-T c κs = search crosses depth 60 fits 20000

pub crosses-requires-3-send-T : goal.crosses-requires-3-send-T
crosses-requires-3-send-T c κs = search crosses depth 60 fits 20000

pub crosses-requires-3-sync-T : goal.crosses-requires-3-sync-T
crosses-requires-3-sync-T c κs = search crosses depth 60 fits 20000

pub crosses-requires-4-send-T : goal.crosses-requires-4-send-T
crosses-requires-4-send-T c κs = search crosses depth 60 fits 20000

pub crosses-requires-4-sync-T : goal.crosses-requires-4-sync-T
crosses-requires-4-sync-T c κs = search crosses depth 60 fits 20000

pub crosses-requires-6-send-T : goal.crosses-requires-6-send-T
crosses-requires-6-send-T c κs = search crosses depth 60 fits 20000

pub crosses-requires-6-sync-T : goal.crosses-requires-6-sync-T
crosses-requires-6-sync-T c κs = search crosses depth 60 fits 20000

pub crosses-requires-7-send-T : goal.crosses-requires-7-send-T
crosses-requires-7-send-T c κs = search crosses depth 60 fits 20000

pub crosses-requires-7-sync-T : goal.crosses-requires-7-sync-T
crosses-requires-7-sync-T c κs = search crosses depth 60 fits 20000
