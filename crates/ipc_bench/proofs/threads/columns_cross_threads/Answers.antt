-- The lemmas on arrays, readers and writers prove what `search` alone does not reach.
use Rattle.arrow2_ipc.proofs.Threads.{crosses}
use Rattle.ipc_bench.proofs.threads.columns_cross_threads.Goals as goal

pub crosses-requires-8-send-T : goal.crosses-requires-8-send-T
crosses-requires-8-send-T c κs = search crosses depth 60 fits 20000

pub crosses-requires-8-sync-T : goal.crosses-requires-8-sync-T
crosses-requires-8-sync-T c κs = search crosses depth 60 fits 20000

pub crosses-requires-9-send-T : goal.crosses-requires-9-send-T
crosses-requires-9-send-T c κs = search crosses depth 60 fits 20000

pub crosses-requires-9-sync-T : goal.crosses-requires-9-sync-T
crosses-requires-9-sync-T c κs = search crosses depth 60 fits 20000

pub crosses-requires-10-send-T : goal.crosses-requires-10-send-T
crosses-requires-10-send-T c κs = search crosses depth 60 fits 20000

pub crosses-requires-10-sync-T : goal.crosses-requires-10-sync-T
crosses-requires-10-sync-T c κs = search crosses depth 60 fits 20000

pub crosses-requires-11-send-T : goal.crosses-requires-11-send-T
crosses-requires-11-send-T c κs = search crosses depth 60 fits 20000

pub crosses-requires-11-sync-T : goal.crosses-requires-11-sync-T
crosses-requires-11-sync-T c κs = search crosses depth 60 fits 20000

pub crosses-requires-12-send-T : goal.crosses-requires-12-send-T
crosses-requires-12-send-T c κs = search crosses depth 60 fits 20000

pub crosses-requires-12-sync-T : goal.crosses-requires-12-sync-T
crosses-requires-12-sync-T c κs = search crosses depth 60 fits 20000
