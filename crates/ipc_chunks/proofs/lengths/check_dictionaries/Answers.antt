use Rattle.ipc_chunks.proofs.lengths.check_dictionaries.Goals as goal

pub returns-then-are_flat : goal.returns-then-are_flat
returns-then-are_flat c = c.are_flat.ensures c.if-are_flat.true
