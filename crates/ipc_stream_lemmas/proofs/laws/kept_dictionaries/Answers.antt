use Rattle.ipc_stream_lemmas.proofs.Kept.{offer_kept_law, kept_law, still_found_law}
use Rattle.ipc_stream_lemmas.proofs.laws.kept_dictionaries.Goals as goal

pub returns-clause-offered : goal.returns-clause-offered
returns-clause-offered c = offer_kept_law

pub returns-clause-kept : goal.returns-clause-kept
returns-clause-kept c = kept_law

pub returns-clause-found : goal.returns-clause-found
returns-clause-found c = still_found_law
