use Rattle.ipc_stream_lemmas.proofs.Fitting.{filled_law, fit_law}
use Rattle.ipc_stream_lemmas.proofs.laws.places_of_chunks.Goals as goal

pub returns-clause-brought : goal.returns-clause-brought
returns-clause-brought c = filled_law

pub returns-clause-fit : goal.returns-clause-fit
returns-clause-fit c = fit_law
