use Rattle.ipc_file_lemmas.proofs.AppendRows.{negative_rows, place_rows}
use Rattle.ipc_file_lemmas.proofs.laws.places_to_go_on.Goals as goal

pub returns-clause-places : goal.returns-clause-places
returns-clause-places c = place_rows

pub returns-clause-negative : goal.returns-clause-negative
returns-clause-negative c = negative_rows
