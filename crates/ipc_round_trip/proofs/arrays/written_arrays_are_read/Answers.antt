use Rattle.ipc_round_trip.proofs.WrittenArrays.{chosen_arrays_law, read_arrays_law, same_arrays_law, written_array_law, written_arrays_law}
use Rattle.ipc_round_trip.proofs.arrays.written_arrays_are_read.Goals as goal

pub returns-clause-array : goal.returns-clause-array
returns-clause-array c = written_array_law

pub returns-clause-arrays : goal.returns-clause-arrays
returns-clause-arrays c = written_arrays_law

pub returns-clause-read : goal.returns-clause-read
returns-clause-read c = read_arrays_law

pub returns-clause-chosen : goal.returns-clause-chosen
returns-clause-chosen c = chosen_arrays_law

pub returns-clause-same : goal.returns-clause-same
returns-clause-same c = same_arrays_law
