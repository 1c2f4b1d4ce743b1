use Rattle.ipc_programs.proofs.convert.copies.copy_file.Goals as goal

pub returns-in-Stream-clause-copies : goal.returns-in-Stream-clause-copies
returns-in-Stream-clause-copies g c = rw c.in-Stream.is c.opened_to_stream.ensures.copies

pub returns-in-Stream-clause-refused : goal.returns-in-Stream-clause-refused
returns-in-Stream-clause-refused g c = rw c.in-Stream.is c.opened_to_stream.ensures.refused

pub returns-in-File-clause-refused : goal.returns-in-File-clause-refused
returns-in-File-clause-refused g c = rw c.in-File.is c.opened_to_file.ensures.refused
