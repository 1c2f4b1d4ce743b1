-- What lists of calls leave.
use Rattle.std.proofs.Common.{[], ◌∷◌, refl, sym, ap}
use Rattle.ipc_model.specs.Writers.{Call, start_call, write_call, finish_call}
use Rattle.ipc_model.specs.WriterStates.{State, new_writer, started_writer, finished_writer, failed_writer, is_taken, is_refused, is_broken, MaySend, Writer, writer_after, IsClosed, ClosedLaw, KeepLaw}

-- No call of a closed writer may reach the device.
none_open : (call : Call) (s : State) → IsClosed s → MaySend call s → ⊥
none_open start_call new_writer h e = h
none_open start_call started_writer h e = h
none_open start_call finished_writer h e = absurd cc
none_open start_call failed_writer h e = absurd cc
none_open (write_call c) new_writer h e = h
none_open (write_call c) started_writer h e = h
none_open (write_call c) finished_writer h e = absurd cc
none_open (write_call c) failed_writer h e = absurd cc
none_open finish_call new_writer h e = h
none_open finish_call started_writer h e = h
none_open finish_call finished_writer h e = absurd cc
none_open finish_call failed_writer h e = absurd cc

pub closed_law : ClosedLaw
closed_law w v [] h run = record { writer = sym run; none_taken = refl }
closed_law w v ((call, is_taken) ∷ rest) h run = absurd (none_open call w.state h run.0)
closed_law w v ((call, is_refused) ∷ rest) h run =
    let later = closed_law w v rest h run.1 in record { writer = later.writer; none_taken = later.none_taken }
closed_law w v ((call, is_broken) ∷ rest) h run = absurd (none_open call w.state h run.0)

pub keep_law : KeepLaw
keep_law w v [] run = record { order = ap (λ (u : Writer). u.order) (sym run); pairs = ap (λ (u : Writer). u.pairs) (sym run) }
keep_law w v ((call, o) ∷ rest) run =
    let later = keep_law (writer_after call o w) v rest run.1 in record { order = later.order; pairs = later.pairs }
