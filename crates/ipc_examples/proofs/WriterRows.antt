-- Each case is computed.
use Rattle.std.proofs.Common.{◌≡◌, refl, ap}
use Rattle.ipc_model.specs.WriterStates.{State, new_writer, started_writer, finished_writer, failed_writer, Writer}
use Rattle.ipc_examples.specs.WriterRows.{RunRows}

pub run_rows : RunRows
run_rows = record {
  whole = (refl, (refl, (refl, refl)));
  refused_between = (refl, (tt, (refl, refl)));
  broken_between = λ r. let e : ◌≡◌ {A = State} failed_writer started_writer = r.1.1.0 in absurd cc;
  broken = (refl, (refl, refl));
  broken_start = (refl, refl);
  broken_end = (refl, refl);
  write_before = λ r. let e : ◌≡◌ {A = State} new_writer started_writer = r.0 in absurd cc;
  end_before = λ r. let e : ◌≡◌ {A = State} new_writer started_writer = r.0 in absurd cc;
  second_start = λ r. let e : ◌≡◌ {A = State} started_writer new_writer = r.0 in absurd cc;
  second_end = λ r. let e : ◌≡◌ {A = State} finished_writer started_writer = r.0 in absurd cc;
  write_behind = λ r. let e : ◌≡◌ {A = State} finished_writer started_writer = r.0 in absurd cc;
  start_behind = λ r. let e : ◌≡◌ {A = State} failed_writer new_writer = r.0 in absurd cc;
  broken_before = λ r. let e : ◌≡◌ {A = State} new_writer started_writer = r.0 in absurd cc;
  broken_behind = λ r. let e : ◌≡◌ {A = State} finished_writer started_writer = r.0 in absurd cc;
  refused_anywhere = (tt, (tt, (tt, refl)));
  refused_start = λ r. let e : ◌≡◌ {A = State} new_writer started_writer = ap (λ (w : Writer). w.state) r.1 in absurd cc;
  one_taken = refl;
  none_refused = refl;
  none_broken = refl;
  in_order = refl;
}
