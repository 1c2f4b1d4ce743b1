-- Each case is computed.
use Rattle.std.proofs.Common.{◌≡◌, refl}
use Rattle.ipc_model.specs.WriterStates.{State, new_writer, started_writer}
use Rattle.ipc_calls.specs.CallRows.{BegunRowsLaw, PairRowsLaw}

pub head_rows : BegunRowsLaw
head_rows o s t i j h chunk ids e = record {
  refused_first = refl;
  second_refused = refl;
  none_started = refl;
  others_keep = refl;
  second_start = λ r. let other : ◌≡◌ {A = State} started_writer new_writer = r.1.0 in absurd cc;
  other_ids = refl;
}

pub pair_rows : PairRowsLaw
pair_rows o p q ps chunk ids e = record {
  set_twice = refl;
  second_refused = refl;
  behind_the_end = refl;
  none_set = refl;
  stays_new = refl;
  no_start = λ r. let other : ◌≡◌ {A = State} new_writer started_writer = r.0 in absurd cc;
  other_ids = refl;
}
