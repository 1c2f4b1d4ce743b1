use Rattle.std.proofs.Common.{[], ◌∙◌, refl, Ok, Err, Some, None, inl}
use Rattle.ipc_devices.specs.Gives.{going}
use Rattle.ipc_readers.proofs.Steps.{next_ahead}
use Rattle.ipc_readers.specs.Streams.{NextGave, request_of, begun_of, device_of, known_of}
use Rattle.ipc_readers.proofs.read.stream.next.StreamReaderIterator.next.Goals as goal

pub returns-in-Ok-Some-clause-steps : goal.returns-in-Ok-Some-clause-steps
returns-in-Ok-Some-clause-steps g c =
    let old = c.args.self.now in
    let new = c.read_next.new.self in
    let h = request_of old in
    let gave : NextGave g.R.Reads.gives h (known_of old) (begun_of old) (device_of old) (Ok (Some c.in-Ok-Some.state)) (known_of new) (begun_of new) (device_of new) = rw c.in-Ok-Some.field-0-is at c.in-Ok-Some.ensures.gives in
    record {
      exact = λ k _. next_ahead g.R.Reads.gives g.R.Failures.device g.met.R.Reads.laws.ahead k h (known_of old) (known_of new) (begun_of old) (begun_of new) (Ok (Some c.in-Ok-Some.state)) (device_of old) (device_of new) gave;
      causes = tt;
      answered = tt;
      gave = λ _. gave;
      held = c.in-Ok-Some.ensures.held;
      values = rw c.in-Ok-Some.field-0-is at c.in-Ok-Some.ensures.values;
      state = record {
        described = c.in-Ok-Some.ensures.described;
        projected = c.in-Ok-Some.ensures.projected;
        over = λ e. absurd (cc (e, c.if-self.false));
        finished = λ _. c.in-Ok-Some.ensures.finished ∙ c.if-self.false;
      };
    }

pub returns-in-Ok-None-clause-steps : goal.returns-in-Ok-None-clause-steps
returns-in-Ok-None-clause-steps g c =
    let old = c.args.self.now in
    let new = c.read_next.new.self in
    let h = request_of old in
    let gave : NextGave g.R.Reads.gives h (known_of old) (begun_of old) (device_of old) (Ok None) (known_of new) (begun_of new) (device_of new) = rw c.in-Ok-None.field-0-is at c.in-Ok-None.ensures.gives in
    record {
      exact = λ k _. next_ahead g.R.Reads.gives g.R.Failures.device g.met.R.Reads.laws.ahead k h (known_of old) (known_of new) (begun_of old) (begun_of new) (Ok None) (device_of old) (device_of new) gave;
      causes = tt;
      answered = tt;
      gave = λ _. gave;
      held = c.in-Ok-None.ensures.held;
      values = tt;
      state = record {
        described = c.in-Ok-None.ensures.described;
        projected = c.in-Ok-None.ensures.projected;
        over = λ e. absurd (cc (e, c.if-self.false));
        finished = λ _. refl;
      };
    }

pub returns-in-Err-clause-steps : goal.returns-in-Err-clause-steps
returns-in-Err-clause-steps g c =
    let old = c.args.self.now in
    let new = c.read_next.new.self in
    let h = request_of old in
    let gave : NextGave g.R.Reads.gives h (known_of old) (begun_of old) (device_of old) (Err c.in-Err.e) (known_of new) (begun_of new) (device_of new) = c.in-Err.ensures.gives in
    record {
      exact = λ k _. next_ahead g.R.Reads.gives g.R.Failures.device g.met.R.Reads.laws.ahead k h (known_of old) (known_of new) (begun_of old) (begun_of new) (Err c.in-Err.e) (device_of old) (device_of new) gave;
      causes = c.in-Err.ensures.only;
      answered = c.in-Err.ensures.answered;
      gave = λ _. gave;
      held = c.in-Err.ensures.held;
      values = tt;
      state = record {
        described = c.in-Err.ensures.described;
        projected = c.in-Err.ensures.projected;
        over = λ e. absurd (cc (e, c.if-self.false));
        finished = λ _. refl;
      };
    }

pub returns-then-self-clause-steps : goal.returns-then-self-clause-steps
returns-then-self-clause-steps g c =
    let old = c.args.self.now in
    record {
      exact = λ k e. absurd (cc (e, c.if-self.true));
      causes = tt;
      answered = tt;
      gave = λ e. absurd (cc (e, c.if-self.true));
      held = record { bytes = []; stop = going; gave = g.met.R.Reads.laws.nothing (device_of old); each = λ id. inl refl };
      values = tt;
      state = record {
        described = refl;
        projected = refl;
        over = λ e. (refl, e, refl);
        finished = λ e. absurd (cc (e, c.if-self.true));
      };
    }
