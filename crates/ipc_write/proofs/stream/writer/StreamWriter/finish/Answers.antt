use Rattle.std.proofs.Common.{rules, ◌≡◌, Err, refl, pos, arith}
use Rattle.ipc_write.specs.Framing.{prefix_bytes}
use Rattle.ipc_write.specs.Writers.{fault_unless_started, seen}
use Rattle.ipc_write.proofs.Agreements.{begun_mark, sent_mark}
use Rattle.ipc_write.proofs.Messages.{length_prefix}
use Rattle.ipc_write.proofs.Refusals.{first_passed}
use Rattle.ipc_write.proofs.WriterSteps.{failed_step, io_finish, refused_step, state_finish, state_first, state_not_io}
use Rattle.ipc_write.proofs.stream.writer.StreamWriter.finish.Goals as goal

pub returns-in_err-check_started : goal.returns-in_err-check_started
returns-in_err-check_started g c =
    let fault = c.in_err-check_started.field-0.0 in
    let e : c.from_residual.result ≡ Err fault = search rules in
    let own = fault_unless_started c.args.self.now.state in
    rw e (record {
      causes = state_finish c.args.self.now.state fault c.in_err-check_started.ensures.only;
      device = refused_step _ _ _ _ _ _ (record { device = refl; state = refl; types = refl; ids = refl; dictionaries = λ id. refl }) refl
          (state_not_io own fault c.in_err-check_started.ensures.only);
      flushed = tt;
      state = record { first = state_first own (seen c.args.self.now) _ fault c.in_err-check_started.ensures.only refl; ok = tt };
      content = record { kept = λ k base head chunks h. h };
    })

pub returns-in-Ok : goal.returns-in-Ok
returns-in-Ok g c =
    let was = c.in_ok-check_started.ensures.ok in
    let sent = c.in-Ok.ensures.sends in
    record {
      causes = tt;
      device = record { monotone = sent.monotone; order = refl; io = tt; answered = tt; refused = tt; done = sent.done; all_sent = sent.memory; some_sent = sent.part; names = sent.names };
      flushed = c.in-Ok.ensures.flushed;
      state = record { first = first_passed (seen c.args.self.now) _ _ was; ok = (was, refl) };
      content = sent_mark _ _ _ was refl sent.memory;
    }

pub returns-in-Err : goal.returns-in-Err
returns-in-Err g c =
    let was = c.in_ok-check_started.ensures.ok in
    let sent = c.in-Err.ensures.sends in
    record {
      causes = io_finish g.W.Failures.device c.args.self.now.state c.in-Err.fault sent.only;
      device = failed_step {X = Unit {0}} _ _ _ _ (prefix_bytes (pos 0)) 8 (omega (arith, length_prefix (pos 0))) sent refl refl;
      flushed = tt;
      state = record { first = first_passed (seen c.args.self.now) _ _ was; ok = tt };
      content = begun_mark _ _ _ was refl sent.part;
    }
