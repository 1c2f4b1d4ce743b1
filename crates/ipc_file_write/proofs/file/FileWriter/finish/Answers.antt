use Rattle.std.proofs.Common.{rules, ◌≡◌, Err, refl}
use Rattle.std.proofs.lemmas.Result.{err_from_is_err_and}
use Rattle.ipc_devices.proofs.Acts.{is_io}
use Rattle.ipc_write.specs.Writers.{fault_unless_started}
use Rattle.ipc_file_write.specs.FileWriters.{RefusesFinish, ending_bytes, seen}
use Rattle.ipc_file_write.proofs.FileStates.{finish_broken, finish_not_io, finished, reaches_end, refused_ending}
use Rattle.ipc_file_write.proofs.StartsAndEnds.{ending_broken, ending_sent, finish_failed, finish_refused, first_passed, first_refused, io_or_fails, or_fails}
use Rattle.ipc_file_write.proofs.file.FileWriter.finish.Goals as goal

pub returns-in_err-ending-clause-finishes : goal.returns-in_err-ending-clause-finishes
returns-in_err-ending-clause-finishes g c =
    let a = seen c.args.self.now in
    let fault = c.in_err-ending.field-0.0 in
    let only = c.in_err-ending.ensures.only in
    let p = err_from_is_err_and c.from_residual.result c.from_residual.ensures.1 in
    rw (p.1, p.2) (record {
      exact = finish_refused a fault (Err fault) refl c.in_err-ending.ensures.first c.args.self.now.writable only;
      causes = or_fails (RefusesFinish a) fault only;
      device = refused_ending g.W.Failures.device a fault (finish_not_io a fault only);
      bounds = tt;
      state = record { first = first_refused (fault_unless_started c.args.self.now.state) a _ fault (Err fault) refl c.in_err-ending.ensures.first refl; ok = tt };
      content = record { kept = λ k is_stream base cs h. h };
    })

pub returns-in_err-send_last-clause-finishes : goal.returns-in_err-send_last-clause-finishes
returns-in_err-send_last-clause-finishes g c =
    let a = seen c.args.self.now in
    let fault = c.in_err-send_last.field-0.0 in
    let may = c.in_ok-ending.ensures.ok in
    let sent = c.in_err-send_last.ensures in
    let io = is_io g.W.Failures.device fault sent.sends.only in
    let e : c.from_residual-in_err-send_last.result ≡ Err fault = search rules in
    rw e (record {
      exact = finish_failed a fault io;
      causes = io_or_fails (RefusesFinish a) fault io;
      device =
          ending_broken g.W.Failures.device a _ (ending_bytes c.in_ok-ending.ending) (record { order = refl; fields = refl; metadata = refl; chosen = refl; pairs = refl; size = refl })
          fault may.ends sent.failed sent.sends;
      bounds = tt;
      state = record { first = first_passed a _ _ may.was; ok = tt };
      content =
          finish_broken g.W.Failures.device a _ fault (ending_bytes c.in_ok-ending.ending) may.was
          sent.failed (record { order = refl; fields = refl; metadata = refl; ids = refl; pairs = refl; remembers = λ id. refl; dictionaries = refl; blocks = refl; size = refl }) sent.sends;
    })

pub returns-clause-finishes : goal.returns-clause-finishes
returns-clause-finishes g c =
    let a = seen c.args.self.now in
    let may = c.in_ok-ending.ensures.ok in
    record {
      exact = record { started = may.was; few = may.ends.writes.few };
      causes = tt;
      device =
          ending_sent g.W.Failures.device a _ (ending_bytes c.in_ok-ending.ending) (record { order = refl; fields = refl; metadata = refl; chosen = refl; pairs = refl; size = refl })
          may.ends c.in_ok-send_last.ensures.sends c.in_ok-send_last.ensures.flushed;
      bounds = reaches_end g.W.Failures.device a _ c.in_ok-ending.ending may c.in_ok-send_last.ensures.sends;
      state = record {
        first = first_passed a _ _ may.was;
        ok = record { was = may.was; is = refl; ids = refl; pairs = refl; dictionaries = refl; blocks = refl };
      };
      content =
          finished g.W.Failures.device a _ c.in_ok-ending.ending may refl
          (record { order = refl; fields = refl; metadata = refl; ids = refl; pairs = refl; remembers = λ id. refl; dictionaries = refl; blocks = refl; size = refl }) refl c.in_ok-send_last.ensures.sends;
    }
