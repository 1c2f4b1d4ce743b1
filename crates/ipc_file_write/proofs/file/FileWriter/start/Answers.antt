use Rattle.std.proofs.Common.{rules, ◌≡◌, ℕ, List, Err, length, refl, subst, sym}
use Rattle.std.proofs.lemmas.Result.{err_from_is_err_and}
use Rattle.ipc_devices.proofs.Acts.{is_io}
use Rattle.ipc_write.specs.Writers.{fault_unless_new}
use Rattle.ipc_file_write.specs.FileWriters.{IsBeginning, RefusesStart, seen}
use Rattle.ipc_file_write.proofs.FileStates.{refused_beginning, start_broken, start_not_io, started}
use Rattle.ipc_file_write.proofs.StartsAndEnds.{beginning_broken, beginning_sent, first_new, first_refused, io_or_fails, or_fails, start_failed, start_refused, start_taken}
use Rattle.ipc_file_write.proofs.file.FileWriter.start.Goals as goal

pub returns-in_err-ipc_fields-clause-starts : goal.returns-in_err-ipc_fields-clause-starts
returns-in_err-ipc_fields-clause-starts g c =
    let a = seen c.args.self.now in
    let fault = c.in_err-ipc_fields.field-0.0 in
    let only = c.in_err-ipc_fields.ensures.only in
    let p = err_from_is_err_and c.from_residual.result c.from_residual.ensures.1 in
    rw (p.1, p.2) (record {
      exact = start_refused a fault only;
      causes = or_fails (RefusesStart a) fault only;
      device = refused_beginning g.W.Failures.device a fault (start_not_io a fault only);
      state = record { first = first_refused (fault_unless_new c.args.self.now.state) a _ fault (Err fault) refl c.in_err-ipc_fields.ensures.first refl; ok = tt };
      content = record { kept = λ k is_stream base cs h. h };
    })

pub returns-in_err-send-clause-starts : goal.returns-in_err-send-clause-starts
returns-in_err-send-clause-starts g c =
    let a = seen c.args.self.now in
    let fault = c.in_err-send.field-0.0 in
    let may = c.in_ok-ipc_fields.ensures.ok in
    let sent = c.in_err-send.ensures in
    let io = is_io g.W.Failures.device fault sent.sends.only in
    let bytes_are : c.deref.result.now ≡ c.in_ok-ipc_fields.field-0.bytes.items = search rules in
    let begins : IsBeginning a c.deref.result.now = subst (λ (xs : List ℕ). IsBeginning a xs) (sym bytes_are) may.begins in
    let e : c.from_residual-in_err-send.result ≡ Err fault = search rules in
    rw e (record {
      exact = start_failed a fault io;
      causes = io_or_fails (RefusesStart a) fault io;
      device =
          beginning_broken g.W.Failures.device a _ c.deref.result.now (record { order = refl; fields = refl; metadata = refl; chosen = refl; pairs = refl; size = refl })
          fault begins sent.failed sent.sends;
      state = record { first = first_new a _ _ may.was; ok = tt };
      content =
          start_broken g.W.Failures.device a _ fault c.deref.result.now may.was
          sent.failed (record { order = refl; fields = refl; metadata = refl; ids = refl; pairs = refl; remembers = λ id. refl; dictionaries = refl; blocks = refl; size = refl }) sent.sends;
    })

pub returns-clause-starts : goal.returns-clause-starts
returns-clause-starts g c =
    let a = seen c.args.self.now in
    let may = c.in_ok-ipc_fields.ensures.ok in
    let bytes_are : c.deref.result.now ≡ c.in_ok-ipc_fields.field-0.bytes.items = search rules in
    let begins : IsBeginning a c.deref.result.now = subst (λ (xs : List ℕ). IsBeginning a xs) (sym bytes_are) may.begins in
    let place : c.len.result ≡ length c.deref.result.now = search rules in
    record {
      exact = start_taken a c.in_ok-ipc_fields.field-0 may;
      causes = tt;
      device =
          beginning_sent g.W.Failures.device a _ c.deref.result.now (record { order = refl; fields = refl; metadata = refl; chosen = refl; pairs = refl; size = refl })
          begins place c.in_ok-send.ensures.sends;
      state = record {
        first = first_new a _ _ may.was;
        ok = record { was = may.was; is = refl; ids = may.ids; writable = may.writable; light = may.light; pairs = refl; remembers = λ id. refl; dictionaries = refl; blocks = refl };
      };
      content =
          started g.W.Failures.device a _ c.in_ok-ipc_fields.field-0 c.deref.result.now may bytes_are
          refl may.ids refl refl refl refl refl refl refl place c.in_ok-send.ensures.sends;
    }
