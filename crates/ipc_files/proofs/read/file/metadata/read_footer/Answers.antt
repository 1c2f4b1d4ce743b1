use Rattle.std.proofs.Common.{rules, ◌≡◌, ◌∙◌, inl, inr, ℕ, List, length, take, None, Ok, Err, sym, ap, subst, arith}
use Rattle.ipc_model.specs.Files.{last}
use Rattle.ipc_devices.proofs.Claims.{both_claimed, claims_through}
use Rattle.ipc_devices.proofs.Acts.{device_after, device_failed, device_read, device_refused, device_sought}
use Rattle.ipc_devices.specs.Acts.{ReadsDevice}
use Rattle.ipc_devices.specs.Device.{Memory}
use Rattle.ipc_devices.specs.Faults.{OwnFault}
use Rattle.ipc_devices.specs.declared.fault.Fault.TheVariants.{Io}
use Rattle.ipc_files.specs.Files.{HeadReason, TailReason, footer_bytes, footer_length}
use Rattle.ipc_files.specs.declared.read.file.metadata.FileFooter.{FileFooter}
use Rattle.ipc_files.proofs.Openings.{from-place, refused-head, refused-tail, refused-footer, read-footer}
use Rattle.ipc_files.proofs.Reasons.{footer_taken}
use Rattle.ipc_files.proofs.read.file.metadata.read_footer.Goals as goal

pub returns-in_err-read_head-clause-memory : goal.returns-in_err-read_head-clause-memory
returns-in_err-read_head-clause-memory g c = λ k.
    let m = g.R.Failures.device.memory c.args.reader.now in
    let e = c.in_err-read_head.field-0.0 in
    let is : c.from_residual-in_err-read_head.result ≡ Err e = search rules in
    let stays = c.in_ok-start.ensures.stays k in
    let none = refused-head m (g.R.Failures.device.memory c.position.new.self) e stays (c.in_err-read_head.ensures.memory k) in
    let why = subst (λ (xs : List ℕ). OwnFault e (HeadReason xs e)) (from-place m (g.R.Failures.device.memory c.position.new.self) stays) (c.in_err-read_head.ensures.reason k) in
    rw is (both_claimed e (footer_bytes m.place m.whole ≡ None) _ none (claims_through e _ _ inl why))

pub returns-in_err-end-clause-memory : goal.returns-in_err-end-clause-memory
returns-in_err-end-clause-memory g c = λ k.
    let m = g.R.Failures.device.memory c.args.reader.now in
    let e = c.in_err-end.field-0.0 in
    let is : c.from_residual-in_err-end.result ≡ Err e = search rules in
    let still = g.met.R.Seeks.known_still k in
    let same = c.in_ok-read_head.ensures.device.whole still ∙ ap (λ (m : Memory). m.whole) (c.in_ok-start.ensures.stays k) in
    let none = refused-tail m.place m.whole _ e same (c.in_err-end.ensures.memory k) in
    let why = subst (λ (xs : List ℕ). OwnFault e (TailReason xs e)) same (c.in_err-end.ensures.reason k) in
    rw is (both_claimed e (footer_bytes m.place m.whole ≡ None) _ none (claims_through e _ _ inr why))

pub returns-in_err-bytes-clause-memory : goal.returns-in_err-bytes-clause-memory
returns-in_err-bytes-clause-memory g c = λ k.
    let m = g.R.Failures.device.memory c.args.reader.now in
    let e = c.in_err-bytes.field-0.0 in
    let is : c.from_residual-in_err-bytes.result ≡ Err e = search rules in
    let still = g.met.R.Seeks.known_still k in
    let t = c.in_ok-end.ensures.memory k in
    let goes = c.in_ok-seek_to.ensures.memory k in
    let before = c.in_ok-read_head.ensures.device.whole still ∙ ap (λ (m : Memory). m.whole) (c.in_ok-start.ensures.stays k) in
    let same = goes.whole ∙ c.in_ok-end.ensures.device.whole still ∙ before in
    let long = ap length before in
    rw is (claims_through e _ _ (λ no. absurd no)
    (refused-footer m.whole (g.R.Failures.device.memory c.seek_to.new.self) c.in_ok-end.end c.in_ok-end.length e same goes.place
    (t.0 ∙ long) (omega (arith, t.1.0, long)) (c.in_err-bytes.ensures.memory k)))

pub returns-clause-memory : goal.returns-clause-memory
returns-clause-memory g c = λ k.
    let m = g.R.Failures.device.memory c.args.reader.now in
    let still = g.met.R.Seeks.known_still k in
    let t = c.in_ok-end.ensures.memory k in
    let goes = c.in_ok-seek_to.ensures.memory k in
    let before = c.in_ok-read_head.ensures.device.whole still ∙ ap (λ (m : Memory). m.whole) (c.in_ok-start.ensures.stays k) in
    let same = goes.whole ∙ c.in_ok-end.ensures.device.whole still ∙ before in
    let long = ap length before in (
      read-footer m.place m.whole c.in_ok-bytes.bytes.items (g.R.Failures.device.memory c.seek_to.new.self) c.in_ok-end.end c.in_ok-end.length
          (sym (ap (λ (xs : List ℕ). take 6 xs) (from-place m (g.R.Failures.device.memory c.position.new.self) (c.in_ok-start.ensures.stays k))) ∙ (c.in_ok-read_head.ensures.memory k).0)
          same goes.place (t.0 ∙ long) (omega (arith, t.1.0, long)) (ap (λ (xs : List ℕ). footer_length (last 10 xs)) (sym before) ∙ t.1.1)
          (c.in_ok-bytes.ensures.memory k).1,
      omega (arith, c.saturating_sub.ensures, c.in_ok-start.ensures.place k, t.0, long),
    )

pub returns-in_err-bytes-clause-device : goal.returns-in_err-bytes-clause-device
returns-in_err-bytes-clause-device g c =
    let d = g.R.Failures.device in
    let m = d.memory c.args.reader.now in
    let e = c.in_err-bytes.field-0.0 in
    let is : c.from_residual-in_err-bytes.result ≡ Err e = search rules in
    let w = c.in_err-bytes.ensures in
    let read : ReadsDevice {X = FileFooter} d c.seek_to.new.self (Err e) c.read_bytes.new.reader = device_read d c.seek_to.new.self (Err e) c.read_bytes.new.reader w.monotone w.failed w.told w.whole w.names w.answered in
    let all : ReadsDevice {X = FileFooter} d c.args.reader.now (Err e) c.read_bytes.new.reader =
    device_sought d c.args.reader.now c.position.new.self (Err e) c.read_bytes.new.reader c.in_ok-start.ensures.monotone c.in_ok-start.ensures.done c.in_ok-start.ensures.whole c.in_ok-start.ensures.names
    (device_after d c.position.new.self c.read_head.new.reader _ (Err e) c.read_bytes.new.reader c.in_ok-read_head.ensures.device
    (device_after d c.read_head.new.reader c.read_footer_len.new.reader _ (Err e) c.read_bytes.new.reader c.in_ok-end.ensures.device
    (device_sought d c.read_footer_len.new.reader c.seek_to.new.self (Err e) c.read_bytes.new.reader c.in_ok-seek_to.ensures.monotone c.in_ok-seek_to.ensures.done c.in_ok-seek_to.ensures.whole c.in_ok-seek_to.ensures.names read))) in
    rw is (record {
      monotone = all.monotone;
      failed = all.failed;
      told = all.told;
      whole = all.whole;
      names = all.names;
      answered = all.answered;
      taken = inr (footer_taken d.is_memory m.whole (d.memory c.read_head.new.reader).whole c.in_ok-end.length _ _
          (λ k. c.in_ok-read_head.ensures.device.whole (g.met.R.Seeks.known_still k) ∙ ap (λ (m : Memory). m.whole) (c.in_ok-start.ensures.stays k))
          (λ k. (c.in_ok-end.ensures.memory k).1.1)
          (omega (arith, c.in_ok-start.ensures.given, c.in_ok-read_head.ensures.given, c.in_ok-end.ensures.given, c.in_ok-seek_to.ensures.given, c.in_err-bytes.ensures.given)));
    })

pub returns-in_err-start-clause-device : goal.returns-in_err-start-clause-device
returns-in_err-start-clause-device g c =
    let x = c.in_err-start.field-0.0 in
    let is : c.from_residual.result ≡ Err (Io x) = search rules in
    let w = c.in_err-start.ensures in
    rw is (record { monotone = w.monotone; failed = w.failed; told = tt; whole = w.whole; names = w.names; answered = (c.position.new.self, w.answered); taken = inl (omega (arith, w.given)) })

pub returns-in_err-seek_to-clause-device : goal.returns-in_err-seek_to-clause-device
returns-in_err-seek_to-clause-device g c =
    let d = g.R.Failures.device in
    let x = c.in_err-seek_to.field-0.0 in
    let is : c.from_residual-in_err-seek_to.result ≡ Err (Io x) = search rules in
    let w = c.in_err-seek_to.ensures in
    let all : ReadsDevice {X = FileFooter} d c.args.reader.now (Err (Io x)) c.seek_to.new.self =
    device_sought d c.args.reader.now c.position.new.self (Err (Io x)) c.seek_to.new.self c.in_ok-start.ensures.monotone c.in_ok-start.ensures.done c.in_ok-start.ensures.whole c.in_ok-start.ensures.names
    (device_after d c.position.new.self c.read_head.new.reader _ (Err (Io x)) c.seek_to.new.self c.in_ok-read_head.ensures.device
    (device_after d c.read_head.new.reader c.read_footer_len.new.reader _ (Err (Io x)) c.seek_to.new.self c.in_ok-end.ensures.device
    (device_failed d c.read_footer_len.new.reader c.seek_to.new.self x w.monotone w.failed w.whole w.names w.answered))) in
    rw is (record {
      monotone = all.monotone;
      failed = all.failed;
      told = tt;
      whole = all.whole;
      names = all.names;
      answered = all.answered;
      taken = inl (omega (arith, c.in_ok-start.ensures.given, c.in_ok-read_head.ensures.given, c.in_ok-end.ensures.given, w.given));
    })

pub returns-clause-device : goal.returns-clause-device
returns-clause-device g c =
    let d = g.R.Failures.device in
    let m = d.memory c.args.reader.now in
    let w = c.in_ok-bytes.ensures in
    let all : ReadsDevice {X = Unit {0}} d c.args.reader.now (Ok (tt {0})) c.read_bytes.new.reader =
    device_sought d c.args.reader.now c.position.new.self (Ok (tt {0})) c.read_bytes.new.reader c.in_ok-start.ensures.monotone c.in_ok-start.ensures.done c.in_ok-start.ensures.whole c.in_ok-start.ensures.names
    (device_after d c.position.new.self c.read_head.new.reader _ (Ok (tt {0})) c.read_bytes.new.reader c.in_ok-read_head.ensures.device
    (device_after d c.read_head.new.reader c.read_footer_len.new.reader _ (Ok (tt {0})) c.read_bytes.new.reader c.in_ok-end.ensures.device
    (device_sought d c.read_footer_len.new.reader c.seek_to.new.self (Ok (tt {0})) c.read_bytes.new.reader c.in_ok-seek_to.ensures.monotone c.in_ok-seek_to.ensures.done c.in_ok-seek_to.ensures.whole c.in_ok-seek_to.ensures.names
    (device_refused d c.seek_to.new.self c.read_bytes.new.reader (Ok (tt {0})) w.monotone w.told w.whole w.names (tt {0}))))) in
    record {
      monotone = all.monotone;
      failed = tt;
      told = all.told;
      whole = all.whole;
      names = all.names;
      answered = tt;
      taken = inr (footer_taken d.is_memory m.whole (d.memory c.read_head.new.reader).whole c.in_ok-end.length _ _
          (λ k. c.in_ok-read_head.ensures.device.whole (g.met.R.Seeks.known_still k) ∙ ap (λ (m : Memory). m.whole) (c.in_ok-start.ensures.stays k))
          (λ k. (c.in_ok-end.ensures.memory k).1.1)
          (omega (arith, c.in_ok-start.ensures.given, c.in_ok-read_head.ensures.given, c.in_ok-end.ensures.given, c.in_ok-seek_to.ensures.given, c.in_ok-bytes.ensures.given)));
    }
