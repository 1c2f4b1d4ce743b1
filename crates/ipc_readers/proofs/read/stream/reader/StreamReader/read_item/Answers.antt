use Rattle.std.proofs.Common.{rules, ◌≡◌, Err, Ok, Some, None, List, ℕ, subst, sym}
use Rattle.ipc_model.specs.Streams.{header_of}
use Rattle.ipc_readers.proofs.Kept.{kept_of_item}
use Rattle.ipc_readers.specs.KeptValues.{values_in, values_of}
use Rattle.ipc_readers.specs.Messages.{header_seen, opened}
use Rattle.ipc_readers.specs.Streams.{request_of, begun_of, device_of, known_in, known_of}
use Rattle.ipc_readers.specs.declared.read.message.Message.{Message}
use Rattle.ipc_readers.specs.Frames.{begun_bytes}
use Rattle.ipc_readers.proofs.Items.{item_waits, item_marks, item_breaks, item_unopened, item_then}
use Rattle.ipc_devices.proofs.Stops.{fault_going}
use Rattle.ipc_readers.proofs.read.stream.reader.StreamReader.read_item.Goals as goal

pub returns-in_err-read_frame-clause-gives : goal.returns-in_err-read_frame-clause-gives
returns-in_err-read_frame-clause-gives g c =
    let fault = c.in_err-read_frame.field-0.0 in
    let old = c.args.self.now in
    let e : c.from_residual.result ≡ Err fault = search rules in
    rw e (item_breaks g.R.Reads.gives (request_of old) (known_of old) (known_of old) (begun_of old) (begun_bytes c.read_frame.new.begun) c.read_frame.new.metadata.items
    (device_of old) c.read_frame.new.reader fault c.in_err-read_frame.ensures.gives)

pub returns-in-Waiting-clause-gives : goal.returns-in-Waiting-clause-gives
returns-in-Waiting-clause-gives g c =
    let old = c.args.self.now in
    item_waits g.R.Reads.gives (request_of old) (known_of old) (begun_of old) (begun_bytes c.read_frame.new.begun) c.read_frame.new.metadata.items
    (device_of old) c.read_frame.new.reader (rw c.in-Waiting.is at c.in_ok-read_frame.ensures.gives)

pub returns-in-Mark-clause-gives : goal.returns-in-Mark-clause-gives
returns-in-Mark-clause-gives g c =
    let old = c.args.self.now in
    item_marks g.R.Reads.gives (request_of old) (known_of old) (begun_of old) (begun_bytes c.read_frame.new.begun) c.read_frame.new.metadata.items
    (device_of old) c.read_frame.new.reader (rw c.in-Mark.is at c.in_ok-read_frame.ensures.gives)

pub returns-in_err-message-in-Message-clause-gives : goal.returns-in_err-message-in-Message-clause-gives
returns-in_err-message-in-Message-clause-gives g c =
    let fault = c.in_err-message-in-Message.field-0.0 in
    let old = c.args.self.now in
    let m = c.read_frame.new.metadata.items in
    let e : c.from_residual-in_err-message-in-Message.result ≡ Err fault = search rules in
    let same : c.deref.result.now ≡ m = search rules in
    let none : header_of m ≡ None = subst (λ (l : List ℕ). header_of l ≡ None) same c.in_err-message-in-Message.ensures.message in
    let opens : opened m ≡ Err fault = subst (λ (l : List ℕ). opened l ≡ Err fault) same (sym c.in_err-message-in-Message.ensures.exact) in
    rw e (item_unopened g.R.Reads.gives (request_of old) (known_of old) (known_of old) (begun_of old) (begun_bytes c.read_frame.new.begun) m
    (device_of old) c.read_frame.new.reader fault (fault_going Message fault c.in_err-message-in-Message.ensures.device) none opens (rw c.in-Message.is at c.in_ok-read_frame.ensures.gives))

pub returns-in_err-read-in-Message-clause-gives : goal.returns-in_err-read-in-Message-clause-gives
returns-in_err-read-in-Message-clause-gives g c =
    let fault = c.in_err-read-in-Message.field-0.0 in
    let old = c.args.self.now in
    let m = c.read_frame.new.metadata.items in
    let d = header_seen c.in_ok-message-in-Message.message in
    let e : c.from_residual-in_err-read-in-Message.result ≡ Err fault = search rules in
    let same : c.deref.result.now ≡ m = search rules in
    let some : header_of m ≡ Some d = subst (λ (l : List ℕ). header_of l ≡ Some d) same c.in_ok-message-in-Message.ensures.message in
    let opens : opened m ≡ Ok d = subst (λ (l : List ℕ). opened l ≡ Ok d) same (sym c.in_ok-message-in-Message.ensures.exact) in
    rw e (item_then g.R.Reads.gives g.met.R.Reads.laws.in_order (request_of old) (known_of old) (known_in c.read_body.new.self) (begun_of old) (begun_bytes c.read_frame.new.begun) m d (Err fault)
    (device_of old) c.read_frame.new.reader c.read_body.new.reader some opens (rw c.in-Message.is at c.in_ok-read_frame.ensures.gives) c.in_err-read-in-Message.ensures.gives)

pub returns-in-Some-clause-gives : goal.returns-in-Some-clause-gives
returns-in-Some-clause-gives g c =
    let old = c.args.self.now in
    let m = c.read_frame.new.metadata.items in
    let d = header_seen c.in_ok-message-in-Message.message in
    let same : c.deref.result.now ≡ m = search rules in
    let some : header_of m ≡ Some d = subst (λ (l : List ℕ). header_of l ≡ Some d) same c.in_ok-message-in-Message.ensures.message in
    let opens : opened m ≡ Ok d = subst (λ (l : List ℕ). opened l ≡ Ok d) same (sym c.in_ok-message-in-Message.ensures.exact) in
    item_then g.R.Reads.gives g.met.R.Reads.laws.in_order (request_of old) (known_of old) (known_in c.read_body.new.self) (begun_of old) (begun_bytes c.read_frame.new.begun) m d (Ok (Some c.in-Some.chunk))
    (device_of old) c.read_frame.new.reader c.read_body.new.reader some opens (rw c.in-Message.is at c.in_ok-read_frame.ensures.gives) (rw c.in-Some.is at c.in_ok-read-in-Message.ensures.gives)

pub returns-in-None-clause-gives : goal.returns-in-None-clause-gives
returns-in-None-clause-gives g c =
    let old = c.args.self.now in
    let m = c.read_frame.new.metadata.items in
    let d = header_seen c.in_ok-message-in-Message.message in
    let same : c.deref.result.now ≡ m = search rules in
    let some : header_of m ≡ Some d = subst (λ (l : List ℕ). header_of l ≡ Some d) same c.in_ok-message-in-Message.ensures.message in
    let opens : opened m ≡ Ok d = subst (λ (l : List ℕ). opened l ≡ Ok d) same (sym c.in_ok-message-in-Message.ensures.exact) in
    item_then g.R.Reads.gives g.met.R.Reads.laws.in_order (request_of old) (known_of old) (known_in c.read_body.new.self) (begun_of old) (begun_bytes c.read_frame.new.begun) m d (Ok None)
    (device_of old) c.read_frame.new.reader c.read_body.new.reader some opens (rw c.in-Message.is at c.in_ok-read_frame.ensures.gives) (rw c.in-None.is at c.in_ok-read-in-Message.ensures.gives)

pub returns-in-None-clause-held : goal.returns-in-None-clause-held
returns-in-None-clause-held g c =
    let old = c.args.self.now in
    let m = c.read_frame.new.metadata.items in
    let d = header_seen c.in_ok-message-in-Message.message in
    let same : c.deref.result.now ≡ m = search rules in
    let some : header_of m ≡ Some d = subst (λ (l : List ℕ). header_of l ≡ Some d) same c.in_ok-message-in-Message.ensures.message in
    kept_of_item g.R.Reads.gives g.met.R.Reads.laws.in_order (request_of old) d (begun_of old) (begun_bytes c.read_frame.new.begun) m (device_of old) c.read_frame.new.reader c.read_body.new.reader
    (values_of old) (values_in c.read_body.new.self) some (rw c.in-Message.is at c.in_ok-read_frame.ensures.gives) (rw c.in-None.is at c.in_ok-read-in-Message.ensures.held)
