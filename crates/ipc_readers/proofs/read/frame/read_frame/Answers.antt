use Rattle.std.proofs.Common.{rules, arith, ◌≡◌, Err}
use Rattle.ipc_devices.specs.declared.fault.Fault.TheVariants.{Io}
use Rattle.ipc_readers.specs.Frames.{begun_bytes}
use Rattle.ipc_readers.proofs.Prefixes.{older_then, both_then, marker_alone, marker_failed, word_failed, word_waits}
use Rattle.ipc_readers.proofs.read.frame.read_frame.Goals as goal

pub returns-in_err-first-clause-gives : goal.returns-in_err-first-clause-gives
returns-in_err-first-clause-gives g c =
    let e : c.from_residual.result ≡ Err (Io c.in_err-first.field-0.0) = search rules in
    rw e (word_failed g.R.Reads.gives g.met.R.Reads.laws.in_order c.in_err-first.field-0.0 (begun_bytes c.args.begun.now) (begun_bytes c.word.new.self)
    c.args.metadata.now.items c.args.reader.now c.word.new.reader c.in_err-first.ensures.gives)

pub returns-in_default-clause-gives : goal.returns-in_default-clause-gives
returns-in_default-clause-gives g c = word_waits g.R.Reads.gives g.met.R.Reads.laws.in_order (begun_bytes c.args.begun.now) (begun_bytes c.word.new.self)
    c.args.metadata.now.items c.args.reader.now c.word.new.reader (rw c.in_default.is at c.in_ok-first.ensures.gives)

pub returns-then-first-clause-gives : goal.returns-then-first-clause-gives
returns-then-first-clause-gives g c = older_then g.R.Reads.gives g.met.R.Reads.laws.in_order c.in-Some.first c.if-first.true
    (begun_bytes c.args.begun.now) (begun_bytes c.word.new.self) c.read_sized.new.metadata.items c.read_sized.result c.args.reader.now c.word.new.reader c.read_sized.new.reader
    (rw c.in-Some.is at c.in_ok-first.ensures.gives) c.read_sized.ensures.gives

pub returns-in_err-size-clause-gives : goal.returns-in_err-size-clause-gives
returns-in_err-size-clause-gives g c =
    let e : c.from_residual-in_err-size.result ≡ Err (Io c.in_err-size.field-0.0) = search rules in
    rw e (marker_failed g.R.Reads.gives g.met.R.Reads.laws.in_order c.in-Some.first (omega arith) c.in_err-size.field-0.0
    (begun_bytes c.args.begun.now) (begun_bytes c.word.new.self) (begun_bytes c.word-2.new.self) c.args.metadata.now.items c.args.reader.now c.word.new.reader c.word-2.new.reader
    (rw c.in-Some.is at c.in_ok-first.ensures.gives) c.in_err-size.ensures.gives)

pub returns-in_default-2-clause-gives : goal.returns-in_default-2-clause-gives
returns-in_default-2-clause-gives g c = marker_alone g.R.Reads.gives g.met.R.Reads.laws.in_order c.in-Some.first (omega arith)
    (begun_bytes c.args.begun.now) (begun_bytes c.word.new.self) (begun_bytes c.word-2.new.self) c.args.metadata.now.items c.args.reader.now c.word.new.reader c.word-2.new.reader
    (rw c.in-Some.is at c.in_ok-first.ensures.gives) (rw c.in_default-2.is at c.in_ok-size.ensures.gives)

pub returns-clause-gives : goal.returns-clause-gives
returns-clause-gives g c = both_then g.R.Reads.gives g.met.R.Reads.laws.in_order c.in-Some.first c.in-Some-2.size (omega arith)
    (begun_bytes c.args.begun.now) (begun_bytes c.word.new.self) (begun_bytes c.word-2.new.self) c.read_sized-2.new.metadata.items c.read_sized-2.result
    c.args.reader.now c.word.new.reader c.word-2.new.reader c.read_sized-2.new.reader
    (rw c.in-Some.is at c.in_ok-first.ensures.gives) (rw c.in-Some-2.is at c.in_ok-size.ensures.gives) c.read_sized-2.ensures.gives

pub returns-in_err-first-clause-answered : goal.returns-in_err-first-clause-answered
returns-in_err-first-clause-answered g c =
    let e : c.from_residual.result ≡ Err (Io c.in_err-first.field-0.0) = search rules in
    rw e c.in_err-first.ensures.answered

pub returns-in_err-size-clause-answered : goal.returns-in_err-size-clause-answered
returns-in_err-size-clause-answered g c =
    let e : c.from_residual-in_err-size.result ≡ Err (Io c.in_err-size.field-0.0) = search rules in
    rw e c.in_err-size.ensures.answered
