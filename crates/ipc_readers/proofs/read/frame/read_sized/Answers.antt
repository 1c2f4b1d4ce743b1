use Rattle.std.proofs.Common.{rules, arith, ◌≡◌, ◌<◌, ◌≤◌, ◌^◌, [], refl, Err}
use Rattle.ipc_devices.proofs.Acts.{answered_in}
use Rattle.ipc_readers.proofs.Sized.{sized_negative, fault_negative, sized_mark, sized_whole, due_is, ended_inside}
use Rattle.ipc_readers.proofs.read.frame.read_sized.Goals as goal

pub returns-then-size-clause-gives : goal.returns-then-size-clause-gives
returns-then-size-clause-gives g c = record {
  bytes = [];
  gave = g.met.R.Reads.laws.nothing _;
  within = omega arith;
  holds = λ ys _. let below : 2 ^ 31 ≤ c.args.size = omega (arith, c.if-size.true) in (sized_negative c.args.size ys below, fault_negative c.args.size below);
}

pub returns-then-size-eq0-clause-gives : goal.returns-then-size-eq0-clause-gives
returns-then-size-eq0-clause-gives g c = record {
  bytes = [];
  gave = g.met.R.Reads.laws.nothing _;
  within = omega arith;
  holds = λ ys _. rw (c.if-size-eq0.true, sized_mark) (refl, refl);
}

pub returns-in_err-read_into-clause-gives : goal.returns-in_err-read_into-clause-gives
returns-in_err-read_into-clause-gives g c =
    let fault = c.in_err-read_into.field-0.0 in
    let e : c.from_residual.result ≡ Err fault = search rules in
    let before = c.in_err-read_into.ensures.gives in
    let n = c.args.size in
    let small : n < 2 ^ 31 = omega (arith, c.if-size.false) in
    let some : 0 < n = omega (arith, c.if-size-eq0.false) in
    rw e (record {
      bytes = before.0;
      gave = before.2;
      within = omega (arith, before.1, due_is n small);
      holds = λ ys f. ended_inside fault n before.0 ys c.in_err-read_into.ensures.only some small before.1 f;
    })

pub returns-clause-gives : goal.returns-clause-gives
returns-clause-gives g c =
    let read = c.in_ok-read_into.ensures.gives in
    let n = c.args.size in
    let small : n < 2 ^ 31 = omega (arith, c.if-size.false) in
    let some : 0 < n = omega (arith, c.if-size-eq0.false) in
    let m = c.read_into.new.bytes.items in
    record {
      bytes = m;
      gave = read.1;
      within = omega (arith, read.0, due_is n small);
      holds = λ ys _. rw (sized_whole n m ys read.0 some small) (refl, refl, refl);
    }

pub returns-in_err-read_into-clause-answered : goal.returns-in_err-read_into-clause-answered
returns-in_err-read_into-clause-answered g c =
    let fault = c.in_err-read_into.field-0.0 in
    let e : c.from_residual.result ≡ Err fault = search rules in
    rw e (answered_in {X = Unit {0}} g.R.Failures.device c.read_into.new.reader (Err fault) c.in_err-read_into.ensures.answered)
