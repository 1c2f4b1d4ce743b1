use Rattle.std.proofs.Common.{rules, ◌≡◌, ℕ, Err, List, [], length, subst}
use Rattle.ipc_devices.proofs.Acts.{answered_in, none_answered}
use Rattle.ipc_devices.specs.Device.{IsAnswered}
use Rattle.ipc_devices.specs.Gives.{going}
use Rattle.ipc_readers.specs.Messages.{header_seen}
use Rattle.ipc_readers.specs.Streams.{request_in, known_in}
use Rattle.ipc_readers.proofs.BodyRuns.{body_read, body_stopped, stopped_behind}
use Rattle.ipc_readers.proofs.Kept.{kept_of_body}
use Rattle.ipc_readers.specs.KeptValues.{values_in}
use Rattle.ipc_readers.proofs.read.stream.reader.Batches.read_body.Goals as goal

pub returns-in_err-read_into-clause-gives : goal.returns-in_err-read_into-clause-gives
returns-in_err-read_into-clause-gives g c =
    let fault = c.in_err-read_into.field-0.0 in
    let old = c.args.self.now in
    let m = header_seen c.args.message in
    let e : c.from_residual-in_err-read_into.result ≡ Err fault = search rules in
    let same : c.share.new.self ≡ c.args.reader.now = c.share.ensures.none (search rules) in
    let mid = c.pass.follows.lender-at-none in
    let unshown : g.R.Reads.gives c.share.new.self [] going mid = search rules in
    let none : g.R.Reads.gives c.args.reader.now [] going mid = subst (λ a. g.R.Reads.gives a [] going mid) same unshown in
    rw e (body_stopped g.R.Reads.gives (request_in old) (known_in old) m c.args.reader.now c.read_into.new.reader fault (known_in old) c.in_ok-check.ensures.admitted.kind c.in_err-read_into.ensures.only
    (stopped_behind g.R.Reads.gives g.met.R.Reads.laws.in_order c.args.reader.now mid c.read_into.new.reader m.body fault none c.in_err-read_into.ensures.gives))

pub returns-clause-gives : goal.returns-clause-gives
returns-clause-gives g c =
    let items : List ℕ = c.read_into.new.bytes.items in
    let body : List ℕ = c.as_slice.result.now in
    let same_items : items ≡ body = search rules in
    let old = c.args.self.now in
    let m = header_seen c.args.message in
    let same : c.share.new.self ≡ c.args.reader.now = c.share.ensures.none (search rules) in
    let mid = c.pass.follows.lender-at-none in
    let new = c.read_into.new.reader in
    let unshown : g.R.Reads.gives c.share.new.self [] going mid = search rules in
    let none : g.R.Reads.gives c.args.reader.now [] going mid = subst (λ a. g.R.Reads.gives a [] going mid) same unshown in
    let read = c.in_ok-read_into.ensures.gives in
    let all : g.R.Reads.gives c.args.reader.now items going new = g.met.R.Reads.laws.in_order c.args.reader.now [] mid items going new none read.1 in
    body_read g.R.Reads.gives (request_in old) (known_in old) m.tag m.table m.body c.args.reader.now new body c.read_batch-2.result (known_in c.read_batch-2.new.self)
    (subst (λ (l : List ℕ). length l ≡ m.body) same_items read.0) (subst (λ (l : List ℕ). g.R.Reads.gives c.args.reader.now l going new) same_items all)
    c.read_batch-2.ensures.own c.read_batch-2.ensures.memory

pub returns-clause-held : goal.returns-clause-held
returns-clause-held g c =
    let items : List ℕ = c.read_into.new.bytes.items in
    let body : List ℕ = c.as_slice.result.now in
    let same_items : items ≡ body = search rules in
    let old = c.args.self.now in
    let m = header_seen c.args.message in
    let same : c.share.new.self ≡ c.args.reader.now = c.share.ensures.none (search rules) in
    let mid = c.pass.follows.lender-at-none in
    let new = c.read_into.new.reader in
    let unshown : g.R.Reads.gives c.share.new.self [] going mid = search rules in
    let none : g.R.Reads.gives c.args.reader.now [] going mid = subst (λ a. g.R.Reads.gives a [] going mid) same unshown in
    let read = c.in_ok-read_into.ensures.gives in
    let all : g.R.Reads.gives c.args.reader.now items going new = g.met.R.Reads.laws.in_order c.args.reader.now [] mid items going new none read.1 in
    kept_of_body g.R.Reads.gives (request_in old) m c.args.reader.now new body c.read_batch-2.result (values_in old) (values_in c.read_batch-2.new.self)
    (subst (λ (l : List ℕ). length l ≡ m.body) same_items read.0) (subst (λ (l : List ℕ). g.R.Reads.gives c.args.reader.now l going new) same_items all) c.read_batch-2.ensures.held

pub returns-in_err-read_into-clause-answered : goal.returns-in_err-read_into-clause-answered
returns-in_err-read_into-clause-answered g c =
    let fault = c.in_err-read_into.field-0.0 in
    let e : c.from_residual-in_err-read_into.result ≡ Err fault = search rules in
    rw e (answered_in {X = Unit {0}} g.R.Failures.device c.read_into.new.reader (Err fault) c.in_err-read_into.ensures.answered)

pub returns-clause-answered : goal.returns-clause-answered
returns-clause-answered g c = none_answered c.read_batch-2.result (IsAnswered g.R.Failures.device) c.read_batch-2.ensures.own

pub returns-in-Some-clause-answered : goal.returns-in-Some-clause-answered
returns-in-Some-clause-answered g c = none_answered c.read_batch.result (IsAnswered g.R.Failures.device) c.read_batch.ensures.own
