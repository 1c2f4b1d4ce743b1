use Rattle.std.proofs.Common.{rules, ◌≡◌, ◌∙◌, Err, Ok, Some, refl, subst}
use Rattle.ipc_readers.proofs.Kept.{kept_out, kept_past, kept_same}
use Rattle.ipc_readers.proofs.Loops.{goes_out, goes_past, goes_same, same_request}
use Rattle.ipc_readers.specs.ChosenStreams.{Request}
use Rattle.ipc_readers.specs.KeptValues.{KeptOfItem, values_of}
use Rattle.ipc_readers.specs.Streams.{ItemGave, begun_of, device_of, known_of, request_of}
use Rattle.ipc_readers.specs.declared.read.stream.reader.Found.TheVariants as fronts
use Rattle.ipc_readers.specs.declared.read.stream.reader.StreamState.TheVariants as states
use Rattle.ipc_readers.proofs.read.stream.reader.StreamReader.read_next.Goals as goal

pub loop-chunk-preserved : goal.loop-chunk-preserved
loop-chunk-preserved g c = record {
  finished = c.in_ok-read_item.ensures.finished ∙ c.loop-chunk.invariant.finished;
  on = goes_past g.R.Reads.gives c.args.self.now c.loop-chunk.self c.read_item.new.self (c.in_ok-read_item.ensures.described ∙ c.loop-chunk.invariant.on.described)
      (c.in_ok-read_item.ensures.projected ∙ c.loop-chunk.invariant.on.projected)
      c.loop-chunk.invariant.on (rw c.in-Dictionary.is at c.in_ok-read_item.ensures.gives);
  kept =
      let a = c.args.self.now in
      let b = c.loop-chunk.self in
      let d = c.read_item.new.self in
      let here = same_request a b c.loop-chunk.invariant.on.described c.loop-chunk.invariant.on.projected in
      kept_past g.R.Reads.gives (request_of a) (begun_of a) (device_of a) (values_of a) g.met.R.Reads.laws.in_order (begun_of b) (device_of b) (values_of b) c.loop-chunk.invariant.kept
      (begun_of d) (device_of d) (values_of d)
      (subst (λ (h : Request). KeptOfItem g.R.Reads.gives h (begun_of b) (device_of b) (Ok fronts.Dictionary) (begun_of d) (device_of d) (values_of b) (values_of d)) here
      (rw c.in-Dictionary.is at c.in_ok-read_item.ensures.held));
}

pub returns-in_err-read_item-clause-gives : goal.returns-in_err-read_item-clause-gives
returns-in_err-read_item-clause-gives g c =
    let fault = c.in_err-read_item.field-0.0 in
    let e : c.from_residual.result ≡ Err fault = search rules in
    rw e (goes_out g.R.Reads.gives c.args.self.now c.loop-chunk.self c.read_item.new.self (Err fault) c.loop-chunk.invariant.on c.in_err-read_item.ensures.gives c.in_err-read_item.ensures.kept)

pub returns-in-Chunk-clause-gives : goal.returns-in-Chunk-clause-gives
returns-in-Chunk-clause-gives g c =
    goes_out g.R.Reads.gives c.args.self.now c.loop-chunk.self c.read_item.new.self (Ok (Some (states.Some c.in-Chunk.chunk))) c.loop-chunk.invariant.on
    (rw c.in-Chunk.is at c.in_ok-read_item.ensures.gives) tt

pub returns-in_err-read_item-clause-held : goal.returns-in_err-read_item-clause-held
returns-in_err-read_item-clause-held g c =
    let a = c.args.self.now in
    let b = c.loop-chunk.self in
    let d = c.read_item.new.self in
    let here = same_request a b c.loop-chunk.invariant.on.described c.loop-chunk.invariant.on.projected in
    let item : ItemGave g.R.Reads.gives (request_of b) (known_of b) (begun_of b) (device_of b) (Err c.in_err-read_item.field-0.0) (known_of d) (begun_of d) (device_of d) =
    c.in_err-read_item.ensures.gives in
    kept_out g.R.Reads.gives (request_of a) (begun_of a) (device_of a) (values_of a) g.met.R.Reads.laws.in_order (begun_of b) (device_of b) (values_of b) c.loop-chunk.invariant.kept
    (known_of b) (known_of d) (Err c.in_err-read_item.field-0.0) (begun_of d) (device_of d) (values_of d)
    (subst (λ (h : Request). ItemGave g.R.Reads.gives h (known_of b) (begun_of b) (device_of b) (Err c.in_err-read_item.field-0.0) (known_of d) (begun_of d) (device_of d)) here item)
    c.in_err-read_item.ensures.held

pub returns-in-Chunk-clause-held : goal.returns-in-Chunk-clause-held
returns-in-Chunk-clause-held g c =
    let a = c.args.self.now in
    let b = c.loop-chunk.self in
    let d = c.read_item.new.self in
    let here = same_request a b c.loop-chunk.invariant.on.described c.loop-chunk.invariant.on.projected in
    let item : ItemGave g.R.Reads.gives (request_of b) (known_of b) (begun_of b) (device_of b) (Ok (fronts.Chunk c.in-Chunk.chunk)) (known_of d) (begun_of d) (device_of d) =
    (rw c.in-Chunk.is at c.in_ok-read_item.ensures.gives) in
    kept_out g.R.Reads.gives (request_of a) (begun_of a) (device_of a) (values_of a) g.met.R.Reads.laws.in_order (begun_of b) (device_of b) (values_of b) c.loop-chunk.invariant.kept
    (known_of b) (known_of d) (Ok (fronts.Chunk c.in-Chunk.chunk)) (begun_of d) (device_of d) (values_of d)
    (subst (λ (h : Request). ItemGave g.R.Reads.gives h (known_of b) (begun_of b) (device_of b) (Ok (fronts.Chunk c.in-Chunk.chunk)) (known_of d) (begun_of d) (device_of d)) here item)
    (rw c.in-Chunk.is at c.in_ok-read_item.ensures.held)

pub returns-in-Mark-clause-held : goal.returns-in-Mark-clause-held
returns-in-Mark-clause-held g c =
    let a = c.args.self.now in
    let b = c.loop-chunk.self in
    let d = c.read_item.new.self in
    let here = same_request a b c.loop-chunk.invariant.on.described c.loop-chunk.invariant.on.projected in
    let item : ItemGave g.R.Reads.gives (request_of b) (known_of b) (begun_of b) (device_of b) (Ok fronts.Mark) (known_of d) (begun_of d) (device_of d) =
    (rw c.in-Mark.is at c.in_ok-read_item.ensures.gives) in
    kept_out g.R.Reads.gives (request_of a) (begun_of a) (device_of a) (values_of a) g.met.R.Reads.laws.in_order (begun_of b) (device_of b) (values_of b) c.loop-chunk.invariant.kept
    (known_of b) (known_of d) (Ok fronts.Mark) (begun_of d) (device_of d) (values_of d)
    (subst (λ (h : Request). ItemGave g.R.Reads.gives h (known_of b) (begun_of b) (device_of b) (Ok fronts.Mark) (known_of d) (begun_of d) (device_of d)) here item)
    (rw c.in-Mark.is at c.in_ok-read_item.ensures.held)

pub returns-in-Waiting-clause-held : goal.returns-in-Waiting-clause-held
returns-in-Waiting-clause-held g c =
    let a = c.args.self.now in
    let b = c.loop-chunk.self in
    let d = c.read_item.new.self in
    let here = same_request a b c.loop-chunk.invariant.on.described c.loop-chunk.invariant.on.projected in
    let item : ItemGave g.R.Reads.gives (request_of b) (known_of b) (begun_of b) (device_of b) (Ok fronts.Waiting) (known_of d) (begun_of d) (device_of d) =
    (rw c.in-Waiting.is at c.in_ok-read_item.ensures.gives) in
    kept_out g.R.Reads.gives (request_of a) (begun_of a) (device_of a) (values_of a) g.met.R.Reads.laws.in_order (begun_of b) (device_of b) (values_of b) c.loop-chunk.invariant.kept
    (known_of b) (known_of d) (Ok fronts.Waiting) (begun_of d) (device_of d) (values_of d)
    (subst (λ (h : Request). ItemGave g.R.Reads.gives h (known_of b) (begun_of b) (device_of b) (Ok fronts.Waiting) (known_of d) (begun_of d) (device_of d)) here item)
    (rw c.in-Waiting.is at c.in_ok-read_item.ensures.held)

pub loop-chunk-init : goal.loop-chunk-init
loop-chunk-init g c = record {
  finished = refl;
  on = goes_same g.R.Reads.gives c.args.self.now;
  kept = kept_same g.R.Reads.gives (request_of c.args.self.now) (begun_of c.args.self.now) (device_of c.args.self.now) (values_of c.args.self.now) g.met.R.Reads.laws.nothing;
}
