use Rattle.std.proofs.Common.{arith, rules, ◌≡◌, ℕ, ◌+◌, ◌*◌, ◌<◌, ap, subst, ◌∙◌}
use Rattle.lower.specs.TypeViews.{type_view}
use Rattle.lower_flat_arrays.specs.FixedBinaries.{fixed_seen, BreaksFixedBinary}
use Rattle.lower_arrays.specs.Flat.{fixed_layout}
use Rattle.ipc_model.specs.Entries.{rows, Need}
use Rattle.ipc_read_flat.specs.Bodies.{entries}
use Rattle.ipc_read_flat.proofs.FlatLevels.{fixed_is, fixed_keeps}
use Rattle.ipc_read_flat.proofs.HeldLevels.{fixed_held}
use Rattle.ipc_read_flat.proofs.read.array.fixed_size_binary.read_fixed_size_binary.Goals as goal

pub returns-in_err-try_new-clause-memory : goal.returns-in_err-try_new-clause-memory
returns-in_err-try_new-clause-memory g c =
    let u = type_view c.args.data_type.now in
    let broken : BreaksFixedBinary (fixed_seen u c.in_ok-values.values c.in_ok-head.head.validity) c.in_err-try_new.field-0.0 = search rules in
    absurd (fixed_keeps u c.args.size c.in_ok-head.head.rows c.in_ok-values.values c.in_ok-head.head.validity c.in_err-try_new.field-0.0
    c.requires.lies c.requires.named (omega arith) c.in_ok-values.ensures.count c.in_ok-head.ensures.fits broken)

pub returns-clause-memory : goal.returns-clause-memory
returns-clause-memory g c = λ k.
    let s = entries g.R.Failures.device c.args.body.now in
    let a = c.args.place.node in
    let b = c.args.place.buffer in
    let z = c.args.size in
    let n = c.in_ok-head.head.rows in
    let u = type_view c.args.data_type.now in
    let head = c.in_ok-head.ensures.memory k in
    let read = c.in_ok-values.ensures.memory k in
    let some : 0 < z = omega arith in
    let needed : z * n ≡ z * rows s a c.args.limit = ap (λ j. z * j) head.1.0 in
    let same : c.in_ok-try_new.field-0 ≡ fixed_seen u c.in_ok-values.values c.in_ok-head.head.validity = search rules in (
      (some, head.0, subst (λ (m : ℕ). Need s (b + 1) m) needed read.0),
      ap (λ x. fixed_layout x) same
          ∙ fixed_is s u z n a b c.args.limit c.in_ok-values.values c.in_ok-head.head.validity c.requires.named some head.1.0 head.1.1
          c.in_ok-values.ensures.count read.1,
    )

pub returns-clause-held : goal.returns-clause-held
returns-clause-held g c =
    let s = entries g.R.Failures.device c.args.body.now in
    let extra = c.args.body.now.extra in
    let b = c.args.place.buffer in
    let u = type_view c.args.data_type.now in
    let v = c.in_ok-head.head.validity in
    let xs = c.in_ok-values.values in
    let same : c.in_ok-try_new.field-0 ≡ fixed_seen u xs v = search rules in
    fixed_held s extra b u v c.in_ok-head.ensures.held c.args.size xs c.in_ok-try_new.field-0 same c.in_ok-values.ensures.held
