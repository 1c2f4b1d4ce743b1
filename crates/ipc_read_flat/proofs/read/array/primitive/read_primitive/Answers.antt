use Rattle.std.proofs.Common.{arith, rules, ◌≡◌, ℕ, ◌+◌, ◌*◌, ◌<◌, ◌≤◌, length, vec_len, ap, ap₂, subst, ◌∙◌}
use Rattle.lower.specs.TypeViews.{type_view}
use Rattle.lower_types.specs.NumberTypes.{width_of}
use Rattle.lower_flat_arrays.specs.Primitives.{primitive_seen}
use Rattle.lower_arrays.specs.Primitives.{primitive_layout}
use Rattle.ipc_model.specs.Entries.{listed, rows, Need}
use Rattle.ipc_read_flat.specs.Bodies.{entries}
use Rattle.ipc_read_flat.proofs.FlatLevels.{order_is, some_width, primitive_is}
use Rattle.ipc_read_flat.proofs.HeldLevels.{number_held}
use Rattle.ipc_read_flat.proofs.read.array.primitive.read_primitive.Goals as goal

pub returns-clause-memory : goal.returns-clause-memory
returns-clause-memory g c = λ k.
    let s = entries g.R.Failures.device c.args.body.now in
    let p = g.T.NativeType.primitive in
    let w = g.T.NativeType.width in
    let a = c.args.place.node in
    let b = c.args.place.buffer in
    let n = c.in_ok-head.head.rows in
    let order = c.args.body.now.order in
    let u = type_view c.args.data_type.now in
    let head = c.in_ok-head.ensures.memory k in
    let read = c.in_ok-values.ensures.memory k in
    let some : 0 < w = omega (arith, g.met.T.NativeType.width_is, some_width p) in
    let needed : w * n ≡ width_of p * rows s a c.args.limit = ap₂ (λ i j. i * j) g.met.T.NativeType.width_is head.1.0 in
    let same : c.in_ok-try_new.field-0 ≡ primitive_seen u c.in_ok-values.values.items c.in_ok-head.head.validity = search rules in (
      (head.0, subst (λ (m : ℕ). Need s (b + 1) m) needed read.0),
      ap (λ x. primitive_layout p g.T.NativeType.number x) same
          ∙ primitive_is p g.T.NativeType.number order (g.T.NativeType.value order) w n s u a b c.args.limit c.in_ok-values.values.items c.in_ok-head.head.validity
          (λ ys. g.met.T.NativeType.number_is order ys) (λ ys. g.met.T.NativeType.reads_first order ys) g.met.T.NativeType.width_is some
          (order_is g.R.Failures.device c.args.body.now) head.1.0 head.1.1 read.0.2 read.1,
    )

pub returns-clause-held : goal.returns-clause-held
returns-clause-held g c =
    let s = entries g.R.Failures.device c.args.body.now in
    let extra = c.args.body.now.extra in
    let b = c.args.place.buffer in
    let u = type_view c.args.data_type.now in
    let v = c.in_ok-head.head.validity in
    let xs = c.in_ok-values.values.items in
    let w = g.T.NativeType.width in
    let same : c.in_ok-try_new.field-0 ≡ primitive_seen u xs v = search rules in
    let many : length xs ≡ vec_len c.in_ok-values.values = omega arith in
    let few : w * length xs ≤ listed s (b + 1) = omega (arith, ap (λ n. w * n) many, c.in_ok-values.ensures.held) in
    number_held s extra b u v c.in_ok-head.ensures.held g.T.NativeType.primitive g.T.NativeType.number w xs c.in_ok-try_new.field-0 same g.met.T.NativeType.width_is few
