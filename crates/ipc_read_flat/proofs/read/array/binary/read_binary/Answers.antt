use Rattle.std.proofs.Common.{rules, ◌≡◌, ℕ, ◌+◌, ap, sym, subst, ◌∙◌}
use Rattle.lower.specs.TypeViews.{type_view}
use Rattle.lower_flat_arrays.specs.Spans.{spans_seen}
use Rattle.lower_arrays.specs.Flat.{bytes_layout}
use Rattle.ipc_devices.proofs.Claims.{denies_through}
use Rattle.ipc_devices.specs.Faults.{OwnFault}
use Rattle.ipc_model.specs.Kinds.{offset_width, binary_kind}
use Rattle.ipc_model.specs.Entries.{rows, Need}
use Rattle.ipc_model.specs.Columns.{last_offset, HasBytes, IsWell}
use Rattle.ipc_read_flat.specs.Bodies.{entries}
use Rattle.ipc_read_flat.proofs.SpanLevels.{last_read, binary_is}
use Rattle.ipc_read_flat.proofs.HeldLevels.{bytes_held}
use Rattle.ipc_read_flat.proofs.read.array.binary.read_binary.Goals as goal

pub returns-in_err-values-clause-memory : goal.returns-in_err-values-clause-memory
returns-in_err-values-clause-memory g c = λ k.
    let s = entries g.R.Failures.device c.args.body.now in
    let a = c.args.place.node in
    let b = c.args.place.buffer in
    let form = g.O.StoredOffset.form in
    let w = offset_width form in
    let n = c.in_ok-head.head.rows in
    let u = type_view c.args.data_type.now in
    let head = c.in_ok-head.ensures.memory k in
    let os = c.in_ok-offsets.offsets in
    let stored = c.in_ok-offsets.ensures.memory k in
    let end : c.last.result ≡ last_offset s (b + 1) w n = last_read s (b + 1) w n c.last.result os stored.1 c.last.ensures.value in
    let far : c.last.result ≡ last_offset s (b + 1) w (rows s a c.args.limit) = end ∙ ap (last_offset s (b + 1) w) head.1.0 in
    let fault = c.in_err-values.field-0.0 in
    let denied : OwnFault fault (IsWell s (binary_kind form) a b c.args.limit → ⊥) =
    denies_through fault (Need s (b + 1 + 1) c.last.result) (IsWell s (binary_kind form) a b c.args.limit)
    (λ h. subst (λ (m : ℕ). Need s (b + 1 + 1) m) (sym far) h.1.values) (c.in_err-values.ensures.memory k)
    in
    search rules

pub returns-clause-memory : goal.returns-clause-memory
returns-clause-memory g c = λ k.
    let s = entries g.R.Failures.device c.args.body.now in
    let a = c.args.place.node in
    let b = c.args.place.buffer in
    let form = g.O.StoredOffset.form in
    let w = offset_width form in
    let n = c.in_ok-head.head.rows in
    let u = type_view c.args.data_type.now in
    let head = c.in_ok-head.ensures.memory k in
    let os = c.in_ok-offsets.offsets in
    let stored = c.in_ok-offsets.ensures.memory k in
    let end : c.last.result ≡ last_offset s (b + 1) w n = last_read s (b + 1) w n c.last.result os stored.1 c.last.ensures.value in
    let xs = c.in_ok-values.values in
    let m = c.in_ok-head.head.validity in
    let read = c.in_ok-values.ensures.memory k in
    let long = c.in_ok-offsets.ensures.count in
    let same : c.in_ok-try_new.field-0 ≡ spans_seen u os xs m = search rules in
    let has : HasBytes s (b + 1) w n = record { offsets = stored.0; values = subst (λ (j : ℕ). Need s (b + 1 + 1) j) end read.0 } in (
      (head.0, subst (HasBytes s (b + 1) w) head.1.0 has),
      ap (λ x. bytes_layout g.O.NativeType.primitive x) same
          ∙ binary_is g.O.NativeType.primitive form s u a b n c.last.result c.args.limit os xs m g.met.O.StoredOffset.form_is head.1.0 stored.1 long head.1.1 end read.1,
    )

pub returns-clause-held : goal.returns-clause-held
returns-clause-held g c =
    let s = entries g.R.Failures.device c.args.body.now in
    let extra = c.args.body.now.extra in
    let b = c.args.place.buffer in
    let u = type_view c.args.data_type.now in
    let v = c.in_ok-head.head.validity in
    let os = c.in_ok-offsets.offsets in
    let xs = c.in_ok-values.values in
    let same : c.in_ok-try_new.field-0 ≡ spans_seen u os xs v = search rules in
    bytes_held s extra b u v c.in_ok-head.ensures.held g.O.StoredOffset.form g.O.NativeType.primitive os xs c.in_ok-try_new.field-0 same c.in_ok-offsets.ensures.held c.in_ok-values.ensures.held
