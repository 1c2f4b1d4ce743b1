use Rattle.std.proofs.Common.{arith, rules, ◌≡◌, ℕ, ◌+◌, ap, sym, subst, ◌∙◌}
use Rattle.lower.specs.TypeViews.{type_view}
use Rattle.lower_flat_arrays.specs.Spans.{spans_seen, span_count, EndsWithin}
use Rattle.lower_flat_arrays.specs.Texts.{IsText, BreaksText}
use Rattle.lower_flat_arrays.specs.Validities.{ValidityFits}
use Rattle.lower_arrays.specs.Flat.{texts_layout}
use Rattle.ipc_devices.proofs.Claims.{denies_through}
use Rattle.ipc_devices.specs.Faults.{OwnFault}
use Rattle.ipc_devices.specs.declared.fault.Fault.TheVariants.{Lower}
use Rattle.ipc_model.specs.Kinds.{offset_width, utf8_kind}
use Rattle.ipc_model.specs.Entries.{rows, Need}
use Rattle.ipc_model.specs.Columns.{last_offset, HasBytes, IsWell, AreTexts as HasTexts}
use Rattle.ipc_read_flat.specs.Bodies.{entries}
use Rattle.ipc_read_flat.proofs.Fetches.{refused}
use Rattle.ipc_read_flat.proofs.SpanLevels.{last_read, texts_are, texts_were, text_keeps, utf8_is}
use Rattle.ipc_read_flat.proofs.HeldLevels.{texts_held}
use Rattle.ipc_read_flat.proofs.read.array.utf8.read_utf8.Goals as goal

pub returns-in_err-values-clause-memory : goal.returns-in_err-values-clause-memory
returns-in_err-values-clause-memory g c = λ k.
    let s = entries g.R.Failures.device c.args.body.now in
    let a = c.args.place.node in
    let b = c.args.place.buffer in
    let form = g.O.StoredOffset.form in
    let w = offset_width form in
    let n = c.in_ok-head.head.rows in
    let u = type_view c.args.data_type.now in
    let head = c.in_ok-head.ensures.memory k in
    let os = c.in_ok-offsets.offsets in
    let stored = c.in_ok-offsets.ensures.memory k in
    let end : c.last.result ≡ last_offset s (b + 1) w n = last_read s (b + 1) w n c.last.result os stored.1 c.last.ensures.value in
    let far : c.last.result ≡ last_offset s (b + 1) w (rows s a c.args.limit) = end ∙ ap (last_offset s (b + 1) w) head.1.0 in
    let fault = c.in_err-values.field-0.0 in
    let denied : OwnFault fault (IsWell s (utf8_kind form) a b c.args.limit → ⊥) =
    denies_through fault (Need s (b + 1 + 1) c.last.result) (IsWell s (utf8_kind form) a b c.args.limit)
    (λ h. subst (λ (m : ℕ). Need s (b + 1 + 1) m) (sym far) h.1.values) (c.in_err-values.ensures.memory k)
    in
    search rules

pub returns-in_err-try_new-clause-memory : goal.returns-in_err-try_new-clause-memory
returns-in_err-try_new-clause-memory g c = λ k.
    let s = entries g.R.Failures.device c.args.body.now in
    let a = c.args.place.node in
    let b = c.args.place.buffer in
    let form = g.O.StoredOffset.form in
    let w = offset_width form in
    let n = c.in_ok-head.head.rows in
    let u = type_view c.args.data_type.now in
    let head = c.in_ok-head.ensures.memory k in
    let os = c.in_ok-offsets.offsets in
    let stored = c.in_ok-offsets.ensures.memory k in
    let end : c.last.result ≡ last_offset s (b + 1) w n = last_read s (b + 1) w n c.last.result os stored.1 c.last.ensures.value in
    let xs = c.in_ok-values.values in
    let m = c.in_ok-head.head.validity in
    let read = c.in_ok-values.ensures.memory k in
    let long = c.in_ok-offsets.ensures.count in
    let e = c.in_err-try_new.field-0.0 in
    let broken : BreaksText g.O.NativeType.primitive (spans_seen u os xs m) e = search rules in
    let slots : n ≡ span_count os = omega (arith, long) in
    let fits : ValidityFits m (span_count os) = subst (ValidityFits m) slots c.in_ok-head.ensures.fits in
    let ends : EndsWithin os xs = omega (arith, c.last.ensures.value, c.in_ok-values.ensures.count) in
    let denied : IsWell s (utf8_kind form) a b c.args.limit → ⊥ = λ h.
    text_keeps g.O.NativeType.primitive u os xs m e c.requires.lies ends
    (texts_are s (b + 1) w n c.last.result os xs (subst (HasBytes s (b + 1) w) (sym head.1.0) h.1) (subst (HasTexts s (b + 1) w) (sym head.1.0) h.2) long stored.1 end read.1)
    fits broken
    in
    refused c.from_residual-in_err-try_new.result (Lower e) _ _ c.from_residual-in_err-try_new.ensures denied

pub returns-clause-memory : goal.returns-clause-memory
returns-clause-memory g c = λ k.
    let s = entries g.R.Failures.device c.args.body.now in
    let a = c.args.place.node in
    let b = c.args.place.buffer in
    let form = g.O.StoredOffset.form in
    let w = offset_width form in
    let n = c.in_ok-head.head.rows in
    let u = type_view c.args.data_type.now in
    let head = c.in_ok-head.ensures.memory k in
    let os = c.in_ok-offsets.offsets in
    let stored = c.in_ok-offsets.ensures.memory k in
    let end : c.last.result ≡ last_offset s (b + 1) w n = last_read s (b + 1) w n c.last.result os stored.1 c.last.ensures.value in
    let xs = c.in_ok-values.values in
    let m = c.in_ok-head.head.validity in
    let read = c.in_ok-values.ensures.memory k in
    let long = c.in_ok-offsets.ensures.count in
    let same : c.in_ok-try_new.field-0 ≡ spans_seen u os xs m = search rules in
    let has : HasBytes s (b + 1) w n = record { offsets = stored.0; values = subst (λ (j : ℕ). Need s (b + 1 + 1) j) end read.0 } in
    let kept : IsText g.O.NativeType.primitive (spans_seen u os xs m) = search rules in
    let texts : HasTexts s (b + 1) w n = texts_were s (b + 1) w n c.last.result os xs has kept.texts long stored.1 end read.1 in (
      (head.0, subst (HasBytes s (b + 1) w) head.1.0 has, subst (HasTexts s (b + 1) w) head.1.0 texts),
      ap (λ x. texts_layout g.O.NativeType.primitive x) same
          ∙ utf8_is g.O.NativeType.primitive form s u a b n c.last.result c.args.limit os xs m g.met.O.StoredOffset.form_is head.1.0 stored.1 long head.1.1 end read.1,
    )

pub returns-clause-held : goal.returns-clause-held
returns-clause-held g c =
    let s = entries g.R.Failures.device c.args.body.now in
    let extra = c.args.body.now.extra in
    let b = c.args.place.buffer in
    let u = type_view c.args.data_type.now in
    let v = c.in_ok-head.head.validity in
    let os = c.in_ok-offsets.offsets in
    let xs = c.in_ok-values.values in
    let same : c.in_ok-try_new.field-0 ≡ spans_seen u os xs v = search rules in
    texts_held s extra b u v c.in_ok-head.ensures.held g.O.StoredOffset.form g.O.NativeType.primitive os xs c.in_ok-try_new.field-0 same c.in_ok-offsets.ensures.held c.in_ok-values.ensures.held
