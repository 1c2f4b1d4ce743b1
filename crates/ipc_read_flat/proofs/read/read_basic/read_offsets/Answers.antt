use Rattle.std.proofs.Common.{arith, rules, ◌≡◌, ℕ, pos, ◌+◌, ◌*◌, map, length, vec_len, true, false, Err, sym, ap, subst, ◌∙◌}
use Rattle.std.proofs.lemmas.List.{length-map}
use Rattle.lower.specs.Offsets.{AreOffsets, IsOffsets}
use Rattle.ipc_devices.specs.declared.fault.Fault.TheVariants.{Lower}
use Rattle.ipc_model.specs.Kinds.{offset_width}
use Rattle.ipc_model.specs.Entries.{Need}
use Rattle.ipc_model.specs.Columns.{is_omitted, Offsets}
use Rattle.ipc_read_flat.specs.Bodies.{entries}
use Rattle.ipc_read_flat.proofs.FlatLevels.{order_is}
use Rattle.ipc_read_flat.proofs.OffsetLists.{offsets_told, list_is, offsets_are, offsets_were}
use Rattle.ipc_read_flat.proofs.HeldLevels.{offsets_within}
use Rattle.ipc_read_flat.proofs.HeldOffsets.{zero_within}
use Rattle.ipc_read_flat.proofs.read.read_basic.read_offsets.Goals as goal

pub returns-in_err-try_new-clause-memory : goal.returns-in_err-try_new-clause-memory
returns-in_err-try_new-clause-memory g c = λ k.
    let s = entries g.R.Failures.device c.args.body.now in
    let form = g.O.StoredOffset.form in
    let integer = g.O.Offset.integer in
    let order = c.args.body.now.order in
    let v = c.in_ok-numbers.numbers.items in
    let read = c.in_ok-numbers.ensures.memory k in
    let kept : is_omitted s c.args.index c.args.count ≡ false = sym c.is_omitted.ensures ∙ c.if-is_omitted.false in
    let told =
    offsets_told form integer (g.O.NativeType.value order) g.O.NativeType.width order s c.args.index c.args.count v
    (λ ys. g.met.O.StoredOffset.reads order ys) (λ ys. g.met.O.NativeType.reads_first order ys) g.met.O.StoredOffset.form_width (order_is g.R.Failures.device c.args.body.now) read.0.2 read.1
    in
    let broken : ¬ (AreOffsets integer v) = search rules in
    let denied : Offsets s c.args.index (offset_width form) c.args.count → ⊥ = λ o. broken (offsets_were form integer s c.args.index c.args.count v told kept o) in
    let is : c.from_residual-in_err-try_new.result ≡ Err (Lower c.in_err-try_new.field-0.0) = search rules in
    rw is denied

pub returns-clause-memory : goal.returns-clause-memory
returns-clause-memory g c = λ k.
    let s = entries g.R.Failures.device c.args.body.now in
    let form = g.O.StoredOffset.form in
    let integer = g.O.Offset.integer in
    let order = c.args.body.now.order in
    let v = c.in_ok-numbers.numbers.items in
    let read = c.in_ok-numbers.ensures.memory k in
    let kept : is_omitted s c.args.index c.args.count ≡ false = sym c.is_omitted.ensures ∙ c.if-is_omitted.false in
    let told =
    offsets_told form integer (g.O.NativeType.value order) g.O.NativeType.width order s c.args.index c.args.count v
    (λ ys. g.met.O.StoredOffset.reads order ys) (λ ys. g.met.O.NativeType.reads_first order ys) g.met.O.StoredOffset.form_width (order_is g.R.Failures.device c.args.body.now) read.0.2 read.1
    in
    let made : (map pos c.in_ok-try_new.field-0 ≡ map integer v) × IsOffsets c.in_ok-try_new.field-0 = search rules in
    let need : Need s c.args.index (offset_width form * (c.args.count + 1)) = subst (λ (n : ℕ). Need s c.args.index (n * (c.args.count + 1))) g.met.O.StoredOffset.form_width read.0 in (
      offsets_are form integer s c.args.index c.args.count v told kept c.in_ok-try_new.field-0 made.0 made.1 need,
      list_is form integer s c.args.index c.args.count v told kept c.in_ok-try_new.field-0 made.0,
    )

pub returns-then-is_omitted-clause-held : goal.returns-then-is_omitted-clause-held
returns-then-is_omitted-clause-held g c =
    let s = entries g.R.Failures.device c.args.body.now in
    let omitted : is_omitted s c.args.index c.args.count ≡ true = sym c.is_omitted.ensures ∙ c.if-is_omitted.true in
    zero_within s g.O.StoredOffset.form c.args.index g.O.NativeType.width c.args.count g.O.NativeType.primitive g.met.O.NativeType.width_is g.met.O.StoredOffset.form_width omitted
    c.only_zero.result c.only_zero.ensures.zero

pub returns-clause-held : goal.returns-clause-held
returns-clause-held g c =
    let s = entries g.R.Failures.device c.args.body.now in
    let integer = g.O.Offset.integer in
    let os = c.in_ok-try_new.field-0 in
    let v = c.in_ok-numbers.numbers.items in
    let made : (map pos os ≡ map integer v) × IsOffsets os = search rules in
    let long : length v ≡ vec_len c.in_ok-numbers.numbers = omega arith in
    let count : length os ≡ vec_len c.in_ok-numbers.numbers = sym (length-map os pos) ∙ ap length made.0 ∙ length-map v integer ∙ long in
    offsets_within s g.O.StoredOffset.form c.args.index g.O.NativeType.width (vec_len c.in_ok-numbers.numbers) g.O.NativeType.primitive os g.met.O.NativeType.width_is count
    c.in_ok-numbers.ensures.held
