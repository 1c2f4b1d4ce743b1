use Rattle.std.proofs.Common.{◌≡◌, ◌+◌, ◌*◌, length, Some, ap, ◌∙◌}
use Rattle.lower.specs.Normal.{norm}
use Rattle.lower.specs.TypeViews.{type_view}
use Rattle.lower_types.specs.NumberTypes.{width_of}
use Rattle.lower_validation.specs.AnyKeys.{keys_seen}
use Rattle.lower_validation.specs.Rules.{DictionaryRules}
use Rattle.lower_arrays.specs.AnyLayouts.{layout_of}
use Rattle.lower_arrays.specs.Layouts.{len_of, type_of}
use Rattle.ipc_devices.proofs.Claims.{denies_through}
use Rattle.ipc_devices.specs.Faults.{OwnFault}
use Rattle.ipc_model.specs.Columns.{Begins, values_type, values_slots, IsWell}
use Rattle.ipc_model.specs.Entries.{Need, rows}
use Rattle.ipc_model.specs.Kinds.{dictionary_kind}
use Rattle.ipc_model.specs.TypeKinds.{key_form}
use Rattle.ipc_read_flat.specs.Bodies.{entries, known}
use Rattle.ipc_read_flat.proofs.Fetches.{refused}
use Rattle.ipc_read_flat.proofs.KeyReads.{keys_rules, keys_well, keys_array}
use Rattle.ipc_read_flat.proofs.KnownValues.{values_count}
use Rattle.ipc_read_flat.proofs.HeldLevels.{dictionary_held}
use Rattle.ipc_read_flat.proofs.read.array.dictionary.read_dictionary.Goals as goal

pub returns-in_err-values-clause-memory : goal.returns-in_err-values-clause-memory
returns-in_err-values-clause-memory g c = λ k.
    let s = entries g.R.Failures.device c.args.body.now in
    let v = type_view c.args.value_type.now in
    let t = dictionary_kind (key_form c.args.keys) c.args.id (norm v) in
    let fault = c.in_err-values.field-0.0 in
    let well : Type 0 = IsWell s t c.args.place.node c.args.place.buffer c.args.limit in
    let denied : OwnFault fault (well → ⊥) = denies_through fault (values_type s c.args.id ≡ Some (norm v)) well (λ h. h.2.known) c.in_err-values.ensures.exact in
    refused c.from_residual.result fault _ _ c.from_residual.ensures denied

pub returns-in_err-read-clause-memory : goal.returns-in_err-read-clause-memory
returns-in_err-read-clause-memory g c = λ k.
    let s = entries g.R.Failures.device c.args.body.now in
    let a = c.args.place.node in
    let b = c.args.place.buffer in
    let f = key_form c.args.keys in
    let n = rows s a c.args.limit in
    let t = dictionary_kind f c.args.id (norm (type_view c.args.value_type.now)) in
    let fault = c.in_err-read.field-0.0 in
    let well : Type 0 = IsWell s t a b c.args.limit in
    let denied : OwnFault fault (well → ⊥) =
    denies_through fault (Begins s a b n × Need s (b + 1) (width_of f * n)) well (λ h. (h.0, h.1)) (c.in_err-read.ensures.memory k)
    in
    refused c.from_residual-in_err-read.result fault _ _ c.from_residual-in_err-read.ensures denied

pub returns-in_err-array-clause-memory : goal.returns-in_err-array-clause-memory
returns-in_err-array-clause-memory g c = λ k.
    let s = entries g.R.Failures.device c.args.body.now in
    let vs = known c.args.body.now in
    let a = c.args.place.node in
    let b = c.args.place.buffer in
    let u = type_view c.args.own.now in
    let v = type_view c.args.value_type.now in
    let id = c.args.id in
    let l = layout_of c.in_ok-values.values.value in
    let ks = keys_seen c.in_ok-read.read in
    let found = c.in_ok-values.ensures.exact in
    let many : len_of l ≡ length (values_slots s id) = ap len_of found.1 ∙ values_count g.R.Failures.device c.args.body.now id in
    let t = dictionary_kind (key_form c.args.keys) id (norm v) in
    let fault = c.in_err-array.field-0.0 in
    let well : Type 0 = IsWell s t a b c.args.limit in
    let denied : OwnFault fault (well → ⊥) =
    denies_through fault (DictionaryRules u ks (type_of l) (len_of l)) well
    (λ h. keys_rules s vs c.args.keys u v id a b c.args.limit ks l c.requires.lies c.requires.named c.in_ok-values.ensures.named many (c.in_ok-read.ensures.memory k).1 h)
    c.in_err-array.ensures.exact
    in
    refused c.from_residual-in_err-array.result fault _ _ c.from_residual-in_err-array.ensures denied

pub returns-clause-memory : goal.returns-clause-memory
returns-clause-memory g c = λ k.
    let s = entries g.R.Failures.device c.args.body.now in
    let vs = known c.args.body.now in
    let a = c.args.place.node in
    let b = c.args.place.buffer in
    let u = type_view c.args.own.now in
    let v = type_view c.args.value_type.now in
    let id = c.args.id in
    let l = layout_of c.in_ok-values.values.value in
    let ks = keys_seen c.in_ok-read.read in
    let found = c.in_ok-values.ensures.exact in
    let read = c.in_ok-read.ensures.memory k in
    let made = c.in_ok-array.ensures.exact in
    let many : len_of l ≡ length (values_slots s id) = ap len_of found.1 ∙ values_count g.R.Failures.device c.args.body.now id in (
      keys_well s vs c.args.keys u v id a b c.args.limit ks l c.requires.lies c.requires.named c.in_ok-values.ensures.named many read.1 read.0 found.0 made.0,
      keys_array s vs c.args.keys u v id a b c.args.limit ks l c.requires.lies c.requires.named c.in_ok-values.ensures.named many read.1 found.1 (layout_of c.in_ok-array.array) made.1,
    )

pub returns-clause-held : goal.returns-clause-held
returns-clause-held g c =
    dictionary_held (entries g.R.Failures.device c.args.body.now) c.args.body.now.extra c.args.place.buffer (key_form c.args.keys) c.args.id (norm (type_view c.args.value_type.now)) (type_view c.args.own.now)
    (keys_seen c.in_ok-read.read) (layout_of c.in_ok-values.values.value) (layout_of c.in_ok-array.array) c.in_ok-array.ensures.exact.1 c.in_ok-read.ensures.held
