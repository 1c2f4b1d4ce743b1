use Rattle.std.proofs.Common.{◌≡◌, ap, sym, subst, ◌∙◌}
use Rattle.lower.specs.TypeViews.{type_view}
use Rattle.lower.specs.declared.datatypes.physical_type.PhysicalType.{PhysicalType}
use Rattle.lower_arrays.specs.AnyLayouts.{layout_of}
use Rattle.lower_flat_arrays.specs.FixedBinaries.{byte_size}
use Rattle.ipc_devices.proofs.Claims.{denies_through}
use Rattle.ipc_base.specs.IdTrees.{all_ids_view}
use Rattle.ipc_devices.specs.Faults.{OwnFault}
use Rattle.ipc_model.specs.Kinds.{Kind}
use Rattle.ipc_model.specs.TypeKinds.{kind_of}
use Rattle.ipc_model.specs.Columns.{IsWell}
use Rattle.ipc_model.specs.ReadArrays.{array_at}
use Rattle.ipc_read_flat.specs.Bodies.{entries, known}
use Rattle.ipc_read_flat.specs.FlatKinds.{flat_kind}
use Rattle.ipc_read_flat.specs.Kinds.{IsBehind}
use Rattle.ipc_read_flat.proofs.Fetches.{refused, failing}
use Rattle.ipc_read_flat.specs.Refusals.{IsFaultOf}
use Rattle.ipc_read_nested.proofs.Plain.{stored_kind}
use Rattle.ipc_read_flat.proofs.Refusals.{same_kind}
use Rattle.ipc_read_flat.specs.HeldListed.{HoldsListed}
use Rattle.ipc_read_nested.proofs.read.deserialize.read_plain.Goals as goal

pub returns-in_err-array-clause-only : goal.returns-in_err-array-clause-only
returns-in_err-array-clause-only g c =
    let own = type_view c.args.own.now in
    let t = type_view c.args.data_type.now in
    let kind = kind_of t c.args.id (all_ids_view c.args.ids.now) in
    let lies = c.to_physical_type-physical_type.result in
    let same : kind ≡ flat_kind lies (byte_size own) =
    stored_kind own t c.args.id (all_ids_view c.args.ids.now) c.requires.plain c.requires.stored
    ∙ ap (λ (p : PhysicalType). flat_kind p (byte_size own)) (sym c.to_physical_type-physical_type.ensures)
    in
    let fault = c.in_err-array.field-0.0 in
    failing c.from_residual.result fault (λ e. OwnFault e (IsFaultOf kind e)) c.from_residual.ensures
    (same_kind (flat_kind lies (byte_size own)) kind fault (sym same) c.in_err-array.ensures.only)

pub returns-in_err-array-clause-memory : goal.returns-in_err-array-clause-memory
returns-in_err-array-clause-memory g c = λ k.
    let s = entries g.R.Failures.device c.args.body.now in
    let a = c.args.place.node in
    let b = c.args.place.buffer in
    let own = type_view c.args.own.now in
    let t = type_view c.args.data_type.now in
    let kind = kind_of t c.args.id (all_ids_view c.args.ids.now) in
    let lies = c.to_physical_type-physical_type.result in
    let same : kind ≡ flat_kind lies (byte_size own) =
    stored_kind own t c.args.id (all_ids_view c.args.ids.now) c.requires.plain c.requires.stored
    ∙ ap (λ (p : PhysicalType). flat_kind p (byte_size own)) (sym c.to_physical_type-physical_type.ensures)
    in
    let fault = c.in_err-array.field-0.0 in
    let well : Type 0 = IsWell s kind a b c.args.limit in
    let denied : OwnFault fault (well → ⊥) =
    denies_through fault (IsWell s (flat_kind lies (byte_size own)) a b c.args.limit) well
    (λ h. subst (λ (z : Kind). IsWell s z a b c.args.limit) same h) (c.in_err-array.ensures.memory k)
    in
    refused c.from_residual.result fault _ _ c.from_residual.ensures denied

pub returns-clause-next : goal.returns-clause-next
returns-clause-next g c =
    let own = type_view c.args.own.now in
    let t = type_view c.args.data_type.now in
    let same : kind_of t c.args.id (all_ids_view c.args.ids.now) ≡ flat_kind c.to_physical_type-physical_type.result (byte_size own) =
    stored_kind own t c.args.id (all_ids_view c.args.ids.now) c.requires.plain c.requires.stored
    ∙ ap (λ (p : PhysicalType). flat_kind p (byte_size own)) (sym c.to_physical_type-physical_type.ensures)
    in
    subst (λ (z : Kind). IsBehind c.args.body.now.extra z c.args.place c.flat_after-after.result) (sym same) c.flat_after-after.ensures.next

pub returns-clause-memory : goal.returns-clause-memory
returns-clause-memory g c = λ k.
    let s = entries g.R.Failures.device c.args.body.now in
    let a = c.args.place.node in
    let b = c.args.place.buffer in
    let own = type_view c.args.own.now in
    let t = type_view c.args.data_type.now in
    let kind = kind_of t c.args.id (all_ids_view c.args.ids.now) in
    let same : kind ≡ flat_kind c.to_physical_type-physical_type.result (byte_size own) =
    stored_kind own t c.args.id (all_ids_view c.args.ids.now) c.requires.plain c.requires.stored
    ∙ ap (λ (p : PhysicalType). flat_kind p (byte_size own)) (sym c.to_physical_type-physical_type.ensures)
    in
    let x = layout_of c.in_ok-array.array in
    let read = c.in_ok-array.ensures.memory k in (
      subst (λ (z : Kind). IsWell s z a b c.args.limit) (sym same) read.0,
      subst (λ (z : Kind). x ≡ array_at s (known c.args.body.now) z own a b c.args.limit) (sym same) read.1,
    )

pub returns-clause-held : goal.returns-clause-held
returns-clause-held g c =
    let s = entries g.R.Failures.device c.args.body.now in
    let own = type_view c.args.own.now in
    let t = type_view c.args.data_type.now in
    let same : kind_of t c.args.id (all_ids_view c.args.ids.now) ≡ flat_kind c.to_physical_type-physical_type.result (byte_size own) =
    stored_kind own t c.args.id (all_ids_view c.args.ids.now) c.requires.plain c.requires.stored
    ∙ ap (λ (p : PhysicalType). flat_kind p (byte_size own)) (sym c.to_physical_type-physical_type.ensures)
    in
    subst (λ (z : Kind). HoldsListed s c.args.body.now.extra z c.args.place.buffer (layout_of c.in_ok-array.array)) (sym same) c.in_ok-array.ensures.held
