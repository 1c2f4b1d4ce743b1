use Rattle.std.proofs.Common.{◌≡◌, List, Option, IfOk, subst, ap, ◌∙◌, map}
use Rattle.std.specs.Option.{option_map}
use Rattle.lower_arrays.specs.Slots.{Slot}
use Rattle.ipc_reference.proofs.Windows.{listed_is}
use Rattle.ipc_reference.specs.PlainBatches.{columns_view}
use Rattle.ipc_reference.specs.PlainEntries.{part_view}
use Rattle.ipc_reference.specs.PlainKinds.{kinds_view}
use Rattle.ipc_reference.specs.PlainRecords.{body_view}
use Rattle.ipc_reference.proofs.record.listed_columns.Goals as goal

pub returns : goal.returns
returns c =
    subst (λ (z : Option (List (List Slot))). IfOk c.plain_batch.result (λ r. option_map (λ v. columns_view v.items) r ≡ z))
    (listed_is (record { nodes = c.args.listed.now; buffers = c.args.buffers.now }) (body_view c.args.body.now) c.args.body.now.order c.args.body.now.extra
    (kinds_view c.args.kinds.now) c.args.chosen.now c.args.limit _ _
    (c.as_slice.ensures.value ∙ c.in_ok-nodes.ensures)
    (ap (map part_view) c.as_slice-2.ensures.value ∙ c.in_ok-parts.ensures))
    c.plain_batch.ensures
