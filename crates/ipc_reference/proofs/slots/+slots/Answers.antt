use Rattle.std.proofs.Common.{◌+◌, ap, sym, ◌∙◌, arith}
use Rattle.ipc_model.specs.Columns.{slot_at, slots_at}
use Rattle.ipc_reference.proofs.SlotViews.{read_none, read_more, list_is, record_more, record_all}
use Rattle.ipc_reference.proofs.Views.{kind-List, nodes_left, buffers_left}
use Rattle.ipc_reference.specs.PlainEntries.{entries_view}
use Rattle.ipc_reference.specs.PlainKinds.{kind_view, kinds_view}
use Rattle.ipc_reference.proofs.slots.+slots.Goals as goal

pub slot_at-loop-j-init : goal.slot_at-loop-j-init
slot_at-loop-j-init t c = record {
  read = read_none _ c.new-items.result.items c.offset-j.result c.new-items.ensures.items;
  few = omega arith;
}

pub slot_at-loop-j-preserved : goal.slot_at-loop-j-preserved
slot_at-loop-j-preserved t c = record {
  read =
      read_more (λ j. slot_at (entries_view c.args.entries.now) (kind_view c.in-List.item.value) (c.args.a + 1) (c.args.b + 2) j)
      c.loop-j.items.items c.push.new.self.items c.in_ok-slot_at-in-List.field-0 c.offset-j.result c.loop-j.j
      c.in_ok-push-in-List.ensures.items c.loop-j.auto.j c.loop-j.invariant.read
      (c.in_ok-slot_at-in-List.ensures
      ∙ ap (λ k. slot_at (entries_view c.args.entries.now) (kind_view k) (c.args.a + 1) (c.args.b + 2) c.loop-j.j) c.deref.ensures);
  few = omega (arith, c.loop-j-test.true);
}

pub slot_at-returns-after-loop-j : goal.slot_at-returns-after-loop-j
slot_at-returns-after-loop-j t c =
    list_is (entries_view c.args.entries.now) (kind_view c.in-List.item.value) c.args.a c.args.b c.args.i c.offset-j.result c.offset-j-end.result c.loop-j.j c.loop-j.items
    (sym c.is_valid.ensures ∙ c.if-not-is_valid.false) c.offset-j.ensures.offset c.offset-j-end.ensures.offset c.loop-j.invariant.read
    c.loop-j-test.false c.loop-j.invariant.few
    ∙ ap (λ k. slot_at (entries_view c.args.entries.now) k c.args.a c.args.b c.args.i) (sym (ap kind_view c.in-List.is ∙ kind-List c.in-List.item))

pub slots_at-loop-kind-preserved : goal.slots_at-loop-kind-preserved
slots_at-loop-kind-preserved t c =
    record {
      rest =
          record_more (entries_view c.args.entries.now) c.args.kinds.now c.loop-kind.kind-index c.args.i c.loop-kind.node c.loop-kind.buffer c.node_count.result c.buffer_count.result
          c.kind-item.result c.loop-kind.slots.items c.push.new.self.items c.in_ok-slot_at.field-0
          (slots_at (entries_view c.args.entries.now) (kinds_view c.args.kinds.now) c.args.a c.args.b c.args.i) c.in_ok-push.ensures.items c.kind-item.is c.loop-kind-test.true c.loop-kind.invariant.rest
          c.in_ok-slot_at.ensures c.node_count.ensures c.buffer_count.ensures;
      node = omega (arith, c.loop-kind.invariant.node, c.node_count.ensures, nodes_left c.args.kinds.now c.loop-kind.kind-index c.kind-item.result c.kind-item.is c.loop-kind-test.true);
      buffer = omega (arith, c.loop-kind.invariant.buffer, c.buffer_count.ensures, buffers_left c.args.entries.now.extra c.args.kinds.now c.loop-kind.kind-index c.kind-item.result c.kind-item.is c.loop-kind-test.true);
    }

pub slots_at-returns : goal.slots_at-returns
slots_at-returns t c =
    record_all (entries_view c.args.entries.now) c.args.kinds.now c.loop-kind.kind-index c.args.i c.loop-kind.node c.loop-kind.buffer c.loop-kind.slots.items
    (slots_at (entries_view c.args.entries.now) (kinds_view c.args.kinds.now) c.args.a c.args.b c.args.i)
    c.loop-kind-test.false c.loop-kind.invariant.rest
