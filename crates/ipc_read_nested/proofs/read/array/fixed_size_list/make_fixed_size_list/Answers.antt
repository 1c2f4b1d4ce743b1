use Rattle.std.proofs.Common.{rules, ◌≡◌, ◌*◌, ap, ◌∙◌}
use Rattle.lower.specs.TypeViews.{type_view}
use Rattle.lower_arrays.specs.Layouts.{len_of}
use Rattle.lower_arrays.specs.FixedLists.{fixed_list_seen, fixed_list_layout}
use Rattle.lower_arrays.specs.Slots.{IsArray}
use Rattle.lower_arrays.specs.AnyLayouts.{layout_of}
use Rattle.ipc_read_nested.proofs.FixedReads.{fixed_made}
use Rattle.ipc_read_nested.proofs.read.array.fixed_size_list.make_fixed_size_list.Goals as goal

pub returns-clause-exact : goal.returns-clause-exact
returns-clause-exact c =
    let u = type_view c.args.own.now in
    let x = layout_of c.args.child in
    let n = c.args.head.rows in
    let v = c.args.head.validity in
    let len : len_of x ≡ n * c.args.size = search rules in
    let same : c.in_ok-array.array ≡ fixed_list_seen u x v = search rules in
    let whole : IsArray (fixed_list_layout (fixed_list_seen u x v)) = search rules in
    ((whole.1.3, len), ap fixed_list_layout same ∙ fixed_made u c.args.size n x v c.requires.named c.requires.some len)
