use Rattle.std.proofs.Common.{arith, rules, ◌≡◌, ℕ, ◌≤◌, Err, length, None, refl, IsSome, ap, subst}
use Rattle.lower.specs.Counts.{nodes, buffers}
use Rattle.lower.specs.TypeViews.{type_view}
use Rattle.lower_arrays.specs.AnyLayouts.{layout_of}
use Rattle.ipc_base.specs.IdTrees.{all_ids_view}
use Rattle.ipc_devices.specs.Faults.{OwnFault}
use Rattle.ipc_model.specs.Batches.{Schema, Lists, extra_of, lists_of, entries_of}
use Rattle.ipc_model.specs.Batches as model
use Rattle.ipc_model.specs.Columns.{IsWell}
use Rattle.ipc_model.specs.Entries.{Entries}
use Rattle.ipc_model.specs.TypeKinds.{kind_of}
use Rattle.ipc_model.proofs.TypeKinds.{node_counts, buffer_counts}
use Rattle.ipc_read_flat.specs.Bodies.{entries, known_dictionaries, array_under}
use Rattle.ipc_read_nested.specs.ReadColumns.{IsColumn}
use Rattle.ipc_read.specs.Chunks.{order_of}
use Rattle.ipc_read.specs.Sizes.{AreSizes, total_of}
use Rattle.ipc_read.proofs.Batches.{same_entries}
use Rattle.ipc_read.proofs.HeldLists.{column_held}
use Rattle.ipc_read.proofs.Meanings.{listed_of}
use Rattle.ipc_read_flat.specs.Refusals.{TellsEntries}
use Rattle.ipc_read.proofs.Reasons.{unlisted_tells, lengths_say, counts_say, entries_tell}
use Rattle.ipc_read.proofs.Refusals.{counts_tell, lengths_tell}
use Rattle.ipc_read.specs.Refusals.{TellsCounts}
use Rattle.ipc_read.proofs.ValueReads.{schema_of, column_refused, column_judged, column_given, values_given}
use Rattle.ipc_read.proofs.read.dictionaries.read_values.Goals as goal

pub returns-in_err-nodes-clause-memory : goal.returns-in_err-nodes-clause-memory
returns-in_err-nodes-clause-memory g c = λ k.
    let fault = c.in_err-nodes.field-0.0 in
    let e : c.from_residual.result ≡ Err fault = search rules in
    let denied : OwnFault fault (IsSome (lists_of c.args.batch) → ⊥) = search rules in
    let u = type_view c.args.value_type.now in
    let schema : Schema = schema_of u (all_ids_view c.args.ids.now) (order_of c.args.is_little_endian) in
    let ds = known_dictionaries c.args.dictionaries.now in
    let body : model.Body = record { source = (g.R.Failures.device.memory c.args.reader.now).whole; base = c.args.block_offset; size = c.args.file_size } in
    rw e (column_refused fault (IsSome (lists_of c.args.batch)) schema (extra_of c.args.version) ds body c.args.batch u denied
    (λ h. listed_of schema (extra_of c.args.version) ds body c.args.batch None None h))

pub returns-in_err-check_lengths-clause-memory : goal.returns-in_err-check_lengths-clause-memory
returns-in_err-check_lengths-clause-memory g c = λ k.
    let fault = c.in_err-check_lengths.field-0.0 in
    let e : c.from_residual-in_err-check_lengths.result ≡ Err fault = search rules in
    let lists : Lists = record { nodes = c.in_ok-nodes.nodes; buffers = c.in_ok-nodes.buffers } in
    let P : Type 0 = AreSizes lists.buffers × (total_of lists.buffers ≤ c.args.file_size) in
    let denied : OwnFault fault (P → ⊥) = search rules in
    let u = type_view c.args.value_type.now in
    let is = all_ids_view c.args.ids.now in
    let order = order_of c.args.is_little_endian in
    let ds = known_dictionaries c.args.dictionaries.now in
    let body : model.Body = record { source = (g.R.Failures.device.memory c.args.reader.now).whole; base = c.args.block_offset; size = c.args.file_size } in
    rw e (column_refused fault P (schema_of u is order) (extra_of c.args.version) ds body c.args.batch u denied
    (λ h.
    let j = (column_judged (extra_of c.args.version) ds body c.args.batch u is order lists c.in_ok-nodes.ensures.exact.1 h).0 in
    (j.sizes, j.total)))

pub returns-in_err-check_column-clause-memory : goal.returns-in_err-check_column-clause-memory
returns-in_err-check_column-clause-memory g c = λ k.
    let fault = c.in_err-check_column.field-0.0 in
    let e : c.from_residual-in_err-check_column.result ≡ Err fault = search rules in
    let lists : Lists = record { nodes = c.in_ok-nodes.nodes; buffers = c.in_ok-nodes.buffers } in
    let extra = extra_of c.args.version in
    let u = type_view c.args.value_type.now in
    let is = all_ids_view c.args.ids.now in
    let order = order_of c.args.is_little_endian in
    let ds = known_dictionaries c.args.dictionaries.now in
    let P : Type 0 = (nodes u ≤ length lists.nodes) × (buffers c.count_extra-extra.result u ≤ length lists.buffers) in
    let denied : OwnFault fault (P → ⊥) = search rules in
    let body : model.Body = record { source = (g.R.Failures.device.memory c.args.reader.now).whole; base = c.args.block_offset; size = c.args.file_size } in
    let fronted = ap (λ (x : ℕ). buffers x u) c.count_extra-extra.ensures.extra in
    rw e (column_refused fault P (schema_of u is order) extra ds body c.args.batch u denied
    (λ h.
    let j = (column_judged extra ds body c.args.batch u is order lists c.in_ok-nodes.ensures.exact.1 h).0 in
    (omega (arith, j.nodes, node_counts u None is), omega (arith, j.buffers, buffer_counts extra u None is, fronted))))

pub returns-in_err-nodes-clause-lists : goal.returns-in_err-nodes-clause-lists
returns-in_err-nodes-clause-lists g c =
    let fault = c.in_err-nodes.field-0.0 in
    let e : c.from_residual.result ≡ Err fault = search rules in
    let u = type_view c.args.value_type.now in
    rw e (c.in_err-nodes.ensures.tells.each c.args.file_size (nodes u) (buffers (extra_of c.args.version) u))

pub returns-in_err-check_lengths-clause-lists : goal.returns-in_err-check_lengths-clause-lists
returns-in_err-check_lengths-clause-lists g c =
    let fault = c.in_err-check_lengths.field-0.0 in
    let e : c.from_residual-in_err-check_lengths.result ≡ Err fault = search rules in
    let lists : Lists = record { nodes = c.in_ok-nodes.nodes; buffers = c.in_ok-nodes.buffers } in
    let u = type_view c.args.value_type.now in
    rw e (lengths_tell c.args.batch lists c.in_ok-nodes.ensures.exact.1 c.args.file_size (nodes u) (buffers (extra_of c.args.version) u) fault c.in_err-check_lengths.ensures.tells)

pub returns-in_err-check_column-clause-lists : goal.returns-in_err-check_column-clause-lists
returns-in_err-check_column-clause-lists g c =
    let fault = c.in_err-check_column.field-0.0 in
    let e : c.from_residual-in_err-check_column.result ≡ Err fault = search rules in
    let lists : Lists = record { nodes = c.in_ok-nodes.nodes; buffers = c.in_ok-nodes.buffers } in
    let u = type_view c.args.value_type.now in
    let noded : c.len.result ≡ length lists.nodes = search rules in
    let listed : c.len-2.result ≡ length lists.buffers = search rules in
    let told : TellsCounts (length lists.nodes) (length lists.buffers) (nodes u) (buffers (extra_of c.args.version) u) fault =
    subst (λ (x : ℕ). TellsCounts (length lists.nodes) (length lists.buffers) (nodes u) (buffers x u) fault) c.count_extra-extra.ensures.extra
    (subst (λ (k : ℕ). TellsCounts (length lists.nodes) k (nodes u) (buffers c.count_extra-extra.result u) fault) listed
    (subst (λ (n : ℕ). TellsCounts n c.len-2.result (nodes u) (buffers c.count_extra-extra.result u) fault) noded c.in_err-check_column.ensures.tells)) in
    rw e (counts_tell c.args.batch lists c.in_ok-nodes.ensures.exact.1 c.args.file_size (nodes u) (buffers (extra_of c.args.version) u) fault told)

pub read-requires-clause-room : goal.read-requires-clause-room
read-requires-clause-room g c =
    let u = type_view c.args.value_type.now in
    let is = all_ids_view c.args.ids.now in
    let counts = c.in_ok-check_column.ensures.exact.0 in
    let noded : c.len.result ≡ length c.in_ok-nodes.nodes = search rules in
    let listed : c.len-2.result ≡ length c.in_ok-nodes.buffers = search rules in
    record {
      nodes_in = omega (arith, counts.0, node_counts u None is, noded);
      buffers_in = omega (arith, counts.1, buffer_counts c.count_extra-extra.result u None is, listed);
    }

pub returns-in_err-values-clause-memory : goal.returns-in_err-values-clause-memory
returns-in_err-values-clause-memory g c = λ k.
    let fault = c.in_err-values.field-0.0 in
    let e : c.from_residual-in_err-values.result ≡ Err fault = search rules in
    let lists : Lists = record { nodes = c.in_ok-nodes.nodes; buffers = c.in_ok-nodes.buffers } in
    let extra = extra_of c.args.version in
    let u = type_view c.args.value_type.now in
    let is = all_ids_view c.args.ids.now in
    let t = kind_of u None is in
    let order = order_of c.args.is_little_endian in
    let ds = known_dictionaries c.args.dictionaries.now in
    let body : model.Body = record { source = (g.R.Failures.device.memory c.args.reader.now).whole; base = c.args.block_offset; size = c.args.file_size } in
    let same : entries g.R.Failures.device _ ≡ entries_of lists body order extra ds =
    same_entries g.R.Failures.device _ lists body order extra refl refl (ap (λ r. (g.R.Failures.device.memory r).whole) c.of.ensures) refl c.byte_order.ensures c.count_extra-extra.ensures.extra in
    let P : Type 0 = IsWell (entries_of lists body order extra ds) t 0 0 None in
    let denied : OwnFault fault (P → ⊥) = subst (λ (s : Entries). OwnFault fault (IsWell s t 0 0 None → ⊥)) same (c.in_err-values.ensures.memory k) in
    rw e (column_refused fault P (schema_of u is order) extra ds body c.args.batch u denied
    (λ h. (column_judged extra ds body c.args.batch u is order lists c.in_ok-nodes.ensures.exact.1 h).1))

pub returns-clause-memory : goal.returns-clause-memory
returns-clause-memory g c = λ k.
    let lists : Lists = record { nodes = c.in_ok-nodes.nodes; buffers = c.in_ok-nodes.buffers } in
    let extra = extra_of c.args.version in
    let u = type_view c.args.value_type.now in
    let is = all_ids_view c.args.ids.now in
    let t = kind_of u None is in
    let order = order_of c.args.is_little_endian in
    let ds = known_dictionaries c.args.dictionaries.now in
    let vs = array_under c.args.dictionaries.now in
    let body : model.Body = record { source = (g.R.Failures.device.memory c.args.reader.now).whole; base = c.args.block_offset; size = c.args.file_size } in
    let same : entries g.R.Failures.device _ ≡ entries_of lists body order extra ds =
    same_entries g.R.Failures.device _ lists body order extra refl refl (ap (λ r. (g.R.Failures.device.memory r).whole) c.of.ensures) refl c.byte_order.ensures c.count_extra-extra.ensures.extra in
    let sizes = c.in_ok-check_lengths.ensures.exact.0 in
    let counts = c.in_ok-check_column.ensures.exact.0 in
    let fronted = ap (λ (x : ℕ). buffers x u) c.count_extra-extra.ensures.extra in
    let noded : c.len.result ≡ length lists.nodes = search rules in
    let listed : c.len-2.result ≡ length lists.buffers = search rules in
    let read = c.in_ok-values.ensures.memory k in
    let x = c.in_ok-values.values in
    column_given extra ds body c.args.batch u is order lists c.in_ok-nodes.ensures.exact.1 vs x
    (record {
      sizes = sizes.0;
      total = sizes.1;
      nodes = omega (arith, counts.0, noded, node_counts u None is);
      buffers = omega (arith, counts.1, fronted, listed, buffer_counts extra u None is);
    })
    (subst (λ (s : Entries). IsWell s t 0 0 None) same read.0)
    (subst (λ (s : Entries). IsColumn s vs t u 0 0 None (layout_of x)) same read.1)

pub returns-in_err-values-clause-given : goal.returns-in_err-values-clause-given
returns-in_err-values-clause-given g c =
    let lists : Lists = record { nodes = c.in_ok-nodes.nodes; buffers = c.in_ok-nodes.buffers } in
    let extra = extra_of c.args.version in
    let u = type_view c.args.value_type.now in
    let is = all_ids_view c.args.ids.now in
    let order = order_of c.args.is_little_endian in
    let ds = known_dictionaries c.args.dictionaries.now in
    let body : model.Body = record { source = (g.R.Failures.device.memory c.args.reader.now).whole; base = c.args.block_offset; size = c.args.file_size } in
    let same : entries g.R.Failures.device _ ≡ entries_of lists body order extra ds =
    same_entries g.R.Failures.device _ lists body order extra refl refl (ap (λ r. (g.R.Failures.device.memory r).whole) c.of.ensures) refl c.byte_order.ensures c.count_extra-extra.ensures.extra in
    values_given g.R.Failures.device _ lists body order extra ds (lists_of c.args.batch) u is
    (g.R.Failures.device.given c.args.reader.now) (g.R.Failures.device.given c.read.new.reader) same c.count_extra-extra.ensures.extra c.in_ok-nodes.ensures.exact.1
    c.in_err-values.ensures.step.bounded

pub returns-clause-given : goal.returns-clause-given
returns-clause-given g c =
    let lists : Lists = record { nodes = c.in_ok-nodes.nodes; buffers = c.in_ok-nodes.buffers } in
    let extra = extra_of c.args.version in
    let u = type_view c.args.value_type.now in
    let is = all_ids_view c.args.ids.now in
    let order = order_of c.args.is_little_endian in
    let ds = known_dictionaries c.args.dictionaries.now in
    let body : model.Body = record { source = (g.R.Failures.device.memory c.args.reader.now).whole; base = c.args.block_offset; size = c.args.file_size } in
    let same : entries g.R.Failures.device _ ≡ entries_of lists body order extra ds =
    same_entries g.R.Failures.device _ lists body order extra refl refl (ap (λ r. (g.R.Failures.device.memory r).whole) c.of.ensures) refl c.byte_order.ensures c.count_extra-extra.ensures.extra in
    values_given g.R.Failures.device _ lists body order extra ds (lists_of c.args.batch) u is
    (g.R.Failures.device.given c.args.reader.now) (g.R.Failures.device.given c.read.new.reader) same c.count_extra-extra.ensures.extra c.in_ok-nodes.ensures.exact.1
    c.in_ok-values.ensures.step.bounded

pub returns-clause-held : goal.returns-clause-held
returns-clause-held g c =
    let lists : Lists = record { nodes = c.in_ok-nodes.nodes; buffers = c.in_ok-nodes.buffers } in
    let extra = extra_of c.args.version in
    let u = type_view c.args.value_type.now in
    let is = all_ids_view c.args.ids.now in
    let order = order_of c.args.is_little_endian in
    let ds = known_dictionaries c.args.dictionaries.now in
    let body : model.Body = record { source = (g.R.Failures.device.memory c.args.reader.now).whole; base = c.args.block_offset; size = c.args.file_size } in
    let same : entries g.R.Failures.device _ ≡ entries_of lists body order extra ds =
    same_entries g.R.Failures.device _ lists body order extra refl refl (ap (λ r. (g.R.Failures.device.memory r).whole) c.of.ensures) refl c.byte_order.ensures c.count_extra-extra.ensures.extra in
    column_held g.R.Failures.device _ lists body order extra ds (lists_of c.args.batch) u is c.in_ok-values.values same c.count_extra-extra.ensures.extra c.in_ok-nodes.ensures.exact.1
    c.in_ok-check_lengths.ensures.exact.0.1 c.in_ok-values.ensures.held

pub returns-in_err-nodes-clause-tells : goal.returns-in_err-nodes-clause-tells
returns-in_err-nodes-clause-tells g c =
    let fault = c.in_err-nodes.field-0.0 in
    let e : c.from_residual.result ≡ Err fault = search rules in
    let denied : OwnFault fault (IsSome (lists_of c.args.batch) → ⊥) = search rules in
    rw e (unlisted_tells g.R.Failures.device.is_memory (order_of c.args.is_little_endian) (extra_of c.args.version) (known_dictionaries c.args.dictionaries.now)
    (record { source = (g.R.Failures.device.memory c.args.reader.now).whole; base = c.args.block_offset; size = c.args.file_size }) c.args.batch fault denied)

pub returns-in_err-check_lengths-clause-tells : goal.returns-in_err-check_lengths-clause-tells
returns-in_err-check_lengths-clause-tells g c =
    let fault = c.in_err-check_lengths.field-0.0 in
    let e : c.from_residual-in_err-check_lengths.result ≡ Err fault = search rules in
    let lists : Lists = record { nodes = c.in_ok-nodes.nodes; buffers = c.in_ok-nodes.buffers } in
    rw e (lengths_say g.R.Failures.device.is_memory (order_of c.args.is_little_endian) (extra_of c.args.version) (known_dictionaries c.args.dictionaries.now)
    (record { source = (g.R.Failures.device.memory c.args.reader.now).whole; base = c.args.block_offset; size = c.args.file_size }) c.args.batch lists c.in_ok-nodes.ensures.exact.1
    c.args.file_size fault c.in_err-check_lengths.ensures.tells)

pub returns-in_err-check_column-clause-tells : goal.returns-in_err-check_column-clause-tells
returns-in_err-check_column-clause-tells g c =
    let fault = c.in_err-check_column.field-0.0 in
    let e : c.from_residual-in_err-check_column.result ≡ Err fault = search rules in
    let lists : Lists = record { nodes = c.in_ok-nodes.nodes; buffers = c.in_ok-nodes.buffers } in
    rw e (counts_say g.R.Failures.device.is_memory (order_of c.args.is_little_endian) (extra_of c.args.version) (known_dictionaries c.args.dictionaries.now)
    (record { source = (g.R.Failures.device.memory c.args.reader.now).whole; base = c.args.block_offset; size = c.args.file_size }) c.args.batch lists c.in_ok-nodes.ensures.exact.1
    _ _ _ _ fault c.in_err-check_column.ensures.tells)

pub returns-in_err-values-clause-tells : goal.returns-in_err-values-clause-tells
returns-in_err-values-clause-tells g c =
    let fault = c.in_err-values.field-0.0 in
    let e : c.from_residual-in_err-values.result ≡ Err fault = search rules in
    let lists : Lists = record { nodes = c.in_ok-nodes.nodes; buffers = c.in_ok-nodes.buffers } in
    let extra = extra_of c.args.version in
    let order = order_of c.args.is_little_endian in
    let ds = known_dictionaries c.args.dictionaries.now in
    let body : model.Body = record { source = (g.R.Failures.device.memory c.args.reader.now).whole; base = c.args.block_offset; size = c.args.file_size } in
    let same : entries g.R.Failures.device _ ≡ entries_of lists body order extra ds =
    same_entries g.R.Failures.device _ lists body order extra refl refl (ap (λ r. (g.R.Failures.device.memory r).whole) c.of.ensures) refl c.byte_order.ensures c.count_extra-extra.ensures.extra in
    rw e (entries_tell g.R.Failures.device.is_memory order extra ds body c.args.batch lists c.in_ok-nodes.ensures.exact.1 fault
    (subst (λ (s : Entries). OwnFault fault (TellsEntries g.R.Failures.device.is_memory s fault)) same c.in_err-values.ensures.tells))
