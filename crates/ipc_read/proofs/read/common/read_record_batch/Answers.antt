use Rattle.std.proofs.Common.{arith, rules, ◌≡◌, ℕ, ◌+◌, ◌≤◌, Err, List, length, Option, Some, refl, IsSome, ap, sym, subst, ◌∙◌}
use Rattle.std.specs.Option.{option_copied}
use Rattle.lower.specs.Counts.{fields_nodes, fields_buffers}
use Rattle.lower.specs.TypeViews.{fields_view}
use Rattle.ipc_base.specs.IdTrees.{all_ids_view}
use Rattle.ipc_base.specs.declared.ipc.IpcField.{IpcField}
use Rattle.ipc_devices.specs.Device.{IsAnswered}
use Rattle.ipc_devices.specs.Faults.{OwnFault}
use Rattle.ipc_model.specs.Batches.{Schema, Lists, kinds, extra_of, lists_of, entries_of, chosen}
use Rattle.ipc_model.specs.Batches as model
use Rattle.ipc_model.specs.Entries.{Entries}
use Rattle.ipc_model.specs.ReadArrays.{AreValues}
use Rattle.ipc_model.specs.TypeKinds.{kinds_of}
use Rattle.ipc_read_flat.proofs.KnownValues.{values_are}
use Rattle.ipc_model.proofs.TypeKinds.{node_count_law, buffer_count_law}
use Rattle.ipc_read_flat.specs.Bodies.{entries, known_dictionaries, array_under}
use Rattle.ipc_read.specs.Chunks.{batch_schema, order_of}
use Rattle.ipc_read.specs.Columns.{ArePrepared, HasColumns, AreColumns}
use Rattle.ipc_read.specs.HeldChunks.{arrays_held, chosen_empty}
use Rattle.ipc_read.specs.Sizes.{AreSizes, total_of, chosen_listed}
use Rattle.ipc_read.proofs.Batches.{same_entries}
use Rattle.ipc_read.proofs.Fields.{field_count}
use Rattle.ipc_read.proofs.KnownArrays.{have_meaning, dictionaries_are, chunk_has_meaning}
use Rattle.ipc_read.proofs.HeldLists.{held_total, chunk_holds}
use Rattle.ipc_read.proofs.Listed.{given_total}
use Rattle.ipc_read.proofs.Within.{chosen_within, hold_within}
use Rattle.ipc_read.proofs.Meanings.{listed_of, refused, judged, gives_batch}
use Rattle.ipc_read_flat.specs.Refusals.{TellsEntries}
use Rattle.ipc_read.proofs.Reasons.{unlisted_tells, lengths_say, counts_say, entries_tell, unequal_tells}
use Rattle.ipc_read.proofs.Refusals.{counts_tell, lengths_tell, columns_tell, entries_in_batch, list_in_batch, some_in_batch, unequal_in_batch, unequal_tell}
use Rattle.ipc_read.specs.Refusals.{TellsCounts, IsFaultOfSome}
use Rattle.ipc_devices.proofs.Acts.{each_err, each_ok, idle_device, none_answered, other_fault, always_told}
use Rattle.ipc_devices.specs.declared.fault.Fault.TheVariants.{Argument}
use Rattle.ipc_devices.specs.declared.fault.ArgFault.TheVariants.{UnequalRows}
use Rattle.ipc_read.specs.Api.{BatchRequest, RecordBatchCause, batch_request}
use Rattle.ipc_read.proofs.read.common.read_record_batch.Goals as goal

pub returns-in_err-nodes-clause-batch : goal.returns-in_err-nodes-clause-batch
returns-in_err-nodes-clause-batch g c =
    let ds = known_dictionaries c.args.dictionaries.now in
    let fault = c.in_err-nodes.field-0.0 in
    let e : c.from_residual.result ≡ Err fault = search rules in
    let denied : OwnFault fault (IsSome (lists_of c.args.batch) → ⊥) = search rules in
    let fs = fields_view c.args.fields.now in
    let schema : Schema = batch_schema c.args.fields.now c.args.ipc_schema.now in
    let order = order_of c.args.ipc_schema.now.is_little_endian in
    let extra = extra_of c.args.version in
    let body : model.Body = record { source = (g.R.Failures.device.memory c.args.reader.now).whole; base = c.args.block_offset; size = c.args.file_size } in
    let projection : Option (List ℕ) = option_copied c.args.projection in
    let js = chosen projection (length c.args.fields.now) in
    rw e (record {
      exact = λ k. refused fault (IsSome (lists_of c.args.batch)) schema extra ds body c.args.batch projection c.args.limit denied
          (λ h. listed_of schema extra ds body c.args.batch projection c.args.limit h);
      causes = record {
        kind = entries_in_batch (kinds schema) js fault c.in_err-nodes.ensures.only;
        lists = c.in_err-nodes.ensures.tells.each c.args.file_size (fields_nodes fs) (fields_buffers extra fs);
        entries = unlisted_tells g.R.Failures.device.is_memory order extra ds body c.args.batch fault denied;
      };
      device = idle_device g.R.Failures.device c.args.reader.now (Err fault) c.in_err-nodes.ensures.own;
      bounds = record { many = tt; given = omega arith; held = tt };
      values = λ k. tt;
    })

pub returns-in_err-check_lengths-clause-batch : goal.returns-in_err-check_lengths-clause-batch
returns-in_err-check_lengths-clause-batch g c =
    let ds = known_dictionaries c.args.dictionaries.now in
    let fault = c.in_err-check_lengths.field-0.0 in
    let e : c.from_residual-in_err-check_lengths.result ≡ Err fault = search rules in
    let lists : Lists = record { nodes = c.in_ok-nodes.nodes; buffers = c.in_ok-nodes.buffers } in
    let listed_so : lists_of c.args.batch ≡ Some lists = c.in_ok-nodes.ensures.exact.1 in
    let P : Type 0 = AreSizes lists.buffers × (total_of lists.buffers ≤ c.args.file_size) in
    let denied : OwnFault fault (P → ⊥) = search rules in
    let fs = fields_view c.args.fields.now in
    let schema : Schema = batch_schema c.args.fields.now c.args.ipc_schema.now in
    let order = order_of c.args.ipc_schema.now.is_little_endian in
    let extra = extra_of c.args.version in
    let body : model.Body = record { source = (g.R.Failures.device.memory c.args.reader.now).whole; base = c.args.block_offset; size = c.args.file_size } in
    let projection : Option (List ℕ) = option_copied c.args.projection in
    let js = chosen projection (length c.args.fields.now) in
    rw e (record {
      exact = λ k. refused fault P schema extra ds body c.args.batch projection c.args.limit denied
          (λ h.
          let j = (judged schema extra ds body c.args.batch projection c.args.limit lists listed_so h).1.listed in
          (j.sizes, j.total));
      causes = record {
        kind = list_in_batch (kinds schema) js fault c.in_err-check_lengths.ensures.only;
        lists = lengths_tell c.args.batch lists listed_so c.args.file_size (fields_nodes fs) (fields_buffers extra fs) fault c.in_err-check_lengths.ensures.tells;
        entries = lengths_say g.R.Failures.device.is_memory order extra ds body c.args.batch lists listed_so c.args.file_size fault c.in_err-check_lengths.ensures.tells;
      };
      device = idle_device g.R.Failures.device c.args.reader.now (Err fault) c.in_err-check_lengths.ensures.own;
      bounds = record { many = tt; given = omega arith; held = tt };
      values = λ k. tt;
    })

pub returns-in_err-check_counts-clause-batch : goal.returns-in_err-check_counts-clause-batch
returns-in_err-check_counts-clause-batch g c =
    let ds = known_dictionaries c.args.dictionaries.now in
    let fault = c.in_err-check_counts.field-0.0 in
    let e : c.from_residual-in_err-check_counts.result ≡ Err fault = search rules in
    let lists : Lists = record { nodes = c.in_ok-nodes.nodes; buffers = c.in_ok-nodes.buffers } in
    let listed_so : lists_of c.args.batch ≡ Some lists = c.in_ok-nodes.ensures.exact.1 in
    let extra = extra_of c.args.version in
    let fs = fields_view c.args.fields.now in
    let is = all_ids_view c.args.ipc_schema.now.fields.items in
    let P : Type 0 = (fields_nodes fs ≤ length lists.nodes) × (fields_buffers c.count_extra-extra.result fs ≤ length lists.buffers) in
    let denied : OwnFault fault (P → ⊥) = search rules in
    let schema : Schema = batch_schema c.args.fields.now c.args.ipc_schema.now in
    let order = order_of c.args.ipc_schema.now.is_little_endian in
    let body : model.Body = record { source = (g.R.Failures.device.memory c.args.reader.now).whole; base = c.args.block_offset; size = c.args.file_size } in
    let projection : Option (List ℕ) = option_copied c.args.projection in
    let js = chosen projection (length c.args.fields.now) in
    let fronted = ap (λ (x : ℕ). fields_buffers x fs) c.count_extra-extra.ensures.extra in
    let noded : c.len.result ≡ length lists.nodes = search rules in
    let listed : c.len-2.result ≡ length lists.buffers = search rules in
    let told : TellsCounts (length lists.nodes) (length lists.buffers) (fields_nodes fs) (fields_buffers extra fs) fault =
    subst (λ (x : ℕ). TellsCounts (length lists.nodes) (length lists.buffers) (fields_nodes fs) (fields_buffers x fs) fault) c.count_extra-extra.ensures.extra
    (subst (λ (k : ℕ). TellsCounts (length lists.nodes) k (fields_nodes fs) (fields_buffers c.count_extra-extra.result fs) fault) listed
    (subst (λ (n : ℕ). TellsCounts n c.len-2.result (fields_nodes fs) (fields_buffers c.count_extra-extra.result fs) fault) noded c.in_err-check_counts.ensures.tells)) in
    rw e (record {
      exact = λ k. refused fault P schema extra ds body c.args.batch projection c.args.limit denied
          (λ h.
          let j = (judged schema extra ds body c.args.batch projection c.args.limit lists listed_so h).1.listed in
          (omega (arith, j.nodes, node_count_law fs is), omega (arith, j.buffers, buffer_count_law extra fs is, fronted)));
      causes = record {
        kind = entries_in_batch (kinds schema) js fault c.in_err-check_counts.ensures.only;
        lists = counts_tell c.args.batch lists listed_so c.args.file_size (fields_nodes fs) (fields_buffers extra fs) fault told;
        entries = counts_say g.R.Failures.device.is_memory order extra ds body c.args.batch lists listed_so
            (length lists.nodes) (length lists.buffers) (fields_nodes fs) (fields_buffers extra fs) fault told;
      };
      device = idle_device g.R.Failures.device c.args.reader.now (Err fault) c.in_err-check_counts.ensures.own;
      bounds = record { many = tt; given = omega arith; held = tt };
      values = λ k. tt;
    })

pub read_columns-requires-clause-room : goal.read_columns-requires-clause-room
read_columns-requires-clause-room g c =
    let fs = fields_view c.args.fields.now in
    let is = all_ids_view c.as_slice-ids.result.now in
    let counts = c.in_ok-check_counts.ensures.exact.0 in
    let nodes : c.len.result ≡ length c.in_ok-nodes.nodes = search rules in
    let buffers : c.len-2.result ≡ length c.in_ok-nodes.buffers = search rules in
    record {
      nodes_in = omega (arith, counts.0, node_count_law fs is, nodes);
      buffers_in = omega (arith, counts.1, buffer_count_law c.count_extra-extra.result fs is, buffers);
    }

pub returns-in_err-columns-clause-batch : goal.returns-in_err-columns-clause-batch
returns-in_err-columns-clause-batch g c =
    let ds = known_dictionaries c.args.dictionaries.now in
    let fault = c.in_err-columns.field-0.0 in
    let e : c.from_residual-in_err-columns.result ≡ Err fault = search rules in
    let fields = c.args.fields.now in
    let fs = fields_view c.args.fields.now in
    let is = all_ids_view c.args.ipc_schema.now.fields.items in
    let lists : Lists = record { nodes = c.in_ok-nodes.nodes; buffers = c.in_ok-nodes.buffers } in
    let listed_so : lists_of c.args.batch ≡ Some lists = c.in_ok-nodes.ensures.exact.1 in
    let body : model.Body = record { source = (g.R.Failures.device.memory c.args.reader.now).whole; base = c.args.block_offset; size = c.args.file_size } in
    let schema : Schema = batch_schema c.args.fields.now c.args.ipc_schema.now in
    let order = order_of c.args.ipc_schema.now.is_little_endian in
    let extra = extra_of c.args.version in
    let projection : Option (List ℕ) = option_copied c.args.projection in
    let limit = c.args.limit in
    let same : entries g.R.Failures.device _ ≡ entries_of lists body order extra ds =
    same_entries g.R.Failures.device _ lists body order extra refl refl (ap (λ r. (g.R.Failures.device.memory r).whole) c.of.ensures) refl c.byte_order.ensures c.count_extra-extra.ensures.extra in
    let ts = kinds schema in
    let js = chosen projection (length c.args.fields.now) in
    let ids_are : c.as_slice-ids.result.now ≡ c.args.ipc_schema.now.fields.items = search rules in
    let counted = sym (field_count c.args.fields.now is) in
    let old = g.R.Failures.device.given c.args.reader.now in
    let new = g.R.Failures.device.given c.read_columns.new.reader in
    let only : OwnFault fault (IsFaultOfSome ts js fault) =
    subst (λ (l : List IpcField). OwnFault fault (IsFaultOfSome (kinds_of (fields_view fields) (all_ids_view l)) js fault)) ids_are c.in_err-columns.ensures.only in
    rw e (record {
      exact = λ k.
          let denied : OwnFault fault (HasColumns (entries_of lists body order extra ds) ts limit js → ⊥) =
          subst (λ (l : List IpcField). OwnFault fault (HasColumns (entries_of lists body order extra ds) (kinds_of (fields_view fields) (all_ids_view l)) limit js → ⊥)) ids_are
          (subst (λ (s : Entries). OwnFault fault (HasColumns s (kinds_of (fields_view fields) (all_ids_view c.as_slice-ids.result.now)) limit js → ⊥)) same (c.in_err-columns.ensures.memory k)) in
          refused fault (HasColumns (entries_of lists body order extra ds) ts limit js) schema extra ds body c.args.batch projection limit denied
          (λ h.
          let j = (judged schema extra ds body c.args.batch projection limit lists listed_so h).1 in
          subst (λ (n : ℕ). HasColumns (entries_of lists body order extra ds) ts limit (chosen projection n)) (sym counted) j.has);
      causes = record {
        kind = some_in_batch ts js fault only;
        lists = columns_tell c.args.batch c.args.file_size (fields_nodes fs) (fields_buffers extra fs) ts js fault only;
        entries = entries_tell g.R.Failures.device.is_memory order extra ds body c.args.batch lists listed_so fault
            (subst (λ (s : Entries). OwnFault fault (TellsEntries g.R.Failures.device.is_memory s fault)) same c.in_err-columns.ensures.tells);
      };
      device = record {
        monotone = c.in_err-columns.ensures.step.monotone;
        failed = c.in_err-columns.ensures.step.failed;
        told = c.in_err-columns.ensures.step.told;
        whole = λ k. c.in_err-columns.ensures.step.stands k ∙ ap (λ r. (g.R.Failures.device.memory r).whole) c.of.ensures;
        names = c.in_err-columns.ensures.step.names;
        answered = c.in_err-columns.ensures.step.answered;
      };
      bounds = record {
        many = tt;
        given = subst (λ (l : List IpcField). new ≤ old + chosen_listed (lists_of c.args.batch) extra (kinds_of (fields_view fields) (all_ids_view l)) js) ids_are
            (given_total g.R.Failures.device _ lists body order extra ds (lists_of c.args.batch) (kinds_of (fields_view fields) (all_ids_view c.as_slice-ids.result.now)) js old new same
            c.count_extra-extra.ensures.extra listed_so c.in_err-columns.ensures.step.bounded);
        held = tt;
      };
      values = λ k. tt;
    })

pub returns-clause-batch : goal.returns-clause-batch
returns-clause-batch g c =
    let ds = known_dictionaries c.args.dictionaries.now in
    let vs = array_under c.args.dictionaries.now in
    let fields = c.args.fields.now in
    let fs = fields_view c.args.fields.now in
    let is = all_ids_view c.args.ipc_schema.now.fields.items in
    let ys = c.in_ok-columns.columns.items in
    let lists : Lists = record { nodes = c.in_ok-nodes.nodes; buffers = c.in_ok-nodes.buffers } in
    let listed_so : lists_of c.args.batch ≡ Some lists = c.in_ok-nodes.ensures.exact.1 in
    let body : model.Body = record { source = (g.R.Failures.device.memory c.args.reader.now).whole; base = c.args.block_offset; size = c.args.file_size } in
    let schema : Schema = batch_schema c.args.fields.now c.args.ipc_schema.now in
    let order = order_of c.args.ipc_schema.now.is_little_endian in
    let extra = extra_of c.args.version in
    let projection : Option (List ℕ) = option_copied c.args.projection in
    let limit = c.args.limit in
    let same : entries g.R.Failures.device _ ≡ entries_of lists body order extra ds =
    same_entries g.R.Failures.device _ lists body order extra refl refl (ap (λ r. (g.R.Failures.device.memory r).whole) c.of.ensures) refl c.byte_order.ensures c.count_extra-extra.ensures.extra in
    let ts = kinds schema in
    let js = chosen projection (length c.args.fields.now) in
    let ids_are : c.as_slice-ids.result.now ≡ c.args.ipc_schema.now.fields.items = search rules in
    let counted = sym (field_count c.args.fields.now is) in
    let old = g.R.Failures.device.given c.args.reader.now in
    let new = g.R.Failures.device.given c.read_columns.new.reader in
    let q : BatchRequest = batch_request fields c.args.ipc_schema.now c.args.dictionaries.now c.args.version c.args.block_offset c.args.file_size c.args.batch projection limit in
    let entered : Entries = entries_of lists body order extra ds in
    record {
      exact = λ k.
          let read = c.in_ok-columns.ensures.memory k in
          let sizes = c.in_ok-check_lengths.ensures.exact.0 in
          let counts = c.in_ok-check_counts.ensures.exact.0 in
          let fronted = ap (λ (x : ℕ). fields_buffers x fs) c.count_extra-extra.ensures.extra in
          let noded : c.len.result ≡ length lists.nodes = search rules in
          let listed : c.len-2.result ≡ length lists.buffers = search rules in
          gives_batch schema extra ds vs body c.args.batch projection limit lists ys c.try_new.result
          (record {
            listed = listed_so;
            judged = record {
              sizes = sizes.0;
              total = sizes.1;
              nodes = omega (arith, counts.0, noded, node_count_law fs is);
              buffers = omega (arith, counts.1, fronted, listed, buffer_count_law extra fs is);
            };
            prepared = subst (λ (n : ℕ). ArePrepared projection n) counted c.requires.prepared;
            has = subst (λ (n : ℕ). HasColumns entered ts limit (chosen projection n)) counted
                (subst (λ (l : List IpcField). HasColumns entered (kinds_of fs (all_ids_view l)) limit js) ids_are
                (subst (λ (s : Entries). HasColumns s (kinds_of fs (all_ids_view c.as_slice-ids.result.now)) limit js) same read.0));
            are = subst (λ (n : ℕ). AreColumns entered vs fs ts limit (chosen projection n) ys) counted
                (subst (λ (l : List IpcField). AreColumns entered vs fs (kinds_of fs (all_ids_view l)) limit js ys) ids_are
                (subst (λ (s : Entries). AreColumns s vs fs (kinds_of fs (all_ids_view c.as_slice-ids.result.now)) limit js ys) same read.1));
          })
          c.try_new.ensures.ok c.try_new.ensures.value;
      causes = each_err {P = λ e. e ≡ Argument UnequalRows} {Q = RecordBatchCause g.R.Failures.device q c.args.reader.now} c.try_new.result c.try_new.ensures.only (λ e unequal. record {
        kind = unequal_in_batch ts js e unequal;
        lists = unequal_tell c.args.batch c.args.file_size (fields_nodes fs) (fields_buffers extra fs) e unequal;
        entries = unequal_tells g.R.Failures.device.is_memory order extra ds body c.args.batch e unequal;
      });
      device = record {
        monotone = c.in_ok-columns.ensures.step.monotone;
        failed = other_fault c.try_new.result (Argument UnequalRows) _ tt c.try_new.ensures.only;
        told = always_told c.try_new.result _ c.in_ok-columns.ensures.step.told;
        whole = λ k. c.in_ok-columns.ensures.step.stands k ∙ ap (λ r. (g.R.Failures.device.memory r).whole) c.of.ensures;
        names = c.in_ok-columns.ensures.step.names;
        answered = none_answered c.try_new.result (IsAnswered g.R.Failures.device) (other_fault c.try_new.result (Argument UnequalRows) ⊥ tt c.try_new.ensures.only);
      };
      bounds = record {
        many = each_ok {P = λ xs. xs ≡ ys} {Q = λ xs. length xs ≡ length js} c.try_new.result c.try_new.ensures.value (λ xs are. ap length are ∙ c.in_ok-columns.ensures.many);
        given = subst (λ (l : List IpcField). new ≤ old + chosen_listed (lists_of c.args.batch) extra (kinds_of (fields_view fields) (all_ids_view l)) js) ids_are
            (given_total g.R.Failures.device _ lists body order extra ds (lists_of c.args.batch) (kinds_of (fields_view fields) (all_ids_view c.as_slice-ids.result.now)) js old new same
            c.count_extra-extra.ensures.extra listed_so c.in_ok-columns.ensures.step.bounded);
        held =
            let o = lists_of c.args.batch in
            let hold : arrays_held ys ≤ chosen_listed o extra ts js + chosen_empty o extra ts js =
            subst (λ (l : List IpcField). arrays_held ys ≤ chosen_listed o extra (kinds_of fs (all_ids_view l)) js + chosen_empty o extra (kinds_of fs (all_ids_view l)) js) ids_are
            (held_total g.R.Failures.device _ lists body order extra ds o (kinds_of fs (all_ids_view c.as_slice-ids.result.now)) js (arrays_held ys) same
            c.count_extra-extra.ensures.extra listed_so c.in_ok-columns.ensures.held) in
            let within = chosen_within lists.buffers extra ts projection (length fields) (field_count fields is) c.requires.prepared in
            chunk_holds c.args.file_size o extra ts js ys c.try_new.result c.try_new.ensures.value
            (hold_within c.args.file_size o lists extra ts js ys listed_so within c.in_ok-check_lengths.ensures.exact.0.1 hold);
      };
      values = λ k.
          let read = c.in_ok-columns.ensures.memory k in
          let has : HasColumns entered ts limit js =
          subst (λ (l : List IpcField). HasColumns entered (kinds_of fs (all_ids_view l)) limit js) ids_are
          (subst (λ (e : Entries). HasColumns e (kinds_of fs (all_ids_view c.as_slice-ids.result.now)) limit js) same read.0) in
          let are : AreColumns entered vs fs ts limit js ys =
          subst (λ (l : List IpcField). AreColumns entered vs fs (kinds_of fs (all_ids_view l)) limit js ys) ids_are
          (subst (λ (e : Entries). AreColumns e vs fs (kinds_of fs (all_ids_view c.as_slice-ids.result.now)) limit js ys) same read.1) in
          let values : AreValues entered vs = subst (λ (e : Entries). AreValues e vs) same (values_are g.R.Failures.device _) in
          chunk_has_meaning ds is js ys c.try_new.result c.try_new.ensures.value
          (have_meaning entered vs fs is limit ds (dictionaries_are lists body order extra ds) values js ys has are);
    }
