use Rattle.std.proofs.Common.{rules, ◌≡◌, ℤ, List, [], ◌∷◌, None, Some, IsSome, Ok, Err, to_z, of_z, ap, sym, subst, ◌∙◌, arith, ℕ, ◌+◌, ◌≤◌, refl}
use Rattle.std.specs.HashMap.{Updates}
use Rattle.std.specs.Int.{w64}
use Rattle.std.specs.Ordering.{int_eq}
use Rattle.lower.specs.TypeViews.{type_view, fields_view}
use Rattle.lower_arrays.specs.AnyLayouts.{layout_of}
use Rattle.lower_arrays.specs.Cases.{HasListCases}
use Rattle.lower_arrays.specs.Layouts.{type_of}
use Rattle.lower_arrays.specs.declared.array.AnyArray.{AnyArray}
use Rattle.ipc_devices.proofs.Claims.{claimed, denies_through}
use Rattle.ipc_base.specs.IdTrees.{all_ids_view}
use Rattle.ipc_base.specs.declared.ipc.IpcField.{IpcField}
use Rattle.ipc_devices.specs.Faults.{OwnFault}
use Rattle.ipc_devices.specs.declared.fault.Fault.TheVariants.{OutOfSpec, Memory}
use Rattle.ipc_devices.specs.declared.fault.OutOfSpecKind.TheVariants.{InvalidId}
use Rattle.ipc_model.specs.Batches.{Schema, Place, kinds, lists_of, extra_of, places, place_of, values_schema, dictionary_meaning}
use Rattle.ipc_model.specs.Batches as model
use Rattle.ipc_read_flat.specs.Bodies.{dictionary_of, known_dictionaries}
use Rattle.ipc_stream_lemmas.specs.Agreement.{KnowAlike}
use Rattle.ipc_read.specs.Chunks.{batch_schema, HasMeaning}
use Rattle.ipc_read.specs.DictionaryBatches.{dictionary_head, values_listed}
use Rattle.ipc_read.specs.HeldChunks.{HoldChosen}
use Rattle.ipc_read.proofs.DictionaryMeanings.{head_there, no_place, values_there, dictionary_given, unplaced_blames, values_blame, values_told, head_blames, head_in_dictionary, head_tells, listed_is, memory_tells, unplaced_in_dictionary, unplaced_tells, values_in_dictionary}
use Rattle.ipc_read.proofs.HeldLists.{values_held}
use Rattle.ipc_read.proofs.KnownDictionaries.{known_put, puts_cases, puts_values}
use Rattle.ipc_read.proofs.ValueReasons.{headless_tells, unplaced_say, values_say, memory_of_values}
use Rattle.ipc_devices.proofs.Acts.{device_err, device_then, idle_device}
use Rattle.ipc_model.specs.TypeKinds.{kind_of}
use Rattle.ipc_read.specs.Sizes.{chosen_listed}
use Rattle.ipc_read.proofs.read.dictionaries.read_dictionary.Goals as goal

pub returns-in_err-id-clause-dictionary : goal.returns-in_err-id-clause-dictionary
returns-in_err-id-clause-dictionary g c =
    let fault = c.in_err-id.field-0.0 in
    let e : c.from_residual.result ≡ Err fault = search rules in
    let denied : OwnFault fault (IsSome (dictionary_head c.args.batch) → ⊥) = search rules in
    let schema : Schema = batch_schema c.args.fields.now c.args.ipc_schema.now in
    let extra = extra_of c.args.version in
    let ds = known_dictionaries c.args.dictionaries.now in
    let body : model.Body = record { source = (g.R.Failures.device.memory c.args.reader.now).whole; base = c.args.block_offset; size = c.args.file_size } in
    rw e (record {
      exact = λ k. denies_through fault (IsSome (dictionary_head c.args.batch)) (IsSome (dictionary_meaning schema extra ds body c.args.batch))
          (λ h. head_there schema extra ds body c.args.batch h) denied;
      causes = record {
        kind = head_in_dictionary fault c.in_err-id.ensures.only;
        field = head_blames schema c.args.batch fault c.in_err-id.ensures.tells denied;
        lists = head_tells schema extra c.args.batch c.args.file_size fault c.in_err-id.ensures.only;
        entries = headless_tells g.R.Failures.device.is_memory schema extra ds body c.args.batch fault c.in_err-id.ensures.tells;
      };
      device = idle_device g.R.Failures.device c.args.reader.now (Err fault) c.in_err-id.ensures.own;
      bounds = record { given = omega arith; held = tt };
      state = record { put = tt; cases = tt; kept = refl };
    })

pub returns-in_default-clause-dictionary : goal.returns-in_default-clause-dictionary
returns-in_default-clause-dictionary g c =
    let schema : Schema = batch_schema c.args.fields.now c.args.ipc_schema.now in
    let extra = extra_of c.args.version in
    let ds = known_dictionaries c.args.dictionaries.now in
    let body : model.Body = record { source = (g.R.Failures.device.memory c.args.reader.now).whole; base = c.args.block_offset; size = c.args.file_size } in
    let id = c.in_ok-id.id in
    let v = c.in_ok-id.values in
    let headed : dictionary_head c.args.batch ≡ Some (id, v) = c.in_ok-id.ensures.exact.1 in
    let ids_are : c.as_slice-schema_ids.result.now ≡ c.args.ipc_schema.now.fields.items = search rules in
    let same_id : to_z w64 (of_z w64 id) ≡ id = search rules in
    let none : place_of (places schema.fields schema.ids) id ≡ None =
    subst (λ (j : ℤ). place_of (places (fields_view c.args.fields.now) (all_ids_view c.args.ipc_schema.now.fields.items)) j ≡ None) same_id
    (subst (λ (l : List IpcField). place_of (places (fields_view c.args.fields.now) (all_ids_view l)) (to_z w64 (of_z w64 id)) ≡ None) ids_are c.in_default.ensures) in
    let told : c.into.result ≡ OutOfSpec (InvalidId id) = search rules in
    rw told (record {
      exact = λ k. claimed (OutOfSpec (InvalidId id)) (IsSome (dictionary_meaning schema extra ds body c.args.batch) → ⊥)
          (λ h. no_place schema extra ds body c.args.batch id v headed none h);
      causes = record {
        kind = unplaced_in_dictionary id;
        field = unplaced_blames schema c.args.batch id v headed none;
        lists = unplaced_tells schema extra c.args.batch c.args.file_size id;
        entries = unplaced_say g.R.Failures.device.is_memory schema extra ds body c.args.batch (OutOfSpec (InvalidId id)) id v headed none;
      };
      device = idle_device g.R.Failures.device c.args.reader.now (Err (OutOfSpec (InvalidId id))) tt;
      bounds = record { given = omega arith; held = tt };
      state = record { put = tt; cases = tt; kept = refl };
    })

pub returns-in_err-values-clause-dictionary : goal.returns-in_err-values-clause-dictionary
returns-in_err-values-clause-dictionary g c =
    let fault = c.in_err-values.field-0.0 in
    let e : c.from_residual-in_err-values.result ≡ Err fault = search rules in
    let schema : Schema = batch_schema c.args.fields.now c.args.ipc_schema.now in
    let extra = extra_of c.args.version in
    let ds = known_dictionaries c.args.dictionaries.now in
    let body : model.Body = record { source = (g.R.Failures.device.memory c.args.reader.now).whole; base = c.args.block_offset; size = c.args.file_size } in
    let id = c.in_ok-id.id in
    let v = c.in_ok-id.values in
    let headed : dictionary_head c.args.batch ≡ Some (id, v) = c.in_ok-id.ensures.exact.1 in
    let ids_are : c.as_slice-schema_ids.result.now ≡ c.args.ipc_schema.now.fields.items = search rules in
    let same_id : to_z w64 (of_z w64 id) ≡ id = search rules in
    let u = type_view c.in-Some.value_type.now in
    let is = all_ids_view c.in-Some.ids.now in
    let p : Place = record { id = Some id; type = u; ids = is } in
    let placed : place_of (places schema.fields schema.ids) id ≡ Some p =
    subst (λ (j : ℤ). place_of (places (fields_view c.args.fields.now) (all_ids_view c.args.ipc_schema.now.fields.items)) j ≡ Some (record { id = Some j; type = u; ids = is })) same_id
    (subst (λ (l : List IpcField). place_of (places (fields_view c.args.fields.now) (all_ids_view l)) (to_z w64 (of_z w64 id)) ≡ Some (record { id = Some (to_z w64 (of_z w64 id)); type = u; ids = is })) ids_are
    c.in-Some.ensures) in
    let old = g.R.Failures.device.given c.args.reader.now in
    let new = g.R.Failures.device.given c.read_values.new.reader in
    let listed : values_listed schema extra c.args.batch ≡ chosen_listed (lists_of v) extra (kinds (values_schema p schema.order)) (0 ∷ []) =
    listed_is schema extra ds body c.args.batch id v headed p placed in
    let asked : new ≤ old + chosen_listed (lists_of v) extra (kinds (values_schema p schema.order)) (0 ∷ []) = c.in_err-values.ensures.given in
    let given : new ≤ old + values_listed schema extra c.args.batch = subst (λ (n : ℕ). new ≤ old + n) (sym listed) asked in
    let P : Type 0 = HasMeaning (values_schema p schema.order) extra ds body v None None in
    rw e (record {
      exact = λ k.
          let denied : OwnFault fault (P → ⊥) = c.in_err-values.ensures.memory k in
          denies_through fault P (IsSome (dictionary_meaning schema extra ds body c.args.batch))
          (λ h. values_there schema extra ds body c.args.batch id v headed p placed h) denied;
      causes = record {
        kind = values_in_dictionary (kind_of u None is) fault c.in_err-values.ensures.only;
        field = values_blame schema c.args.batch id v headed p fault placed c.in_err-values.ensures.only;
        lists = values_told schema c.args.batch id v headed p extra c.args.file_size fault placed c.in_err-values.ensures.lists;
        entries = values_say g.R.Failures.device.is_memory schema extra ds body c.args.batch fault id v headed c.in_err-values.ensures.tells;
      };
      device = device_err g.R.Failures.device c.args.reader.now fault c.read_values.new.reader c.in_err-values.ensures.device;
      bounds = record { given = given; held = tt };
      state = record { put = tt; cases = tt; kept = refl };
    })

pub returns-in_err-values-2-clause-dictionary : goal.returns-in_err-values-2-clause-dictionary
returns-in_err-values-2-clause-dictionary g c =
    let e : c.from_residual-in_err-values-2.result ≡ Err Memory = search rules in
    let schema : Schema = batch_schema c.args.fields.now c.args.ipc_schema.now in
    let extra = extra_of c.args.version in
    let ds = known_dictionaries c.args.dictionaries.now in
    let body : model.Body = record { source = (g.R.Failures.device.memory c.args.reader.now).whole; base = c.args.block_offset; size = c.args.file_size } in
    let id = c.in_ok-id.id in
    let v = c.in_ok-id.values in
    let headed : dictionary_head c.args.batch ≡ Some (id, v) = c.in_ok-id.ensures.exact.1 in
    let ids_are : c.as_slice-schema_ids.result.now ≡ c.args.ipc_schema.now.fields.items = search rules in
    let same_id : to_z w64 (of_z w64 id) ≡ id = search rules in
    let u = type_view c.in-Some.value_type.now in
    let is = all_ids_view c.in-Some.ids.now in
    let p : Place = record { id = Some id; type = u; ids = is } in
    let placed : place_of (places schema.fields schema.ids) id ≡ Some p =
    subst (λ (j : ℤ). place_of (places (fields_view c.args.fields.now) (all_ids_view c.args.ipc_schema.now.fields.items)) j ≡ Some (record { id = Some j; type = u; ids = is })) same_id
    (subst (λ (l : List IpcField). place_of (places (fields_view c.args.fields.now) (all_ids_view l)) (to_z w64 (of_z w64 id)) ≡ Some (record { id = Some (to_z w64 (of_z w64 id)); type = u; ids = is })) ids_are
    c.in-Some.ensures) in
    let old = g.R.Failures.device.given c.args.reader.now in
    let new = g.R.Failures.device.given c.read_values.new.reader in
    let listed : values_listed schema extra c.args.batch ≡ chosen_listed (lists_of v) extra (kinds (values_schema p schema.order)) (0 ∷ []) =
    listed_is schema extra ds body c.args.batch id v headed p placed in
    let asked : new ≤ old + chosen_listed (lists_of v) extra (kinds (values_schema p schema.order)) (0 ∷ []) = c.in_ok-values.ensures.given in
    let given : new ≤ old + values_listed schema extra c.args.batch = subst (λ (n : ℕ). new ≤ old + n) (sym listed) asked in
    rw e (record {
      exact = λ k. tt;
      causes = record {
        kind = tt;
        field = tt;
        lists = memory_tells schema extra c.args.batch c.args.file_size;
        entries = memory_of_values g.R.Failures.device.is_memory schema extra ds body c.args.batch;
      };
      device = device_then g.R.Failures.device c.args.reader.now c.read_values.new.reader c.in_ok-values.values (Err Memory) c.in_ok-values.ensures.device tt;
      bounds = record { given = given; held = tt };
      state = record { put = tt; cases = tt; kept = refl };
    })

pub returns-in_err-insert-clause-dictionary : goal.returns-in_err-insert-clause-dictionary
returns-in_err-insert-clause-dictionary g c =
    let e : c.from_residual-in_err-insert.result ≡ Err Memory = search rules in
    let schema : Schema = batch_schema c.args.fields.now c.args.ipc_schema.now in
    let extra = extra_of c.args.version in
    let ds = known_dictionaries c.args.dictionaries.now in
    let body : model.Body = record { source = (g.R.Failures.device.memory c.args.reader.now).whole; base = c.args.block_offset; size = c.args.file_size } in
    let id = c.in_ok-id.id in
    let v = c.in_ok-id.values in
    let headed : dictionary_head c.args.batch ≡ Some (id, v) = c.in_ok-id.ensures.exact.1 in
    let ids_are : c.as_slice-schema_ids.result.now ≡ c.args.ipc_schema.now.fields.items = search rules in
    let same_id : to_z w64 (of_z w64 id) ≡ id = search rules in
    let u = type_view c.in-Some.value_type.now in
    let is = all_ids_view c.in-Some.ids.now in
    let p : Place = record { id = Some id; type = u; ids = is } in
    let placed : place_of (places schema.fields schema.ids) id ≡ Some p =
    subst (λ (j : ℤ). place_of (places (fields_view c.args.fields.now) (all_ids_view c.args.ipc_schema.now.fields.items)) j ≡ Some (record { id = Some j; type = u; ids = is })) same_id
    (subst (λ (l : List IpcField). place_of (places (fields_view c.args.fields.now) (all_ids_view l)) (to_z w64 (of_z w64 id)) ≡ Some (record { id = Some (to_z w64 (of_z w64 id)); type = u; ids = is })) ids_are
    c.in-Some.ensures) in
    let old = g.R.Failures.device.given c.args.reader.now in
    let new = g.R.Failures.device.given c.read_values.new.reader in
    let listed : values_listed schema extra c.args.batch ≡ chosen_listed (lists_of v) extra (kinds (values_schema p schema.order)) (0 ∷ []) =
    listed_is schema extra ds body c.args.batch id v headed p placed in
    let asked : new ≤ old + chosen_listed (lists_of v) extra (kinds (values_schema p schema.order)) (0 ∷ []) = c.in_ok-values.ensures.given in
    let given : new ≤ old + values_listed schema extra c.args.batch = subst (λ (n : ℕ). new ≤ old + n) (sym listed) asked in
    rw e (record {
      exact = λ k. tt;
      causes = record {
        kind = tt;
        field = tt;
        lists = memory_tells schema extra c.args.batch c.args.file_size;
        entries = memory_of_values g.R.Failures.device.is_memory schema extra ds body c.args.batch;
      };
      device = device_then g.R.Failures.device c.args.reader.now c.read_values.new.reader c.in_ok-values.values (Err Memory) c.in_ok-values.ensures.device tt;
      bounds = record { given = given; held = tt };
      state = record { put = tt; cases = tt; kept = c.in_err-insert.ensures.err };
    })

pub returns-clause-dictionary : goal.returns-clause-dictionary
returns-clause-dictionary g c =
    let schema : Schema = batch_schema c.args.fields.now c.args.ipc_schema.now in
    let extra = extra_of c.args.version in
    let ds = known_dictionaries c.args.dictionaries.now in
    let body : model.Body = record { source = (g.R.Failures.device.memory c.args.reader.now).whole; base = c.args.block_offset; size = c.args.file_size } in
    let id = c.in_ok-id.id in
    let v = c.in_ok-id.values in
    let headed : dictionary_head c.args.batch ≡ Some (id, v) = c.in_ok-id.ensures.exact.1 in
    let ids_are : c.as_slice-schema_ids.result.now ≡ c.args.ipc_schema.now.fields.items = search rules in
    let same_id : to_z w64 (of_z w64 id) ≡ id = search rules in
    let u = type_view c.in-Some.value_type.now in
    let is = all_ids_view c.in-Some.ids.now in
    let p : Place = record { id = Some id; type = u; ids = is } in
    let placed : place_of (places schema.fields schema.ids) id ≡ Some p =
    subst (λ (j : ℤ). place_of (places (fields_view c.args.fields.now) (all_ids_view c.args.ipc_schema.now.fields.items)) j ≡ Some (record { id = Some j; type = u; ids = is })) same_id
    (subst (λ (l : List IpcField). place_of (places (fields_view c.args.fields.now) (all_ids_view l)) (to_z w64 (of_z w64 id)) ≡ Some (record { id = Some (to_z w64 (of_z w64 id)); type = u; ids = is })) ids_are
    c.in-Some.ensures) in
    let old = g.R.Failures.device.given c.args.reader.now in
    let new = g.R.Failures.device.given c.read_values.new.reader in
    let listed : values_listed schema extra c.args.batch ≡ chosen_listed (lists_of v) extra (kinds (values_schema p schema.order)) (0 ∷ []) =
    listed_is schema extra ds body c.args.batch id v headed p placed in
    let asked : new ≤ old + chosen_listed (lists_of v) extra (kinds (values_schema p schema.order)) (0 ∷ []) = c.in_ok-values.ensures.given in
    let given : new ≤ old + values_listed schema extra c.args.batch = subst (λ (n : ℕ). new ≤ old + n) (sym listed) asked in
    let x = c.in_ok-values.values in
    let shared = c.in_ok-values-2.values in
    let same_value : shared.value ≡ x = c.in_ok-values-2.ensures.ok in
    let put : Updates int_eq c.args.dictionaries.now c.insert.new.self id (Some shared) =
    subst (λ (j : ℤ). Updates int_eq c.args.dictionaries.now c.insert.new.self j (Some shared)) same_id c.in_ok-insert.ensures.updates in
    record {
      exact = λ k.
          dictionary_given schema extra ds body c.args.batch id v headed p placed x (tt {0}) (known_dictionaries c.insert.new.self) (c.in_ok-values.ensures.memory k)
          (subst (λ (y : AnyArray). KnowAlike ((id, dictionary_of (layout_of y)) ∷ ds) (known_dictionaries c.insert.new.self)) same_value
          (known_put c.args.dictionaries.now c.insert.new.self id shared put));
      causes = tt;
      device = device_then g.R.Failures.device c.args.reader.now c.read_values.new.reader c.in_ok-values.values (Ok (tt {0})) c.in_ok-values.ensures.device tt;
      bounds = record {
        given = given;
        held = values_held c.args.dictionaries.now c.insert.new.self id shared put c.args.file_size schema extra c.args.batch v p headed placed
            (subst (λ (y : AnyArray). HoldChosen c.args.file_size (lists_of v) extra (kinds (values_schema p schema.order)) (0 ∷ []) (y ∷ [])) (sym same_value) c.in_ok-values.ensures.held);
      };
      state = record {
        put = puts_values c.args.dictionaries.now c.insert.new.self id shared put g.R.Failures.device.is_memory schema c.args.batch v p headed placed
            (λ k. ap (λ (y : AnyArray). type_of (layout_of y)) same_value ∙ (c.in_ok-values.ensures.memory k).1.1);
        cases = λ k. puts_cases c.args.dictionaries.now c.insert.new.self id shared put c.args.batch v headed
            (subst (λ (y : AnyArray). HasListCases (layout_of y)) (sym same_value) (c.in_ok-values.ensures.memory k).1.2);
        kept = tt;
      };
    }
