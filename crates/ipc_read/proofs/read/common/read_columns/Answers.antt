use Rattle.std.proofs.Common.{arith, rules, ◌≡◌, ℕ, ◌+◌, ◌<◌, ◌≤◌, List, [], ◌∷◌, length, Option, true, false, refl, sym, ap, subst, ◌∙◌, length-append}
use Rattle.std.proofs.lemmas.List.Sums.{sum_by_push}
use Rattle.std.specs.Option.{option_copied}
use Rattle.lower.specs.TypeViews.{type_view, fields_view}
use Rattle.lower_arrays.specs.AnyLayouts.{layout_of}
use Rattle.lower_arrays.specs.Held.{held}
use Rattle.lower_arrays.specs.declared.array.AnyArray.{AnyArray}
use Rattle.ipc_devices.proofs.Claims.{claims_through, denies_through}
use Rattle.ipc_base.specs.IdTrees.{all_ids_view}
use Rattle.ipc_devices.specs.Faults.{OwnFault}
use Rattle.ipc_model.specs.Batches.{kind_at, type_at, chosen}
use Rattle.ipc_model.specs.Columns.{IsWell}
use Rattle.ipc_model.specs.Kinds.{count}
use Rattle.ipc_model.specs.TypeKinds.{kind_of, kinds_of}
use Rattle.ipc_model.proofs.TypeKinds.{node_counts, buffer_counts}
use Rattle.ipc_read_flat.specs.Bodies.{entries, known}
use Rattle.ipc_read_flat.specs.Refusals.{IsFaultOf}
use Rattle.ipc_read_flat.proofs.Fetches.{refused, failing}
use Rattle.ipc_read_nested.proofs.StructReads.{extra_is}
use Rattle.ipc_read.specs.Columns.{IsChosen, HasColumns, columns_listed}
use Rattle.ipc_read.specs.HeldChunks.{arrays_held, columns_most}
use Rattle.ipc_read.specs.Refusals.{IsFaultOfSome}
use Rattle.ipc_read.proofs.Chosen.{AreLeft, left_of, left_start, left_all, left_more, left_chosen, left_passed, left_same, left_none}
use Rattle.ipc_read.proofs.ColumnLists.{Among, all_among, among_same, among_more, fault_among, SoFar, so_start, so_same, one_on, so_more, so_end}
use Rattle.ipc_read.proofs.ColumnPlaces.{first_place, room_there, kind_there, type_there, next_place, well_there, well_here, column_there, listed_there, held_there, faults_there, skipped}
use Rattle.ipc_read.proofs.Fields.{field_count}
use Rattle.ipc_read.proofs.Steps.{step_err}
use Rattle.ipc_read.proofs.read.common.read_columns.Goals as goal

pub loop-index-init : goal.loop-index-init
loop-index-init g c =
    let s = entries g.R.Failures.device c.args.body.now in
    let vs = known c.args.body.now in
    let fs = c.args.fields.now in
    let ts = kinds_of (fields_view fs) (all_ids_view c.args.ids.now) in
    let p : Option (List ℕ) = option_copied c.args.projection in
    let n = length fs in
    let js = chosen p n in
    let none : c.in_ok-columns.columns.items ≡ [] = c.in_ok-columns.ensures.items in
    let empty : length c.in_ok-columns.columns.items ≡ 0 = ap length none in
    let left : left_of p n (length c.in_ok-columns.columns.items) 0 ≡ js = ap (λ (m : ℕ). left_of p n m 0) empty ∙ left_all p n in
    let e = ap (columns_listed s c.args.body.now.extra ts) left in
    let h1 = ap (columns_most s c.args.body.now.extra ts) left in
    let h2 = ap arrays_held none in
    record {
      at = first_place c.args.body.now.extra ts (all_ids_view c.args.ids.now);
      rest = subst (λ (m : ℕ). AreLeft p n m 0) (sym empty) (left_start p n c.requires.prepared);
      among = all_among ts js _ left;
      many = omega (arith, empty, ap length left);
      monotone = omega arith;
      done = refl;
      stands = c.requires.stands;
      names = refl;
      given = omega (arith, e);
      held = omega (arith, h1, h2);
      content = λ k.
          subst (λ (xs : List AnyArray). SoFar s vs (fields_view fs) ts c.args.limit js (left_of p n (length xs) 0) xs) (sym none)
          (so_start s vs (fields_view fs) ts c.args.limit js (left_of p n 0 0) (left_all p n));
      scratch = omega arith;
    }

pub skip-place-requires-clause-nodes : goal.skip-place-requires-clause-nodes
skip-place-requires-clause-nodes g c =
    let fs = c.args.fields.now in
    let is = all_ids_view c.args.ids.now in
    let extra = c.args.body.now.extra in
    let ts = kinds_of (fields_view fs) is in
    let i = c.loop-index.index in
    let f = c.index-fields-index.result in
    let p = c.loop-index.place in
    let left = all_ids_view c.loop-index.left.now in
    let at = c.loop-index.invariant.at in
    let inside : i < length fs = c.loop-index-test.true in
    let id = c.child_of-id.result.0 in
    let ids = all_ids_view c.child_of-id.result.1.now in
    let t = kind_of (type_view f.data_type) id ids in
    let same : t ≡ kind_at ts i = kind_there extra fs is left i f p at inside c.index-fields-index.is t c.child_of-id.ensures.kind in
    let room = room_there extra ts is left i p t at (omega (arith, inside, field_count fs is)) same c.args.body.now refl c.requires.room in
    omega (arith, room.nodes_in, node_counts (type_view f.data_type) id ids, c.args.body.now.nodes_fit)

pub skip-place-requires-clause-buffers : goal.skip-place-requires-clause-buffers
skip-place-requires-clause-buffers g c =
    let fs = c.args.fields.now in
    let is = all_ids_view c.args.ids.now in
    let extra = c.args.body.now.extra in
    let ts = kinds_of (fields_view fs) is in
    let i = c.loop-index.index in
    let f = c.index-fields-index.result in
    let p = c.loop-index.place in
    let left = all_ids_view c.loop-index.left.now in
    let at = c.loop-index.invariant.at in
    let inside : i < length fs = c.loop-index-test.true in
    let id = c.child_of-id.result.0 in
    let ids = all_ids_view c.child_of-id.result.1.now in
    let t = kind_of (type_view f.data_type) id ids in
    let same : t ≡ kind_at ts i = kind_there extra fs is left i f p at inside c.index-fields-index.is t c.child_of-id.ensures.kind in
    let room = room_there extra ts is left i p t at (omega (arith, inside, field_count fs is)) same c.args.body.now refl c.requires.room in
    omega (arith, room.buffers_in, buffer_counts extra (type_view f.data_type) id ids, c.args.body.now.buffers_fit)

pub loop-index-preserved-then-not-is_chosen : goal.loop-index-preserved-then-not-is_chosen
loop-index-preserved-then-not-is_chosen g c =
    let s = entries g.R.Failures.device c.args.body.now in
    let vs = known c.args.body.now in
    let fs = c.args.fields.now in
    let is = all_ids_view c.args.ids.now in
    let extra = c.args.body.now.extra in
    let ts = kinds_of (fields_view fs) is in
    let i = c.loop-index.index in
    let f = c.index-fields-index.result in
    let place = c.loop-index.place in
    let left = all_ids_view c.loop-index.left.now in
    let at = c.loop-index.invariant.at in
    let inside : i < length fs = c.loop-index-test.true in
    let id = c.child_of-id.result.0 in
    let ids = all_ids_view c.child_of-id.result.1.now in
    let t = kind_of (type_view f.data_type) id ids in
    let same : t ≡ kind_at ts i = kind_there extra fs is left i f place at inside c.index-fields-index.is t c.child_of-id.ensures.kind in
    let p : Option (List ℕ) = option_copied c.args.projection in
    let n = length fs in
    let m = length c.loop-index.columns.items in
    let count_is : c.len.result ≡ m = search rules in
    let not_chosen : c.is_chosen.result ≡ false = search rules in
    let other : IsChosen p m i → ⊥ = λ h. let yes : c.is_chosen.result ≡ true = c.is_chosen.ensures.1 (subst (λ (k : ℕ). IsChosen p k i) (sym count_is) h) in absurd cc in
    let stays = left_same p n m i other in
    let e = ap (columns_listed s extra ts) stays in
    let h = ap (columns_most s extra ts) stays in
    record {
      at = next_place extra ts is left i place t at (omega (arith, inside, field_count fs is)) same (all_ids_view c.others_of-left.result.now) c.skip-place.result c.others_of-left.ensures
          (skipped extra (type_view f.data_type) id ids place c.skip-place.result c.skip-place.ensures.nodes c.skip-place.ensures.buffers);
      rest = left_passed p n m i other c.loop-index.invariant.rest;
      among = among_same ts (chosen p n) _ _ stays c.loop-index.invariant.among;
      many = omega (arith, ap length stays, c.loop-index.invariant.many);
      monotone = c.loop-index.invariant.monotone;
      done = c.loop-index.invariant.done;
      stands = c.loop-index.invariant.stands;
      names = c.loop-index.invariant.names;
      given = omega (arith, e, c.loop-index.invariant.given);
      held = omega (arith, h, c.loop-index.invariant.held);
      content = λ k. so_same s vs (fields_view fs) ts c.args.limit (chosen p n) _ _ c.loop-index.columns.items stays (c.loop-index.invariant.content k);
      scratch = c.loop-index.invariant.scratch;
    }

pub read-requires-clause-room : goal.read-requires-clause-room
read-requires-clause-room g c =
    let fs = c.args.fields.now in
    let is = all_ids_view c.args.ids.now in
    let extra = c.args.body.now.extra in
    let ts = kinds_of (fields_view fs) is in
    let i = c.loop-index.index in
    let f = c.index-fields-index.result in
    let p = c.loop-index.place in
    let left = all_ids_view c.loop-index.left.now in
    let at = c.loop-index.invariant.at in
    let inside : i < length fs = c.loop-index-test.true in
    let t = kind_of (type_view f.data_type) c.child_of-id.result.0 (all_ids_view c.child_of-id.result.1.now) in
    let same : t ≡ kind_at ts i = kind_there extra fs is left i f p at inside c.index-fields-index.is t c.child_of-id.ensures.kind in
    room_there extra ts is left i p t at (omega (arith, inside, field_count fs is)) same c.args.body.now refl c.requires.room

pub returns-in_err-column-clause-only : goal.returns-in_err-column-clause-only
returns-in_err-column-clause-only g c =
    let fs = c.args.fields.now in
    let is = all_ids_view c.args.ids.now in
    let extra = c.args.body.now.extra in
    let ts = kinds_of (fields_view fs) is in
    let i = c.loop-index.index in
    let f = c.index-fields-index.result in
    let place = c.loop-index.place in
    let left = all_ids_view c.loop-index.left.now in
    let at = c.loop-index.invariant.at in
    let inside : i < length fs = c.loop-index-test.true in
    let t = kind_of (type_view f.data_type) c.child_of-id.result.0 (all_ids_view c.child_of-id.result.1.now) in
    let same : t ≡ kind_at ts i = kind_there extra fs is left i f place at inside c.index-fields-index.is t c.child_of-id.ensures.kind in
    let p : Option (List ℕ) = option_copied c.args.projection in
    let n = length fs in
    let m = length c.loop-index.columns.items in
    let count_is : c.len.result ≡ m = search rules in
    let yes : c.is_chosen.result ≡ true = search rules in
    let here : IsChosen p m i = subst (λ (k : ℕ). IsChosen p k i) count_is (c.is_chosen.ensures.0 yes) in
    let more = left_more p n m i inside here in
    let fault = c.in_err-column.field-0.0 in
    failing c.from_residual-in_err-column.result fault (λ e. OwnFault e (IsFaultOfSome ts (chosen p n) e)) c.from_residual-in_err-column.ensures
    (claims_through fault (IsFaultOf (kind_at ts i) fault) (IsFaultOfSome ts (chosen p n) fault) (fault_among ts (chosen p n) _ _ i fault more c.loop-index.invariant.among)
    (faults_there extra ts is left i place t at (omega (arith, inside, field_count fs is)) same fault c.in_err-column.ensures.only))

pub returns-in_err-column-clause-step : goal.returns-in_err-column-clause-step
returns-in_err-column-clause-step g c =
    let s = entries g.R.Failures.device c.args.body.now in
    let fs = c.args.fields.now in
    let is = all_ids_view c.args.ids.now in
    let extra = c.args.body.now.extra in
    let ts = kinds_of (fields_view fs) is in
    let i = c.loop-index.index in
    let f = c.index-fields-index.result in
    let place = c.loop-index.place in
    let left = all_ids_view c.loop-index.left.now in
    let at = c.loop-index.invariant.at in
    let inside : i < length fs = c.loop-index-test.true in
    let t = kind_of (type_view f.data_type) c.child_of-id.result.0 (all_ids_view c.child_of-id.result.1.now) in
    let same : t ≡ kind_at ts i = kind_there extra fs is left i f place at inside c.index-fields-index.is t c.child_of-id.ensures.kind in
    let p : Option (List ℕ) = option_copied c.args.projection in
    let n = length fs in
    let m = length c.loop-index.columns.items in
    let count_is : c.len.result ≡ m = search rules in
    let yes : c.is_chosen.result ≡ true = search rules in
    let here : IsChosen p m i = subst (λ (k : ℕ). IsChosen p k i) count_is (c.is_chosen.ensures.0 yes) in
    let e1 = ap (columns_listed s extra ts) (left_more p n m i inside here) in
    let e2 = listed_there extra ts is left i place t at (omega (arith, inside, field_count fs is)) same s in
    step_err g.R.Failures.device c.args.body.now _ _ c.args.reader.now c.loop-index.reader c.read.new.reader c.in_err-column.field-0.0
    c.from_residual-in_err-column.result c.from_residual-in_err-column.ensures c.loop-index.invariant.monotone c.loop-index.invariant.done c.loop-index.invariant.names (omega (arith, e1, e2, c.loop-index.invariant.given)) c.in_err-column.ensures.step

pub returns-in_err-column-clause-memory : goal.returns-in_err-column-clause-memory
returns-in_err-column-clause-memory g c = λ k.
    let s = entries g.R.Failures.device c.args.body.now in
    let vs = known c.args.body.now in
    let fs = c.args.fields.now in
    let is = all_ids_view c.args.ids.now in
    let extra = c.args.body.now.extra in
    let ts = kinds_of (fields_view fs) is in
    let i = c.loop-index.index in
    let f = c.index-fields-index.result in
    let place = c.loop-index.place in
    let left = all_ids_view c.loop-index.left.now in
    let at = c.loop-index.invariant.at in
    let inside : i < length fs = c.loop-index-test.true in
    let listed : i < count ts = omega (arith, inside, field_count fs is) in
    let t = kind_of (type_view f.data_type) c.child_of-id.result.0 (all_ids_view c.child_of-id.result.1.now) in
    let same : t ≡ kind_at ts i = kind_there extra fs is left i f place at inside c.index-fields-index.is t c.child_of-id.ensures.kind in
    let p : Option (List ℕ) = option_copied c.args.projection in
    let limit = c.args.limit in
    let n = length fs in
    let m = length c.loop-index.columns.items in
    let count_is : c.len.result ≡ m = search rules in
    let yes : c.is_chosen.result ≡ true = search rules in
    let here : IsChosen p m i = subst (λ (k : ℕ). IsChosen p k i) count_is (c.is_chosen.ensures.0 yes) in
    let more = left_more p n m i inside here in
    let fault = c.in_err-column.field-0.0 in
    let denied : OwnFault fault (HasColumns s ts limit (chosen p n) → ⊥) =
    denies_through fault (IsWell s t place.node place.buffer limit) (HasColumns s ts limit (chosen p n))
    (λ h. well_here extra ts is left i place t at listed same s limit (sym (extra_is g.R.Failures.device c.args.body.now))
    (one_on s vs (fields_view fs) ts limit (chosen p n) _ _ c.loop-index.columns.items i more (c.loop-index.invariant.content k) h))
    (c.in_err-column.ensures.memory k)
    in
    refused c.from_residual-in_err-column.result fault _ _ c.from_residual-in_err-column.ensures denied

pub returns-in_err-push-clause-step : goal.returns-in_err-push-clause-step
returns-in_err-push-clause-step g c =
    let s = entries g.R.Failures.device c.args.body.now in
    let fs = c.args.fields.now in
    let is = all_ids_view c.args.ids.now in
    let extra = c.args.body.now.extra in
    let ts = kinds_of (fields_view fs) is in
    let i = c.loop-index.index in
    let f = c.index-fields-index.result in
    let place = c.loop-index.place in
    let left = all_ids_view c.loop-index.left.now in
    let at = c.loop-index.invariant.at in
    let inside : i < length fs = c.loop-index-test.true in
    let t = kind_of (type_view f.data_type) c.child_of-id.result.0 (all_ids_view c.child_of-id.result.1.now) in
    let same : t ≡ kind_at ts i = kind_there extra fs is left i f place at inside c.index-fields-index.is t c.child_of-id.ensures.kind in
    let p : Option (List ℕ) = option_copied c.args.projection in
    let n = length fs in
    let m = length c.loop-index.columns.items in
    let count_is : c.len.result ≡ m = search rules in
    let yes : c.is_chosen.result ≡ true = search rules in
    let here : IsChosen p m i = subst (λ (k : ℕ). IsChosen p k i) count_is (c.is_chosen.ensures.0 yes) in
    let e1 = ap (columns_listed s extra ts) (left_more p n m i inside here) in
    let e2 = listed_there extra ts is left i place t at (omega (arith, inside, field_count fs is)) same s in
    record {
      stands = c.in_ok-column.ensures.step.stands;
      names = c.in_ok-column.ensures.step.names ∙ c.loop-index.invariant.names;
      monotone = omega (arith, c.loop-index.invariant.monotone, c.in_ok-column.ensures.step.monotone);
      failed = search rules;
      told = search rules;
      bounded = omega (arith, e1, e2, c.loop-index.invariant.given, c.in_ok-column.ensures.step.bounded);
      answered = search rules;
    }

pub loop-index-preserved : goal.loop-index-preserved
loop-index-preserved g c =
    let s = entries g.R.Failures.device c.args.body.now in
    let vs = known c.args.body.now in
    let fs = c.args.fields.now in
    let is = all_ids_view c.args.ids.now in
    let extra = c.args.body.now.extra in
    let ts = kinds_of (fields_view fs) is in
    let i = c.loop-index.index in
    let f = c.index-fields-index.result in
    let place = c.loop-index.place in
    let left = all_ids_view c.loop-index.left.now in
    let at = c.loop-index.invariant.at in
    let inside : i < length fs = c.loop-index-test.true in
    let listed : i < count ts = omega (arith, inside, field_count fs is) in
    let t = kind_of (type_view f.data_type) c.child_of-id.result.0 (all_ids_view c.child_of-id.result.1.now) in
    let same : t ≡ kind_at ts i = kind_there extra fs is left i f place at inside c.index-fields-index.is t c.child_of-id.ensures.kind in
    let p : Option (List ℕ) = option_copied c.args.projection in
    let limit = c.args.limit in
    let n = length fs in
    let m = length c.loop-index.columns.items in
    let x = c.in_ok-column.column in
    let count_is : c.len.result ≡ m = search rules in
    let yes : c.is_chosen.result ≡ true = search rules in
    let here : IsChosen p m i = subst (λ (k : ℕ). IsChosen p k i) count_is (c.is_chosen.ensures.0 yes) in
    let more = left_more p n m i inside here in
    let pushed = c.in_ok-push.ensures.items in
    let grown : m + 1 ≡ length c.push.new.self.items = let e = ap length pushed in let l = length-append c.loop-index.columns.items (x ∷ []) in omega (arith, e, l) in
    let e1 = ap (columns_listed s extra ts) more in
    let e2 = listed_there extra ts is left i place t at listed same s in
    let e3 = ap (λ (k : ℕ). columns_listed s extra ts (left_of p n k (i + 1))) grown in
    let h1 = ap (columns_most s extra ts) more in
    let h2 = held_there extra ts is left i place t at listed same s (layout_of x) c.in_ok-column.ensures.held in
    let h3 = ap (λ (k : ℕ). columns_most s extra ts (left_of p n k (i + 1))) grown in
    let h4 = ap arrays_held pushed ∙ sum_by_push (λ (y : AnyArray). held (layout_of y)) c.loop-index.columns.items x in
    let fronted = sym (extra_is g.R.Failures.device c.args.body.now) in
    record {
      at = next_place extra ts is left i place t at listed same (all_ids_view c.others_of-left.result.now) c.in_ok-column.next c.others_of-left.ensures c.in_ok-column.ensures.next;
      rest = subst (λ (k : ℕ). AreLeft p n k (i + 1)) grown (left_chosen p n m i inside here c.loop-index.invariant.rest);
      among = subst (λ (k : ℕ). Among ts (chosen p n) (left_of p n k (i + 1))) grown (among_more ts (chosen p n) _ (left_of p n (m + 1) (i + 1)) i more c.loop-index.invariant.among);
      many = omega (arith, grown, ap length more, ap (λ (k : ℕ). length (left_of p n k (i + 1))) grown, c.loop-index.invariant.many);
      monotone = omega (arith, c.loop-index.invariant.monotone, c.in_ok-column.ensures.step.monotone);
      done = c.in_ok-column.ensures.step.told ∙ c.loop-index.invariant.done;
      stands = c.in_ok-column.ensures.step.stands;
      names = c.in_ok-column.ensures.step.names ∙ c.loop-index.invariant.names;
      given = omega (arith, e1, e2, e3, c.loop-index.invariant.given, c.in_ok-column.ensures.step.bounded);
      held = omega (arith, h1, h2, h3, h4, c.loop-index.invariant.held);
      content = λ k.
          subst (λ (l : ℕ). SoFar s vs (fields_view fs) ts limit (chosen p n) (left_of p n l (i + 1)) c.push.new.self.items) grown
          (so_more s vs (fields_view fs) ts limit (chosen p n) _ (left_of p n (m + 1) (i + 1)) c.loop-index.columns.items c.push.new.self.items i x more
          (well_there extra ts is left i place t at listed same s limit fronted (c.in_ok-column.ensures.memory k).0)
          (column_there extra ts is left i place t at listed same s vs limit (type_view f.data_type) (type_at (fields_view fs) i) (layout_of x) fronted
          (type_there fs i f inside c.index-fields-index.is) (c.in_ok-column.ensures.memory k).1)
          pushed (c.loop-index.invariant.content k));
      scratch = omega (arith, c.in_ok-column.ensures.scratch, c.loop-index.invariant.scratch);
    }

pub returns-clause-memory : goal.returns-clause-memory
returns-clause-memory g c = λ k.
    let fs = c.args.fields.now in
    let p : Option (List ℕ) = option_copied c.args.projection in
    let n = length fs in
    let past : n ≤ c.loop-index.index = search rules in
    so_end (entries g.R.Failures.device c.args.body.now) (known c.args.body.now) (fields_view fs) (kinds_of (fields_view fs) (all_ids_view c.args.ids.now)) c.args.limit (chosen p n) _ c.loop-index.columns.items
    (left_none p n (length c.loop-index.columns.items) c.loop-index.index past c.loop-index.invariant.rest) (c.loop-index.invariant.content k)

pub returns-clause-many : goal.returns-clause-many
returns-clause-many g c =
    let p : Option (List ℕ) = option_copied c.args.projection in
    let n = length c.args.fields.now in
    let past : n ≤ c.loop-index.index = search rules in
    omega (arith, ap length (left_none p n (length c.loop-index.columns.items) c.loop-index.index past c.loop-index.invariant.rest), c.loop-index.invariant.many)

pub returns-clause-held : goal.returns-clause-held
returns-clause-held g c = omega (arith, c.loop-index.invariant.held)

pub returns-in_err-column-clause-scratch : goal.returns-in_err-column-clause-scratch
returns-in_err-column-clause-scratch g c = omega (arith, c.in_err-column.ensures.scratch, c.loop-index.invariant.scratch)

pub returns-in_err-push-clause-scratch : goal.returns-in_err-push-clause-scratch
returns-in_err-push-clause-scratch g c = omega (arith, c.in_ok-column.ensures.scratch, c.loop-index.invariant.scratch)
