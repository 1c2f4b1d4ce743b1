use Rattle.std.proofs.Common.{rules, ◌≡◌, ◌<◌, ◌≤◌, ◌^◌, None, Some, map, subst, length, refl, sym, [], Err, arith}
use Rattle.std.specs.Int.{next_multiple_of}
use Rattle.std.proofs.lemmas.Result.{err_from_is_err_and}
use Rattle.lower.specs.TypeViews.{fields_view, pairs_of}
use Rattle.ipc_base.specs.IdTrees.{IdTrees}
use Rattle.ipc_schema_write.specs.DefaultIds.{default_all}
use Rattle.ipc_model.specs.Schemas.{head_of}
use Rattle.ipc_schema_write.specs.WriterAnswers.{RefusesSchema, written_head_as}
use Rattle.ipc_write.specs.Framing.{message_bytes, message_len}
use Rattle.ipc_write.specs.Meaning.{normal_types}
use Rattle.ipc_write.specs.Writers.{chosen_ids, fault_unless_new, normal_view, seen}
use Rattle.ipc_write.proofs.Agreements.{sent_schema, unsent_schema}
use Rattle.ipc_write.proofs.Messages.{length_message}
use Rattle.ipc_write.proofs.Refusals.{first_new}
use Rattle.ipc_write.proofs.WriterSteps.{chosen_none, ok_step, on_sent, refused_schema, refused_start, schema_not_io, short_padded, state_first, state_not_io, state_start, unsent_start, unsent_step}
use Rattle.ipc_write.proofs.stream.writer.StreamWriter.start.Goals as goal

-- ---- refused

pub returns-in_err-check_new : goal.returns-in_err-check_new
returns-in_err-check_new g c =
    let fields = fields_view c.args.schema.now.fields.items in
    let pairs = pairs_of c.args.schema.now.metadata.entries in
    let fault = c.in_err-check_new.field-0.0 in
    let e : c.from_residual.result ≡ Err fault = search rules in
    let own = fault_unless_new c.args.self.now.state in
    rw e (record {
      causes = state_start c.args.self.now.state fields pairs (chosen_ids c.args.ipc_fields fields) fault c.in_err-check_new.ensures.only;
      device = refused_schema _ _ _ _ _ (record { device = refl; state = refl; types = refl; ids = refl; dictionaries = λ id. refl }) refl
          (state_not_io own fault c.in_err-check_new.ensures.only);
      state = record { first = state_first own (seen c.args.self.now) _ fault c.in_err-check_new.ensures.only refl; ok = tt };
      content = record { begun = λ k base chunks h. tt; kept = λ k base other chunks h. h };
    })

pub returns-in_err-ipc_fields-in-None : goal.returns-in_err-ipc_fields-in-None
returns-in_err-ipc_fields-in-None g c =
    let fields = fields_view c.args.schema.now.fields.items in
    let pairs = pairs_of c.args.schema.now.metadata.entries in
    let fault = c.in_err-ipc_fields-in-None.field-0.0 in
    let e : c.from_residual-in_err-ipc_fields-in-None.result ≡ Err fault = search rules in
    let none : c.args.ipc_fields ≡ None = search rules in
    let refused : RefusesSchema fault fields pairs (default_all 0 fields) = rw c.deref.ensures.value at (c.in_err-ipc_fields-in-None.ensures.only pairs) in
    rw e (record {
      causes = refused_start c.args.self.now.state fields pairs (chosen_ids c.args.ipc_fields fields) fault
          (subst (λ (is : IdTrees). RefusesSchema fault fields pairs is) (chosen_none c.args.ipc_fields fields none) refused);
      device = refused_schema _ _ _ _ _ (record { device = refl; state = refl; types = refl; ids = refl; dictionaries = λ id. refl }) refl
          (schema_not_io fault _ pairs _ (c.in_err-ipc_fields-in-None.ensures.only pairs));
      state = record { first = first_new (seen c.args.self.now) _ _ c.in_ok-check_new.ensures.ok; ok = tt };
      content = record { begun = λ k base chunks h. tt; kept = λ k base other chunks h. h };
    })

pub returns-in_err-types : goal.returns-in_err-types
returns-in_err-types g c =
    let p = err_from_is_err_and c.from_residual-in_err-types.result c.from_residual-in_err-types.ensures.1 in
    rw (p.1, p.2) (record {
      causes = tt;
      device = refused_schema _ _ _ _ _ (record { device = refl; state = refl; types = refl; ids = refl; dictionaries = λ id. refl }) refl (λ P. tt);
      state = record { first = first_new (seen c.args.self.now) _ _ c.in_ok-check_new.ensures.ok; ok = tt };
      content = record { begun = λ k base chunks h. tt; kept = λ k base other chunks h. h };
    })

pub returns-in_err-metadata : goal.returns-in_err-metadata
returns-in_err-metadata g c =
    let fields = fields_view c.args.schema.now.fields.items in
    let pairs = pairs_of c.args.schema.now.metadata.entries in
    let fault = c.in_err-metadata.field-0.0 in
    let e : c.from_residual-in_err-metadata.result ≡ Err fault = search rules in
    let refused : RefusesSchema fault fields pairs (chosen_ids c.args.ipc_fields fields) = search rules in
    rw e (record {
      causes = refused_start c.args.self.now.state fields pairs (chosen_ids c.args.ipc_fields fields) fault refused;
      device = refused_schema _ _ _ _ _ (record { device = refl; state = refl; types = refl; ids = refl; dictionaries = λ id. refl }) refl
          (schema_not_io fault fields _ _ refused);
      state = record { first = first_new (seen c.args.self.now) _ _ c.in_ok-check_new.ensures.ok; ok = tt };
      content = record { begun = λ k base chunks h. tt; kept = λ k base other chunks h. h };
    })

-- ---- sent

pub returns : goal.returns
returns g c =
    let fields = fields_view c.args.schema.now.fields.items in
    let pairs = pairs_of c.args.schema.now.metadata.entries in
    let metadata = c.in_ok-metadata.metadata.items in
    let head = written_head_as c.args.self.now.order fields pairs (chosen_ids c.args.ipc_fields fields) in
    let types : map normal_view c.in_ok-types.types.items ≡ normal_types fields = search rules in
    let headed : head_of metadata ≡ Some head = search rules in
    let long = c.in_ok-metadata.ensures.2 in
    let light = c.in_ok-metadata.ensures.0.light in
    let short : length metadata < 2 ^ 31 = omega (arith, long, light) in
    record {
      causes = tt;
      device = record {
        metadata = metadata;
        is = headed;
        written = c.in_ok-metadata.ensures.5;
        step = ok_step {X = Unit {0}} _ _ _ tt _ (message_bytes metadata []) (message_len metadata []) (rw c.deref-4.ensures.value at c.in_ok-send_schema.ensures.sends) refl;
      };
      state = record {
        first = first_new (seen c.args.self.now) _ _ c.in_ok-check_new.ensures.ok;
        ok = record {
          was = c.in_ok-check_new.ensures.ok;
          is = refl;
          types = types;
          ids_are = search rules;
          writable = search rules;
          dictionaries = λ id. refl;
        };
      };
      content =
          sent_schema _ _ _ metadata head c.in_ok-check_new.ensures.ok refl c.in_ok-metadata.ensures.4 short headed
          (record { fields = fields; metadata = pairs; writable = search rules; head_is = search rules; types_are = sym types })
          (λ id. refl) (λ k. (rw c.deref-4.ensures.value at c.in_ok-send_schema.ensures.sends).memory k) _;
    }

pub returns-in_err-send_schema : goal.returns-in_err-send_schema
returns-in_err-send_schema g c =
    let fields = fields_view c.args.schema.now.fields.items in
    let pairs = pairs_of c.args.schema.now.metadata.entries in
    let ids = chosen_ids c.args.ipc_fields fields in
    let head = written_head_as c.args.self.now.order fields pairs ids in
    let metadata = c.in_ok-metadata.metadata.items in
    let fault = c.in_err-send_schema.field-0.0 in
    let headed : head_of metadata ≡ Some head = search rules in
    let e : c.from_residual-in_err-send_schema.result ≡ Err fault = search rules in
    let sent = c.in_err-send_schema.ensures in
    rw e (record {
      causes =
          unsent_start (Unit {0}) g.W.Failures.device c.args.self.now.writer c.send_schema.new.writer fault (message_bytes metadata []) (2 ^ 31 ≤ next_multiple_of (length metadata) 8)
          c.args.self.now.state fields pairs ids (rw c.deref-4.ensures.value at sent.sends)
          (short_padded (length metadata) _ c.in_ok-metadata.ensures.2 c.in_ok-metadata.ensures.0.light);
      device = record {
        metadata = metadata;
        is = on_sent (Err fault) _ headed;
        written = on_sent (Err fault) _ c.in_ok-metadata.ensures.5;
        step = unsent_step (Unit {0}) g.W.Failures.device (seen c.args.self.now) _ fault (message_bytes metadata []) (message_len metadata [])
            (2 ^ 31 ≤ next_multiple_of (length metadata) 8) (omega (arith, length_message metadata [])) (rw c.deref-4.ensures.value at sent.sends) sent.state refl refl refl (λ id. refl);
      };
      state = record { first = first_new (seen c.args.self.now) _ _ c.in_ok-check_new.ensures.ok; ok = tt };
      content =
          unsent_schema g.W.Failures.device (seen c.args.self.now) _ fault (message_bytes metadata []) (message_len metadata []) head c.in_ok-check_new.ensures.ok
          (unsent_step (Unit {0}) g.W.Failures.device (seen c.args.self.now) _ fault (message_bytes metadata []) (message_len metadata [])
          (2 ^ 31 ≤ next_multiple_of (length metadata) 8) (omega (arith, length_message metadata [])) (rw c.deref-4.ensures.value at sent.sends) sent.state refl refl refl (λ id. refl));
    })
