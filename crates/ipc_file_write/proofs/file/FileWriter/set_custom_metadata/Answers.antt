use Rattle.std.proofs.Common.{rules, ◌≡◌, ◌∙◌, Err, refl, sym, true≢false}
use Rattle.lower.specs.TypeViews.{fields_view, pairs_of}
use Rattle.ipc_base.specs.IdTrees.{all_ids_view}
use Rattle.ipc_file_write.specs.FileWriters.{fault_if_over, seen}
use Rattle.ipc_file_write.proofs.FileStates.{pairs_remain}
use Rattle.ipc_file_write.proofs.Keeping.{pairs_keep}
use Rattle.ipc_file_write.proofs.StartsAndEnds.{first_open, first_refused, state_no_pairs}
use Rattle.ipc_file_write.proofs.file.FileWriter.set_custom_metadata.Goals as goal

pub invariant_of-self : goal.invariant_of-self
invariant_of-self g c =
    let w = c.args.self.now in
    record {
      keeps = w.keeps;
      writable =
          pairs_keep w.state (fields_view w.schema.fields.items) (pairs_of w.schema.metadata.entries) (all_ids_view w.ipc_fields.items) (pairs_of w.custom_metadata.entries) (pairs_of c.args.metadata.entries) w.writable
          (c.is_light.ensures.0 c.if-not-is_light.false);
    }

pub returns-in_err-check_open-clause-sets : goal.returns-in_err-check_open-clause-sets
returns-in_err-check_open-clause-sets g c =
    let fault = c.in_err-check_open.field-0.0 in
    let e : c.from_residual.result ≡ Err fault = search rules in
    rw e (record {
      causes = state_no_pairs (seen c.args.self.now) (pairs_of c.args.metadata.entries) fault c.in_err-check_open.ensures.only;
      state = record {
        first = first_refused (fault_if_over c.args.self.now.state) (seen c.args.self.now) _ fault (Err fault) refl c.in_err-check_open.ensures.first refl;
        ok = tt;
        kept = refl;
      };
      content = record { kept = λ k is_stream base cs h. h };
    })

pub returns-then-not-is_light-clause-sets : goal.returns-then-not-is_light-clause-sets
returns-then-not-is_light-clause-sets g c = record {
  causes = λ light. true≢false (sym (c.is_light.ensures.1 light) ∙ c.if-not-is_light.true);
  state = record { first = first_open (seen c.args.self.now) _ _ c.in_ok-check_open.ensures.ok; ok = tt; kept = refl };
  content = record { kept = λ k is_stream base cs h. h };
}

pub returns-clause-sets : goal.returns-clause-sets
returns-clause-sets g c =
    let was = c.in_ok-check_open.ensures.ok in
    let light = c.is_light.ensures.0 c.if-not-is_light.false in
    record {
      causes = tt;
      state = record {
        first = first_open (seen c.args.self.now) _ _ was;
        ok = record {
          open_state = was;
          light = light;
          are = refl;
          device = refl;
          state = refl;
          order = refl;
          fields = refl;
          metadata = refl;
          chosen = refl;
          ids = refl;
          remembers = λ id. refl;
          dictionaries = refl;
          blocks = refl;
          place = refl;
          size = refl;
        };
        kept = tt;
      };
      content = pairs_remain g.W.Failures.device (seen c.args.self.now) _ (pairs_of c.args.metadata.entries) (record {
        open_state = was;
        light = light;
        are = refl;
        device = refl;
        state = refl;
        order = refl;
        fields = refl;
        metadata = refl;
        chosen = refl;
        ids = refl;
        remembers = λ id. refl;
        dictionaries = refl;
        blocks = refl;
        place = refl;
        size = refl;
      });
    }
