use Rattle.std.proofs.Common.{inl, inr, true, refl}
use Rattle.std.proofs.lemmas.Result.{err_from_is_err_and}
use Rattle.std.specs.Prelude.{not}
use Rattle.lower.specs.TypeViews.{fields_view, pairs_of}
use Rattle.ipc_devices.proofs.Claims.{claimed, claims_through}
use Rattle.ipc_schema_write.specs.WriterAnswers.{byte_order, written_as}
use Rattle.ipc_write.specs.Writers.{chosen_ids}
use Rattle.ipc_sessions.specs.Sessions.{taken_of}
use Rattle.ipc_sessions.proofs.EndedFiles.{written_file}
use Rattle.ipc_sessions.proofs.created.write_sessions.Goals as goal

pub returns : goal.returns
returns c =
    let fields = fields_view c.args.schema.fields.items in
    let order = byte_order (not c.args.options.big_endian) in
    let metadata = pairs_of c.args.schema.metadata.entries in
    let ids = chosen_ids c.args.ipc_fields fields in
    let pairs = pairs_of c.args.custom_metadata.entries in
    let turn = c.in_ok-left.ensures.exact refl in
    record {
      exact =
          written_file _ order fields metadata ids pairs _
          (rw c.into_inner.ensures (turn.ended true (written_as order fields metadata ids) pairs (taken_of c.args.first.now c.in_ok-created.created.answers.items) (rw c.new.ensures c.in_ok-created.ensures.exact)));
      causes = tt;
      device = tt;
      calls = record {
        creation = c.in_ok-created.ensures.calls;
        created = c.new.result;
        file = rw c.new.ensures c.in_ok-created.ensures.exact;
        left = c.in_ok-left.left.device;
        sessions = c.in_ok-left.ensures.calls;
        bytes_are = rw c.into_inner.ensures refl;
      };
    }

pub returns-in_err-created : goal.returns-in_err-created
returns-in_err-created c =
    let p = err_from_is_err_and c.from_residual.result c.from_residual.ensures.1 in
    rw (p.1, p.2) (record {
      exact = tt;
      causes = claimed c.in_err-created.field-0.0 _ (inl c.in_err-created.ensures.causes);
      device = λ io. inl c.in_err-created.ensures.causes;
      calls = tt;
    })

pub returns-in_err-left : goal.returns-in_err-left
returns-in_err-left c =
    let p = err_from_is_err_and c.from_residual-in_err-left.result c.from_residual-in_err-left.ensures.1 in
    rw (p.1, p.2) (record {
      exact = tt;
      causes =
          claims_through c.in_err-left.field-0.0 _ _
          (λ why. inr (record {
            answers = c.in_ok-created.created.answers.items;
            creation = c.in_ok-created.ensures.calls;
            created = c.new.result;
            file = rw c.new.ensures c.in_ok-created.ensures.exact;
            refused = why;
          })) c.in_err-left.ensures.causes;
      device = λ io. inr (record {
        answers = c.in_ok-created.created.answers.items;
        creation = c.in_ok-created.ensures.calls;
        created = c.new.result;
        file = rw c.new.ensures c.in_ok-created.ensures.exact;
        refused = c.in_err-left.ensures.device io;
      });
      calls = tt;
    })
