use Rattle.std.proofs.Common.{◌≡◌, ℕ, Vec, Global, [], ap, subst, refl, sym, ◌∙◌}
use Rattle.std.proofs.lemmas.Result.{err_from_is_err_and}
use Rattle.lower_types.specs.declared.Endianness.{Endianness}
use Rattle.lower.specs.TypeViews.{fields_view, pairs_of}
use Rattle.ipc_devices.specs.Device.{before}
use Rattle.ipc_model.specs.WriterStates.{answered}
use Rattle.ipc_model.specs.Writers.{taken}
use Rattle.ipc_schema_write.specs.WriterAnswers.{written_head_as}
use Rattle.ipc_write.specs.Agreement.{Agrees}
use Rattle.ipc_write.specs.Calls.{ended_as}
use Rattle.ipc_write.specs.Writers.{chosen_ids, order_of, seen}
use Rattle.ipc_round_trip.specs.Reading.{IsReadable, IsWhole}
use Rattle.ipc_round_trip.specs.RoundTrip.{ComesBack, vector}
use Rattle.ipc_round_trip.proofs.Streams.{finished_law, never_refused, readable_law, refused_end, runs_to_stream, vector_before}
use Rattle.ipc_round_trip.proofs.round_trip.round_trip.Goals as goal
use Rattle.ipc_write.specs.Vectors.{vectors}

pub returns : goal.returns
returns c =
    let order = order_of c.args.write_options in
    let fields = fields_view c.args.schema.now.fields.items in
    let metadata = pairs_of c.args.schema.now.metadata.entries in
    let ids = chosen_ids c.args.ipc_fields fields in
    let writer = seen c.new-writer.result in
    let head = written_head_as writer.order fields metadata ids in
    let chunks = taken (answered (ended_as c.args.calls.now c.in_ok-answers.answers.items)) in
    let none = ap (λ (v : Vec ℕ Global). v.items) c.new-writer.ensures.device ∙ c.new.ensures.items in
    let empty : before (vector writer.device) ≡ [] = vector_before writer.device ∙ ap (λ v. v.items) c.new-writer.ensures.device ∙ c.new.ensures.items in
    let fresh : Agrees vectors writer [] head [] = subst (λ base. Agrees vectors writer base head []) empty (c.new-writer.ensures.means.agrees head) in
    let written = c.in_ok-bytes.ensures.ok.stream head chunks (c.in_ok-answers.ensures.ran.content.followed refl [] [] fresh) in
    let whole : IsWhole c.in_ok-bytes.bytes.items c.in_ok-stream.stream =
    subst (λ bytes. IsWhole bytes c.in_ok-stream.stream) c.deref.ensures.value c.in_ok-stream.ensures in
    record {
      exact =
          subst (λ (o : Endianness). ComesBack c.in_ok-stream.stream (written_head_as o fields metadata ids) chunks) c.new-writer.ensures.order
          (finished_law c.in_ok-bytes.bytes.items head chunks c.in_ok-stream.stream written.stream whole);
      causes = tt;
      run =
          runs_to_stream order writer (seen c.run_calls.new.writer) fields metadata ids c.args.calls.now c.in_ok-answers.answers.items c.new-writer.ensures.state c.new-writer.ensures.order none c.in_ok-answers.ensures.ran.made
          c.in_ok-bytes.ensures.state;
    }

pub returns-in_err-bytes : goal.returns-in_err-bytes
returns-in_err-bytes c =
    let fields = fields_view c.args.schema.now.fields.items in
    let writer = c.new-writer.result in
    let empty = ap (λ (v : Vec ℕ Global). v.items) c.new-writer.ensures.device ∙ c.new.ensures.items in
    let p = err_from_is_err_and c.from_residual-in_err-bytes.result c.from_residual-in_err-bytes.ensures.1 in
    rw (p.1, p.2) (record {
      exact = tt;
      causes =
          refused_end (order_of c.args.write_options) (seen writer) (seen c.run_calls.new.writer) fields (pairs_of c.args.schema.now.metadata.entries) (chosen_ids c.args.ipc_fields fields) c.args.calls.now c.in_ok-answers.answers.items _ c.new-writer.ensures.state c.new-writer.ensures.order empty c.in_ok-answers.ensures.ran.made
          c.in_err-bytes.ensures.only;
      run = tt;
    })

pub returns-in_err-stream : goal.returns-in_err-stream
returns-in_err-stream c =
    let fields = fields_view c.args.schema.now.fields.items in
    let writer = seen c.new-writer.result in
    let head = written_head_as writer.order fields (pairs_of c.args.schema.now.metadata.entries) (chosen_ids c.args.ipc_fields fields) in
    let chunks = taken (answered (ended_as c.args.calls.now c.in_ok-answers.answers.items)) in
    let empty : before (vector writer.device) ≡ [] = vector_before writer.device ∙ ap (λ v. v.items) c.new-writer.ensures.device ∙ c.new.ensures.items in
    let fresh : Agrees vectors writer [] head [] = subst (λ base. Agrees vectors writer base head []) empty (c.new-writer.ensures.means.agrees head) in
    let written = c.in_ok-bytes.ensures.ok.stream head chunks (c.in_ok-answers.ensures.ran.content.followed refl [] [] fresh) in
    let readable : IsReadable c.deref.result.now = subst IsReadable (sym c.deref.ensures.value) (readable_law c.in_ok-bytes.bytes.items head chunks written) in
    let p = err_from_is_err_and c.from_residual-in_err-stream.result c.from_residual-in_err-stream.ensures.1 in
    rw (p.1, p.2) (record {
      exact = tt;
      causes =
          never_refused (order_of c.args.write_options) fields (pairs_of c.args.schema.now.metadata.entries) (chosen_ids c.args.ipc_fields fields) c.args.calls.now c.deref.result.now _ readable c.in_err-stream.ensures;
      run = tt;
    })
