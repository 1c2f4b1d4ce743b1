use Rattle.std.proofs.Common.{rules, ◌≡◌, Err}
use Rattle.ipc_readers.proofs.MetadataRuns.{schema_answered}
use Rattle.ipc_readers.proofs.read.stream.metadata.read_stream_metadata.Goals as goal

pub returns-in_err-schema-clause-answered : goal.returns-in_err-schema-clause-answered
returns-in_err-schema-clause-answered g c =
    let fault = c.in_err-schema.field-0.0 in
    let e : c.from_residual-in_err-schema.result ≡ Err fault = search rules in
    rw e (schema_answered g.R.Failures.device c.deref.result.now fault c.in_err-schema.ensures.meaning)
