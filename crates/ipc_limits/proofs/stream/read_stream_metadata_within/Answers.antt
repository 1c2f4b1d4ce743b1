use Rattle.std.proofs.Common.{rules, ◌≡◌, Err}
use Rattle.ipc_readers.proofs.MetadataRuns.{schema_answered}
use Rattle.ipc_limits.proofs.stream.read_stream_metadata_within.Goals as goal

pub returns-in_err-schema-clause-answered : goal.returns-in_err-schema-clause-answered
returns-in_err-schema-clause-answered g c =
    let fault = c.in_err-schema.field-0.0 in
    let e : c.from_residual-in_err-schema.result ≡ Err fault = search rules in
    rw e (schema_answered g.R.Failures.device c.deref-2.result.now fault c.in_err-schema.ensures.meaning)
