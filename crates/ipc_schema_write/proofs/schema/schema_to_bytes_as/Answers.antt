use Rattle.ipc_schema_write.proofs.WrittenSchema.{bytes-written}
use Rattle.ipc_schema_write.proofs.schema.schema_to_bytes_as.Goals as goal

pub returns : goal.returns
returns c = bytes-written _ _ _ _ _ _ c.in_ok-schema.ensures.0 c.in_ok-schema.ensures.1 c.to_bytes.ensures.encodes
