use Rattle.std.proofs.Common.{refl}
use Rattle.std.proofs.lemmas.Str.{is_utf8-from_IsUtf8}
use Rattle.ipc_table_bytes.proofs.VectorHolds.{IsPart-text}
use Rattle.ipc_table_bytes.proofs.vector_parts.text.Goals as goal

pub returns : goal.returns
returns c = IsPart-text _ _ c.in_ok-bytes.ensures.items refl (is_utf8-from_IsUtf8 _ c.utf8.content)
