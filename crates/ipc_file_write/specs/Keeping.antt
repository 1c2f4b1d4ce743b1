-- What a file writer keeps through all calls.
-- (Arrow columnar format, "IPC File Format"; the limits are this project's own.)
use Rattle.std.specs.Prelude.{◌≤◌}
use Rattle.lower.specs.TypeTrees.{FieldTrees, Pairs}
use Rattle.ipc_base.specs.IdTrees.{IdTrees}
use Rattle.ipc_model.specs.Writable.{IsWritableFile, file_weight, weight}
use Rattle.ipc_schema_write.specs.WriterAnswers.{max_weight}
use Rattle.ipc_write.specs.declared.stream.WriterState.{WriterState}
use Rattle.ipc_write.specs.declared.stream.WriterState.TheVariants.{New, Started, Finished, Failed}

-- Before the start, a schema that isn't too heavy alone isn't too heavy with the pairs that were
-- set. A file that was started can be written, with its ids and its pairs.
abbrev pub StaysWritable : WriterState → FieldTrees → Pairs → IdTrees → Pairs → Type 0
StaysWritable New fs es is pairs = weight fs es ≤ max_weight → file_weight fs es pairs ≤ max_weight
StaysWritable Started fs es is pairs = IsWritableFile fs es is pairs
StaysWritable Finished fs es is pairs = Unit {0}
StaysWritable Failed fs es is pairs = Unit {0}
