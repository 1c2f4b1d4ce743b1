-- Streams of a writable schema.
use Rattle.std.proofs.Common.{ℕ, Bool, true, false, List, [], ◌∷◌}
use Rattle.lower.specs.TypeTrees.{Pairs, FieldTrees}
use Rattle.lower_types.specs.declared.Endianness.{Endianness}
use Rattle.lower_arrays.specs.Layouts.{Layout}
use Rattle.ipc_base.specs.IdTrees.{IdTrees}
use Rattle.ipc_model.specs.Writable.{IsWritable}
use Rattle.ipc_stream_lemmas.specs.ColumnRuns.{column_calls, WritesColumns, ColumnRunLaw}
use Rattle.ipc_stream_lemmas.specs.Places.{head_written}
use Rattle.ipc_stream_lemmas.specs.Remembered.{Remembered, nothing_remembered}
use Rattle.ipc_stream_lemmas.specs.Runs.{Writes}
use Rattle.ipc_stream_lemmas.proofs.Chunks.{written_chunk_law}
use Rattle.ipc_stream_lemmas.proofs.Running.{finished_run}

writes_of : (order : Endianness) (fs : FieldTrees) (metadata : Pairs) (is : IdTrees) (m : Remembered) (calls : List (List Layout × Bool)) (bytes : List ℕ) (after : Remembered) → IsWritable fs metadata is
    → WritesColumns order fs metadata is m calls bytes after → Writes (head_written order fs metadata is) m (column_calls calls) bytes after
writes_of order fs metadata is m [] bytes after w s = s
writes_of order fs metadata is m ((columns, false) ∷ calls) bytes after w s = writes_of order fs metadata is m calls bytes after w s
writes_of order fs metadata is m ((columns, true) ∷ calls) bytes after w s =
    (s.0, s.1, s.2, written_chunk_law order fs metadata is columns m s.2 s.0 w s.3 s.4 s.5, s.6, writes_of order fs metadata is s.2 calls s.1 after w s.7)

pub column_run_law : ColumnRunLaw
column_run_law order fs metadata is bytes added after calls w started s =
    finished_run bytes added (head_written order fs metadata is) after (column_calls calls) started (writes_of order fs metadata is nothing_remembered calls added after w s)
