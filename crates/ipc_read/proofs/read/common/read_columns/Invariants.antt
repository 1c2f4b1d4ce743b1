use Rattle.std.proofs.Common.{◌≡◌, ◌+◌, ◌≤◌, length, IsTrue}
use Rattle.std.specs.Option.{option_copied}
use Rattle.lower.specs.TypeViews.{fields_view}
use Rattle.ipc_base.specs.IdTrees.{all_ids_view}
use Rattle.ipc_model.specs.Batches.{chosen}
use Rattle.ipc_model.specs.TypeKinds.{kinds_of}
use Rattle.ipc_read_flat.specs.Bodies.{KeepsBytes, entries, known}
use Rattle.ipc_read_flat.specs.Scratches.{KeepsScratch}
use Rattle.ipc_read.specs.Columns.{columns_listed}
use Rattle.ipc_read.specs.HeldChunks.{arrays_held, columns_most}
use Rattle.ipc_read.proofs.Chosen.{AreLeft, left_of}
use Rattle.ipc_read.proofs.ColumnLists.{Among, SoFar}
use Rattle.ipc_read.proofs.ColumnPlaces.{IsPlace}
use Rattle.ipc_read.proofs.read.common.read_columns.Given as goal

abbrev pub invariant-loop-index : goal.invariant-loop-index
invariant-loop-index g l = record {
  at : IsPlace l.body.extra (kinds_of (fields_view l.fields) (all_ids_view l.ids)) (all_ids_view l.ids) (all_ids_view l.left) l.index l.place;
  rest : AreLeft (option_copied l.projection) (length l.fields) (length l.columns.items) l.index;
  among : Among (kinds_of (fields_view l.fields) (all_ids_view l.ids)) (chosen (option_copied l.projection) (length l.fields))
      (left_of (option_copied l.projection) (length l.fields) (length l.columns.items) l.index);
  many : length l.columns.items + length (left_of (option_copied l.projection) (length l.fields) (length l.columns.items) l.index)
      ≡ length (chosen (option_copied l.projection) (length l.fields));
  monotone : g.R.Failures.device.failures l.fn.reader ≤ g.R.Failures.device.failures l.reader;
  done : g.R.Failures.device.failures l.reader ≡ g.R.Failures.device.failures l.fn.reader;
  stands : KeepsBytes g.R.Failures.device l.reader l.body;
  names : g.R.Failures.device.names l.reader ≡ g.R.Failures.device.names l.fn.reader;
  given : g.R.Failures.device.given l.reader
      + columns_listed (entries g.R.Failures.device l.body) l.body.extra (kinds_of (fields_view l.fields) (all_ids_view l.ids))
      (left_of (option_copied l.projection) (length l.fields) (length l.columns.items) l.index)
      ≤ g.R.Failures.device.given l.fn.reader
      + columns_listed (entries g.R.Failures.device l.body) l.body.extra (kinds_of (fields_view l.fields) (all_ids_view l.ids)) (chosen (option_copied l.projection) (length l.fields));
  held : arrays_held l.columns.items
      + columns_most (entries g.R.Failures.device l.body) l.body.extra (kinds_of (fields_view l.fields) (all_ids_view l.ids))
      (left_of (option_copied l.projection) (length l.fields) (length l.columns.items) l.index)
      ≤ columns_most (entries g.R.Failures.device l.body) l.body.extra (kinds_of (fields_view l.fields) (all_ids_view l.ids)) (chosen (option_copied l.projection) (length l.fields));
  content : IsTrue g.R.Failures.device.is_memory
      → SoFar (entries g.R.Failures.device l.body) (known l.body) (fields_view l.fields) (kinds_of (fields_view l.fields) (all_ids_view l.ids)) l.limit (chosen (option_copied l.projection) (length l.fields))
      (left_of (option_copied l.projection) (length l.fields) (length l.columns.items) l.index) l.columns.items;
  scratch : KeepsScratch l.fn.scratch.items l.scratch.items;
}
