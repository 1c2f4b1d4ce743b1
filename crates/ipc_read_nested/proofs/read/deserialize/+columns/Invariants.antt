use Rattle.std.proofs.Common.{◌≡◌, ◌+◌, ◌≤◌, map, drop, IsTrue}
use Rattle.lower.specs.TypeViews.{fields_view}
use Rattle.lower_arrays.specs.AnyLayouts.{layout_of}
use Rattle.lower_arrays.specs.Held.{all_held}
use Rattle.lower_arrays.specs.Layouts.{layouts}
use Rattle.ipc_base.specs.IdTrees.{all_ids_view}
use Rattle.ipc_model.specs.TypeKinds.{kinds_of}
use Rattle.ipc_read_flat.specs.Bodies.{KeepsBytes, entries, known}
use Rattle.ipc_read_flat.specs.HeldListed.{all_most_held}
use Rattle.ipc_read_flat.specs.Kinds.{all_listed}
use Rattle.ipc_read_nested.specs.StructLevels.{Left, SoFar}
use Rattle.ipc_read_nested.specs.UnionLevels.{WholeSoFar}
use Rattle.ipc_read_nested.proofs.read.deserialize.+columns.Given as goal

abbrev pub invariant-read_fields-loop-field : goal.invariant-read_fields-loop-field
invariant-read_fields-loop-field g l = record {
  places : Left l.body.extra (kinds_of (fields_view l.fields) (all_ids_view l.ids)) (kinds_of (fields_view (drop l.field-index l.fields)) (all_ids_view l.left)) l.fn.start l.place;
  stands : KeepsBytes g.R.Failures.device l.reader l.body;
  names : g.R.Failures.device.names l.reader ≡ g.R.Failures.device.names l.fn.reader;
  monotone : g.R.Failures.device.failures l.fn.reader ≤ g.R.Failures.device.failures l.reader;
  done : g.R.Failures.device.failures l.reader ≡ g.R.Failures.device.failures l.fn.reader;
  given : g.R.Failures.device.given l.reader
      + all_listed (entries g.R.Failures.device l.body) l.body.extra (kinds_of (fields_view (drop l.field-index l.fields)) (all_ids_view l.left)) l.place.buffer
      ≤ g.R.Failures.device.given l.fn.reader + all_listed (entries g.R.Failures.device l.body) l.body.extra (kinds_of (fields_view l.fields) (all_ids_view l.ids)) l.fn.start.buffer;
  held : all_held (layouts (map layout_of l.columns.items))
      + all_most_held (entries g.R.Failures.device l.body) l.body.extra (kinds_of (fields_view (drop l.field-index l.fields)) (all_ids_view l.left)) l.place.buffer
      ≤ all_most_held (entries g.R.Failures.device l.body) l.body.extra (kinds_of (fields_view l.fields) (all_ids_view l.ids)) l.fn.start.buffer;
  content : IsTrue g.R.Failures.device.is_memory
      → SoFar (entries g.R.Failures.device l.body) (known l.body) (kinds_of (fields_view l.fields) (all_ids_view l.ids)) (kinds_of (fields_view (drop l.field-index l.fields)) (all_ids_view l.left))
      (fields_view l.fields) (fields_view (drop l.field-index l.fields)) l.fn.start l.place l.limit l.rows (map layout_of l.columns.items);
}

abbrev pub invariant-read_whole_fields-loop-field : goal.invariant-read_whole_fields-loop-field
invariant-read_whole_fields-loop-field g l = record {
  places : Left l.body.extra (kinds_of (fields_view l.fields) (all_ids_view l.ids)) (kinds_of (fields_view (drop l.field-index l.fields)) (all_ids_view l.others)) l.fn.start l.place;
  stands : KeepsBytes g.R.Failures.device l.reader l.body;
  names : g.R.Failures.device.names l.reader ≡ g.R.Failures.device.names l.fn.reader;
  monotone : g.R.Failures.device.failures l.fn.reader ≤ g.R.Failures.device.failures l.reader;
  done : g.R.Failures.device.failures l.reader ≡ g.R.Failures.device.failures l.fn.reader;
  given : g.R.Failures.device.given l.reader
      + all_listed (entries g.R.Failures.device l.body) l.body.extra (kinds_of (fields_view (drop l.field-index l.fields)) (all_ids_view l.others)) l.place.buffer
      ≤ g.R.Failures.device.given l.fn.reader + all_listed (entries g.R.Failures.device l.body) l.body.extra (kinds_of (fields_view l.fields) (all_ids_view l.ids)) l.fn.start.buffer;
  held : all_held (layouts (map layout_of l.columns.items))
      + all_most_held (entries g.R.Failures.device l.body) l.body.extra (kinds_of (fields_view (drop l.field-index l.fields)) (all_ids_view l.others)) l.place.buffer
      ≤ all_most_held (entries g.R.Failures.device l.body) l.body.extra (kinds_of (fields_view l.fields) (all_ids_view l.ids)) l.fn.start.buffer;
  content : IsTrue g.R.Failures.device.is_memory
      → WholeSoFar (entries g.R.Failures.device l.body) (known l.body) (kinds_of (fields_view l.fields) (all_ids_view l.ids)) (kinds_of (fields_view (drop l.field-index l.fields)) (all_ids_view l.others))
      (fields_view l.fields) (fields_view (drop l.field-index l.fields)) l.fn.start l.place (map layout_of l.columns.items);
}
