-- What the program's entries mean.
-- (Arrow columnar format, "RecordBatch message", "FieldNode", "Buffer".)
use Rattle.std.specs.Prelude.{[], map}
use Rattle.ipc_model.specs.Entries.{Entries, Part}
use Rattle.ipc_reference.specs.declared.entries.PlainEntries.{PlainEntries}
use Rattle.ipc_reference.specs.declared.entries.PlainPart.{PlainPart}

-- What one of the program's buffers means.
abbrev pub part_view : PlainPart → Part
part_view p = record { offset = p.offset; length = p.length; bytes = p.bytes.now }

-- What the program's entries mean; it has no kind that reads a dictionary.
abbrev pub entries_view : PlainEntries → Entries
entries_view e = record {
  nodes = e.nodes.now;
  parts = map part_view e.parts.now;
  order = e.order;
  extra = e.extra;
  dictionaries = [];
}
