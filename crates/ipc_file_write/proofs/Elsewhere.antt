-- What holds of a file writer without its device holds of the same writer with any device.
use Rattle.std.proofs.Common.{Bool, ℕ, List}
use Rattle.ipc_model.specs.Batches.{Chunk}
use Rattle.ipc_file_write.specs.FileWriters.{FileSeen, IsOpenFile, IsWholeFile}

-- The same writer with this device.
abbrev pub over : {V W : Type 0} → W → FileSeen V → FileSeen W
over device w = record {
  device = device;
  state = w.state;
  order = w.order;
  fields = w.fields;
  metadata = w.metadata;
  chosen = w.chosen;
  ids = w.ids;
  pairs = w.pairs;
  remembers = w.remembers;
  dictionaries = w.dictionaries;
  blocks = w.blocks;
  place = w.place;
  size = w.size;
}

module _ {V W : Type 0} (w : FileSeen V) (device : W) where
  pub open_over : (is_stream : Bool) (bytes : List ℕ) (cs : List Chunk) → IsOpenFile is_stream w bytes cs → IsOpenFile is_stream (over device w) bytes cs
  open_over is_stream bytes cs h = record {
    writable = h.writable;
    light = h.light;
    begun = h.begun;
    long = h.long;
    file = h.file;
    stream = h.stream;
    place = h.place;
    natural = h.natural;
    reached = h.reached;
    last = h.last;
  }

  pub whole_over : (is_stream : Bool) (bytes : List ℕ) (cs : List Chunk) → IsWholeFile is_stream w bytes cs → IsWholeFile is_stream (over device w) bytes cs
  whole_over is_stream bytes cs h = record {
    file = h.file;
    stream = h.stream;
    front = h.front;
    behind = h.behind;
    bytes_are = h.bytes_are;
    open_front = open_over is_stream h.front cs h.open_front;
    long = h.long;
  }
