-- The entries that columns are read from are those of the batch, with
-- the dictionaries that are known.
use Rattle.ipc_devices.specs.Device.{Device}
use Rattle.std.proofs.Common.{◌≡◌, ℕ, map}
use Rattle.lower_types.specs.declared.Endianness.{Endianness}
use Rattle.ipc_model.specs.Entries.{part_at}
use Rattle.ipc_model.specs.Batches.{Lists, entries_of}
use Rattle.ipc_model.specs.Batches as model
use Rattle.ipc_read_flat.specs.Bodies.{known_dictionaries, source, entries}
use Rattle.ipc_read_flat.specs.declared.read.body.Body.{Body}

pub same_entries :
    {R : Type 0} (d : Device R) (b : Body R) (lists : Lists) (m : model.Body) (order : Endianness) (extra : ℕ) → b.nodes ≡ lists.nodes → b.buffers ≡ lists.buffers
    → source d b ≡ m.source → b.base ≡ m.base → b.order ≡ order → b.extra ≡ extra
    → entries d b ≡ entries_of lists m order extra (known_dictionaries b.dictionaries.now)
unfolding entries entries_of
same_entries d b lists m order extra nodes buffers bytes base ordered fronted =
    λ i. record {
      nodes = nodes i;
      parts = map (part_at (bytes i) (base i)) (buffers i);
      order = ordered i;
      extra = fronted i;
      dictionaries = known_dictionaries b.dictionaries.now;
    }
