-- The example of `ipcat` can be written.
use Rattle.std.proofs.Common.{◌≡◌, None}
use Rattle.ipc_write.specs.Meaning.{normal_types}
use Rattle.ipc_write.specs.Writers.{WriterSeen, chosen_ids}
use Rattle.ipc_write.specs.declared.stream.WriterState.TheVariants.{Started}
use Rattle.ipc_programs.specs.Demo.{demo_fields}

-- a writer that was started with the fields of the example, and no ids of its own
pub record IsDemoWriter {W : Type 0} (w : WriterSeen W) : Type 0 where
  pub started : w.state ≡ Started
  pub types : w.types ≡ normal_types demo_fields
  pub ids : w.ids ≡ chosen_ids None demo_fields
