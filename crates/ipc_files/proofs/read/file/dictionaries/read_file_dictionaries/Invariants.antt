use Rattle.std.proofs.Common.{◌≡◌, ◌≤◌, [], take, drop, IsTrue}
use Rattle.ipc_devices.specs.declared.fault.Fault.{Fault}
use Rattle.ipc_stream_lemmas.specs.Agreement.{AreAlike}
use Rattle.ipc_model.specs.Files.{all_of, dictionaries_after}
use Rattle.ipc_files.specs.Dictionaries.{DictionariesReason}
use Rattle.ipc_files.specs.Footers.{file_seen}
use Rattle.ipc_read_flat.specs.Bodies.{array_under, known_dictionaries}
use Rattle.ipc_read_flat.specs.Scratches.{KeepsScratch}
use Rattle.ipc_files.proofs.HeldValues.{EachListed}
use Rattle.ipc_files.proofs.NeededValues.{GivenFor}
use Rattle.ipc_files.proofs.read.file.dictionaries.read_file_dictionaries.Given as goal

abbrev pub invariant-loop-block : goal.invariant-loop-block
invariant-loop-block g l = record {
  monotone : g.R.Failures.device.failures l.fn.reader ≤ g.R.Failures.device.failures l.reader;
  told : g.R.Failures.device.failures l.reader ≡ g.R.Failures.device.failures l.fn.reader;
  scratch : KeepsScratch l.fn.scratch.items l.scratch.items;
  whole : IsTrue g.R.Failures.device.is_read_only → (g.R.Failures.device.memory l.reader).whole ≡ (g.R.Failures.device.memory l.fn.reader).whole;
  names : g.R.Failures.device.names l.reader ≡ g.R.Failures.device.names l.fn.reader;
  given : GivenFor g.R.Failures.device.is_memory (file_seen l.metadata).schema (g.R.Failures.device.memory l.fn.reader).whole (take l.block-index l.blocks) (g.R.Failures.device.given l.fn.reader) (g.R.Failures.device.given l.reader);
  held : EachListed g.R.Failures.device.is_memory l.metadata.size (file_seen l.metadata).schema (g.R.Failures.device.memory l.fn.reader).whole (take l.block-index l.blocks) (λ id. array_under l.dictionaries id);
  known : IsTrue g.R.Failures.device.is_memory → AreAlike
      (dictionaries_after (file_seen l.metadata) (all_of (g.R.Failures.device.memory l.fn.reader).whole) (known_dictionaries l.dictionaries) (drop l.block-index l.blocks))
      (dictionaries_after (file_seen l.metadata) (all_of (g.R.Failures.device.memory l.fn.reader).whole) [] l.blocks);
  reason : IsTrue g.R.Failures.device.is_memory → (e : Fault)
      → DictionariesReason (file_seen l.metadata) (g.R.Failures.device.memory l.fn.reader).whole (known_dictionaries l.dictionaries) (drop l.block-index l.blocks) e
      → DictionariesReason (file_seen l.metadata) (g.R.Failures.device.memory l.fn.reader).whole [] l.blocks e;
}
