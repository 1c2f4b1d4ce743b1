-- Where the messages of a chunk are in a file.
-- (Arrow columnar format, "IPC File Format"; File.fbs, Block.)
use Rattle.std.specs.Prelude.{◌≡◌, ◌⊎◌, ℕ, ◌+◌, ◌^◌, ◌<◌, ◌≤◌, List, [], ◌∷◌, length}
use Rattle.ipc_devices.specs.declared.fault.ArgFault.TheVariants.{TooLarge}
use Rattle.ipc_devices.specs.declared.fault.Fault.{Fault}
use Rattle.ipc_devices.specs.declared.fault.Fault.TheVariants.{Argument, Memory}
use Rattle.ipc_encode.specs.declared.batches.Encoded.{Encoded}
use Rattle.ipc_chunks.specs.Messages.{Message, message_seen}
use Rattle.ipc_file_lemmas.specs.FileBytes.{Sent, all_bytes, block_at, blocks_at, chunk_bytes, sent_bytes}
use Rattle.ipc_file_write.specs.declared.blocks.Placed.{Placed}

-- A message as it is sent.
abbrev pub sent : Message → Sent
sent m = record { metadata = m.metadata; body = m.body }

-- A message whose body is in pieces, as it is sent.
abbrev pub sent_seen : Encoded → Sent
sent_seen e = sent (message_seen e)

-- The blocks of these messages, which are one after the other from an offset on, and the offset
-- after them, which is below 2 ^ 63.
pub record HasBlocksFrom (place : ℕ) (ws : List Sent) (own : Sent) (p : Placed) : Type 0 where
  pub dictionaries_are : p.dictionaries.items ≡ blocks_at place ws
  pub record_is : p.record_batch ≡ block_at (place + length (all_bytes ws)) own
  pub end_is : p.end ≡ place + length (chunk_bytes ws own)
  pub short : p.end < 2 ^ 63

-- Why a message has no block at an offset: the offset of its body doesn't fit in 32 signed
-- bits, or its end doesn't fit in 64.
abbrev pub RefusesPlace : ℕ → Sent → Fault → Type 0
RefusesPlace place w (Argument TooLarge) = (2 ^ 31 ≤ 8 + length w.metadata) ⊎ (2 ^ 63 ≤ place + length (sent_bytes w))
RefusesPlace place w _ = ⊥

-- Why some messages have no blocks from an offset on.
abbrev pub RefusesBlockRoom : ℕ → List Sent → Fault → Type 0
RefusesBlockRoom place ws Memory = Unit {0}
RefusesBlockRoom place [] e = ⊥
RefusesBlockRoom place (w ∷ ws) e = RefusesPlace place w e ⊎ RefusesBlockRoom (place + length (sent_bytes w)) ws e
