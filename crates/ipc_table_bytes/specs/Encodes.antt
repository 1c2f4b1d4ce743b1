-- The result of building a whole message.
-- (Flatbuffers, "Internals".)
use Rattle.std.specs.Prelude.{ℕ, ◌≡◌, ◌<◌, ◌≤◌, ◌^◌, ◌⊎◌, List, length, MatchResult, Result, Vec}
use Rattle.ipc_devices.specs.declared.fault.Fault.{Fault}
use Rattle.ipc_devices.specs.declared.fault.Fault.TheVariants.{Argument, Memory}
use Rattle.ipc_devices.specs.declared.fault.ArgFault.TheVariants.{TooLarge}
use Rattle.ipc_table_bytes.specs.Holds.{HoldsRoot}
use Rattle.ipc_table_bytes.specs.Sizes.{message_size}
use Rattle.ipc_table_bytes.specs.Strict.{IsLaidOut}
use Rattle.ipc_table_bytes.specs.Tree.{Slots}

-- The bytes are a message whose root is the table with these fields.
pub record IsEncoding (m : List ℕ) (slots : Slots) : Type 0 where
  pub holds : HoldsRoot m slots
  pub strict : IsLaidOut m slots
  pub size : length m ≡ message_size slots
  pub small : length m < 2 ^ 31

-- Ok with such bytes; or an allocation failed, or the message would be longer than 2 ^ 31 - 1
-- bytes.
abbrev pub Encodes : {A : Type 0} → Result (Vec ℕ A) Fault → Slots → Type 0
Encodes result slots =
    MatchResult result (λ bytes. IsEncoding bytes.items slots)
    (λ fault. (fault ≡ Memory) ⊎ ((fault ≡ Argument TooLarge) × (2 ^ 31 ≤ message_size slots)))
