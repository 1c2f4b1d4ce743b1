-- Numbers that name one of some things, as a signed number and as an index.
use Rattle.std.proofs.Common.{ℕ, ℤ, pos, negsuc}
use Rattle.lower_validation.specs.Keys.{KeyFits}
use Rattle.ipc_model.specs.Entries.{IsIndex}

pub key_index : (z : ℤ) (n : ℕ) → KeyFits z n → IsIndex z n
key_index (pos m) n h = h
key_index (negsuc m) n h = absurd h

pub index_key : (z : ℤ) (n : ℕ) → IsIndex z n → KeyFits z n
index_key (pos m) n h = h
index_key (negsuc m) n h = absurd h
